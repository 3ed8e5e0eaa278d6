-- The places at which processes stand.
use Rattle.std.proofs.Common.{◌≡◌, ℕ, ◌<◌, ◌==◌, ◌&&◌, List, [], ◌∷◌, length, ap, Option, Some, None}
use Rattle.std.specs.List.{AllZip}
use Rattle.std.specs.FinMap as fin
use Rattle.chor_base.specs.declared.names.NameId.{NameId}
use Rattle.endpoint_code.specs.declared.code.CodeId.{CodeId}
use Rattle.endpoint_code.specs.declared.code.CodeNode.{CodeNode}
use Rattle.endpoint_code.specs.declared.endpoints.Procedure.{Procedure}
use Rattle.endpoint_code.specs.declared.endpoints.ServiceCode.{ServiceCode}
use Rattle.endpoint_code.specs.declared.endpoints.Process.{Process}
use Rattle.endpoint_code.specs.declared.endpoints.Endpoints.{Endpoints}
use Rattle.endpoint_code.specs.Faults.{IsScoped}
use Rattle.endpoint_code.specs.Network.{Sessions, Machine, Place, node_at, procedure_of, passed, passed_one, at_node, body_place, place_in, place_of}
use Rattle.same_programs.specs.Words.{SameName, BothOrNeither}
use Rattle.same_programs.specs.Programs.{SameCodeAt, SameProcedure, SameService, SameProcess, IsCopy}
use Rattle.same_programs.specs.States.{SameMachine, SameSessions}
use Rattle.same_programs.proofs.Tests.{both_tests, TellsNames, names_tell}
use Rattle.same_programs.proofs.Zips.{zip_map, zip_left, zip_right, both_at, both_choice}
use Rattle.same_programs.proofs.Maps.{empty_same, insert_same}
use Rattle.same_programs.proofs.Distinct.{scoped_distinct}
use Rattle.same_programs.proofs.Nodes.{IsSpot, Alike, AreThere, nodes_there, join, send, recv, pick, branch, throw, catch, set, show, host, fork, call, stop}

-- ---- units whose bodies stand in the tables

pub record IsUnit (e e' : Endpoints) (q p : Procedure) : Type 0 where
  pub name : SameName e e' q.name p.name
  pub param : SameName e e' q.param p.param
  pub sessions : AllZip (SameName e e') q.sessions p.sessions
  pub body : IsSpot e e' q.body p.body

pub record IsServed (e e' : Endpoints) (s r : ServiceCode) : Type 0 where
  pub channel : SameName e e' s.channel r.channel
  pub role : SameName e e' s.role r.role
  pub body : IsSpot e e' s.body r.body

spot : (e e' : Endpoints) (q p : CodeId) (bs : List NameId) → SameCodeAt e e' q p → q.0 < length e.code.nodes → p.0 < length e'.code.nodes → IsScoped e q bs → IsSpot e e' q p
spot e e' q p bs s i j d = record { inside = i; copied_inside = j; code = s; distinct = scoped_distinct e d }

module _ (e e' : Endpoints) (c : IsCopy e e') where
  abbrev pub tell : TellsNames (SameName e e')
  tell = names_tell e e' c.words c.copied_words

  pub units : AllZip (IsUnit e e') e.procedures e'.procedures
  units =
      let R = SameProcedure e e' in
      let P = λ (q : Procedure). q.body.0 < length e.code.nodes in
      let Q = λ (q : Procedure). q.body.0 < length e'.code.nodes in
      let D = λ (q : Procedure). IsScoped e q.body q.sessions in
      let one = zip_left R P e.procedures e'.procedures c.same.procedures e.inside.in_procedures in
      let two = zip_right (λ x y. R x y × P x) Q e.procedures e'.procedures one e'.inside.in_procedures in
      let three = zip_left (λ x y. (R x y × P x) × Q y) D e.procedures e'.procedures two c.faultless.names.procedure_bodies in
      zip_map (λ x y. ((R x y × P x) × Q y) × D x) (IsUnit e e')
      (λ q p h. record { name = h.0.0.0.name; param = h.0.0.0.param; sessions = h.0.0.0.sessions; body = spot e e' q.body p.body q.sessions h.0.0.0.body h.0.0.1 h.0.1 h.1 })
      e.procedures e'.procedures three

  pub served_units : AllZip (IsServed e e') e.services e'.services
  served_units =
      let R = SameService e e' in
      let P = λ (q : ServiceCode). q.body.0 < length e.code.nodes in
      let Q = λ (q : ServiceCode). q.body.0 < length e'.code.nodes in
      let D = λ (q : ServiceCode). IsScoped e q.body (q.channel ∷ []) in
      let one = zip_left R P e.services e'.services c.same.services e.inside.in_services in
      let two = zip_right (λ x y. R x y × P x) Q e.services e'.services one e'.inside.in_services in
      let three = zip_left (λ x y. (R x y × P x) × Q y) D e.services e'.services two c.faultless.names.service_bodies in
      zip_map (λ x y. ((R x y × P x) × Q y) × D x) (IsServed e e')
      (λ q p h. record { channel = h.0.0.0.channel; role = h.0.0.0.role; body = spot e e' q.body p.body (q.channel ∷ []) h.0.0.0.body h.0.0.1 h.0.1 h.1 })
      e.services e'.services three

  pub begun_processes : AllZip (λ (p q : Process). IsSpot e e' p.body q.body) e.processes e'.processes
  begun_processes =
      let R = SameProcess e e' in
      let P = λ (q : Process). q.body.0 < length e.code.nodes in
      let Q = λ (q : Process). q.body.0 < length e'.code.nodes in
      let D = λ (q : Process). IsScoped e q.body [] in
      let one = zip_left R P e.processes e'.processes c.same.processes e.inside.in_processes in
      let two = zip_right (λ x y. R x y × P x) Q e.processes e'.processes one e'.inside.in_processes in
      let three = zip_left (λ x y. (R x y × P x) × Q y) D e.processes e'.processes two c.faultless.names.process_bodies in
      zip_map (λ x y. ((R x y × P x) × Q y) × D x) (λ (p q : Process). IsSpot e e' p.body q.body)
      (λ q p h. spot e e' q.body p.body [] h.0.0.0.body h.0.0.1 h.0.1 h.1)
      e.processes e'.processes three

  -- ---- calls

  pub unit_found : (qs ps : List Procedure) → AllZip (IsUnit e e') qs ps → (f g p r : NameId) → SameName e e' f g → SameName e e' p r → BothOrNeither (IsUnit e e') (procedure_of qs f p) (procedure_of ps g r)
  unit_found [] [] h f g p r i j = tt
  unit_found [] (y ∷ ps) h f g p r i j = absurd h
  unit_found (q ∷ qs) [] h f g p r i j = absurd h
  unit_found (q ∷ qs) (y ∷ ps) h f g p r i j =
      both_choice (IsUnit e e') ((q.name.0 == f.0) && (q.param.0 == p.0)) ((y.name.0 == g.0) && (y.param.0 == r.0)) q y (procedure_of qs f p) (procedure_of ps g r)
      (both_tests (q.name.0 == f.0) (y.name.0 == g.0) (q.param.0 == p.0) (y.param.0 == r.0) (tell q.name y.name f g h.0.name i) (tell q.param y.param p r h.0.param j))
      h.0 (unit_found qs ps h.1 f g p r i j)

  abbrev pub Held : ℕ × NameId → ℕ × NameId → Type 0
  Held b d = (b.0 ≡ d.0) × SameName e e' b.1 d.1

  pub no_sessions : SameSessions e e' fin.empty fin.empty
  no_sessions = empty_same (SameName e e') Held

  passed_one_same : (o u : Option (ℕ × NameId)) → BothOrNeither Held o u → (k h : NameId) → SameName e e' k h → (m m' : Sessions) → SameSessions e e' m m' → SameSessions e e' (passed_one o k m) (passed_one u h m')
  passed_one_same None None b k h n m m' s = s
  passed_one_same None (Some y) b k h n m m' s = absurd b
  passed_one_same (Some x) None b k h n m m' s = absurd b
  passed_one_same (Some x) (Some y) b k h n m m' s = insert_same (SameName e e') Held tell m m' s k h x y n b

  passed_same : (ks hs ss rs : List NameId) → AllZip (SameName e e') ks hs → AllZip (SameName e e') ss rs → (m m' : Sessions) → SameSessions e e' m m' → SameSessions e e' (passed ks ss m) (passed hs rs m')
  passed_same [] [] ss rs a b m m' s = no_sessions
  passed_same [] (h ∷ hs) ss rs a b m m' s = absurd a
  passed_same (k ∷ ks) [] ss rs a b m m' s = absurd a
  passed_same (k ∷ ks) (h ∷ hs) [] [] a b m m' s = no_sessions
  passed_same (k ∷ ks) (h ∷ hs) [] (y ∷ rs) a b m m' s = absurd b
  passed_same (k ∷ ks) (h ∷ hs) (x ∷ ss) [] a b m m' s = absurd b
  passed_same (k ∷ ks) (h ∷ hs) (x ∷ ss) (y ∷ rs) a b m m' s =
      passed_one_same (fin.get m x.0) (fin.get m' y.0) (s x y b.0) k h a.0 (passed ks ss m) (passed hs rs m') (passed_same ks hs ss rs a.1 b.1 m m' s)

  -- ---- places

  pub record SamePlace (q p : Place) : Type 0 where
    pub node : Alike e e' q.node p.node
    pub sessions : SameSessions e e' q.sessions p.sessions

  body_same : (o u : Option Procedure) → BothOrNeither (IsUnit e e') o u → (ss rs : List NameId) → AllZip (SameName e e') ss rs → (m m' : Sessions) → SameSessions e e' m m'
      → BothOrNeither SamePlace (body_place e o ss m) (body_place e' u rs m')
  body_same None None b ss rs a m m' s = tt
  body_same None (Some p) b ss rs a m m' s = absurd b
  body_same (Some q) None b ss rs a m m' s = absurd b
  body_same (Some q) (Some p) b ss rs a m m' s =
      let t : AreThere e e' q.body p.body = nodes_there e e' tell q.body p.body b.body in
      let new = passed q.sessions ss m in
      let new' = passed p.sessions rs m' in
      both_at SamePlace (at_node (node_at e q.body) new) (at_node (Some t.node) new) (at_node (node_at e' p.body) new') (at_node (Some t.copied) new')
      (ap (λ o. at_node o new) t.here) (ap (λ o. at_node o new') t.there)
      (record { node = t.same; sessions = passed_same q.sessions p.sessions ss rs b.sessions a m m' s })

  node_place : (n n' : CodeNode) → Alike e e' n n' → (m m' : Sessions) → SameSessions e e' m m' → BothOrNeither SamePlace (place_in e (Some n) m) (place_in e' (Some n') m')
  node_place n n' (join d r k s) m m' t = record { node = join d r k s; sessions = t }
  node_place n n' (send k b x s) m m' t = record { node = send k b x s; sessions = t }
  node_place n n' (recv k a x s) m m' t = record { node = recv k a x s; sessions = t }
  node_place n n' (pick k b l s) m m' t = record { node = pick k b l s; sessions = t }
  node_place n n' (branch k a s) m m' t = record { node = branch k a s; sessions = t }
  node_place n n' (throw k b g s) m m' t = record { node = throw k b g s; sessions = t }
  node_place n n' (catch k a g s) m m' t = record { node = catch k a g s; sessions = t }
  node_place n n' (set x v s) m m' t = record { node = set x v s; sessions = t }
  node_place n n' (show v s) m m' t = record { node = show v s; sessions = t }
  node_place n n' (host x f v w s) m m' t = record { node = host x f v w s; sessions = t }
  node_place n n' (fork v s r) m m' t = record { node = fork v s r; sessions = t }
  node_place n n' stop m m' t = record { node = stop; sessions = t }
  node_place n n' (call {f = f} {g = g} {p = p} {q = q} {ss = ss} {rs = rs} i j a) m m' t =
      body_same (procedure_of e.procedures f p) (procedure_of e'.procedures g q) (unit_found e.procedures e'.procedures units f g p q i j) ss rs a m m' t

  pub place_same : (m m' : Machine) → SameMachine e e' m m' → BothOrNeither SamePlace (place_of e m) (place_of e' m')
  place_same m m' h =
      let t : AreThere e e' m.at m'.at = nodes_there e e' tell m.at m'.at (record { inside = h.inside; copied_inside = h.copied_inside; code = h.code; distinct = h.distinct }) in
      both_at SamePlace (place_in e (node_at e m.at) m.sessions) (place_in e (Some t.node) m.sessions) (place_in e' (node_at e' m'.at) m'.sessions) (place_in e' (Some t.copied) m'.sessions)
      (ap (λ o. place_in e o m.sessions) t.here) (ap (λ o. place_in e' o m'.sessions) t.there) (node_place t.node t.copied t.same m.sessions m'.sessions h.sessions)
