-- A machine's session map and that of following; where a machine stands its code follows.
use Rattle.std.proofs.Common.{◌≡◌, ℕ, zero, suc, Bool, true, false, List, [], ◌∷◌, Option, Some, None, refl, sym, ap, ◌∙◌, subst, if◌then◌else◌, ◌==◌, arith, cond}
use Rattle.std.specs.Prelude.{map, slice_get, slice_set, slice_index_or}
use Rattle.std.specs.Ordering.{nat_cmp, eq_by_cmp}
use Rattle.std.proofs.lemmas.Bool.Decides.{nat_tests}
use Rattle.std.proofs.lemmas.Cmp.{nat_cmp_total}
use Rattle.std.specs.FinMap as fin
use Rattle.chor_base.specs.declared.names.NameId.{NameId}
use Rattle.chor_semantics.specs.Choreography.{Ref, Live, Choreography}
use Rattle.chor_semantics.specs.Sources.{Procedure}
use Rattle.endpoint_code.specs.declared.code.CodeId.{CodeId}
use Rattle.endpoint_code.specs.declared.code.CodeNode.{CodeNode}
use Rattle.endpoint_code.specs.declared.code.CodeNode.TheVariants as code
use Rattle.endpoint_code.specs.declared.endpoints.Procedure.{Procedure as ProcedureCode}
use Rattle.endpoint_code.specs.declared.endpoints.Endpoints.{Endpoints}
use Rattle.endpoint_code.specs.Network.{Sessions, Machine, Place, place_in, body_place, passed, procedure_of, node_at}
use Rattle.well_formed.specs.Follows.{SessionMap, no_sessions, with_session, without_session, passed_one, passed as passed_names, Stands, Body, standing, body_standing, Follows}
use Rattle.correspondence.specs.Corresponds.{live_session, session_map}
use Rattle.correspondence.proofs.Calls.{through}

same_test : (y k : ℕ) → eq_by_cmp nat_cmp y k ≡ (k == y)
same_test y k = grind (arith, nat_tests, fin.gets)

pub map_insert : (m : Sessions) (k : NameId) (s : ℕ) (r : NameId) → ◌≡◌ {A = SessionMap} (session_map (fin.insert m k.0 (s, r))) (with_session (session_map m) k (Live s, r))
map_insert m k s r = λ i y. at y i
  where
    go : (y : ℕ) (b : Bool) → live_session (cond b (Some (s, r)) (fin.get m y)) ≡ (if b then Some (Live s, r) else live_session (fin.get m y))
    go y true = refl
    go y false = refl

    at : (y : ℕ) → live_session (fin.get (fin.insert m k.0 (s, r)) y) ≡ (if k.0 == y then Some (Live s, r) else live_session (fin.get m y))
    at y = ap live_session (fin.get-insert nat_cmp_total m k.0 (s, r) y) ∙ ap (λ b. live_session (cond b (Some (s, r)) (fin.get m y))) (same_test y k.0) ∙ go y (k.0 == y)

pub map_remove : (m : Sessions) (k : NameId) → ◌≡◌ {A = SessionMap} (session_map (fin.remove m k.0)) (without_session (session_map m) k)
map_remove m k = λ i y. at y i
  where
    go : (y : ℕ) (b : Bool) → live_session (cond b None (fin.get m y)) ≡ (if b then None else live_session (fin.get m y))
    go y true = refl
    go y false = refl

    at : (y : ℕ) → live_session (fin.get (fin.remove m k.0) y) ≡ (if k.0 == y then None else live_session (fin.get m y))
    at y = ap live_session (fin.get-remove nat_cmp_total m k.0 y) ∙ ap (λ b. live_session (cond b None (fin.get m y))) (same_test y k.0) ∙ go y (k.0 == y)

pub map_empty : ◌≡◌ {A = SessionMap} (session_map fin.empty) no_sessions
map_empty = λ i y. at y i
  where
    at : (y : ℕ) → live_session (fin.get {R = nat_cmp} fin.empty y) ≡ None
    at y = ap live_session (fin.get-empty nat_cmp y)

pub map_passed : (ks ss : List NameId) (m : Sessions) → ◌≡◌ {A = SessionMap} (session_map (passed ks ss m)) (passed_names ks ss (session_map m))
map_passed [] ss m = map_empty
map_passed (k ∷ ks) [] m = map_empty
map_passed (k ∷ ks) (s ∷ ss) m = go (fin.get m s.0) refl (map_passed ks ss m)
  where
    go : (o : Option (ℕ × NameId)) → fin.get m s.0 ≡ o → ◌≡◌ {A = SessionMap} (session_map (passed ks ss m)) (passed_names ks ss (session_map m)) → ◌≡◌ {A = SessionMap} (session_map (passed (k ∷ ks) (s ∷ ss) m)) (passed_one (live_session (fin.get m s.0)) k (passed_names ks ss (session_map m)))
    go None i ih = rw i ih
    go (Some (t, c)) i ih = rw i (map_insert (passed ks ss m) k t c ∙ ap (λ w. with_session w k (Live t, c)) ih)

-- what a name stands for, as the machine has it
pub stands_live : (m : Sessions) (k : NameId) (s : Ref) (r : NameId) → session_map m k.0 ≡ Some (s, r) → (t : ℕ) × (s ≡ Live t) × (fin.get m k.0 ≡ Some (t, r))
stands_live m k s r h = go (fin.get m k.0) refl h
  where
    go : (o : Option (ℕ × NameId)) → fin.get m k.0 ≡ o → live_session o ≡ Some (s, r) → (t : ℕ) × (s ≡ Live t) × (fin.get m k.0 ≡ Some (t, r))
    go None e i = absurd cc
    go (Some (t, c)) e i = let u : ◌≡◌ {A = Ref × NameId} (Live t, c) (s, r) = cc in (t, sym (ap (λ y. y.0) u), e ∙ ap (λ y. Some (t, y)) (ap (λ y. y.1) u))

-- ---- lists of machines

pub get_set_same : {X : Type 0} (xs : List X) (p : ℕ) (x y : X) → slice_get xs p ≡ Some x → slice_get (slice_set xs p y) p ≡ Some y
get_set_same [] p x y h = absurd cc
get_set_same (z ∷ zs) zero x y h = refl
get_set_same (z ∷ zs) (suc p) x y h = get_set_same zs p x y h

pub get_set_other : {X : Type 0} (xs : List X) (p q : ℕ) (y : X) → (p == q) ≡ false → slice_get (slice_set xs p y) q ≡ slice_get xs q
get_set_other [] p q y h = refl
get_set_other (z ∷ zs) zero zero y h = absurd cc
get_set_other (z ∷ zs) zero (suc q) y h = refl
get_set_other (z ∷ zs) (suc p) zero y h = refl
get_set_other (z ∷ zs) (suc p) (suc q) y h = get_set_other zs p q y (less p q h)
  where
    less : (p q : ℕ) → (suc p == suc q) ≡ false → (p == q) ≡ false
    less p q h = grind (arith, nat_tests)

pub vars_set : (ms : List Machine) (p : ℕ) (y : Machine) → map (λ m. m.vars) (slice_set ms p y) ≡ slice_set (map (λ m. m.vars) ms) p y.vars
vars_set [] p y = refl
vars_set (m ∷ ms) zero y = refl
vars_set (m ∷ ms) (suc p) y = ap (λ z. m.vars ∷ z) (vars_set ms p y)

pub vars_same : (ms : List Machine) (p : ℕ) (m : Machine) → slice_get ms p ≡ Some m → slice_set (map (λ m. m.vars) ms) p m.vars ≡ map (λ m. m.vars) ms
vars_same [] p m h = refl
vars_same (z ∷ zs) zero m h = let e : z ≡ m = cc in ap (λ y. y ∷ map (λ m. m.vars) zs) (ap (λ y. y.vars) (sym e))
vars_same (z ∷ zs) (suc p) m h = ap (λ y. z.vars ∷ y) (vars_same zs p m h)

pub vars_at : (ms : List Machine) (p : ℕ) (m : Machine) → slice_get ms p ≡ Some m → slice_index_or (map (λ m. m.vars) ms) p fin.empty ≡ m.vars
vars_at [] p m h = absurd cc
vars_at (z ∷ zs) zero m h = let e : z ≡ m = cc in ap (λ y. y.vars) e
vars_at (z ∷ zs) (suc p) m h = vars_at zs p m h

-- ---- where a machine stands

abbrev pub NotCall : CodeNode → Type 0
NotCall (code.Call f p ss) = ⊥
NotCall _ = Unit {0}

standing_node : (e : Endpoints) (d : CodeNode) (m : SessionMap) → NotCall d → standing e (Some d) m ≡ Stands d
standing_node e (code.Call f p ss) m h = absurd h
standing_node e d m h = refl

pub record Stood (e : Endpoints) (procs : List Procedure) (p : ℕ) (c : Choreography) (pl : Place) : Type 0 where
  pub q : CodeId
  pub stands : standing e (node_at e q) (session_map pl.sessions) ≡ Stands pl.node
  pub follows : (n : ℕ) → Follows e procs n (Live p) c q (session_map pl.sessions)

module _ (e : Endpoints) (procs : List Procedure) (p : ℕ) (c : Choreography) where
  -- where a machine's head stands, its code follows
  pub stood_at : (q : CodeId) (o : Option CodeNode) (m : Sessions) (pl : Place) → node_at e q ≡ o → place_in e o m ≡ Some pl → NotCall pl.node → ((n : ℕ) → Follows e procs n (Live p) c q (session_map m)) → Stood e procs p c pl
  stood_at q None m pl i h j f = absurd cc
  stood_at q (Some (code.Call g t ss)) m pl i h j f = at_proc (procedure_of e.procedures g t) refl h
    where
      at_proc : (o : Option ProcedureCode) → procedure_of e.procedures g t ≡ o → body_place e o ss m ≡ Some pl → Stood e procs p c pl
      at_proc None u v = absurd cc
      at_proc (Some b) u v = at_node (node_at e b.body) refl v
        where
          at_node : (z : Option CodeNode) → node_at e b.body ≡ z → body_place e (Some b) ss m ≡ Some pl → Stood e procs p c pl
          at_node None w x = let y : body_place e (Some b) ss m ≡ None = rw w refl in absurd cc
          at_node (Some d) w x =
              let y : body_place e (Some b) ss m ≡ Some (record { node = d; sessions = passed b.sessions ss m }) = rw w refl in
              let is : record { node = d; sessions = passed b.sessions ss m } ≡ pl = cc in
              let names : ◌≡◌ {A = SessionMap} (passed_names b.sessions ss (session_map m)) (session_map pl.sessions) = sym (map_passed b.sessions ss m) ∙ ap (λ z. session_map z.sessions) is in
              let calls : standing e (node_at e q) (session_map m) ≡ Body b.body (passed_names b.sessions ss (session_map m)) = ap (λ z. standing e z (session_map m)) i ∙ ap (λ z. body_standing z ss (session_map m)) u in
              record {
                q = b.body;
                stands = ap (λ z. standing e z (session_map pl.sessions)) (w ∙ ap (λ z. Some z.node) is) ∙ standing_node e pl.node (session_map pl.sessions) j;
                follows = λ n. subst (λ z. Follows e procs n (Live p) c b.body z) names (through e procs (Live p) q (session_map m) b.body (passed_names b.sessions ss (session_map m)) calls n c f);
              }
  stood_at q (Some d) m pl i h j f =
      let is : record { node = d; sessions = m } ≡ pl = cc in
      let names : ◌≡◌ {A = SessionMap} (session_map m) (session_map pl.sessions) = ap (λ z. session_map z.sessions) is in
      record {
        q = q;
        stands = ap (λ z. standing e z (session_map pl.sessions)) (i ∙ ap (λ z. Some z.node) is) ∙ standing_node e pl.node (session_map pl.sessions) j;
        follows = λ n. subst (λ z. Follows e procs n (Live p) c q z) names (f n);
      }
