-- A process that stands where it receives takes the first load of its queue.
use Rattle.std.proofs.Common.{◌≡◌, ℕ, true, List, [], ◌∷◌, Option, Some, None, pos, refl, sym, ap, ◌∙◌, subst, ◌==◌, ◌&&◌}
use Rattle.std.specs.Prelude.{slice_get, is_some}
use Rattle.std.specs.FinMap as fin
use Rattle.chor_base.specs.declared.names.NameId.{NameId}
use Rattle.chor_base.specs.declared.value.Value.{Value}
use Rattle.chor_base.specs.declared.value.Value.TheVariants.{Int, Bool as Truth, Text, Part as Endpoint}
use Rattle.chor_base.specs.declared.value.Load.{Load}
use Rattle.chor_base.specs.declared.event.Event.TheVariants as event
use Rattle.chor_base.specs.Meaning.{Hosts}
use Rattle.chor_base.specs.declared.value.Load.TheVariants.{Value as Carries}
use Rattle.chor_semantics.specs.Choreography.{Ref, Live, Named, Message, ValueSent, LabelSent, PartSent, Node, Communicates, InTransit, Choreography, Then}
use Rattle.chor_semantics.specs.Sources.{Procedure, Configuration}
use Rattle.chor_semantics.specs.Steps.{load_of}
use Rattle.endpoint_code.specs.declared.code.CodeId.{CodeId}
use Rattle.endpoint_code.specs.declared.code.CodeNode.{CodeNode}
use Rattle.endpoint_code.specs.declared.code.CodeNode.TheVariants as code
use Rattle.endpoint_code.specs.declared.endpoints.Endpoints.{Endpoints}
use Rattle.endpoint_code.specs.Network.{Machine, NetworkState, NetworkSteps, acts, Place, Taking, Goes, place_of, queue_of, arm_at, in_arm, takes_value, takes_label, takes_part, takes, takes_from, went, makes, machine_makes, place_makes, node_makes, PlaceAnswers, MachineAnswers, node_at}
use Rattle.well_formed.specs.Follows.{SessionMap, StandsFor, Act, Gets, Received, Into, Label, Part, message_received, act_of, Agrees, HoldsAt, place_after, arm_place, fork_of, NoFork}
use Rattle.well_formed.specs.WellFormed.{Scope, scope_after, IsPlain, NodeFits, MessageFits, TransitFits, IsWellFormed}
use Rattle.correspondence.proofs.Next.{Next, here, skip, decides, fork, calls, next_more}
use Rattle.well_formed.specs.Linear.{ParameterSets}
use Rattle.well_formed.specs.Holders.{ListedHolders, HoldersFit}
use Rattle.well_formed.specs.Transit.{is_on, AreInTransitAt, AreInTransit}
use Rattle.correspondence.proofs.Bodies.{Bodies}
use Rattle.correspondence.specs.Corresponds.{session_map, live_scope, Corresponds}
use Rattle.well_formed.proofs.References.{act_none, true_and, true_eq}
use Rattle.correspondence.proofs.Found.{DoingOn, Somewhere, Deciding, next_on}
use Rattle.correspondence.proofs.Holders.{none_at}
use Rattle.correspondence.proofs.Queues.{off_it}
use Rattle.correspondence.proofs.Machines.{NotCall, stood_at}
use Rattle.correspondence.proofs.Makes.{Getting, unsent, sent, act_gets, holds_now}
use Rattle.correspondence.proofs.ByNode.{named}
use Rattle.correspondence.specs.Laws.{source_of, TakesFirst}

module _ (e : Endpoints) (procs : List Procedure) (sets : NameId → ParameterSets) (lists : ListedHolders) (bd : Bodies e procs sets lists) (p s : ℕ) (a b : NameId) (Q : Received → Type 0) where
  -- p receives there, in this way
  abbrev GetsSome : Node → Type 0
  GetsSome n = (g : Received) × (act_of n (Live p) ≡ Some (Gets (Live s) a b g)) × Q g

  -- the first load is that of a message that is received so
  record FirstFor (l : Load) : Type 0 where
    m : Message
    load : load_of m ≡ l
    kind : Q (message_received m)
    plain : (v : Value) (x : NameId) → m ≡ ValueSent v x → IsPlain v

  live_s : (y j : ℕ) → Live s ≡ Named y j → ⊥
  live_s y j i = cc

  same_number : (t : ℕ) → Live s ≡ Live t → t ≡ s
  same_number t i = cc

  self : ((s == s) && ((a.0 == a.0) && (b.0 == b.0))) ≡ true
  self = true_and _ _ (true_eq s) (true_and _ _ (true_eq a.0) (true_eq b.0))

  at_node : (sc : Scope) (n : Node) (rest : Choreography) (g : Received) (l : Load) (ls : List Load) → NodeFits e.channels sc n → Getting (Live s) a b p g n → Q g → AreInTransit (s, a, b) (Then n rest) (l ∷ ls) → FirstFor l
  at_node sc n rest g l ls w (unsent q x i) k h =
      let h' : AreInTransitAt (Communicates (Live s) q a (Live p) b x) (is_on (s, a, b) (Communicates (Live s) q a (Live p) b x)) (AreInTransit (s, a, b) rest) (l ∷ ls) = subst (λ y. AreInTransitAt y (is_on (s, a, b) y) (AreInTransit (s, a, b) rest) (l ∷ ls)) i h in
      let z : (◌≡◌ {A = List Load} (l ∷ ls) []) × AreInTransit (s, a, b) rest [] = subst (λ y. AreInTransitAt (Communicates (Live s) q a (Live p) b x) y (AreInTransit (s, a, b) rest) (l ∷ ls)) self h' in
      absurd (nil z.0)
    where
      nil : ◌≡◌ {A = List Load} (l ∷ ls) [] → ⊥
      nil i = cc
  at_node sc n rest g l ls w (sent t m u i j) k h =
      let is : n ≡ InTransit s a b m (Live p) = j ∙ ap (λ y. InTransit y a b m (Live p)) (same_number t u) in
      let fit : TransitFits sc s m (Live p) = subst (NodeFits e.channels sc) is w in
      let h' : AreInTransitAt (InTransit s a b m (Live p)) (is_on (s, a, b) (InTransit s a b m (Live p))) (AreInTransit (s, a, b) rest) (l ∷ ls) = subst (λ y. AreInTransitAt y (is_on (s, a, b) y) (AreInTransit (s, a, b) rest) (l ∷ ls)) is h in
      let z : (load_of m ≡ l) × AreInTransit (s, a, b) rest ls = subst (λ y. AreInTransitAt (InTransit s a b m (Live p)) y (AreInTransit (s, a, b) rest) (l ∷ ls)) self h' in
      record { m = m; load = z.0; kind = subst Q (sym i) k; plain = λ v x q. plain_of m q fit.message }
    where
      plain_of : {v : Value} {x : NameId} (m : Message) → m ≡ ValueSent v x → MessageFits sc m → IsPlain v
      plain_of m q h = subst (MessageFits sc) q h

  first_for : (sc : Scope) {c : Choreography} → IsWellFormed e.channels procs sc c → HoldersFit lists (Live s) b c (Some (Live p)) → (l : Load) (ls : List Load) → AreInTransit (s, a, b) c (l ∷ ls) → Next procs (Live p) GetsSome (λ y. ⊥) c → FirstFor l
  first_for sc w o l ls h (here {n = n} {c = rest} (g, i, k)) = at_node sc n rest g l ls w.0 (act_gets n p (Live s) a b g i) k h
  first_for sc w o l ls h (skip {n = n} {c = rest} i m) =
      let out = act_none n (Live p) i in
      let same = none_at (Live s) b live_s (Live p) n out o.0 in
      first_for (scope_after sc n) w.1 (subst (HoldersFit lists (Live s) b rest) (same (Some (Live p))).1 o.1) l ls (subst (λ y. AreInTransitAt n y (AreInTransit (s, a, b) rest) (l ∷ ls)) (off_it p s a b n (is_on (s, a, b) n) refl out o.0) h) m
  first_for sc w o l ls h (decides i k) = absurd k
  first_for sc w o l ls h (fork i m m') = first_for sc w.1 o.0 l ls h.0 m
  first_for sc w o l ls h (calls i m) = absurd (nil h)
    where
      nil : ◌≡◌ {A = List Load} (l ∷ ls) [] → ⊥
      nil i = cc

module _ (e : Endpoints) (procs : List Procedure) (sets : NameId → ParameterSets) (lists : ListedHolders) (bd : Bodies e procs sets lists) (c : Configuration) (n : NetworkState) (co : Corresponds e procs sets lists c n) (p : ℕ) (machine : Machine) (there : slice_get n.machines p ≡ Some machine) (place : Place) (at : place_of e machine ≡ Some place) where
  abbrev m : SessionMap
  m = session_map place.sessions

  first_load : (Q : Received → Type 0) (s : ℕ) (a b : NameId) (l : Load) (ls : List Load) → NotCall place.node → (place.node ≡ code.End → ⊥) → fork_of place.node ≡ NoFork → queue_of n (s, a, b) ≡ l ∷ ls → ((node : Node) → DoingOn (Live p) m place.node node → GetsSome e procs sets lists bd p s a b Q node) → FirstFor e procs sets lists bd p s a b Q l
  first_load Q s a b l ls nc ne nf h does =
      let st = stood_at e procs p c.tree machine.at (node_at e machine.at) machine.sessions place refl at nc (co.follows p machine there) in
      let next = next_on e procs (Live p) st.q m place.node st.stands ne (bd.guarded p) c.tree st.follows in
      let held = holds_now e.channels procs lists bd.fit bd.holders_fit p s a b (live_scope c) (co.holders (Live s) b) co.well_formed (co.holders_fit (Live s) b) (next_more procs (Live p) (λ node w. ((does node w).0, (does node w).1)) (λ y i. subst (λ u. Deciding u y) nf i) next) in
      first_for e procs sets lists bd p s a b Q (live_scope c) co.well_formed (subst (HoldersFit lists (Live s) b c.tree) held (co.holders_fit (Live s) b)) l ls (subst (AreInTransit (s, a, b) c.tree) h (co.in_transit (s, a, b))) (next_more procs (Live p) does (λ y i. subst (λ u. Deciding u y) nf i) next)

  -- the load is received in a step of the network
  abbrev Receives : ℕ → NameId → NameId → Load → Type 0
  Receives s a b l = (hosts : Hosts) (cap : Option ℕ) → (after : NetworkState) × NetworkSteps e hosts cap n (event.Recv p s a b l) after

  -- so it is where what stands at the node takes it
  receives : (node : CodeNode) (k a : NameId) (f : Load → Option Taking) → place.node ≡ node → ((hosts : Hosts) → PlaceAnswers hosts machine.vars (Some (record { node = node; sessions = place.sessions })) (pos 0))
      → ((cap : Option ℕ) → node_makes cap n p (pos 0) machine.vars place.sessions node ≡ takes n p a (fin.get place.sessions k.0) f)
      → (s : ℕ) (b : NameId) → fin.get place.sessions k.0 ≡ Some (s, b) → (l : Load) (ls : List Load) → queue_of n (s, a, b) ≡ l ∷ ls → is_some (f l) ≡ true → Receives s a b l
  receives node k a f is an mk s b si l ls h t hosts cap = go (f l) refl t
    where
      answers : MachineAnswers hosts e (slice_get n.machines p) (pos 0)
      answers = subst (λ y. MachineAnswers hosts e y (pos 0)) (sym there) (subst (λ y. PlaceAnswers hosts machine.vars y (pos 0)) (sym at) (subst (λ y. PlaceAnswers hosts machine.vars (Some (record { node = y; sessions = place.sessions })) (pos 0)) (sym is) (an hosts)))

      made : (o : Option Taking) → f l ≡ o → makes e cap n p (pos 0) ≡ went n p (s, a, b) l ls o
      made o i =
          ap (machine_makes e cap n p (pos 0)) there ∙ ap (place_makes cap n p (pos 0) machine.vars) at ∙ ap (node_makes cap n p (pos 0) machine.vars place.sessions) is ∙ mk cap
          ∙ ap (λ y. takes n p a y f) si ∙ ap (takes_from n p (s, a, b) f) h ∙ ap (went n p (s, a, b) l ls) i

      go : (o : Option Taking) → f l ≡ o → is_some o ≡ true → (after : NetworkState) × NetworkSteps e hosts cap n (event.Recv p s a b l) after
      go None i u = absurd cc
      go (Some (Goes next vars ss)) i u = (_, acts p (pos 0) answers (made (Some (Goes next vars ss)) i))

  abbrev FirstOf : (Received → Type 0) → ℕ → NameId → NameId → Load → Type 0
  FirstOf Q s a b l = FirstFor e procs sets lists bd p s a b Q l

  -- what is received there is so received in this session and these roles
  abbrev Gained : (Received → Type 0) → ℕ → NameId → NameId → Node → Type 0
  Gained Q s a b node = GetsSome e procs sets lists bd p s a b Q node

  gained : (Q : Received → Type 0) (k a : NameId) (s : ℕ) (b : NameId) → fin.get place.sessions k.0 ≡ Some (s, b) → (node : Node) (s' : Ref) (a' b' : NameId) (g : Received)
      → act_of node (Live p) ≡ Some (Gets s' a' b' g) → StandsFor m k s' b' → a ≡ a' → Q g → Gained Q s a b node
  gained Q k a s b si node s' a' b' g i st e' q =
      let w = named place.sessions k s' b' s b st si in
      (g, i ∙ ap (λ t. Some (Gets t a' b' g)) w.session ∙ ap (λ t. Some (Gets (Live s) t b' g)) (sym e') ∙ ap (λ t. Some (Gets (Live s) a t g)) w.role, q)

  -- a value
  abbrev AValue : Received → Type 0
  AValue g = (x : NameId) × (g ≡ Into x)

  value_taken : (k a y : NameId) (next : CodeId) → place.node ≡ code.Recv k a y next → (s : ℕ) (b : NameId) → fin.get place.sessions k.0 ≡ Some (s, b) → (l : Load) (ls : List Load) → queue_of n (s, a, b) ≡ l ∷ ls → Receives s a b l
  value_taken k a y next is s b si l ls h =
      receives (code.Recv k a y next) k a (takes_value next machine.vars place.sessions y) is (λ hosts. tt) (λ cap. refl) s b si l ls h
      (by (first_load AValue s a b l ls (subst NotCall (sym is) tt) (λ z. no_end (sym is ∙ z)) (ap fork_of is) h does))
    where
      no_end : code.Recv k a y next ≡ code.End → ⊥
      no_end z = cc

      does : (node : Node) → DoingOn (Live p) m place.node node → Gained AValue s a b node
      does node (g, i, j, o) = at_act g i (subst (λ u. Agrees m u g) is j)
        where
          at_act : (g : Act) → act_of node (Live p) ≡ Some g → Agrees m (code.Recv k a y next) g → Gained AValue s a b node
          at_act (Gets s' a' b' (Into z)) i j = gained AValue k a s b si node s' a' b' (Into z) i j.0 j.1 (z, refl)
          at_act _ i j = absurd j

      by : FirstOf AValue s a b l → is_some (takes_value next machine.vars place.sessions y l) ≡ true
      by f = message f.m f.kind f.load f.plain
        where
          message : (msg : Message) → AValue (message_received msg) → load_of msg ≡ l → ((v : Value) (x : NameId) → msg ≡ ValueSent v x → IsPlain v) → is_some (takes_value next machine.vars place.sessions y l) ≡ true
          message (LabelSent t) (x, i) j pl = absurd cc
          message (PartSent t q) (x, i) j pl = absurd cc
          message (ValueSent v x') (x, i) j pl = subst (λ t. is_some (takes_value next machine.vars place.sessions y t) ≡ true) j (taken v (pl v x' refl))
            where
              taken : (v : Value) → IsPlain v → is_some (takes_value next machine.vars place.sessions y (Carries v)) ≡ true
              taken (Int i) h = refl
              taken (Truth i) h = refl
              taken (Text i) h = refl
              taken (Endpoint i j) h = absurd h

  -- a label that is offered
  abbrev AnOffered : List (NameId × CodeId) → Received → Type 0
  AnOffered arms g = (l : NameId) × (g ≡ Label l) × (is_some (arm_at arms l) ≡ true)

  label_taken : (k a : NameId) (arms : List (NameId × CodeId)) → place.node ≡ code.Branch k a arms → (s : ℕ) (b : NameId) → fin.get place.sessions k.0 ≡ Some (s, b) → (l : Load) (ls : List Load) → queue_of n (s, a, b) ≡ l ∷ ls → Receives s a b l
  label_taken k a arms is s b si l ls h =
      receives (code.Branch k a arms) k a (takes_label arms machine.vars place.sessions) is (λ hosts. tt) (λ cap. refl) s b si l ls h
      (by (first_load (AnOffered arms) s a b l ls (subst NotCall (sym is) tt) (λ z. no_end (sym is ∙ z)) (ap fork_of is) h does))
    where
      no_end : code.Branch k a arms ≡ code.End → ⊥
      no_end z = cc

      offered : (o : Option CodeId) → HoldsAt Somewhere (arm_place m o) → is_some o ≡ true
      offered None h = absurd h
      offered (Some q) h = refl

      does : (node : Node) → DoingOn (Live p) m place.node node → Gained (AnOffered arms) s a b node
      does node (g, i, j, o) = at_act g i (subst (λ u. Agrees m u g) is j) (subst (λ u. HoldsAt Somewhere (place_after m u g)) is o)
        where
          at_act : (g : Act) → act_of node (Live p) ≡ Some g → Agrees m (code.Branch k a arms) g → HoldsAt Somewhere (place_after m (code.Branch k a arms) g) → Gained (AnOffered arms) s a b node
          at_act (Gets s' a' b' (Label t)) i j o = gained (AnOffered arms) k a s b si node s' a' b' (Label t) i j.0 j.1 (t, refl, offered (arm_at arms t) o)
          at_act _ i j o = absurd j

      by : FirstOf (AnOffered arms) s a b l → is_some (takes_label arms machine.vars place.sessions l) ≡ true
      by f = message f.m f.kind f.load
        where
          goes : (o : Option CodeId) → is_some o ≡ true → is_some (in_arm o machine.vars place.sessions) ≡ true
          goes None i = absurd cc
          goes (Some q) i = refl

          message : (msg : Message) → AnOffered arms (message_received msg) → load_of msg ≡ l → is_some (takes_label arms machine.vars place.sessions l) ≡ true
          message (LabelSent t) (x, i, o) j =
              let same : x ≡ t = cc in
              subst (λ u. is_some (takes_label arms machine.vars place.sessions u) ≡ true) j (goes (arm_at arms t) (subst (λ u. is_some (arm_at arms u) ≡ true) same o))
          message (PartSent t q) (x, i, o) j = absurd cc
          message (ValueSent v x') (x, i, o) j = absurd cc

  -- an endpoint
  abbrev AnEndpoint : Received → Type 0
  AnEndpoint g = (t : Ref) × (r : NameId) × (g ≡ Part t r)

  part_taken : (k a y : NameId) (next : CodeId) → place.node ≡ code.Catch k a y next → (s : ℕ) (b : NameId) → fin.get place.sessions k.0 ≡ Some (s, b) → (l : Load) (ls : List Load) → queue_of n (s, a, b) ≡ l ∷ ls → Receives s a b l
  part_taken k a y next is s b si l ls h =
      receives (code.Catch k a y next) k a (takes_part next machine.vars place.sessions y) is (λ hosts. tt) (λ cap. refl) s b si l ls h
      (by (first_load AnEndpoint s a b l ls (subst NotCall (sym is) tt) (λ z. no_end (sym is ∙ z)) (ap fork_of is) h does))
    where
      no_end : code.Catch k a y next ≡ code.End → ⊥
      no_end z = cc

      does : (node : Node) → DoingOn (Live p) m place.node node → Gained AnEndpoint s a b node
      does node (g, i, j, o) = at_act g i (subst (λ u. Agrees m u g) is j)
        where
          at_act : (g : Act) → act_of node (Live p) ≡ Some g → Agrees m (code.Catch k a y next) g → Gained AnEndpoint s a b node
          at_act (Gets s' a' b' (Part t r)) i j = gained AnEndpoint k a s b si node s' a' b' (Part t r) i j.0 j.1 (t, r, refl)
          at_act _ i j = absurd j

      by : FirstOf AnEndpoint s a b l → is_some (takes_part next machine.vars place.sessions y l) ≡ true
      by f = message f.m f.kind f.load
        where
          message : (msg : Message) → AnEndpoint (message_received msg) → load_of msg ≡ l → is_some (takes_part next machine.vars place.sessions y l) ≡ true
          message (LabelSent t) (x, r, i) j = absurd cc
          message (PartSent t q) (x, r, i) j = subst (λ u. is_some (takes_part next machine.vars place.sessions y u) ≡ true) j refl
          message (ValueSent v x') (x, r, i) j = absurd cc

  -- where the node waits for a load it receives the first
  pub load_taken : TakesFirst e n p place
  load_taken k a awaits s b si l ls h hosts cap = go place.node refl awaits
    where
      Claim : NameId × NameId → Type 0
      Claim (k, a) = fin.get place.sessions k.0 ≡ Some (s, b) → queue_of n (s, a, b) ≡ l ∷ ls → (after : NetworkState) × NetworkSteps e hosts cap n (event.Recv p s a b l) after

      same_place : (v w : NameId × NameId) → Some v ≡ Some w → Claim v → Claim w
      same_place v w i c = subst Claim same c
        where
          same : v ≡ w
          same = cc

      go : (node : CodeNode) → place.node ≡ node → source_of node ≡ Some (k, a) → (after : NetworkState) × NetworkSteps e hosts cap n (event.Recv p s a b l) after
      go (code.Recv k' a' y next) is w = same_place (k', a') (k, a) w (λ si h. value_taken k' a' y next is s b si l ls h hosts cap) si h
      go (code.Branch k' a' arms) is w = same_place (k', a') (k, a) w (λ si h. label_taken k' a' arms is s b si l ls h hosts cap) si h
      go (code.Catch k' a' y next) is w = same_place (k', a') (k, a) w (λ si h. part_taken k' a' y next is s b si l ls h hosts cap) si h
      go (code.Send k' b' x next) is w = absurd cc
      go (code.Pick k' b' t next) is w = absurd cc
      go (code.Throw k' b' t next) is w = absurd cc
      go (code.Join c' r k' next) is w = absurd cc
      go (code.Set x v next) is w = absurd cc
      go (code.Show v next) is w = absurd cc
      go (code.Host x f v w' next) is w = absurd cc
      go (code.If v c' d') is w = absurd cc
      go (code.Call f q ss) is w = absurd cc
      go code.End is w = absurd cc
