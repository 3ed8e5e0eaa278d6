-- What the code at which a process stands tells.
use Rattle.std.proofs.Common.{◌≡◌, ℕ, suc, ◌<◌, true, false, List, [], ◌∷◌, length, get_or, refl, sym, ap, ◌∙◌, subst, Option, Some, None, arith, ◌^◌}
use Rattle.std.specs.Prelude.{slice_get, All, Contains, map}
use Rattle.std.specs.FinMap as fin
use Rattle.std.proofs.lemmas.Option.{slice_get-get_or, get_or_from_slice_get, slice_get-map}
use Rattle.std.proofs.lemmas.List.{length-map}
use Rattle.std.proofs.lemmas.List.Elements.{All-nil, All-cons, All-head, All-tail}
use Rattle.chor_base.specs.declared.names.NameId.{NameId}
use Rattle.chor_base.specs.declared.event.Why.TheVariants.{Empty}
use Rattle.chor_base.specs.declared.value.Load.{Load}
use Rattle.chor_base.specs.NameMap.{Variables}
use Rattle.chor_base.proofs.Members.{at_head, at_tail}
use Rattle.endpoint_code.specs.declared.code.CodeNode.{CodeNode}
use Rattle.endpoint_code.specs.declared.code.CodeNode.TheVariants.{Join, Send, Recv, Pick, Branch, Throw, Catch, Set, Show, Host, If, Call, End}
use Rattle.endpoint_code.specs.declared.endpoints.Endpoints.{Endpoints}
use Rattle.endpoint_code.specs.declared.endpoints.Process.{Process}
use Rattle.endpoint_code.specs.Network.{Machine, NetworkState, Sessions, Place, Taking, node_at, place_at, standing, standing_all, queue_of, takes_value, takes_label, takes_part}
use Rattle.endpoint_code.specs.NetworkRuns.{ends_there, joins_there, node_waits, place_waits, waits_to_send, waits_to_receive, waits_for_first}
use Rattle.endpoint_code.specs.Scheduled.{listed_at}
use Rattle.endpoint_code.specs.Faults.{IsFaultless, IsScoped}
use Rattle.endpoint_code.specs.InBodies.{of_process}
use Rattle.endpoint_machine.specs.declared.head.Head.{Head}
use Rattle.endpoint_machine.specs.declared.head.Head.TheVariants as head
use Rattle.endpoint_machine.specs.Bound.{IsBound}
use Rattle.endpoint_machine.specs.Heads.{node_head, place_head, head_of, sends_on, takes_on}
use Rattle.endpoint_machine.specs.Places.{StandsAt}
use Rattle.endpoint_machine.specs.Views.{MachineView}
use Rattle.endpoint_machine.proofs.Scopes.{some_node, stands_plainly, stands_beyond, called, procedure_all}
use Rattle.post_office.specs.Lanes.{QueuesView}
use Rattle.session_starts.specs.Machines.{standing_of}
use Rattle.net_core.specs.Machines.{is_join}
use Rattle.net_core.specs.Heads.{Stands, Shows, EachStands, ended_of, why_of, is_joining, is_end, is_joining_head, is_taking, joins_as, leads_as, why_by}
use Rattle.session_starts.specs.Machines.{AreCounted}
use Rattle.net_core.specs.Views.{IsSound, state_of}
use Rattle.endpoint_machine.proofs.Actings.{all_at}
use Rattle.net_core.proofs.Turns.{turn}

-- ---- the action of a node

pub out_same : {X : Type 0} (F : Head → X) (y : X) → ((s : ℕ) (a b : NameId) → F (head.Out s a b) ≡ y) → (o : Option (ℕ × NameId)) (b : NameId) (h : Head) → sends_on o b ≡ Some h → y ≡ F h
out_same F y f None b h i = absurd cc
out_same F y f (Some (s, a)) b h i = let same : head.Out s a b ≡ h = cc in sym (f s a b) ∙ ap F same

pub take_same : {X : Type 0} (F : Head → X) (y : X) → ((s : ℕ) (a b : NameId) → F (head.Take s a b) ≡ y) → (o : Option (ℕ × NameId)) (a : NameId) (h : Head) → takes_on o a ≡ Some h → y ≡ F h
take_same F y f None a h i = absurd cc
take_same F y f (Some (s, b)) a h i = let same : head.Take s a b ≡ h = cc in sym (f s a b) ∙ ap F same

end_head : (m : Sessions) (node : CodeNode) (h : Head) → node_head m node ≡ Some h → ends_there (Some (record { node = node; sessions = m })) ≡ is_end h
end_head m (Join c r k next) h i = let same : head.Join c r ≡ h = cc in ap (is_end) same
end_head m (Send k b x next) h i = out_same (is_end) _ (λ s a z. refl) (fin.get m k.0) b h i
end_head m (Recv k a x next) h i = take_same (is_end) _ (λ s z w. refl) (fin.get m k.0) a h i
end_head m (Pick k b l next) h i = out_same (is_end) _ (λ s a z. refl) (fin.get m k.0) b h i
end_head m (Branch k a arms) h i = take_same (is_end) _ (λ s z w. refl) (fin.get m k.0) a h i
end_head m (Throw k b g next) h i = out_same (is_end) _ (λ s a z. refl) (fin.get m k.0) b h i
end_head m (Catch k a g next) h i = take_same (is_end) _ (λ s z w. refl) (fin.get m k.0) a h i
end_head m (Set x w next) h i = let same : head.Local ≡ h = cc in ap (is_end) same
end_head m (Show w next) h i = let same : head.Local ≡ h = cc in ap (is_end) same
end_head m (Host x f u w next) h i = let same : head.Local ≡ h = cc in ap (is_end) same
end_head m (If w c d) h i = let same : head.Local ≡ h = cc in ap (is_end) same
end_head m (Call f o ns) h i = absurd cc
end_head m End h i = let same : head.Ended ≡ h = cc in ap (is_end) same

joining_head : (m : Sessions) (node : CodeNode) (h : Head) → node_head m node ≡ Some h → is_join node ≡ is_joining_head h
joining_head m (Join c r k next) h i = let same : head.Join c r ≡ h = cc in ap (is_joining_head) same
joining_head m (Send k b x next) h i = out_same (is_joining_head) _ (λ s a z. refl) (fin.get m k.0) b h i
joining_head m (Recv k a x next) h i = take_same (is_joining_head) _ (λ s z w. refl) (fin.get m k.0) a h i
joining_head m (Pick k b l next) h i = out_same (is_joining_head) _ (λ s a z. refl) (fin.get m k.0) b h i
joining_head m (Branch k a arms) h i = take_same (is_joining_head) _ (λ s z w. refl) (fin.get m k.0) a h i
joining_head m (Throw k b g next) h i = out_same (is_joining_head) _ (λ s a z. refl) (fin.get m k.0) b h i
joining_head m (Catch k a g next) h i = take_same (is_joining_head) _ (λ s z w. refl) (fin.get m k.0) a h i
joining_head m (Set x w next) h i = let same : head.Local ≡ h = cc in ap (is_joining_head) same
joining_head m (Show w next) h i = let same : head.Local ≡ h = cc in ap (is_joining_head) same
joining_head m (Host x f u w next) h i = let same : head.Local ≡ h = cc in ap (is_joining_head) same
joining_head m (If w c d) h i = let same : head.Local ≡ h = cc in ap (is_joining_head) same
joining_head m (Call f o ns) h i = absurd cc
joining_head m End h i = let same : head.Ended ≡ h = cc in ap (is_joining_head) same

joins_head : (m : Sessions) (node : CodeNode) (h : Head) (d q : NameId) → node_head m node ≡ Some h → joins_there (Some (record { node = node; sessions = m })) d q ≡ joins_as h d q
joins_head m (Join c r k next) h d q i = let same : head.Join c r ≡ h = cc in ap (λ (z : Head). joins_as z d q) same
joins_head m (Send k b x next) h d q i = out_same (λ (z : Head). joins_as z d q) false (λ s a z. refl) (fin.get m k.0) b h i
joins_head m (Recv k a x next) h d q i = take_same (λ (z : Head). joins_as z d q) false (λ s z w. refl) (fin.get m k.0) a h i
joins_head m (Pick k b l next) h d q i = out_same (λ (z : Head). joins_as z d q) false (λ s a z. refl) (fin.get m k.0) b h i
joins_head m (Branch k a arms) h d q i = take_same (λ (z : Head). joins_as z d q) false (λ s z w. refl) (fin.get m k.0) a h i
joins_head m (Throw k b g next) h d q i = out_same (λ (z : Head). joins_as z d q) false (λ s a z. refl) (fin.get m k.0) b h i
joins_head m (Catch k a g next) h d q i = take_same (λ (z : Head). joins_as z d q) false (λ s z w. refl) (fin.get m k.0) a h i
joins_head m (Set x w next) h d q i = let same : head.Local ≡ h = cc in ap (λ (z : Head). joins_as z d q) same
joins_head m (Show w next) h d q i = let same : head.Local ≡ h = cc in ap (λ (z : Head). joins_as z d q) same
joins_head m (Host x f u w next) h d q i = let same : head.Local ≡ h = cc in ap (λ (z : Head). joins_as z d q) same
joins_head m (If w c t) h d q i = let same : head.Local ≡ h = cc in ap (λ (z : Head). joins_as z d q) same
joins_head m (Call f o ns) h d q i = absurd cc
joins_head m End h d q i = let same : head.Ended ≡ h = cc in ap (λ (z : Head). joins_as z d q) same

leads_head : (e : Endpoints) (m : Sessions) (node : CodeNode) (h : Head) → node_head m node ≡ Some h → listed_at e (Some (record { node = node; sessions = m })) ≡ leads_as e h
leads_head e m (Join c r k next) h i = let same : head.Join c r ≡ h = cc in ap (leads_as e) same
leads_head e m (Send k b x next) h i = out_same (leads_as e) true (λ s a z. refl) (fin.get m k.0) b h i
leads_head e m (Recv k a x next) h i = take_same (leads_as e) true (λ s z w. refl) (fin.get m k.0) a h i
leads_head e m (Pick k b l next) h i = out_same (leads_as e) true (λ s a z. refl) (fin.get m k.0) b h i
leads_head e m (Branch k a arms) h i = take_same (leads_as e) true (λ s z w. refl) (fin.get m k.0) a h i
leads_head e m (Throw k b g next) h i = out_same (leads_as e) true (λ s a z. refl) (fin.get m k.0) b h i
leads_head e m (Catch k a g next) h i = take_same (leads_as e) true (λ s z w. refl) (fin.get m k.0) a h i
leads_head e m (Set x w next) h i = let same : head.Local ≡ h = cc in ap (leads_as e) same
leads_head e m (Show w next) h i = let same : head.Local ≡ h = cc in ap (leads_as e) same
leads_head e m (Host x f u w next) h i = let same : head.Local ≡ h = cc in ap (leads_as e) same
leads_head e m (If w c d) h i = let same : head.Local ≡ h = cc in ap (leads_as e) same
leads_head e m (Call f o ns) h i = absurd cc
leads_head e m End h i = let same : head.Ended ≡ h = cc in ap (leads_as e) same

-- ---- waiting

out_waits : (e : Endpoints) (cap : Option ℕ) (n : NetworkState) (b : NameId) (k : Option (ℕ × NameId)) (h : Head) → sends_on k b ≡ Some h → waits_to_send cap n b k ≡ why_by e cap n h
out_waits e cap n b None h i = absurd cc
out_waits e cap n b (Some (s, a)) h i = let same : head.Out s a b ≡ h = cc in ap (why_by e cap n) same

why_head : (e : Endpoints) (cap : Option ℕ) (n : NetworkState) (vars : Variables) (m : Sessions) (node : CodeNode) (h : Head) → node_head m node ≡ Some h → is_taking h ≡ false → node_waits e cap n vars m node ≡ why_by e cap n h
why_head e cap n vars m (Join c r k next) h i j = let same : head.Join c r ≡ h = cc in ap (why_by e cap n) same
why_head e cap n vars m (Send k b x next) h i j = out_waits e cap n b (fin.get m k.0) h i
why_head e cap n vars m (Recv k a x next) h i j = let yes : true ≡ is_taking h = take_same is_taking true (λ s z w. refl) (fin.get m k.0) a h i in absurd cc
why_head e cap n vars m (Pick k b l next) h i j = out_waits e cap n b (fin.get m k.0) h i
why_head e cap n vars m (Branch k a arms) h i j = let yes : true ≡ is_taking h = take_same is_taking true (λ s z w. refl) (fin.get m k.0) a h i in absurd cc
why_head e cap n vars m (Throw k b g next) h i j = out_waits e cap n b (fin.get m k.0) h i
why_head e cap n vars m (Catch k a g next) h i j = let yes : true ≡ is_taking h = take_same is_taking true (λ s z w. refl) (fin.get m k.0) a h i in absurd cc
why_head e cap n vars m (Set x w next) h i j = let same : head.Local ≡ h = cc in ap (why_by e cap n) same
why_head e cap n vars m (Show w next) h i j = let same : head.Local ≡ h = cc in ap (why_by e cap n) same
why_head e cap n vars m (Host x f u w next) h i j = let same : head.Local ≡ h = cc in ap (why_by e cap n) same
why_head e cap n vars m (If w c d) h i j = let same : head.Local ≡ h = cc in ap (why_by e cap n) same
why_head e cap n vars m (Call f o ns) h i j = absurd cc
why_head e cap n vars m End h i j = let same : head.Ended ≡ h = cc in ap (why_by e cap n) same

empty_one : (n : NetworkState) (o : Option (ℕ × NameId)) (c : NameId) (f : Load → Option Taking) (s : ℕ) (a b : NameId) → takes_on o c ≡ Some (head.Take s a b) → queue_of n (s, a, b) ≡ [] → waits_to_receive n c o f ≡ Some (Empty s a b)
empty_one n None c f s a b h q = absurd cc
empty_one n (Some (t, d)) c f s a b h q =
    let es : t ≡ s = cc in
    let ea : c ≡ a = cc in
    let eb : d ≡ b = cc in
    ap (λ (x : ℕ). waits_for_first x c d f (queue_of n (x, c, d))) es
    ∙ ap (λ (x : NameId). waits_for_first s x d f (queue_of n (s, x, d))) ea
    ∙ ap (λ (x : NameId). waits_for_first s a x f (queue_of n (s, a, x))) eb
    ∙ ap (waits_for_first s a b f) q

no_take : (o : Option (ℕ × NameId)) (c : NameId) (s : ℕ) (a b : NameId) → sends_on o c ≡ Some (head.Take s a b) → ⊥
no_take None c s a b h = absurd cc
no_take (Some (t, d)) c s a b h = absurd cc

node_empty : (e : Endpoints) (cap : Option ℕ) (n : NetworkState) (vars : Variables) (m : Sessions) (node : CodeNode) (s : ℕ) (y z : NameId) → node_head m node ≡ Some (head.Take s y z) → queue_of n (s, y, z) ≡ [] → node_waits e cap n vars m node ≡ Some (Empty s y z)
node_empty e cap n vars m (Join c r k next) s y z h q = absurd cc
node_empty e cap n vars m (Send k b x next) s y z h q = absurd (no_take (fin.get m k.0) b s y z h)
node_empty e cap n vars m (Recv k a x next) s y z h q = empty_one n (fin.get m k.0) a (takes_value next vars m x) s y z h q
node_empty e cap n vars m (Pick k b l next) s y z h q = absurd (no_take (fin.get m k.0) b s y z h)
node_empty e cap n vars m (Branch k a arms) s y z h q = empty_one n (fin.get m k.0) a (takes_label arms vars m) s y z h q
node_empty e cap n vars m (Throw k b g next) s y z h q = absurd (no_take (fin.get m k.0) b s y z h)
node_empty e cap n vars m (Catch k a g next) s y z h q = empty_one n (fin.get m k.0) a (takes_part next vars m g) s y z h q
node_empty e cap n vars m (Set x w next) s y z h q = absurd cc
node_empty e cap n vars m (Show w next) s y z h q = absurd cc
node_empty e cap n vars m (Host x f u w next) s y z h q = absurd cc
node_empty e cap n vars m (If w c d) s y z h q = absurd cc
node_empty e cap n vars m (Call f o ns) s y z h q = absurd cc
node_empty e cap n vars m End s y z h q = absurd cc

-- ---- where a process stands

somewhere : (e : Endpoints) (m : Machine) → IsFaultless e → IsBound e m → (node : CodeNode) × (ss : Sessions) × StandsAt e m node ss
somewhere e m faultless bound = let n = some_node bound.scoped in go n.0 n.1
  where
    beyond : (f p : NameId) (ns : List NameId) → node_at e m.at ≡ Some (Call f p ns) → (node : CodeNode) × (ss : Sessions) × StandsAt e m node ss
    beyond f p ns found =
        let q = called e m f p ns bound found in
        let n = some_node (procedure_all (λ q. IsScoped e q.body q.sessions) e.procedures f p q.0 faultless.names.procedure_bodies q.1) in
        (n.0, _, stands_beyond e m f p ns q.0 n.0 faultless bound found q.1 n.1)

    go : (node : CodeNode) → node_at e m.at ≡ Some node → (node : CodeNode) × (ss : Sessions) × StandsAt e m node ss
    go (Join c r k next) found = (_, _, stands_plainly e m (Join c r k next) bound found refl)
    go (Send k b x next) found = (_, _, stands_plainly e m (Send k b x next) bound found refl)
    go (Recv k a x next) found = (_, _, stands_plainly e m (Recv k a x next) bound found refl)
    go (Pick k b l next) found = (_, _, stands_plainly e m (Pick k b l next) bound found refl)
    go (Branch k a arms) found = (_, _, stands_plainly e m (Branch k a arms) bound found refl)
    go (Throw k b g next) found = (_, _, stands_plainly e m (Throw k b g next) bound found refl)
    go (Catch k a g next) found = (_, _, stands_plainly e m (Catch k a g next) bound found refl)
    go (Set x w next) found = (_, _, stands_plainly e m (Set x w next) bound found refl)
    go (Show w next) found = (_, _, stands_plainly e m (Show w next) bound found refl)
    go (Host x f u w next) found = (_, _, stands_plainly e m (Host x f u w next) bound found refl)
    go (If w c d) found = (_, _, stands_plainly e m (If w c d) bound found refl)
    go (Call f o ns) found = beyond f o ns found
    go End found = (_, _, stands_plainly e m End bound found refl)

abbrev mapped : Option MachineView → Option Machine
mapped None = None
mapped (Some m) = Some (standing_of m)

pub runner_at : (ms : List MachineView) (p : ℕ) (r : MachineView) → p < length ms → r ≡ get_or ms p r → slice_get (map standing_of ms) p ≡ Some (standing_of r)
runner_at ms p r lt h = slice_get-map standing_of ms p ∙ ap mapped (slice_get-get_or ms p r lt ∙ ap Some (sym h))

pub bound_at : (e : Endpoints) (ms : List MachineView) (p : ℕ) (r : MachineView) → IsSound e ms → p < length ms → r ≡ get_or ms p r → IsBound e (standing_of r)
bound_at e ms p r sound lt h = all_at (IsBound e) (map standing_of ms) p (standing_of r) sound.bound (runner_at ms p r lt h)

pub stands_at : (e : Endpoints) (ms : List MachineView) (q : QueuesView) (sid p : ℕ) (r : MachineView) → IsSound e ms → p < length ms → r ≡ get_or ms p r → (node : CodeNode) × Stands e (state_of ms q sid) p node
stands_at e ms q sid p r sound lt h =
    let bound = bound_at e ms p r sound lt h in
    let s = somewhere e (standing_of r) sound.faultless bound in (
      s.0,
      record {
        machine = standing_of r;
        sessions = s.1;
        there = runner_at ms p r lt h;
        at_node = s.2;
        bound = bound;
      },
    )

-- the next action at the node where a process stands tells of it
pub shows_from : (e : Endpoints) (n : NetworkState) (p : ℕ) (node : CodeNode) (s : Stands e n p node) (h : Head) → node_head s.sessions node ≡ Some h → Shows e n p h
shows_from e n p node s h here = record {
  node = node;
  stands = s;
  head = here;
  ended = ap (ended_of e) s.there ∙ ap ends_there s.at_node.place ∙ end_head s.sessions node h here;
  joins = λ c r. ap (λ (o : Option Machine). joins_there (place_at e o) c r) s.there ∙ ap (λ (o : Option Place). joins_there o c r) s.at_node.place ∙ joins_head s.sessions node h c r here;
  leads = ap (λ (o : Option Machine). listed_at e (place_at e o)) s.there ∙ ap (listed_at e) s.at_node.place ∙ leads_head e s.sessions node h here;
  joining = ap (λ (o : Option Machine). is_joining (place_at e o)) s.there ∙ ap is_joining s.at_node.place ∙ joining_head s.sessions node h here;
  waits = λ cap j. ap (why_of e cap n) s.there ∙ ap (place_waits e cap n s.machine.vars) s.at_node.place ∙ why_head e cap n s.machine.vars s.sessions node h here j;
}

-- so it is where the process stands at a machine with this head
pub shows_standing : (e : Endpoints) (n : NetworkState) (p : ℕ) (node : CodeNode) (s : Stands e n p node) (m : Machine) (h : Head) → slice_get n.machines p ≡ Some m → head_of e m ≡ Some h → Shows e n p h
shows_standing e n p node s m h there shown =
    let same : s.machine ≡ m = let a : Some s.machine ≡ Some m = sym s.there ∙ there in cc in
    shows_from e n p node s h (sym (ap place_head s.at_node.place) ∙ ap (head_of e) same ∙ shown)

-- the next action of a process tells of it
pub shows : (e : Endpoints) (ms : List MachineView) (q : QueuesView) (sid p : ℕ) (r : MachineView) (h : Head) → IsSound e ms → p < length ms → r ≡ get_or ms p r → head_of e r.machine ≡ Some h → Shows e (state_of ms q sid) p h
shows e ms q sid p r h sound lt is shown =
    let found = stands_at e ms q sid p r sound lt is in
    shows_standing e (state_of ms q sid) p found.0 found.1 r.machine h (runner_at ms p r lt is) shown

-- a process that takes on an empty queue waits by it
pub waits_empty : (e : Endpoints) (cap : Option ℕ) (n : NetworkState) (p s : ℕ) (a b : NameId) → Shows e n p (head.Take s a b) → queue_of n (s, a, b) ≡ [] → why_of e cap n (slice_get n.machines p) ≡ Some (Empty s a b)
waits_empty e cap n p s a b t q =
    ap (why_of e cap n) t.stands.there ∙ ap (place_waits e cap n t.stands.machine.vars) t.stands.at_node.place
    ∙ node_empty e cap n t.stands.machine.vars t.stands.sessions t.node s a b t.head q

pub each_stands : (e : Endpoints) (ms : List MachineView) (q : QueuesView) (sid : ℕ) → IsSound e ms → EachStands e (state_of ms q sid)
each_stands e ms q sid sound p lt =
    let within : p < length ms = omega (arith, length-map ms standing_of) in
    let t = turn ms p within in
    stands_at e ms q sid p t.item sound within (sym (get_or_from_slice_get ms p t.item t.item t.there))

-- the processes at their bodies are sound
pub first_bound : (e : Endpoints) (ps : List Process) → ((p : Process) → Contains ps p → Contains e.processes p) → All (λ p. IsScoped e p.body []) ps → All (IsBound e) (standing_all ps)
first_bound e [] there all = All-nil (IsBound e)
first_bound e (p ∷ ps) there all =
    All-cons (IsBound e) (standing p.body) (standing_all ps)
    (record { in_body = of_process (there p (at_head p ps p refl)) refl; names = []; scoped = All-head (λ p. IsScoped e p.body []) p ps all; bound = λ k h. absurd cc })
    (first_bound e ps (λ q among. there q (at_tail p ps q among)) (All-tail (λ p. IsScoped e p.body []) p ps all))

pub length-standing_all : (ps : List Process) → length (standing_all ps) ≡ length ps
length-standing_all [] = refl
length-standing_all (p ∷ ps) = ap suc (length-standing_all ps)

pub first_sound : (e : Endpoints) (ms : List MachineView) → map standing_of ms ≡ standing_all e.processes → AreCounted ms → IsFaultless e → length e.processes < 2 ^ 32 → IsSound e ms
first_sound e ms h counted faultless few = record {
  faultless = faultless;
  few = (let l = length-standing_all e.processes in let k : length (map standing_of ms) ≡ length (standing_all e.processes) = ap length h in let i = length-map ms standing_of in omega arith);
  bound = subst (All (IsBound e)) (sym h) (first_bound e e.processes (λ p among. among) faultless.names.process_bodies);
  counted = counted;
}
