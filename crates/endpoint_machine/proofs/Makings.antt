-- What the head of a process tells of its node.
use Rattle.std.proofs.Common.{◌≡◌, ℕ, Bool, true, cond, List, ◌∷◌, refl, sym, ap, ◌∙◌, Option, Some, None, is_some}
use Rattle.std.specs.FinMap as fin
use Rattle.chor_base.specs.declared.names.NameId.{NameId}
use Rattle.chor_base.specs.declared.event.Why.TheVariants.{Wrong}
use Rattle.chor_base.specs.declared.value.Load.{Load}
use Rattle.chor_base.specs.NameMap.{Variables}
use Rattle.endpoint_code.specs.declared.code.CodeNode.{CodeNode}
use Rattle.endpoint_code.specs.declared.code.CodeNode.TheVariants.{Join, Send, Recv, Pick, Branch, Throw, Catch, Set, Show, Host, If, Call, End}
use Rattle.endpoint_code.specs.declared.endpoints.Endpoints.{Endpoints}
use Rattle.endpoint_code.specs.Network.{Machine, NetworkState, Sessions, Place, Taking, takes_value, takes_label, takes_part, queue_of}
use Rattle.endpoint_code.specs.NetworkRuns.{place_waits, node_waits, waits_to_receive, waits_for_first}
use Rattle.endpoint_machine.specs.declared.head.Head.TheVariants as head
use Rattle.endpoint_machine.specs.Heads.{node_head, place_head, head_of, sends_on, takes_on, is_join}
use Rattle.endpoint_machine.specs.Acts.{node_takes, joins}
use Rattle.endpoint_machine.specs.Steps.{Fits}
use Rattle.endpoint_machine.specs.Places.{StandsAt}

-- ---- taking

wait_one : (n : NetworkState) (o : Option (ℕ × NameId)) (c : NameId) (f : Load → Option Taking) (s : ℕ) (a b : NameId) (l : Load) (rest : List Load)
    → takes_on o c ≡ Some (head.Take s a b) → queue_of n (s, a, b) ≡ l ∷ rest → waits_to_receive n c o f ≡ cond (is_some (f l)) None (Some (Wrong s a b))
wait_one n None c f s a b l rest h q = absurd cc
wait_one n (Some (t, d)) c f s a b l rest h q =
    let es : t ≡ s = cc in
    let ea : c ≡ a = cc in
    let eb : d ≡ b = cc in
    ap (λ (x : ℕ). waits_for_first x c d f (queue_of n (x, c, d))) es
    ∙ ap (λ (x : NameId). waits_for_first s x d f (queue_of n (s, x, d))) ea
    ∙ ap (λ (x : NameId). waits_for_first s a x f (queue_of n (s, a, x))) eb
    ∙ ap (waits_for_first s a b f) q

no_take : (o : Option (ℕ × NameId)) (c : NameId) (s : ℕ) (a b : NameId) → sends_on o c ≡ Some (head.Take s a b) → ⊥
no_take None c s a b h = absurd cc
no_take (Some (t, d)) c s a b h = absurd cc

node_waited : (e : Endpoints) (cap : Option ℕ) (n : NetworkState) (vars : Variables) (m : Sessions) (node : CodeNode) (s : ℕ) (a b : NameId) (l : Load) (rest : List Load)
    → node_head m node ≡ Some (head.Take s a b) → queue_of n (s, a, b) ≡ l ∷ rest
    → node_waits e cap n vars m node ≡ cond (is_some (node_takes vars m node l)) None (Some (Wrong s a b))
node_waited e cap n vars m (Recv k c x next) s a b l rest h q = wait_one n (fin.get m k.0) c (takes_value next vars m x) s a b l rest h q
node_waited e cap n vars m (Branch k c arms) s a b l rest h q = wait_one n (fin.get m k.0) c (takes_label arms vars m) s a b l rest h q
node_waited e cap n vars m (Catch k c x next) s a b l rest h q = wait_one n (fin.get m k.0) c (takes_part next vars m x) s a b l rest h q
node_waited e cap n vars m (Send k c x next) s a b l rest h q = absurd (no_take (fin.get m k.0) c s a b h)
node_waited e cap n vars m (Pick k c x next) s a b l rest h q = absurd (no_take (fin.get m k.0) c s a b h)
node_waited e cap n vars m (Throw k c x next) s a b l rest h q = absurd (no_take (fin.get m k.0) c s a b h)
node_waited e cap n vars m (Join c r k next) s a b l rest h q = absurd cc
node_waited e cap n vars m (Set x w next) s a b l rest h q = absurd cc
node_waited e cap n vars m (Show w next) s a b l rest h q = absurd cc
node_waited e cap n vars m (Host x f c d next) s a b l rest h q = absurd cc
node_waited e cap n vars m (If w c d) s a b l rest h q = absurd cc
node_waited e cap n vars m (Call f r ns) s a b l rest h q = absurd cc
node_waited e cap n vars m End s a b l rest h q = absurd cc

pub fits_there : (e : Endpoints) (m : Machine) (node : CodeNode) (ss : Sessions) (l : Load) (fits : Bool) → StandsAt e m node ss → fits ≡ is_some (node_takes m.vars ss node l) → Fits e m l fits
fits_there e m node ss l fits st is = λ cap n s a b rest h q.
    ap (place_waits e cap n m.vars) st.place
    ∙ node_waited e cap n m.vars ss node s a b l rest (sym (ap place_head st.place) ∙ h) q
    ∙ ap (λ (t : Bool). cond t None (Some (Wrong s a b))) (sym is)

-- ---- joining

no_join_out : (o : Option (ℕ × NameId)) (a : NameId) → is_join (sends_on o a) ≡ true → ⊥
no_join_out None a h = absurd cc
no_join_out (Some (s, b)) a h = absurd cc

no_join_take : (o : Option (ℕ × NameId)) (a : NameId) → is_join (takes_on o a) ≡ true → ⊥
no_join_take None a h = absurd cc
no_join_take (Some (s, b)) a h = absurd cc

node_join : (m : Sessions) (node : CodeNode) → is_join (node_head m node) ≡ true → joins node ≡ true
node_join m (Join c r k next) h = refl
node_join m (Send k b x next) h = absurd (no_join_out (fin.get m k.0) b h)
node_join m (Pick k b l next) h = absurd (no_join_out (fin.get m k.0) b h)
node_join m (Throw k b g next) h = absurd (no_join_out (fin.get m k.0) b h)
node_join m (Recv k a x next) h = absurd (no_join_take (fin.get m k.0) a h)
node_join m (Branch k a arms) h = absurd (no_join_take (fin.get m k.0) a h)
node_join m (Catch k a g next) h = absurd (no_join_take (fin.get m k.0) a h)
node_join m (Set x v next) h = absurd cc
node_join m (Show v next) h = absurd cc
node_join m (Host x f a b next) h = absurd cc
node_join m (If v a b) h = absurd cc
node_join m (Call f p ns) h = absurd cc
node_join m End h = absurd cc

pub joins_there : (e : Endpoints) (m : Machine) (node : CodeNode) (ss : Sessions) → StandsAt e m node ss → is_join (head_of e m) ≡ true → joins node ≡ true
joins_there e m node ss st h = node_join ss node (sym (ap (λ (o : Option Place). is_join (place_head o)) st.place) ∙ h)
