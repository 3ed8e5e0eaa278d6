-- A state of a network and an event have one next state at most.
use Rattle.std.proofs.Common.{◌≡◌, ℕ, List, [], ◌∷◌, ◌++◌, length, refl, sym, ap, ◌∙◌, Option, Some, None, subst, ℤ, Bool, true, false, map}
use Rattle.std.specs.Prelude.{slice_get}
use Rattle.std.proofs.lemmas.List.{append_cancel_right}
use Rattle.chor_base.specs.declared.names.NameId.{NameId}
use Rattle.chor_base.specs.declared.value.Load.{Load}
use Rattle.chor_base.specs.declared.event.Event.{Event}
use Rattle.chor_base.specs.declared.event.Event.TheVariants as event
use Rattle.chor_base.specs.Expr.{term_of, value_of, number_of, truth_of}
use Rattle.chor_base.specs.NameMap.{Variables}
use Rattle.chor_base.specs.Meaning.{Hosts}
use Rattle.chor_base.specs.Events.{Triple}
use Rattle.endpoint_code.specs.declared.code.CodeNode.{CodeNode}
use Rattle.endpoint_code.specs.declared.code.CodeNode.TheVariants.{Join, Send, Recv, Pick, Branch, Throw, Catch, Set, Show, Host, If, Call, End}
use Rattle.endpoint_code.specs.declared.endpoints.Channel.{Channel}
use Rattle.endpoint_code.specs.declared.endpoints.Endpoints.{Endpoints}
use Rattle.endpoint_code.specs.Network.{Sessions, Machine, NetworkState, Place, Made, Makes, Taking, Goes, takes, takes_from, went, puts, put_if, queue_of, node_makes, place_makes, machine_makes, makes, joiners, starts, starts_with, channel_starts, begun, channel_of, paired, one_pair, served_parts, place_of, NetworkSteps, acts, begins}
use Rattle.endpoint_code.proofs.Begun.{Begun, begun_as, pair_places}

-- the process that makes an event, if it is no start
abbrev pub by_of : Event → Option ℕ
by_of (event.Start c s ps) = None
by_of (event.Send p s a b l) = Some p
by_of (event.Recv p s a b l) = Some p
by_of (event.Test p b) = Some p
by_of (event.Set p x v) = Some p
by_of (event.Show p v) = Some p
by_of (event.Host p x f a b v) = Some p

put_by : (b : Bool) (n : NetworkState) (p : ℕ) (t : Triple) (l : Load) (x : Event) (n' : NetworkState) → put_if b n p t l ≡ Some (Makes x n') → by_of x ≡ Some p
put_by true n p t l x n' h = let i : event.Send p t.0 t.1 t.2 l ≡ x = cc in ap by_of (sym i)
put_by false n p t l x n' h = absurd cc

puts_by : (cap : Option ℕ) (n : NetworkState) (p : ℕ) (b : NameId) (o : Option (ℕ × NameId)) (ol : Option Load) (x : Event) (n' : NetworkState) → puts cap n p b o ol ≡ Some (Makes x n') → by_of x ≡ Some p
puts_by cap n p b (Some (s, a)) (Some l) x n' h = put_by _ n p (s, a, b) l x n' h
puts_by cap n p b (Some k) None x n' h = absurd cc
puts_by cap n p b None ol x n' h = absurd cc

takes_by : (n : NetworkState) (p : ℕ) (a : NameId) (o : Option (ℕ × NameId)) (f : Load → Option Taking) (x : Event) (n' : NetworkState) → takes n p a o f ≡ Some (Makes x n') → by_of x ≡ Some p
takes_by n p a None f x n' h = absurd cc
takes_by n p a (Some (s, b)) f x n' h = go (queue_of n (s, a, b)) h
  where
    ended : (l : Load) (rest : List Load) (o : Option Taking) → went n p (s, a, b) l rest o ≡ Some (Makes x n') → by_of x ≡ Some p
    ended l rest None k = absurd cc
    ended l rest (Some (Goes next vars m)) k = let i : event.Recv p s a b l ≡ x = cc in ap by_of (sym i)

    go : (q : List Load) → takes_from n p (s, a, b) f q ≡ Some (Makes x n') → by_of x ≡ Some p
    go [] k = absurd cc
    go (l ∷ rest) k = ended l rest (f l) k

node_by : (cap : Option ℕ) (n : NetworkState) (p : ℕ) (v : ℤ) (vars : Variables) (m : Sessions) (node : CodeNode) (x : Event) (n' : NetworkState) → node_makes cap n p v vars m node ≡ Some (Makes x n') → by_of x ≡ Some p
node_by cap n p v vars m (Send k b e next) x n' h = puts_by cap _ p b _ _ x n' h
node_by cap n p v vars m (Pick k b l next) x n' h = puts_by cap _ p b _ _ x n' h
node_by cap n p v vars m (Throw k b g next) x n' h = puts_by cap _ p b _ _ x n' h
node_by cap n p v vars m (Recv k a y next) x n' h = takes_by n p a _ _ x n' h
node_by cap n p v vars m (Branch k a arms) x n' h = takes_by n p a _ _ x n' h
node_by cap n p v vars m (Catch k a g next) x n' h = takes_by n p a _ _ x n' h
node_by cap n p v vars m (Set y e next) x n' h = let i : event.Set p y (value_of (term_of e) vars) ≡ x = cc in ap by_of (sym i)
node_by cap n p v vars m (Show e next) x n' h = let i : event.Show p (value_of (term_of e) vars) ≡ x = cc in ap by_of (sym i)
node_by cap n p v vars m (Host y f a b next) x n' h = let i : event.Host p y f (number_of (value_of (term_of a) vars)) (number_of (value_of (term_of b) vars)) v ≡ x = cc in ap by_of (sym i)
node_by cap n p v vars m (If e c d) x n' h = let i : event.Test p (truth_of (value_of (term_of e) vars)) ≡ x = cc in ap by_of (sym i)
node_by cap n p v vars m (Join c r k next) x n' h = absurd cc
node_by cap n p v vars m (Call f q ss) x n' h = absurd cc
node_by cap n p v vars m End x n' h = absurd cc

-- an event that a process makes by itself is its own
pub made_by : (e : Endpoints) (cap : Option ℕ) (n : NetworkState) (p : ℕ) (v : ℤ) (x : Event) (n' : NetworkState) → makes e cap n p v ≡ Some (Makes x n') → by_of x ≡ Some p
made_by e cap n p v x n' h = at_machine (slice_get n.machines p) h
  where
    at_place : (vars : Variables) (o : Option Place) → place_makes cap n p v vars o ≡ Some (Makes x n') → by_of x ≡ Some p
    at_place vars None k = absurd cc
    at_place vars (Some q) k = node_by cap n p v vars q.sessions q.node x n' k

    at_machine : (o : Option Machine) → machine_makes e cap n p v o ≡ Some (Makes x n') → by_of x ≡ Some p
    at_machine None k = absurd cc
    at_machine (Some m) k = at_place m.vars (place_of e m) k

-- ---- the answer of a host function stands in the event

abbrev state_in : Option Made → NetworkState → NetworkState
state_in None d = d
state_in (Some (Makes x m)) d = m

one_made : {o : Option Made} {x : Event} {m m' : NetworkState} → o ≡ Some (Makes x m) → o ≡ Some (Makes x m') → m ≡ m'
one_made {o = o} {x = x} {m = m} {m' = m'} h g = ap (λ (z : Option Made). state_in z m) (sym h ∙ g)

node_one : (cap : Option ℕ) (n : NetworkState) (p : ℕ) (v w : ℤ) (vars : Variables) (m : Sessions) (node : CodeNode) (x : Event) (k k' : NetworkState)
    → node_makes cap n p v vars m node ≡ Some (Makes x k) → node_makes cap n p w vars m node ≡ Some (Makes x k') → k ≡ k'
node_one cap n p v w vars m (Send y b e next) x k k' h g = one_made h g
node_one cap n p v w vars m (Pick y b l next) x k k' h g = one_made h g
node_one cap n p v w vars m (Throw y b z next) x k k' h g = one_made h g
node_one cap n p v w vars m (Recv y a z next) x k k' h g = one_made h g
node_one cap n p v w vars m (Branch y a arms) x k k' h g = one_made h g
node_one cap n p v w vars m (Catch y a z next) x k k' h g = one_made h g
node_one cap n p v w vars m (Set y e next) x k k' h g = one_made h g
node_one cap n p v w vars m (Show e next) x k k' h g = one_made h g
node_one cap n p v w vars m (Host y f a b next) x k k' h g =
    let i : event.Host p y f (number_of (value_of (term_of a) vars)) (number_of (value_of (term_of b) vars)) v ≡ x = cc in
    let j : event.Host p y f (number_of (value_of (term_of a) vars)) (number_of (value_of (term_of b) vars)) w ≡ x = cc in
    let s : event.Host p y f (number_of (value_of (term_of a) vars)) (number_of (value_of (term_of b) vars)) v ≡ event.Host p y f (number_of (value_of (term_of a) vars)) (number_of (value_of (term_of b) vars)) w = i ∙ sym j in
    let z : v ≡ w = cc in
    one_made h (subst (λ (u : ℤ). node_makes cap n p u vars m (Host y f a b next) ≡ Some (Makes x k')) (sym z) g)
node_one cap n p v w vars m (If e c d) x k k' h g = one_made h g
node_one cap n p v w vars m (Join c r y next) x k k' h g = absurd cc
node_one cap n p v w vars m (Call f q ss) x k k' h g = absurd cc
node_one cap n p v w vars m End x k k' h g = absurd cc

made_one : (e : Endpoints) (cap : Option ℕ) (n : NetworkState) (p : ℕ) (v w : ℤ) (x : Event) (k k' : NetworkState) → makes e cap n p v ≡ Some (Makes x k) → makes e cap n p w ≡ Some (Makes x k') → k ≡ k'
made_one e cap n p v w x k k' h g = at_machine (slice_get n.machines p) h g
  where
    at_place : (vars : Variables) (o : Option Place) → place_makes cap n p v vars o ≡ Some (Makes x k) → place_makes cap n p w vars o ≡ Some (Makes x k') → k ≡ k'
    at_place vars None a b = absurd cc
    at_place vars (Some q) a b = node_one cap n p v w vars q.sessions q.node x k k' a b

    at_machine : (o : Option Machine) → machine_makes e cap n p v o ≡ Some (Makes x k) → machine_makes e cap n p w o ≡ Some (Makes x k') → k ≡ k'
    at_machine None a b = absurd cc
    at_machine (Some m) a b = at_place m.vars (place_of e m) a b

-- ---- starts

started_one : (e : Endpoints) (n : NetworkState) (c c' : NameId) (ps ps' : List ℕ) (x : Event) (m m' : NetworkState) → starts e n c ps ≡ Some (Makes x m) → starts e n c' ps' ≡ Some (Makes x m') → m ≡ m'
started_one e n c c' ps ps' x m m' h g =
    let b : Begun e n c ps x m = begun_as e n c ps x m h in
    let b' : Begun e n c' ps' x m' = begun_as e n c' ps' x m' g in
    let s : event.Start c n.sid (b.parts ++ served_parts b.channel.serve (length n.machines)) ≡ event.Start c' n.sid (b'.parts ++ served_parts b'.channel.serve (length n.machines)) = sym b.event_is ∙ b'.event_is in
    let same_name : c ≡ c' = cc in
    let found : Some b.channel ≡ Some b'.channel = sym b.found ∙ ap (channel_of e.channels) same_name ∙ b'.found in
    let same_channel : b.channel ≡ b'.channel = cc in
    let parts : b.parts ++ served_parts b.channel.serve (length n.machines) ≡ b'.parts ++ served_parts b'.channel.serve (length n.machines) = cc in
    let parts' : b.parts ++ served_parts b.channel.serve (length n.machines) ≡ b'.parts ++ served_parts b.channel.serve (length n.machines) = parts ∙ ap (λ (k : Channel). b'.parts ++ served_parts k.serve (length n.machines)) (sym same_channel) in
    let same_parts : b.parts ≡ b'.parts = append_cancel_right b.parts b'.parts (served_parts b.channel.serve (length n.machines)) parts' in
    let same_places : ps ≡ ps' = sym (pair_places b.channel.active ps b.parts b.pairs) ∙ ap (map (λ q. q.1)) same_parts ∙ pair_places b'.channel.active ps' b'.parts b'.pairs in
    one_made h (subst (λ (z : NameId). starts e n z ps ≡ Some (Makes x m')) (sym same_name) (subst (λ (z : List ℕ). starts e n c' z ≡ Some (Makes x m')) (sym same_places) g))

-- an event is either a start or made by one process
not_both : (e : Endpoints) (cap : Option ℕ) (n : NetworkState) (p : ℕ) (v : ℤ) (c : NameId) (ps : List ℕ) (x : Event) (m m' : NetworkState) → makes e cap n p v ≡ Some (Makes x m) → starts e n c ps ≡ Some (Makes x m') → ⊥
not_both e cap n p v c ps x m m' h g =
    let b : Begun e n c ps x m' = begun_as e n c ps x m' g in
    let i : by_of x ≡ Some p = made_by e cap n p v x m h in
    let j : by_of x ≡ None = ap by_of b.event_is in cc

-- A state of a network and an event have one next state at most
pub next_one : (e : Endpoints) (hosts : Hosts) (cap : Option ℕ) (n m m' : NetworkState) (x : Event) → NetworkSteps e hosts cap n x m → NetworkSteps e hosts cap n x m' → m ≡ m'
next_one e hosts cap n m m' x (acts p v a h) (acts q w b g) =
    let i : Some p ≡ Some q = sym (made_by e cap n p v x m h) ∙ made_by e cap n q w x m' g in
    let z : p ≡ q = cc in
    made_one e cap n p v w x m m' h (subst (λ (y : ℕ). makes e cap n y w ≡ Some (Makes x m')) (sym z) g)
next_one e hosts cap n m m' x (acts p v a h) (begins c ps g) = absurd (not_both e cap n p v c ps x m m' h g)
next_one e hosts cap n m m' x (begins c ps h) (acts q w b g) = absurd (not_both e cap n q w c ps x m' m g h)
next_one e hosts cap n m m' x (begins c ps h) (begins c' ps' g) = started_one e n c c' ps ps' x m m' h g
