-- What a process does next, as its own code has it, whatever the state of the network.
use Rattle.std.proofs.Common.{◌≡◌, ℕ, refl, subst, Option, Some, None, ℤ, if◌then◌else◌}
use Rattle.std.specs.Prelude.{slice_set}
use Rattle.std.specs.FinMap as fin
use Rattle.chor_base.specs.declared.names.NameId.{NameId}
use Rattle.chor_base.specs.declared.value.Value.TheVariants.{Int}
use Rattle.chor_base.specs.declared.value.Load.{Load}
use Rattle.chor_base.specs.declared.value.Load.TheVariants.{Value as Carries, Label as Picks}
use Rattle.chor_base.specs.declared.event.Event.{Event}
use Rattle.chor_base.specs.declared.event.Event.TheVariants as event
use Rattle.chor_base.specs.Expr.{term_of, value_of, number_of, truth_of}
use Rattle.chor_base.specs.NameMap.{Variables}
use Rattle.chor_base.specs.Events.{Triple}
use Rattle.endpoint_code.specs.declared.code.CodeId.{CodeId}
use Rattle.endpoint_code.specs.declared.code.CodeNode.{CodeNode}
use Rattle.endpoint_code.specs.declared.code.CodeNode.TheVariants.{Join, Send, Recv, Pick, Branch, Throw, Catch, Set, Show, Host, If, Call, End}
use Rattle.endpoint_code.specs.Network.{Sessions, Machine, NetworkState, Place, Made, Makes, Taking, queue_of, has_room, put_if, puts, part_load, takes_value, takes_label, takes_part, takes_from, takes, node_makes}

-- an event that uses no queue, a load that is sent, or what is done with a load that is received
pub data Action : Type 0 where
  Alone : (x : Event) (w : Machine) → Action
  Puts : (t : Triple) (l : Load) (w : Machine) → Action
  Takes : (t : Triple) (f : Load → Option Taking) → Action

abbrev pub machine_at : CodeId → Variables → Sessions → Machine
machine_at at vars sessions = record { at = at; vars = vars; sessions = sessions }

abbrev pub replaced : NetworkState → ℕ → Machine → NetworkState
replaced n p w = record n { machines = slice_set n.machines p w }

abbrev pub performs : Option ℕ → NetworkState → ℕ → Action → Option Made
performs cap n p (Alone x w) = Some (Makes x (replaced n p w))
performs cap n p (Puts t l w) = put_if (has_room cap (queue_of n t)) (replaced n p w) p t l
performs cap n p (Takes t f) = takes_from n p t f (queue_of n t)

abbrev pub performs_if : Option ℕ → NetworkState → ℕ → Option Action → Option Made
performs_if cap n p None = None
performs_if cap n p (Some d) = performs cap n p d

abbrev pub puts_on : NameId → Option (ℕ × NameId) → Option Load → Machine → Option Action
puts_on b (Some (s, a)) (Some l) w = Some (Puts (s, a, b) l w)
puts_on b (Some k) None w = None
puts_on b None o w = None

abbrev pub takes_on : NameId → Option (ℕ × NameId) → (Load → Option Taking) → Option Action
takes_on a (Some (s, b)) f = Some (Takes (s, a, b) f)
takes_on a None f = None

abbrev pub action_at : ℕ → ℤ → Variables → Sessions → CodeNode → Option Action
action_at p v vars m (Send k b e next) = puts_on b (fin.get m k.0) (Some (Carries (value_of (term_of e) vars))) (machine_at next vars m)
action_at p v vars m (Pick k b l next) = puts_on b (fin.get m k.0) (Some (Picks l)) (machine_at next vars m)
action_at p v vars m (Throw k b h next) = puts_on b (fin.get m k.0) (part_load (fin.get m h.0)) (machine_at next vars (fin.remove m h.0))
action_at p v vars m (Recv k a x next) = takes_on a (fin.get m k.0) (takes_value next vars m x)
action_at p v vars m (Branch k a arms) = takes_on a (fin.get m k.0) (takes_label arms vars m)
action_at p v vars m (Catch k a h next) = takes_on a (fin.get m k.0) (takes_part next vars m h)
action_at p v vars m (Set x e next) =
    let w = value_of (term_of e) vars in Some (Alone (event.Set p x w) (machine_at next (fin.insert vars x.0 w) m))
action_at p v vars m (Show e next) = Some (Alone (event.Show p (value_of (term_of e) vars)) (machine_at next vars m))
action_at p v vars m (Host x f a b next) =
    Some (Alone (event.Host p x f (number_of (value_of (term_of a) vars)) (number_of (value_of (term_of b) vars)) v) (machine_at next (fin.insert vars x.0 (Int v)) m))
action_at p v vars m (If e c d) =
    let b = truth_of (value_of (term_of e) vars) in Some (Alone (event.Test p b) (machine_at (if b then c else d) vars m))
action_at p v vars m (Join c r k next) = None
action_at p v vars m (Call f q ss) = None
action_at p v vars m End = None

puts_same : (cap : Option ℕ) (n : NetworkState) (p : ℕ) (b : NameId) (o : Option (ℕ × NameId)) (ol : Option Load) (w : Machine) → puts cap (replaced n p w) p b o ol ≡ performs_if cap n p (puts_on b o ol w)
puts_same cap n p b (Some (s, a)) (Some l) w = refl
puts_same cap n p b (Some k) None w = refl
puts_same cap n p b None ol w = refl

takes_same : (cap : Option ℕ) (n : NetworkState) (p : ℕ) (a : NameId) (o : Option (ℕ × NameId)) (f : Load → Option Taking) → takes n p a o f ≡ performs_if cap n p (takes_on a o f)
takes_same cap n p a (Some (s, b)) f = refl
takes_same cap n p a None f = refl

pub node_same : (cap : Option ℕ) (n : NetworkState) (p : ℕ) (v : ℤ) (vars : Variables) (m : Sessions) (node : CodeNode) → node_makes cap n p v vars m node ≡ performs_if cap n p (action_at p v vars m node)
node_same cap n p v vars m (Send k b e next) = puts_same cap n p b (fin.get m k.0) _ _
node_same cap n p v vars m (Pick k b l next) = puts_same cap n p b (fin.get m k.0) _ _
node_same cap n p v vars m (Throw k b h next) = puts_same cap n p b (fin.get m k.0) _ _
node_same cap n p v vars m (Recv k a x next) = takes_same cap n p a (fin.get m k.0) _
node_same cap n p v vars m (Branch k a arms) = takes_same cap n p a (fin.get m k.0) _
node_same cap n p v vars m (Catch k a h next) = takes_same cap n p a (fin.get m k.0) _
node_same cap n p v vars m (Set x e next) = refl
node_same cap n p v vars m (Show e next) = refl
node_same cap n p v vars m (Host x f a b next) = refl
node_same cap n p v vars m (If e c d) = refl
node_same cap n p v vars m (Join c r k next) = refl
node_same cap n p v vars m (Call f q ss) = refl
node_same cap n p v vars m End = refl

abbrev pub action_in : ℕ → ℤ → Variables → Option Place → Option Action
action_in p v vars None = None
action_in p v vars (Some q) = action_at p v vars q.sessions q.node

-- ---- roles and events of actions

-- the role that an action uses is one that these sessions are bound to
abbrev pub Uses : Sessions → Action → Type 0
Uses m (Alone x w) = Unit {0}
Uses m (Puts t l w) = (k : ℕ) × (fin.get m k ≡ Some (t.0, t.1))
Uses m (Takes t f) = (k : ℕ) × (fin.get m k ≡ Some (t.0, t.2))

puts_uses : (m : Sessions) (b k : NameId) (o : Option (ℕ × NameId)) → fin.get m k.0 ≡ o → (ol : Option Load) (w : Machine) (d : Action) → puts_on b o ol w ≡ Some d → Uses m d
puts_uses m b k (Some (s, a)) i (Some l) w d h = let same : Puts (s, a, b) l w ≡ d = cc in subst (Uses m) same (k.0, i)
puts_uses m b k (Some (s, a)) i None w d h = absurd cc
puts_uses m b k None i ol w d h = absurd cc

takes_uses : (m : Sessions) (a k : NameId) (o : Option (ℕ × NameId)) → fin.get m k.0 ≡ o → (f : Load → Option Taking) (d : Action) → takes_on a o f ≡ Some d → Uses m d
takes_uses m a k (Some (s, b)) i f d h = let same : Takes (s, a, b) f ≡ d = cc in subst (Uses m) same (k.0, i)
takes_uses m a k None i f d h = absurd cc

alone_uses : (m : Sessions) (x : Event) (w : Machine) (d : Action) → Some (Alone x w) ≡ Some d → Uses m d
alone_uses m x w d h = let same : Alone x w ≡ d = cc in subst (Uses m) same tt

pub node_uses : (p : ℕ) (v : ℤ) (vars : Variables) (m : Sessions) (node : CodeNode) (d : Action) → action_at p v vars m node ≡ Some d → Uses m d
node_uses p v vars m (Send k b e next) d h = puts_uses m b k (fin.get m k.0) refl _ _ d h
node_uses p v vars m (Pick k b l next) d h = puts_uses m b k (fin.get m k.0) refl _ _ d h
node_uses p v vars m (Throw k b g next) d h = puts_uses m b k (fin.get m k.0) refl _ _ d h
node_uses p v vars m (Recv k a x next) d h = takes_uses m a k (fin.get m k.0) refl _ d h
node_uses p v vars m (Branch k a arms) d h = takes_uses m a k (fin.get m k.0) refl _ d h
node_uses p v vars m (Catch k a g next) d h = takes_uses m a k (fin.get m k.0) refl _ d h
node_uses p v vars m (Set x e next) d h = alone_uses m _ _ d h
node_uses p v vars m (Show e next) d h = alone_uses m _ _ d h
node_uses p v vars m (Host x f a b next) d h = alone_uses m _ _ d h
node_uses p v vars m (If e c g) d h = alone_uses m _ _ d h
node_uses p v vars m (Join c r k next) d h = absurd cc
node_uses p v vars m (Call f q ss) d h = absurd cc
node_uses p v vars m End d h = absurd cc

-- an event that uses no queue isn't a start, and this process alone participates in it
abbrev pub IsLocal : ℕ → Event → Type 0
IsLocal p (event.Start c s ps) = ⊥
IsLocal p (event.Send q s a b l) = ⊥
IsLocal p (event.Recv q s a b l) = ⊥
IsLocal p (event.Test q b) = q ≡ p
IsLocal p (event.Set q x v) = q ≡ p
IsLocal p (event.Show q v) = q ≡ p
IsLocal p (event.Host q x f a b v) = q ≡ p

abbrev pub IsPlain : ℕ → Action → Type 0
IsPlain p (Alone x w) = IsLocal p x
IsPlain p (Puts t l w) = Unit {0}
IsPlain p (Takes t f) = Unit {0}

puts_plain : (p : ℕ) (b : NameId) (o : Option (ℕ × NameId)) (ol : Option Load) (w : Machine) (d : Action) → puts_on b o ol w ≡ Some d → IsPlain p d
puts_plain p b (Some (s, a)) (Some l) w d h = let same : Puts (s, a, b) l w ≡ d = cc in subst (IsPlain p) same tt
puts_plain p b (Some (s, a)) None w d h = absurd cc
puts_plain p b None ol w d h = absurd cc

takes_plain : (p : ℕ) (a : NameId) (o : Option (ℕ × NameId)) (f : Load → Option Taking) (d : Action) → takes_on a o f ≡ Some d → IsPlain p d
takes_plain p a (Some (s, b)) f d h = let same : Takes (s, a, b) f ≡ d = cc in subst (IsPlain p) same tt
takes_plain p a None f d h = absurd cc

alone_plain : (p : ℕ) (x : Event) (w : Machine) (d : Action) → IsLocal p x → Some (Alone x w) ≡ Some d → IsPlain p d
alone_plain p x w d l h = let same : Alone x w ≡ d = cc in subst (IsPlain p) same l

pub node_plain : (p : ℕ) (v : ℤ) (vars : Variables) (m : Sessions) (node : CodeNode) (d : Action) → action_at p v vars m node ≡ Some d → IsPlain p d
node_plain p v vars m (Send k b e next) d h = puts_plain p b (fin.get m k.0) _ _ d h
node_plain p v vars m (Pick k b l next) d h = puts_plain p b (fin.get m k.0) _ _ d h
node_plain p v vars m (Throw k b g next) d h = puts_plain p b (fin.get m k.0) _ _ d h
node_plain p v vars m (Recv k a x next) d h = takes_plain p a (fin.get m k.0) _ d h
node_plain p v vars m (Branch k a arms) d h = takes_plain p a (fin.get m k.0) _ d h
node_plain p v vars m (Catch k a g next) d h = takes_plain p a (fin.get m k.0) _ d h
node_plain p v vars m (Set x e next) d h = alone_plain p _ _ d refl h
node_plain p v vars m (Show e next) d h = alone_plain p _ _ d refl h
node_plain p v vars m (Host x f a b next) d h = alone_plain p _ _ d refl h
node_plain p v vars m (If e c g) d h = alone_plain p _ _ d refl h
node_plain p v vars m (Join c r k next) d h = absurd cc
node_plain p v vars m (Call f q ss) d h = absurd cc
node_plain p v vars m End d h = absurd cc
