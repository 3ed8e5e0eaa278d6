-- When a choreography that runs is typed: each node's parties hold their roles, expressions have sorts, and what the roles
-- of a session have done by the end of each path is what they do on one path of its protocol.
use Rattle.std.specs.Prelude.{ℕ, ◌≡◌, Bool, true, false, List, [], ◌∷◌, ◌++◌, Option, Some, None, Ok, slice_get}
use Rattle.chor_base.specs.declared.names.NameId.{NameId}
use Rattle.chor_base.specs.declared.value.Sort.{Sort}
use Rattle.chor_base.specs.Expr.{Term}
use Rattle.chor_base.specs.Sorts.{Sorts, sort_of, sort_of_value}
use Rattle.chor_base.specs.declared.value.Sort.TheVariants as sort
use Rattle.chor_tree.specs.declared.protocol.State.{State}
use Rattle.chor_tree.specs.declared.protocol.ProtoStep.TheVariants.{End}
use Rattle.chor_semantics.specs.Choreography.{Ref, Live, Named, ref_eq, among, named_in, Content, OfValue, OfLabel, OfPart, Message, ValueSent, LabelSent, PartSent, Own, Sets, Shows, Asks, Node, Starts, Communicates, InTransit, Alone, Choreography, Then, Either, Calls, Ends}
use Rattle.global_types.specs.Moves.{Exchange}
use Rattle.global_types.specs.Paths.{IsPath}
use Rattle.well_formed.specs.WellFormed.{service_refs}
use Rattle.typed_sources.specs.Told.{Act, acts_on}
use Rattle.typed_sources.specs.Context.{Context, after}

-- the expression has this sort
abbrev pub HasSort : Sorts → Term → Sort → Type 0
HasSort m e s = sort_of e m ≡ Ok s

-- a session in scope has a protocol
abbrev pub HasProtocol : Option NameId → Type 0
HasProtocol o = (p : NameId) × (o ≡ Some p)

-- the sender may send it
abbrev pub IsTypedContent : Context → Ref → Content → Type 0
IsTypedContent e p (OfValue g x) = (s : Sort) × HasSort (e.sorts p) g s
IsTypedContent e p (OfLabel l) = Unit {0}
IsTypedContent e p (OfPart u r) = (e.holder u r ≡ Some p) × HasProtocol (e.protocol u)

-- nobody holds what is in transit
abbrev pub IsTypedMessage : Context → Message → Type 0
IsTypedMessage e (ValueSent v x) = (s : Sort) × (sort_of_value v ≡ Some s)
IsTypedMessage e (LabelSent l) = Unit {0}
IsTypedMessage e (PartSent j r) = (e.holder (Live j) r ≡ None) × HasProtocol (e.protocol (Live j))

-- a statement's expressions have sorts
abbrev pub IsTypedOwn : Sorts → Own → Type 0
IsTypedOwn m (Sets x g) = (s : Sort) × HasSort m g s
IsTypedOwn m (Shows g) = (s : Sort) × HasSort m g s
IsTypedOwn m (Asks x f a b) = HasSort m a sort.Int × HasSort m b sort.Int

-- each process is in scope
abbrev pub AllKnown : (Ref → Bool) → List Ref → Type 0
AllKnown m [] = Unit {0}
AllKnown m (r ∷ rs) = (m r ≡ true) × AllKnown m rs

-- new processes aren't in scope before, and none stands twice
abbrev pub AllNew : (Ref → Bool) → List Ref → Type 0
AllNew m [] = Unit {0}
AllNew m (r ∷ rs) = (m r ≡ false) × (among r rs ≡ false) × AllNew m rs

-- a start has an active process
abbrev pub IsNotEmpty : {A : Type 0} → List A → Type 0
IsNotEmpty [] = ⊥
IsNotEmpty (x ∷ xs) = Unit {0}

-- What a node asks: who sends and who receives hold their roles and differ, what is sent is typed, and what a start binds is
-- new. `kind` tells the protocol of a channel
abbrev pub IsTypedNode : (NameId → Option NameId) → Context → Node → Type 0
IsTypedNode kind e (Starts c d k active serve) = HasProtocol (kind c) × (e.protocol (Named k d) ≡ None) × AllNew e.known (service_refs d serve) × IsNotEmpty active
IsTypedNode kind e (Communicates s p a q b w) = (e.holder s a ≡ Some p) × (e.holder s b ≡ Some q) × (ref_eq p q ≡ false) × IsTypedContent e p w
IsTypedNode kind e (InTransit s a b m q) = (e.holder (Live s) b ≡ Some q) × IsTypedMessage e m
IsTypedNode kind e (Alone p o) = IsTypedOwn (e.sorts p) o

-- what the roles have done in a session leads its protocol to state i, all of it on one path
pub record Reaches (ss : List State) (done : NameId → List Act) (i : ℕ) : Type 0 where
  pub path : List Exchange
  pub is_path : IsPath ss 0 path i
  pub acts : (r : NameId) → done r ≡ acts_on r path

-- what they have done leads it to a state whose step is `end`
pub record HasEnded (ss : List State) (done : NameId → List Act) : Type 0 where
  pub last : ℕ
  pub state : State
  pub here : slice_get ss last ≡ Some state
  pub is_end : state.step ≡ End
  pub reaches : Reaches ss done last

-- what each role has done is a front of what it does on one path of the protocol
pub record IsOnOnePath (ss : List State) (done : NameId → List Act) : Type 0 where
  pub path : List Exchange
  pub last : ℕ
  pub is_path : IsPath ss 0 path last
  pub rest : NameId → List Act
  pub acts : (r : NameId) → acts_on r path ≡ done r ++ rest r

-- each session has ended
abbrev pub AllEnded : (NameId → List State) → Context → Type 0
AllEnded states e = (t : Ref) (p : NameId) → e.protocol t ≡ Some p → HasEnded (states p) (e.done t)

-- what is asked at a call
abbrev pub AtCalls : Type 1
AtCalls = Context → NameId → ℕ → List Ref → List Ref → Type 0

-- The choreography is typed where this is known. `states` tells the states of a protocol
abbrev pub IsTypedIn : (NameId → Option NameId) → (NameId → List State) → AtCalls → Context → Choreography → Type 0
IsTypedIn kind states called e (Then n rest) = AllKnown e.known (named_in n) × IsTypedNode kind e n × IsTypedIn kind states called (after kind e n) rest
IsTypedIn kind states called e (Either p g c d) = (e.known p ≡ true) × HasSort (e.sorts p) g sort.Bool × IsTypedIn kind states called e c × IsTypedIn kind states called e d
IsTypedIn kind states called e (Calls h k ps ss) = called e h k ps ss
IsTypedIn kind states called e Ends = AllEnded states e
