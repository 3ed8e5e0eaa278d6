-- What a role's type says: the lists of actions that can be read from it.
use Rattle.std.specs.Prelude.{take, Option, None, ◌==◌, if◌then◌else◌, ℕ, ◌<◌, ◌≡◌, ◌≢◌, ◌↔◌, List, [], ◌∷◌, map, Some, slice_get, AllPairs}
use Rattle.std.specs.List.{flat_map}
use Rattle.chor_base.specs.Writing.{name_in}
use Rattle.chor_base.specs.declared.names.NameId.{NameId}
use Rattle.chor_base.specs.declared.rule.Place.{Place}
use Rattle.chor_base.specs.declared.rule.Rule.{Rule}
use Rattle.chor_base.specs.declared.rule.Denied.{Denied}
use Rattle.chor_base.specs.declared.rule.Denied.TheVariants.{Refused, Memory}
use Rattle.chor_tree.specs.declared.file.Named.{Named}
use Rattle.chor_tree.specs.Protocols.{Protocol}
use Rattle.chor_tree.specs.declared.protocol.State.{State}
use Rattle.global_types.specs.Moves.{IsIn, content_of}
use Rattle.global_types.specs.Paths.{Action, sends, receives, selects, offers, IsView, At}
use Rattle.global_types.specs.Views.{IsViewFault, HasNoViewFault}
use Rattle.state_sets.specs.Ascending.{Ascend}
use Rattle.local_types.specs.declared.local_type.LocalState.{LocalState}
use Rattle.local_types.specs.declared.local_type.LocalState.TheVariants.{End, Send, Recv, Pick, Branch}

-- the actions of a state, each with the number of the state after it
abbrev pub acts_of : LocalState → List (Action × ℕ)
acts_of End = []
acts_of (Send b c n) = (sends b (content_of c), n) ∷ []
acts_of (Recv a c n) = (receives a (content_of c), n) ∷ []
acts_of (Pick b ls) = map (λ l. (selects b l.0, l.1)) ls
acts_of (Branch a ls) = map (λ l. (offers a l.0, l.1)) ls

-- these actions, read one after the other, lead from state n to state m
abbrev pub LeadsTo : List LocalState → ℕ → List Action → ℕ → Type 0
LeadsTo ts n [] m = n ≡ m
LeadsTo ts n (a ∷ w) m = (t : LocalState) × (slice_get ts n ≡ Some t) × (k : ℕ) × IsIn (a, k) (acts_of t) × LeadsTo ts k w m

-- these actions can be read from state n
abbrev pub IsRead : List LocalState → ℕ → List Action → Type 0
IsRead ts n w = (m : ℕ) × LeadsTo ts n w m

-- the two sets have the same states
abbrev pub AreSame : (ℕ → Type 0) → (ℕ → Type 0) → Type 0
AreSame S T = (i : ℕ) → (S i) ↔ (T i)

-- The type stands for the role's view: what can be read from its first state is what the view holds, and a state is the
-- end exactly where no action follows. Its states are what the role can tell apart: each is led to by some list of
-- actions, and two lists lead to the same state exactly where they leave the protocol in the same set of states
pub record IsTypeOf (ss : List State) (r : NameId) (ts : List LocalState) : Type 0 where
  pub view : (w : List Action) → (IsRead ts 0 w) ↔ (IsView ss r w)
  pub ends : (n : ℕ) (t : LocalState) → slice_get ts n ≡ Some t → (t ≡ End) ↔ (acts_of t ≡ [])
  pub there : (w : List Action) (n : ℕ) → LeadsTo ts 0 w n → (t : LocalState) × (slice_get ts n ≡ Some t)
  pub led : (n : ℕ) (t : LocalState) → slice_get ts n ≡ Some t → (w : List Action) × LeadsTo ts 0 w n
  pub told : (v w : List Action) (n m : ℕ) → LeadsTo ts 0 v n → LeadsTo ts 0 w m → (n ≡ m) ↔ AreSame (At ss r v) (At ss r w)

-- the numbers of the states after a state, in the order of its actions
abbrev pub nexts_of : LocalState → List ℕ
nexts_of t = map (λ p. p.1) (acts_of t)

-- wherever a number stands among these, each lesser one but 0 stands before it
abbrev pub AreInOrder : List ℕ → Type 0
AreInOrder ns = (i n m : ℕ) → slice_get ns i ≡ Some n → 0 < m → m < n → IsIn m (take i ns)

-- The states are numbered as they are found: those after state 0 first, then those after state 1, and so on
abbrev pub IsBreadthFirst : List LocalState → Type 0
IsBreadthFirst ts = AreInOrder (flat_map nexts_of ts)

-- the labels of a state, in their order
abbrev pub labels_in : LocalState → List NameId
labels_in End = []
labels_in (Send b c n) = []
labels_in (Recv a c n) = []
labels_in (Pick b ls) = map (λ l. l.0) ls
labels_in (Branch a ls) = map (λ l. l.0) ls

-- the labels of a state as words
abbrev pub label_words : List (List ℕ) → LocalState → List (List ℕ)
label_words names t = map (name_in names) (labels_in t)

-- The labels of each state stand in ascending order
abbrev pub HasAscendingLabels : List (List ℕ) → List LocalState → Type 0
HasAscendingLabels names ts = (n : ℕ) (t : LocalState) → slice_get ts n ≡ Some t → Ascend (label_words names t)

-- No label stands twice in a state
abbrev pub HasDistinctLabels : List LocalState → Type 0
HasDistinctLabels ts = (n : ℕ) (t : LocalState) → slice_get ts n ≡ Some t → AllPairs (λ k l. k ≢ l) (labels_in t)

-- The type as it is printed: it stands for the role's view, and nothing in it can be put in another order
pub record IsRoleType (names : List (List ℕ)) (ss : List State) (r : NameId) (ts : List LocalState) : Type 0 where
  pub stands : IsTypeOf ss r ts
  pub numbered : IsBreadthFirst ts
  pub ascend : HasAscendingLabels names ts
  pub distinct : HasDistinctLabels ts

-- where a role stands among these, at its first place
abbrev pub role_place : List Named → NameId → Option Place
role_place [] r = None
role_place (n ∷ ns) r = if n.name.0 == r.0 then Some n.place else role_place ns r

-- a refusal by this rule at the role's place, with no name
abbrev pub IsRefusalBy : Rule → Protocol → NameId → Denied → Type 0
IsRefusalBy rule p r (Refused f) = (f.rule ≡ rule) × (role_place p.roles r ≡ Some f.place) × (f.who ≡ None)
IsRefusalBy rule p r Memory = ⊥

-- A role is refused by the first fault of its view; want of memory tells nothing
abbrev pub IsRefusal : Protocol → NameId → Denied → Type 0
IsRefusal p r (Refused f) = IsViewFault p.states r f.rule × (role_place p.roles r ≡ Some f.place) × (f.who ≡ None)
IsRefusal p r Memory = Unit {0}

-- the views of these roles have no fault
abbrev pub HasFineRoles : Protocol → List Named → Type 0
HasFineRoles p roles = (role : Named) → IsIn role roles → HasNoViewFault p.states role.name

-- a role of the protocol is refused, and those before it have no fault
abbrev pub IsFirstRole : Protocol → Denied → Type 0
IsFirstRole p (Refused f) = (i : ℕ) × (role : Named) × (slice_get p.roles i ≡ Some role) × HasFineRoles p (take i p.roles) × IsRefusal p role.name (Refused f)
IsFirstRole p Memory = Unit {0}

-- A role is refused, and those before it in the file have no fault
abbrev pub IsFirstRefusal : List Protocol → Denied → Type 0
IsFirstRefusal ps (Refused f) = (i : ℕ) × (p : Protocol) × (slice_get ps i ≡ Some p) × ((q : Protocol) → IsIn q (take i ps) → HasFineRoles q q.roles) × IsFirstRole p (Refused f)
IsFirstRefusal ps Memory = Unit {0}
