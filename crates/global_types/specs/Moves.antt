-- Protocols: their states, and the exchanges by which one state leads to another. A protocol is seen as its list of
-- states, and a state is known by its place in that list.
use Rattle.std.specs.Prelude.{ℕ, ◌≡◌, ◌==◌, ◌||◌, Bool, false, ◌⊎◌, List, [], ◌∷◌, map, Option, Some, None, slice_get, if◌then◌else◌}
use Rattle.chor_base.specs.declared.names.NameId.{NameId}
use Rattle.chor_base.specs.FirstPlaces.{one_later}
use Rattle.chor_base.specs.declared.value.Sort.{Sort}
use Rattle.chor_tree.specs.declared.protocol.Payload.{Payload}
use Rattle.chor_tree.specs.declared.protocol.Payload.TheVariants.{Plain, Endpoint}
use Rattle.chor_tree.specs.declared.protocol.ProtoStep.{ProtoStep}
use Rattle.chor_tree.specs.declared.protocol.ProtoStep.TheVariants.{End, Value, Choice}
use Rattle.chor_tree.specs.declared.protocol.State.{State}

-- x is among these
abbrev pub IsIn : {A : Type 0} → A → List A → Type 0
IsIn x [] = ⊥
IsIn x (y ∷ ys) = (y ≡ x) ⊎ IsIn x ys

-- what is sent, wherever its names stand in the file: a value of a sort, or an endpoint
pub data Content : Type 0 where
  plain : (s : Sort) → Content
  endpoint : (protocol state role : NameId) → Content

-- what a payload says of a message, without places
abbrev pub content_of : Payload → Content
content_of (Plain s) = plain s
content_of (Endpoint q s r) = endpoint q.name s.name r.name

-- one exchange between two roles: of a content, or of a label
pub data Exchange : Type 0 where
  passes : (from to : NameId) (c : Content) → Exchange
  chooses : (from to label : NameId) → Exchange

-- the exchanges of a step, each with the name of the state after it
abbrev pub exchanges_of : ProtoStep → List (Exchange × NameId)
exchanges_of End = []
exchanges_of (Value a b c next) = (passes a.name b.name (content_of c), next.name) ∷ []
exchanges_of (Choice a b arms) = map (λ arm. (chooses a.name b.name arm.label.name, arm.next.name)) arms

-- the place of the first state of that name
abbrev pub state_named : List State → NameId → Option ℕ
state_named [] n = None
state_named (s ∷ ss) n = if s.name.name.0 == n.0 then Some 0 else one_later (state_named ss n)

-- by the exchange x state i leads to state j
pub record Leads (ss : List State) (i : ℕ) (x : Exchange) (j : ℕ) : Type 0 where
  pub state : State
  pub next : NameId
  pub here : slice_get ss i ≡ Some state
  pub allowed : IsIn (x, next) (exchanges_of state.step)
  pub there : state_named ss next ≡ Some j

-- whether a step names the role as its sender or its receiver
abbrev pub is_named : NameId → ProtoStep → Bool
is_named r End = false
is_named r (Value a b c next) = (a.name.0 == r.0) || (b.name.0 == r.0)
is_named r (Choice a b arms) = (a.name.0 == r.0) || (b.name.0 == r.0)
