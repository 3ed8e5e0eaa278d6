-- The faults of a role's view (rules V1 to V3). Each is about lists of actions w and the sets of states At w and Still w.
use Rattle.std.specs.Prelude.{ℕ, ◌≡◌, ◌<◌, true, ◌⊎◌, ◌↔◌, List, [], ◌∷◌, map, Some, slice_get}
use Rattle.chor_base.specs.declared.names.NameId.{NameId}
use Rattle.chor_base.specs.declared.rule.Rule.{Rule}
use Rattle.chor_base.specs.declared.rule.Rule.TheVariants.{V1, V2, V3}
use Rattle.chor_tree.specs.declared.protocol.ProtoArm.{ProtoArm}
use Rattle.chor_tree.specs.declared.protocol.ProtoStep.{ProtoStep}
use Rattle.chor_tree.specs.declared.protocol.ProtoStep.TheVariants.{End, Value, Choice}
use Rattle.chor_tree.specs.declared.protocol.State.{State}
use Rattle.global_types.specs.Moves.{IsIn, content_of, Exchange, is_named}
use Rattle.global_types.specs.Paths.{IsPath, Action, actions_of, Still, At}

-- ---- V3

-- some state is in one of the two sets alone
abbrev pub Differ : (ℕ → Type 0) → (ℕ → Type 0) → Type 0
Differ S T = (i : ℕ) × ((S i × ¬ T i) ⊎ (T i × ¬ S i))

-- More than 1,024 local states: there are 1,025 lists of actions, each of which leads somewhere, no two to the same states
pub record HasTooMany (ss : List State) (r : NameId) : Type 0 where
  pub actions : ℕ → List Action
  pub somewhere : (k : ℕ) → k < 1025 → (i : ℕ) × At ss r (actions k) i
  pub apart : (k m : ℕ) → k < m → m < 1025 → Differ (At ss r (actions k)) (At ss r (actions m))

-- ---- V2

-- the step of state i names the role
abbrev pub NamesAt : List State → NameId → ℕ → Type 0
NamesAt ss r i = (s : State) × (slice_get ss i ≡ Some s) × (is_named r s.step ≡ true)

-- The role may be left behind: others can go in a circle for ever, and the role can't tell this from a state that names it
pub record LeavesBehind (ss : List State) (r : NameId) : Type 0 where
  pub actions : List Action
  pub circling : ℕ
  pub first : Exchange
  pub circle : List Exchange
  pub named : ℕ
  pub is_still : Still ss r actions circling
  pub is_circle : IsPath ss circling (first ∷ circle) circling
  pub is_silent : actions_of r (first ∷ circle) ≡ []
  pub also_still : Still ss r actions named
  pub is_named : NamesAt ss r named

-- ---- V1

-- the labels of a choice
abbrev pub labels_of : List ProtoArm → List NameId
labels_of arms = map (λ arm. arm.label.name) arms

-- the same labels, in whatever order
abbrev pub SameLabels : List ProtoArm → List ProtoArm → Type 0
SameLabels xs ys = (l : NameId) → (IsIn l (labels_of xs)) ↔ (IsIn l (labels_of ys))

-- Two steps are the same for a role that both name: of the same sender, receiver and kind, with the same content, and
-- where the role chooses with the same labels
abbrev pub IsAlike : NameId → ProtoStep → ProtoStep → Type 0
IsAlike r (Value a b c next) (Value a' b' c' next') = (a.name ≡ a'.name) × (b.name ≡ b'.name) × (content_of c ≡ content_of c')
IsAlike r (Choice a b arms) (Choice a' b' arms') = (a.name ≡ a'.name) × (b.name ≡ b'.name) × (a.name ≡ r → SameLabels arms arms')
IsAlike r _ _ = ⊥

-- the first step names the role, and the second is the end, or names the role and isn't the same for it
abbrev pub IsApart : NameId → ProtoStep → ProtoStep → Type 0
IsApart r s t = (is_named r s ≡ true) × ((t ≡ End) ⊎ ((is_named r t ≡ true) × ¬ IsAlike r s t))

-- The role can't tell two states apart in which it would have to act differently
pub record Clashes (ss : List State) (r : NameId) : Type 0 where
  pub actions : List Action
  pub first : ℕ
  pub second : ℕ
  pub one : State
  pub other : State
  pub is_still : Still ss r actions first
  pub also_still : Still ss r actions second
  pub is_one : slice_get ss first ≡ Some one
  pub is_other : slice_get ss second ≡ Some other
  pub is_apart : IsApart r one.step other.step

-- ---- the first fault of a role's view: V3, else V2, else V1

-- the role's view has a fault by this rule: V3 comes first, then V2, then V1
abbrev pub IsViewFault : List State → NameId → Rule → Type 0
IsViewFault ss r V3 = HasTooMany ss r
IsViewFault ss r V2 = (¬ HasTooMany ss r) × LeavesBehind ss r
IsViewFault ss r V1 = (¬ HasTooMany ss r) × (¬ LeavesBehind ss r) × Clashes ss r
IsViewFault ss r _ = ⊥

-- the role's view has no fault
pub record HasNoViewFault (ss : List State) (r : NameId) : Type 0 where
  pub few : ¬ HasTooMany ss r
  pub kept : ¬ LeavesBehind ss r
  pub clear : ¬ Clashes ss r
