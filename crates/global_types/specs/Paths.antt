-- Paths of a protocol, and what a role does and knows on them.
use Rattle.std.specs.Prelude.{ℕ, ◌≡◌, ◌==◌, ◌⊎◌, List, [], ◌∷◌, ◌++◌, if◌then◌else◌}
use Rattle.chor_base.specs.declared.names.NameId.{NameId}
use Rattle.chor_tree.specs.declared.protocol.State.{State}
use Rattle.global_types.specs.Moves.{Content, Exchange, passes, chooses, Leads}

-- these exchanges, one after the other, lead from state i to state k
abbrev pub IsPath : List State → ℕ → List Exchange → ℕ → Type 0
IsPath ss i [] k = i ≡ k
IsPath ss i (x ∷ xs) k = (j : ℕ) × Leads ss i x j × IsPath ss j xs k

-- what a role does in an exchange: it sends or receives a content, selects a label, or offers one to the other's choice
pub data Action : Type 0 where
  sends : (to : NameId) (c : Content) → Action
  receives : (from : NameId) (c : Content) → Action
  selects : (to label : NameId) → Action
  offers : (from label : NameId) → Action

-- the role's action in an exchange; it has none where it isn't named
abbrev pub action_in : NameId → Exchange → List Action
action_in r (passes a b c) = if a.0 == r.0 then sends b c ∷ [] else (if b.0 == r.0 then receives a c ∷ [] else [])
action_in r (chooses a b l) = if a.0 == r.0 then selects b l ∷ [] else (if b.0 == r.0 then offers a l ∷ [] else [])

-- the role's actions on a path, in order
abbrev pub actions_of : NameId → List Exchange → List Action
actions_of r [] = []
actions_of r (x ∷ xs) = action_in r x ++ actions_of r xs

-- The role's view holds w: on some path from the first state its actions begin with w
pub record IsView (ss : List State) (r : NameId) (w : List Action) : Type 0 where
  pub path : List Exchange
  pub last : ℕ
  pub rest : List Action
  pub is_path : IsPath ss 0 path last
  pub begins : actions_of r path ≡ w ++ rest

-- the states in which a path may stand on which the role's actions are w
pub record Still (ss : List State) (r : NameId) (w : List Action) (i : ℕ) : Type 0 where
  pub path : List Exchange
  pub is_path : IsPath ss 0 path i
  pub actions : actions_of r path ≡ w

-- the last action of w leads to state j
pub record After (ss : List State) (r : NameId) (w : List Action) (j : ℕ) : Type 0 where
  pub before : List Action
  pub action : Action
  pub from : ℕ
  pub exchange : Exchange
  pub parts : w ≡ before ++ action ∷ []
  pub still : Still ss r before from
  pub does : action_in r exchange ≡ action ∷ []
  pub leads : Leads ss from exchange j

-- The states in which such a path may stand right after the last action; where there is no action, the first state alone
abbrev pub At : List State → NameId → List Action → ℕ → Type 0
At ss r w j = ((w ≡ []) × (j ≡ 0)) ⊎ After ss r w j
