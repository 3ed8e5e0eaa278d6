-- The sets of states that a role can't tell apart, with what follows each.
use Rattle.std.specs.Prelude.{ℕ, suc, ◌<◌, map, ◌≡◌, ◌+◌, ◌⊎◌, List, [], ◌∷◌, Some, length, Vec, slice_get}
use Rattle.std.specs.declared.alloc.Global.{Global}
use Rattle.std.specs.List.{flat_map}
use Rattle.chor_base.specs.declared.names.NameId.{NameId}
use Rattle.chor_base.specs.Words.{AllDistinct}
use Rattle.chor_tree.specs.declared.protocol.State.{State}
use Rattle.global_types.specs.Moves.{IsIn, Exchange, Leads}
use Rattle.global_types.specs.Paths.{IsPath, Action, action_in, actions_of, At}
use Rattle.global_types.specs.Views.{IsApart}
use Rattle.chor_base.specs.Writing.{name_in}
use Rattle.state_sets.specs.declared.act.Act.{Act}
use Rattle.state_sets.specs.declared.act.Act.TheVariants.{Send, Recv, Pick, Branch}
use Rattle.state_sets.specs.Ascending.{Ascend}
use Rattle.state_sets.specs.declared.graph.Edge.{Edge}
use Rattle.state_sets.specs.declared.graph.Group.{Group}
use Rattle.state_sets.specs.declared.table.Arm.{Arm}
use Rattle.state_sets.specs.declared.table.Row.{Row}
use Rattle.state_sets.specs.Moves.{action_of}
use Rattle.state_sets.specs.Graph.{AreApart, group_acts}
use Rattle.state_sets.specs.Sets.{Has, row_at, IsSetFor}

-- a path from i to j on which the role has no action
pub record Silent (ss : List State) (r : NameId) (i j : ℕ) : Type 0 where
  pub path : List Exchange
  pub is_path : IsPath ss i path j
  pub none : actions_of r path ≡ []

-- the groups are the acts of the role, each once and with all exchanges in which it does so
pub record AreActs (ss : List State) (r : NameId) (gs : List Group) : Type 0 where
  pub sound : (g : Group) → IsIn g gs → (e : Edge) → IsIn e g.edges.items → (x : Exchange) × Leads ss e.from x e.to × (action_in r x ≡ action_of g.act ∷ [])
  pub whole : (g : Group) → IsIn g gs → (e : Edge) (x : Exchange) → Leads ss e.from x e.to → action_in r x ≡ action_of g.act ∷ [] → IsIn e g.edges.items
  pub covers : (i j : ℕ) (x : Exchange) (a : Action) → Leads ss i x j → action_in r x ≡ a ∷ [] → (g : Group) × IsIn g gs × (action_of g.act ≡ a)
  pub apart : AreApart (group_acts gs)

-- the action leads from one of these states to j
pub record Target (ss : List State) (r : NameId) (still : List ℕ) (a : Action) (j : ℕ) : Type 0 where
  pub from : ℕ
  pub exchange : Exchange
  pub is_still : Has still from
  pub leads : Leads ss from exchange j
  pub does : action_in r exchange ≡ a ∷ []

-- the set is all to which some action leads from these states
pub record IsNext (ss : List State) (r : NameId) (n : ℕ) (still word : List ℕ) : Type 0 where
  pub action : Action
  pub state : ℕ
  pub reached : Target ss r still action state
  pub set : IsSetFor n (Target ss r still action) word

-- older sets keep their numbers
abbrev pub Keeps : List (List ℕ) → List (List ℕ) → Type 0
Keeps old new = (k : ℕ) (word : List ℕ) → slice_get old k ≡ Some word → slice_get new k ≡ Some word

-- and each new set follows these states
pub record HasGrown (ss : List State) (r : NameId) (n : ℕ) (still : List ℕ) (old new : List (List ℕ)) : Type 0 where
  pub kept : Keeps old new
  pub fresh : (k : ℕ) (word : List ℕ) → slice_get new k ≡ Some word → (slice_get old k ≡ Some word) ⊎ IsNext ss r n still word

-- the arm leads to the set of all states to which its act leads from these, of which there is one
pub record IsArm (ss : List State) (r : NameId) (n : ℕ) (sets : List (List ℕ)) (still : List ℕ) (arm : Arm) : Type 0 where
  pub word : List ℕ
  pub state : ℕ
  pub at : slice_get sets arm.next ≡ Some word
  pub set : IsSetFor n (Target ss r still (action_of arm.act)) word
  pub reached : Target ss r still (action_of arm.act) state

abbrev pub arm_acts : List Arm → List Act
arm_acts arms = map (λ x. x.act) arms

-- the arms are those of all actions that these states allow, each once
pub record AreArms (ss : List State) (r : NameId) (n : ℕ) (sets : List (List ℕ)) (still : List ℕ) (arms : List Arm) : Type 0 where
  pub sound : (arm : Arm) → IsIn arm arms → IsArm ss r n sets still arm
  pub complete : (a : Action) (j : ℕ) → Target ss r still a j → (arm : Arm) × IsIn arm arms × (action_of arm.act ≡ a)
  pub apart : AreApart (arm_acts arms)

-- what follows a set
pub record IsRow (ss : List State) (r : NameId) (n : ℕ) (sets : List (List ℕ)) (word : List ℕ) (row : Row) : Type 0 where
  pub still : IsSetFor n (λ i. (j : ℕ) × Has word j × Silent ss r j i) row.still.items
  pub arms : AreArms ss r n sets row.still.items row.arms.items

-- the set is that of all states right after some list of actions
pub record IsFound (ss : List State) (r : NameId) (n : ℕ) (word : List ℕ) : Type 0 where
  pub actions : List Action
  pub state : ℕ
  pub is_at : At ss r actions state
  pub set : IsSetFor n (At ss r actions) word

-- Each set is that of a list of actions, the first that of none, and each row is what follows its set
pub record IsTable (ss : List State) (r : NameId) (n : ℕ) (sets : List (List ℕ)) (rows : List Row) : Type 0 where
  pub first : (word : List ℕ) × (slice_get sets 0 ≡ Some word) × IsSetFor n (At ss r []) word
  pub found : (k : ℕ) (word : List ℕ) → slice_get sets k ≡ Some word → IsFound ss r n word
  pub follows : (k : ℕ) (word : List ℕ) (row : Row) → slice_get rows k ≡ Some row → slice_get sets k ≡ Some word → IsRow ss r n sets word row

-- the numbers of the sets after a state, in the order of its acts
abbrev pub nexts : List Arm → List ℕ
nexts arms = map (λ x. x.next) arms

abbrev pub all_nexts : List Row → List ℕ
all_nexts rows = flat_map (λ row. nexts row.arms.items) rows

-- each of these numbers was given out before, or is the next one; the first c were given out at the beginning, and d are in the end
abbrev pub Counts : ℕ → List ℕ → ℕ → Type 0
Counts c [] d = c ≡ d
Counts c (n ∷ ns) d = ((n < c) × Counts c ns d) ⊎ ((n ≡ c) × Counts (suc c) ns d)

-- the word of an act's label; an act without a label has an empty one
abbrev pub act_word : List (List ℕ) → Act → List ℕ
act_word names (Send b c) = []
act_word names (Recv a c) = []
act_word names (Pick b l) = name_in names l
act_word names (Branch a l) = name_in names l

abbrev pub act_words : List (List ℕ) → List Act → List (List ℕ)
act_words names acts = map (act_word names) acts

abbrev pub group_words : List (List ℕ) → List Group → List (List ℕ)
group_words names gs = map (λ g. act_word names g.act) gs

abbrev pub arm_words : List (List ℕ) → List Arm → List (List ℕ)
arm_words names arms = map (λ x. act_word names x.act) arms

-- the arms of each row stand by ascending labels
abbrev pub HasAscendingArms : List (List ℕ) → List Row → Type 0
HasAscendingArms names rows = (row : Row) → IsIn row rows → Ascend (arm_words names row.arms.items)

-- More different sets than this many
pub record AreTooMany (ss : List State) (r : NameId) (n most : ℕ) : Type 0 where
  pub sets : List (List ℕ)
  pub distinct : AllDistinct sets
  pub many : length sets ≡ most + 1
  pub found : (k : ℕ) (word : List ℕ) → slice_get sets k ≡ Some word → IsFound ss r n word

-- The table of a role's view
pub record IsWhole (ss : List State) (r : NameId) (n : ℕ) (rows : List Row) : Type 0 where
  pub sets : List (List ℕ)
  pub distinct : AllDistinct sets
  pub whole : length sets ≡ length rows
  pub numbered : Counts 1 (all_nexts rows) (length sets)
  pub table : IsTable ss r n sets rows

-- ---- what the rules of views ask of a state

-- others can go in a circle from this state, which the role doesn't see
pub record Circles (ss : List State) (r : NameId) (i : ℕ) : Type 0 where
  pub exchange : Exchange
  pub next : ℕ
  pub leads : Leads ss i exchange next
  pub none : action_in r exchange ≡ []
  pub back : Silent ss r next i

-- the step of state i is apart from that of state j
pub record ApartAt (ss : List State) (r : NameId) (i j : ℕ) : Type 0 where
  pub one : State
  pub other : State
  pub is_one : slice_get ss i ≡ Some one
  pub is_other : slice_get ss j ≡ Some other
  pub is_apart : IsApart r one.step other.step

-- some state is in both sets
abbrev pub Meets : List ℕ → List ℕ → Type 0
Meets xs ys = (i : ℕ) × Has xs i × Has ys i

-- the states of a row hold one that circles and one that is named
abbrev pub IsLeft : List ℕ → List ℕ → Row → Type 0
IsLeft circling named row = Meets row.still.items circling × Meets row.still.items named

-- the states of a row hold one that is apart from another
abbrev pub IsTorn : List (Vec ℕ Global) → List ℕ → Type 0
IsTorn apart still = (i : ℕ) × Has still i × Meets still (row_at apart i)

-- some row holds two states of which the one's step is apart from the other's
abbrev pub HasTorn : List State → NameId → List Row → Type 0
HasTorn ss r rows = (row : Row) × IsIn row rows × (i : ℕ) × (j : ℕ) × Has row.still.items i × Has row.still.items j × ApartAt ss r i j
