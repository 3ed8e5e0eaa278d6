-- What a role's view is made from: where silent exchanges lead, and where the role's own acts lead.
use Rattle.std.specs.Prelude.{ℕ, Bool, true, false, ◌%◌, ◌==◌, Option, None, ◌≡◌, ◌≢◌, ◌<◌, ◌⊎◌, List, [], ◌∷◌, ◌++◌, map, Some, length, slice_get, slice_set, Vec, AllPairs}
use Rattle.std.specs.declared.alloc.Global.{Global}
use Rattle.global_types.specs.Moves.{IsIn}
use Rattle.global_types.specs.Paths.{Action}
use Rattle.state_sets.specs.declared.act.Act.{Act}
use Rattle.state_sets.specs.declared.act.Act.TheVariants.{Send, Recv, Pick, Branch}
use Rattle.state_sets.specs.declared.graph.Edge.{Edge}
use Rattle.state_sets.specs.declared.graph.Group.{Group}
use Rattle.state_sets.specs.declared.moves.Move.{Move}
use Rattle.state_sets.specs.Moves.{action_of, actions_in}
use Rattle.state_sets.specs.Sets.{Has, row_at, IsSetFor}

-- the role does this in an exchange from i to j
pub record HasMove (ms : List Move) (i : ℕ) (acts : List Action) (j : ℕ) : Type 0 where
  pub move : Move
  pub among : IsIn move ms
  pub from : move.from ≡ i
  pub to : move.to ≡ j
  pub does : actions_in move.act ≡ acts

-- silent exchanges lead from i through these states to k
abbrev pub IsSilentPath : List Move → ℕ → List ℕ → ℕ → Type 0
IsSilentPath ms i [] k = i ≡ k
IsSilentPath ms i (j ∷ js) k = HasMove ms i [] j × IsSilentPath ms j js k

abbrev pub GoesSilently : List Move → ℕ → ℕ → Type 0
GoesSilently ms i k = (js : List ℕ) × IsSilentPath ms i js k

-- ---- acts

-- the edges are the exchanges in which the role does this
pub record AreEdges (ms : List Move) (a : Action) (es : List Edge) : Type 0 where
  pub sound : (e : Edge) → IsIn e es → HasMove ms e.from (a ∷ []) e.to
  pub complete : (e : Edge) → HasMove ms e.from (a ∷ []) e.to → IsIn e es

-- an act is the same as one of these
abbrev pub Knows : List Act → Act → Type 0
Knows acts a = (b : Act) × IsIn b acts × (action_of b ≡ action_of a)

-- no two of the acts are the same
abbrev pub AreApart : List Act → Type 0
AreApart acts = AllPairs (λ a b. action_of a ≢ action_of b) acts

-- each act of the moves is the same as one of these
abbrev pub Covers : List Move → List Act → Type 0
Covers ms acts = (m : Move) (a : Act) → IsIn m ms → m.act ≡ Some a → Knows acts a

-- the act is that of one of the moves
abbrev pub IsActOf : List Move → Act → Type 0
IsActOf ms b = (m : Move) × IsIn m ms × (m.act ≡ Some b)

-- these are the acts of the moves, each once, and there is no other one
pub record AreActsOf (ms : List Move) (acts : List Act) : Type 0 where
  pub own : (b : Act) → IsIn b acts → IsActOf ms b
  pub covers : Covers ms acts
  pub apart : AreApart acts

abbrev pub group_acts : List Group → List Act
group_acts gs = map (λ g. g.act) gs

pub record AreGroups (ms : List Move) (gs : List Group) : Type 0 where
  pub own : (g : Group) → IsIn g gs → IsActOf ms g.act
  pub edges : (g : Group) → IsIn g gs → AreEdges ms (action_of g.act) g.edges.items
  pub covers : (m : Move) (a : Act) → IsIn m ms → m.act ≡ Some a → (g : Group) × IsIn g gs × (action_of g.act ≡ action_of a)
  pub apart : AreApart (group_acts gs)

-- the part into which an act falls, of so many, by the number of its label
abbrev pub part_number : ℕ → Act → ℕ
part_number count (Send b c) = 0
part_number count (Recv a c) = 0
part_number count (Pick b l) = l.0 % count
part_number count (Branch a l) = l.0 % count

abbrev pub falls : ℕ → ℕ → Option Act → Bool
falls count n None = false
falls count n (Some a) = part_number count a == n

-- the moves whose acts fall into a part
pub record IsPart (count : ℕ) (ms : List Move) (n : ℕ) (part : List Move) : Type 0 where
  pub sound : (m : Move) → IsIn m part → IsIn m ms × (falls count n m.act ≡ true)
  pub complete : (m : Move) → IsIn m ms → falls count n m.act ≡ true → IsIn m part

-- there are as many lists as parts, each with the moves of its part
pub record AreParts (count : ℕ) (ms : List Move) (parts : List (Vec Move Global)) : Type 0 where
  pub size : length parts ≡ count
  pub part : (n : ℕ) (part : Vec Move Global) → slice_get parts n ≡ Some part → IsPart count ms n part.items

-- the move comes last in list k, and the other lists stay
pub record HasMoreIn (k : ℕ) (m : Move) (old new : List (Vec Move Global)) : Type 0 where
  pub size : length new ≡ length old
  pub own : (v : Vec Move Global) → slice_get new k ≡ Some v → (u : Vec Move Global) × (slice_get old k ≡ Some u) × (v.items ≡ u.items ++ m ∷ [])
  pub rest : (n : ℕ) (v : Vec Move Global) → n ≢ k → slice_get new n ≡ Some v → slice_get old n ≡ Some v

-- so many lists with nothing in them
pub record AreEmptyParts (count : ℕ) (parts : List (Vec Move Global)) : Type 0 where
  pub size : length parts ≡ count
  pub empty : (n : ℕ) (v : Vec Move Global) → slice_get parts n ≡ Some v → v.items ≡ []

-- the edges of a group are those of the moves of its act's part
pub record HasOwnEdges (parts : List (Vec Move Global)) (g : Group) : Type 0 where
  pub part : Vec Move Global
  pub at : slice_get parts (part_number (length parts) g.act) ≡ Some part
  pub edges : AreEdges part.items (action_of g.act) g.edges.items

-- a group for each of these acts, with the edges that its part has
pub record AreGroupsOf (parts : List (Vec Move Global)) (all : List Act) (gs : List Group) : Type 0 where
  pub acts : group_acts gs ≡ all
  pub edges : (g : Group) → IsIn g gs → HasOwnEdges parts g

-- both states of each edge are among the first n
abbrev pub AreInside : ℕ → List Group → Type 0
AreInside n gs = (g : Group) → IsIn g gs → (e : Edge) → IsIn e g.edges.items → (e.from < n) × (e.to < n)

-- ---- silent exchanges

-- both states of each exchange are among the first n
abbrev pub AreWithin : ℕ → List Move → Type 0
AreWithin n ms = (m : Move) → IsIn m ms → (m.from < n) × (m.to < n)

-- a row for each of n states, with the states that have this to do with it
pub record AreRowsFor (n : ℕ) (R : ℕ → ℕ → Type 0) (rows : List (Vec ℕ Global)) : Type 0 where
  pub size : length rows ≡ n
  pub row : (i : ℕ) → i < n → IsSetFor n (R i) (row_at rows i)

-- state s comes into row k, and the other rows stay
pub record IsPutIn (k s : ℕ) (old new : List (Vec ℕ Global)) : Type 0 where
  pub size : length new ≡ length old
  pub own : row_at new k ≡ slice_set (row_at old k) s 1
  pub rest : (i : ℕ) → i ≢ k → row_at new i ≡ row_at old i

-- what leads to state s leads in the new rows to all that s leads to
pub record IsThrough (n s : ℕ) (old new : List (Vec ℕ Global)) : Type 0 where
  pub size : length new ≡ length old
  pub row : (i : ℕ) → i < n → IsSetFor n (λ j. Has (row_at old i) j ⊎ (Has (row_at old i) s × Has (row_at old s) j)) (row_at new i)
