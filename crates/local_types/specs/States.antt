-- A state of a role's type, as it is made from the arms of a row.
use Rattle.std.specs.Prelude.{ℕ, ◌≡◌, ◌≢◌, ◌↔◌, List, [], ◌∷◌, ◌++◌, length, Some, slice_get, AllPairs}
use Rattle.chor_base.specs.declared.names.NameId.{NameId}
use Rattle.global_types.specs.Moves.{IsIn}
use Rattle.global_types.specs.Paths.{Action}
use Rattle.state_sets.specs.declared.act.Act.{Act}
use Rattle.state_sets.specs.declared.act.Act.TheVariants.{Send, Recv, Pick, Branch}
use Rattle.local_types.specs.declared.local_type.LocalState.{LocalState}
use Rattle.local_types.specs.declared.local_type.LocalState.TheVariants.{End}
use Rattle.state_sets.specs.declared.table.Arm.{Arm}
use Rattle.state_sets.specs.declared.table.Row.{Row}
use Rattle.state_sets.specs.Moves.{action_of}
use Rattle.state_sets.specs.Graph.{AreApart}
use Rattle.state_sets.specs.Ascending.{Ascend}
use Rattle.local_types.specs.Reading.{acts_of, nexts_of, labels_in, label_words}
use Rattle.state_sets.specs.Table.{Counts, nexts, arm_acts, arm_words}

abbrev pub labelled_act : Act → ℕ → List (NameId × ℕ)
labelled_act (Send b c) n = []
labelled_act (Recv a c) n = []
labelled_act (Pick b l) n = (l, n) ∷ []
labelled_act (Branch a l) n = (l, n) ∷ []

-- the labels of these arms, each with the set after it
abbrev pub labelled : List Arm → List (NameId × ℕ)
labelled [] = []
labelled (x ∷ xs) = labelled_act x.act x.next ++ labelled xs

-- the state's actions are those of the arms, in their order, and it is the end exactly where there is none
pub record IsStateOf (arms : List Arm) (t : LocalState) : Type 0 where
  pub sound : (a : Action) (n : ℕ) → IsIn (a, n) (acts_of t) → (x : Arm) × IsIn x arms × (action_of x.act ≡ a) × (x.next ≡ n)
  pub complete : (x : Arm) → IsIn x arms → IsIn (action_of x.act, x.next) (acts_of t)
  pub ends : (t ≡ End) ↔ (acts_of t ≡ [])
  pub labels : (names : List (List ℕ)) → Ascend (arm_words names arms) → Ascend (label_words names t)
  pub distinct : AreApart (arm_acts arms) → AllPairs (λ k l. k ≢ l) (labels_in t)
  pub numbered : (c d : ℕ) → Counts c (nexts arms) d → Counts c (nexts_of t) d

-- a state for each row
pub record AreStatesOf (rows : List Row) (ts : List LocalState) : Type 0 where
  pub size : length ts ≡ length rows
  pub state : (k : ℕ) (row : Row) (t : LocalState) → slice_get rows k ≡ Some row → slice_get ts k ≡ Some t → IsStateOf row.arms.items t
