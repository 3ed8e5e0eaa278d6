use Rattle.std.proofs.Common.{ℕ, ◌≡◌, length}
use Rattle.std.specs.Prelude.{Some, slice_get}
use Rattle.local_types.specs.declared.local_type.LocalState.{LocalState}
use Rattle.state_sets.specs.declared.table.Row.{Row}
use Rattle.local_types.specs.States.{IsStateOf}
use Rattle.local_types.proofs.view.states_of.Given as goal

abbrev pub invariant-loop-row : goal.invariant-loop-row
invariant-loop-row l = record {
  size : length l.states ≡ l.row-index;
  state : (k : ℕ) (row : Row) (t : LocalState) → slice_get l.rows k ≡ Some row → slice_get l.states k ≡ Some t → IsStateOf row.arms.items t;
}
