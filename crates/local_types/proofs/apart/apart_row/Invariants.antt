use Rattle.std.proofs.Common.{◌≡◌, ◌<◌, length}
use Rattle.std.specs.Prelude.{Some, slice_get}
use Rattle.chor_tree.specs.declared.protocol.State.{State}
use Rattle.global_types.specs.Views.{IsApart}
use Rattle.state_sets.specs.Sets.{IsSetFor}
use Rattle.local_types.proofs.apart.apart_row.Given as goal

abbrev pub invariant-loop-number : goal.invariant-loop-number
invariant-loop-number l = IsSetFor (length l.states) (λ j. (j < l.number) × ((t : State) × (slice_get l.states j ≡ Some t) × IsApart l.role l.step t.step)) l.row.items
