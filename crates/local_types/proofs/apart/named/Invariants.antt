use Rattle.std.proofs.Common.{◌<◌, length}
use Rattle.global_types.specs.Views.{NamesAt}
use Rattle.state_sets.specs.Sets.{IsSetFor}
use Rattle.local_types.proofs.apart.named.Given as goal

abbrev pub invariant-loop-number : goal.invariant-loop-number
invariant-loop-number l = IsSetFor (length l.states) (λ j. (j < l.number) × NamesAt l.states l.role j) l.marks.items
