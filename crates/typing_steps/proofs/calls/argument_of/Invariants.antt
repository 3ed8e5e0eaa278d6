use Rattle.std.proofs.Common.{◌≡◌, drop}
use Rattle.typing_steps.specs.Arguments.{argument_of}
use Rattle.typing_steps.proofs.calls.argument_of.Given as goal

abbrev pub invariant-loop-index : goal.invariant-loop-index
invariant-loop-index l = argument_of (drop l.index l.params) (drop l.index l.processes) l.name ≡ argument_of l.params l.processes l.name
