use Rattle.std.proofs.Common.{length}
use Rattle.endpoint_reader.specs.declared.input.Input.{Input}
use Rattle.endpoint_reader.specs.Known.{AreActionsThere, AreLinesThere}
use Rattle.endpoint_reader.proofs.Bodies.{Pushing}
use Rattle.endpoint_reader.proofs.body.push_actions.Given as goal

abbrev pub invariant-loop-action : goal.invariant-loop-action
invariant-loop-action l = record { pushing : Pushing l.fn.lines.items l.fn.actions.items l.fn.last l.lines.items l.actions.items l.next; known : (i : Input) → AreLinesThere i l.fn.lines.items → AreActionsThere i l.fn.actions.items → AreLinesThere i l.lines.items × AreActionsThere i l.actions.items }

abbrev pub decreases-loop-action : goal.decreases-loop-action
decreases-loop-action l = length l.actions.items
