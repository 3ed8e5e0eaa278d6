use Rattle.std.proofs.Common.{take}
use Rattle.std.specs.Prelude.{All}
use Rattle.endpoint_link.specs.Linked.{ReplacesProcedure, SuitsProcedure, SuitsCounterpart}
use Rattle.endpoint_link.proofs.joined.Joined.first_procedure.Given as goal

abbrev pub invariant-loop-place : goal.invariant-loop-place
invariant-loop-place l = All (SuitsCounterpart (ReplacesProcedure l.base l.given) (SuitsProcedure l.base l.given) l.base.procedures) (take l.place l.given.procedures)
