use Rattle.std.proofs.Common.{ap, sym}
use Rattle.std.proofs.lemmas.Result.{IfOk-from_err}
use Rattle.endpoint_code.specs.Heads.{head_of}
use Rattle.branch_merge.proofs.meeting.with_next.Goals as goal

pub returns-in-Join-clause-head : goal.returns-in-Join-clause-head
returns-in-Join-clause-head c = sym (ap head_of c.in-Join.is)

pub returns-in-Recv-clause-head : goal.returns-in-Recv-clause-head
returns-in-Recv-clause-head c = sym (ap head_of c.in-Recv.is)

pub returns-in-Pick-clause-head : goal.returns-in-Pick-clause-head
returns-in-Pick-clause-head c = sym (ap head_of c.in-Pick.is)

pub returns-in-Throw-clause-head : goal.returns-in-Throw-clause-head
returns-in-Throw-clause-head c = sym (ap head_of c.in-Throw.is)

pub returns-in-Catch-clause-head : goal.returns-in-Catch-clause-head
returns-in-Catch-clause-head c = sym (ap head_of c.in-Catch.is)

pub returns-in_err-copy-in-Send-clause-head : goal.returns-in_err-copy-in-Send-clause-head
returns-in_err-copy-in-Send-clause-head c = IfOk-from_err c.from_residual.result _ c.from_residual.ensures.0

pub returns-in_err-copy-in-Send-clause-next : goal.returns-in_err-copy-in-Send-clause-next
returns-in_err-copy-in-Send-clause-next c = IfOk-from_err c.from_residual.result _ c.from_residual.ensures.0

pub returns-in_err-copy-in-Set-clause-head : goal.returns-in_err-copy-in-Set-clause-head
returns-in_err-copy-in-Set-clause-head c = IfOk-from_err c.from_residual-in_err-copy-in-Set.result _ c.from_residual-in_err-copy-in-Set.ensures.0

pub returns-in_err-copy-in-Set-clause-next : goal.returns-in_err-copy-in-Set-clause-next
returns-in_err-copy-in-Set-clause-next c = IfOk-from_err c.from_residual-in_err-copy-in-Set.result _ c.from_residual-in_err-copy-in-Set.ensures.0

pub returns-in_err-copy-in-Show-clause-head : goal.returns-in_err-copy-in-Show-clause-head
returns-in_err-copy-in-Show-clause-head c = IfOk-from_err c.from_residual-in_err-copy-in-Show.result _ c.from_residual-in_err-copy-in-Show.ensures.0

pub returns-in_err-copy-in-Show-clause-next : goal.returns-in_err-copy-in-Show-clause-next
returns-in_err-copy-in-Show-clause-next c = IfOk-from_err c.from_residual-in_err-copy-in-Show.result _ c.from_residual-in_err-copy-in-Show.ensures.0

pub returns-in_err-left-in-Host-clause-head : goal.returns-in_err-left-in-Host-clause-head
returns-in_err-left-in-Host-clause-head c = IfOk-from_err c.from_residual-in_err-left-in-Host.result _ c.from_residual-in_err-left-in-Host.ensures.0

pub returns-in_err-left-in-Host-clause-next : goal.returns-in_err-left-in-Host-clause-next
returns-in_err-left-in-Host-clause-next c = IfOk-from_err c.from_residual-in_err-left-in-Host.result _ c.from_residual-in_err-left-in-Host.ensures.0

pub returns-in_err-copy-in-Host-clause-head : goal.returns-in_err-copy-in-Host-clause-head
returns-in_err-copy-in-Host-clause-head c = IfOk-from_err c.from_residual-in_err-copy-in-Host.result _ c.from_residual-in_err-copy-in-Host.ensures.0

pub returns-in_err-copy-in-Host-clause-next : goal.returns-in_err-copy-in-Host-clause-next
returns-in_err-copy-in-Host-clause-next c = IfOk-from_err c.from_residual-in_err-copy-in-Host.result _ c.from_residual-in_err-copy-in-Host.ensures.0
