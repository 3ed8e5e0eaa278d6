use Rattle.std.proofs.lemmas.Result.{IfOk-from_err}
use Rattle.std.proofs.Common.{refl}
use Rattle.net_core.proofs.acts.reserve.Goals as goal

pub reserve-requires-clause-faultless : goal.reserve-requires-clause-faultless
reserve-requires-clause-faultless c = c.requires.faultless

pub reserve-requires-clause-bound : goal.reserve-requires-clause-bound
reserve-requires-clause-bound c = c.requires.bound

pub returns-in_err-reserve-clause-number : goal.returns-in_err-reserve-clause-number
returns-in_err-reserve-clause-number c = c.in_err-reserve.ensures.number

pub returns-in_err-reserve-clause-machine : goal.returns-in_err-reserve-clause-machine
returns-in_err-reserve-clause-machine c = c.in_err-reserve.ensures.machine

pub returns-in_err-reserve-clause-loads : goal.returns-in_err-reserve-clause-loads
returns-in_err-reserve-clause-loads c = refl

pub returns-in_err-reserve-clause-ok : goal.returns-in_err-reserve-clause-ok
returns-in_err-reserve-clause-ok c = IfOk-from_err c.from_residual.result _ c.from_residual.ensures.0

pub returns-in_err-reserve-clause-queue : goal.returns-in_err-reserve-clause-queue
returns-in_err-reserve-clause-queue c = IfOk-from_err c.from_residual.result _ c.from_residual.ensures.0

pub returns-in-Out-clause-number : goal.returns-in-Out-clause-number
returns-in-Out-clause-number c = c.in_ok-reserve.ensures.number

pub returns-in-Out-clause-machine : goal.returns-in-Out-clause-machine
returns-in-Out-clause-machine c = c.in_ok-reserve.ensures.machine
