use Rattle.std.proofs.lemmas.Result.{IfOk-from_err, IfOk-weaker}
use Rattle.branch_merge.proofs.ArmTables.{keeps_both}
use Rattle.block_codes.proofs.last.last_code.Goals as goal

pub returns-in_err-end : goal.returns-in_err-end
returns-in_err-end c = IfOk-from_err c.from_residual.result _ c.from_residual.ensures.0

pub put_call-requires-clause-inside : goal.put_call-requires-clause-inside
put_call-requires-clause-inside c = c.in_ok-end.ensures.inside

pub put_call-requires-clause-ends : goal.put_call-requires-clause-ends
put_call-requires-clause-ends c = c.in_ok-end.ensures.code

pub returns : goal.returns
returns c = IfOk-weaker c.put_call.result _ _ (λ id h. record { kept = keeps_both c.in_ok-end.ensures.kept h.kept; inside = h.inside; code = h.code }) c.put_call.ensures
