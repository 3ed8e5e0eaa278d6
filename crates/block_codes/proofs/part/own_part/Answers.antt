use Rattle.std.proofs.lemmas.Result.{IfOk-from_err}
use Rattle.block_codes.proofs.part.own_part.Goals as goal

pub returns-in_err-copy-in-Set : goal.returns-in_err-copy-in-Set
returns-in_err-copy-in-Set c = λ own. IfOk-from_err c.from_residual.result _ c.from_residual.ensures.0

pub returns-in_err-left-in-Host : goal.returns-in_err-left-in-Host
returns-in_err-left-in-Host c = λ own. IfOk-from_err c.from_residual-in_err-left-in-Host.result _ c.from_residual-in_err-left-in-Host.ensures.0

pub returns-in_err-copy-in-Host : goal.returns-in_err-copy-in-Host
returns-in_err-copy-in-Host c = λ own. IfOk-from_err c.from_residual-in_err-copy-in-Host.result _ c.from_residual-in_err-copy-in-Host.ensures.0

pub returns-in_err-copy-in-Show : goal.returns-in_err-copy-in-Show
returns-in_err-copy-in-Show c = λ own. IfOk-from_err c.from_residual-in_err-copy-in-Show.result _ c.from_residual-in_err-copy-in-Show.ensures.0
