use Rattle.std.proofs.Common.{append_assoc, rules}
use Rattle.std.proofs.lemmas.Result.{IfOk-equal}
use Rattle.endpoint_text.proofs.code.put_action.Goals as goal

pub returns-in_ok-put_words-in-Host : goal.returns-in_ok-put_words-in-Host
returns-in_ok-put_words-in-Host c = search (rules, IfOk-equal, append_assoc)
