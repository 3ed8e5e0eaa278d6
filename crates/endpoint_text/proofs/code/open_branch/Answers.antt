use Rattle.std.proofs.Common.{append_assoc, rules}
use Rattle.std.proofs.lemmas.Result.{IfOk-equal}
use Rattle.endpoint_text.proofs.code.open_branch.Goals as goal

pub returns-clause-text : goal.returns-clause-text
returns-clause-text c = search (rules, IfOk-equal, append_assoc)
