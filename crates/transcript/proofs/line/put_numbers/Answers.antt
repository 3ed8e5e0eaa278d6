use Rattle.std.proofs.Common.{append_assoc, rules}
use Rattle.std.proofs.lemmas.Int.{to_z-of_z}
use Rattle.std.proofs.lemmas.Result.{IfOk-equal}
use Rattle.transcript.proofs.line.put_numbers.Goals as goal

pub returns : goal.returns
returns c = search (rules, IfOk-equal, append_assoc, to_z-of_z)
