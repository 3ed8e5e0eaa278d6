use Rattle.std.proofs.Common.{append_assoc, rules}
use Rattle.std.proofs.lemmas.Result.{IfOk-equal}
use Rattle.transcript.proofs.closing.put_why.Goals as goal

pub returns-in_ok-put_spaced_name-in-Absent : goal.returns-in_ok-put_spaced_name-in-Absent
returns-in_ok-put_spaced_name-in-Absent c = search (rules, IfOk-equal, append_assoc)
