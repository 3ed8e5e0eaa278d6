use Rattle.grammar.proofs.Completed.{never_both}
use Rattle.source_rows.proofs.laws.never_refused.Goals as goal

pub returns : goal.returns
returns c i ts rule place d f = never_both _ d.is f
