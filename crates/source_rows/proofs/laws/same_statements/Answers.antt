use Rattle.source_rows.proofs.Rows.{to_row, from_row, saying}
use Rattle.source_rows.proofs.laws.same_statements.Goals as goal

pub returns-clause-together : goal.returns-clause-together
returns-clause-together c i may ts rest s d = saying d (from_row i _ d.is)

pub returns-clause-apart : goal.returns-clause-apart
returns-clause-apart c i may ts rest s d = saying d (to_row i _ d.is)
