use Rattle.source_rows.proofs.Rows.{to_step_row, from_step_row, saying}
use Rattle.source_rows.proofs.laws.same_steps.Goals as goal

pub returns-clause-together : goal.returns-clause-together
returns-clause-together c i may ts rest s d = saying d (from_step_row i _ d.is)

pub returns-clause-apart : goal.returns-clause-apart
returns-clause-apart c i may ts rest s d = saying d (to_step_row i _ d.is)
