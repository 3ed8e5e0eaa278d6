use Rattle.transcript_lines.proofs.Histories.{one_history}
use Rattle.transcript_lines.proofs.laws.one_history.Goals as goal

pub returns : goal.returns
returns c = λ w book h g l m. one_history w h g l m book
