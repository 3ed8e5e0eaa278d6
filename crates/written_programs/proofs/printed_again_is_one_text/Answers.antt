use Rattle.written_programs.proofs.Again.{one_text, again_one_text}
use Rattle.written_programs.proofs.printed_again_is_one_text.Goals as goal

pub returns-clause-same : goal.returns-clause-same
returns-clause-same c = one_text

pub returns-clause-again : goal.returns-clause-again
returns-clause-again c = again_one_text c.read_again_are_same.ensures
