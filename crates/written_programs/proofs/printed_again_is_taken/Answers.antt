use Rattle.written_programs.proofs.Again.{is_fine, is_read}
use Rattle.written_programs.proofs.printed_again_is_taken.Goals as goal

pub returns-clause-fine : goal.returns-clause-fine
returns-clause-fine c = is_fine

pub returns-clause-read : goal.returns-clause-read
returns-clause-read c = is_read c.text_is_of_programs.ensures
