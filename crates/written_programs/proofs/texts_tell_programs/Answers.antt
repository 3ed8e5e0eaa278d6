use Rattle.written_programs.proofs.Again.{texts_tell}
use Rattle.written_programs.proofs.texts_tell_programs.Goals as goal

pub returns : goal.returns
returns c = texts_tell c.printed_again_is_taken.ensures.read c.read_again_are_same.ensures
