use Rattle.written_programs.proofs.Again.{are_same}
use Rattle.written_programs.proofs.read_again_are_same.Goals as goal

pub returns : goal.returns
returns c = are_same c.text_reads_back.ensures.same
