use Rattle.program_runs.proofs.SameTexts.{written_alike}
use Rattle.program_runs.proofs.laws.same_runs_are_written_alike.Goals as goal

pub returns : goal.returns
returns g e e' h k n x y s a c = written_alike e e' s h k n x y a c
