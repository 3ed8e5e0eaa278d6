use Rattle.correspondence.proofs.FromSources.{all_bodies}
use Rattle.correspondence.proofs.NeverWrong.{load_taken}
use Rattle.correspondence.proofs.laws.loads_are_taken.Goals as goal

pub returns : goal.returns
returns c0 e procs sets lists sound c n co p m there place at = load_taken e procs sets lists (all_bodies e procs sets lists sound) c n co p m there place at
