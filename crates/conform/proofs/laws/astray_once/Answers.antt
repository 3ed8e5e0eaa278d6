use Rattle.conform.proofs.Once.{not_whole, one_place}
use Rattle.conform.proofs.laws.astray_once.Goals as goal

pub returns : goal.returns
returns c f xs i a = (not_whole f xs i a, λ j b. one_place f xs i j a b)
