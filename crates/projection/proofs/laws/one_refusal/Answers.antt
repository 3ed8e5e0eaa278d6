use Rattle.projection.proofs.Clashes.{one_fault}
use Rattle.projection.proofs.laws.one_refusal.Goals as goal

pub returns : goal.returns
returns c f r s p q x y h g = one_fault f r s p q x y h g
