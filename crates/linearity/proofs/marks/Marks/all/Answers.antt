use Rattle.std.proofs.Common.{◌==◌, ap}
use Rattle.std.proofs.lemmas.Nat.Bits.{bit_at_ones}
use Rattle.linearity.proofs.marks.Marks.all.Goals as goal

pub returns : goal.returns
returns c i h = ap (λ n. n == 1) (bit_at_ones 128 i h)
