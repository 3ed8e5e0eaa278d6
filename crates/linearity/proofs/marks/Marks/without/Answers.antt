use Rattle.std.proofs.Common.{◌==◌, ap}
use Rattle.std.specs.Int.{w128}
use Rattle.std.proofs.lemmas.Nat.Bits.{bit_at_clear_same, bit_at_clear_other}
use Rattle.linearity.proofs.marks.Marks.without.Goals as goal

pub returns-clause-gone : goal.returns-clause-gone
returns-clause-gone c = ap (λ n. n == 1) (bit_at_clear_same w128 c.args.self.bits c.args.number c.requires)

pub returns-clause-others : goal.returns-clause-others
returns-clause-others c i h n = ap (λ m. m == 1) (bit_at_clear_other w128 c.args.self.bits c.args.number c.requires i h n)
