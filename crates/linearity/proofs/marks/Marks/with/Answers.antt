use Rattle.std.proofs.Common.{◌==◌, ap}
use Rattle.std.specs.Int.{w128}
use Rattle.std.proofs.lemmas.Nat.Bits.{bit_at_set_same, bit_at_set_other}
use Rattle.linearity.proofs.marks.Marks.with.Goals as goal

pub returns-clause-there : goal.returns-clause-there
returns-clause-there c = ap (λ n. n == 1) (bit_at_set_same w128 c.args.self.bits c.args.number c.requires)

pub returns-clause-others : goal.returns-clause-others
returns-clause-others c i n = ap (λ m. m == 1) (bit_at_set_other w128 c.args.self.bits c.args.number c.requires i n)
