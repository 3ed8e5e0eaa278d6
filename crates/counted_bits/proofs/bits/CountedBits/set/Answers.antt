use Rattle.std.proofs.Common.{◌≡◌, Bool, true, false, Some, refl, sym, ap, ◌∙◌}
use Rattle.std.proofs.Math.Bool.{beq}
use Rattle.counted_bits.proofs.Changes.{set_held}
use Rattle.counted_bits.proofs.bits.CountedBits.set.Goals as goal

same_bit : (a b : Bool) → beq a b ≡ true → a ≡ b
same_bit true true e = refl
same_bit true false e = cc
same_bit false true e = cc
same_bit false false e = refl

pub returns-then-get-bit : goal.returns-then-get-bit
returns-then-get-bit c = sym (set_held c.args.self.now c.args.place c.args.bit (c.get.ensures ∙ ap Some (same_bit c.get.result c.args.bit c.if-get-bit.true)))
