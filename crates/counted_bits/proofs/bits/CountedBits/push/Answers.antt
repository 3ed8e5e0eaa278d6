use Rattle.std.proofs.Common.{◌++◌, ◌∷◌, [], false, ◌∙◌, ap, set, true, length, arith}
use Rattle.counted_bits.proofs.Changes.{set_last}
use Rattle.counted_bits.proofs.bits.CountedBits.push.Goals as goal

pub returns-then-bit-clause-ok : goal.returns-then-bit-clause-ok
returns-then-bit-clause-ok c =
    c.raise.ensures ∙ ap (λ l. set l c.len-place.result true) c.in_ok-push_clear.ensures.ok
    ∙ ap (λ n. set (c.args.self.now ++ false ∷ []) n true) (omega (arith, c.len-place.ensures, ap length c.self.view_is)) ∙ set_last c.args.self.now c.args.bit c.if-bit.true
