use Rattle.std.proofs.Common.{◌≡◌, ◌+◌, ◌++◌, ◌∷◌, [], sym, ap, ◌∙◌, arith}
use Rattle.std.specs.List.{range_with_len}
use Rattle.state_sets.proofs.Allowed.{range_more}
use Rattle.state_sets.proofs.starts.all.Goals as goal

pub loop-number-preserved : goal.loop-number-preserved
loop-number-preserved c = c.in_ok-push.ensures.items ∙ ap (λ l. l ++ c.loop-number.number ∷ []) c.loop-number.invariant ∙ (let e : c.loop-number.number ≡ 0 + c.loop-number.number = omega arith in ap (λ k. range_with_len 0 c.loop-number.number ++ k ∷ []) e) ∙ sym (range_more 0 c.loop-number.number)
