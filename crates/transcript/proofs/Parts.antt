-- Lines in parts.
use Rattle.std.proofs.Common.{◌≡◌, ◌+◌, ℕ, suc, List, [], ◌∷◌, ◌++◌, length, sym, ap, ◌∙◌, arith, append_assoc}
use Rattle.chor_base.specs.declared.event.Event.{Event}
use Rattle.transcript.specs.Text.{Words, event_text, lines_from}

-- the lines of events that come after others
pub lines_then : (w : Words) (i : ℕ) (xs ys : List Event) → lines_from w i (xs ++ ys) ≡ lines_from w i xs ++ lines_from w (i + length xs) ys
lines_then w i [] ys = let same : i ≡ i + 0 = omega arith in ap (λ (n : ℕ). lines_from w n ys) same
lines_then w i (x ∷ xs) ys =
    let same : suc i + length xs ≡ i + suc (length xs) = omega arith in
    ap (λ (l : List ℕ). (event_text w i x ++ 10 ∷ []) ++ l) (lines_then w (suc i) xs ys ∙ ap (λ (n : ℕ). lines_from w (suc i) xs ++ lines_from w n ys) same)
    ∙ sym (append_assoc (event_text w i x ++ 10 ∷ []) (lines_from w (suc i) xs) (lines_from w (i + suc (length xs)) ys))
