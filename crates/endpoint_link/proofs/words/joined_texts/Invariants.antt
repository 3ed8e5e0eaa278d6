use Rattle.std.proofs.Common.{ℕ}
use Rattle.endpoint_link.proofs.GrownWords.{WordsUnderway}
use Rattle.endpoint_link.proofs.words.joined_texts.Given as goal

abbrev pub invariant-loop-place : goal.invariant-loop-place
invariant-loop-place l = WordsUnderway (λ (n : ℕ). n) l.base l.given l.texts l.numbers l.place
