use Rattle.std.proofs.Common.{◌∙◌, ◌≡◌, ap, ℕ, List}
use Rattle.std.specs.Prelude.{codes}
use Rattle.chor_base.specs.Words.{with_word}
use Rattle.chor_gen.proofs.words.intern_used.Goals as goal

after : (w : List ℕ) {names others : List (List ℕ)} → names ≡ others → with_word names w ≡ with_word others w
after w e = ap (λ (t : List (List ℕ)). with_word t w) e

pub returns-clause-table : goal.returns-clause-table
returns-clause-table c =
    let two = c.in_ok-intern-2.ensures.ok ∙ after (codes "q") c.in_ok-intern.ensures.ok in
    let three = c.in_ok-intern-3.ensures.ok ∙ after (codes "k") two in
    let four = c.in_ok-intern-4.ensures.ok ∙ after (codes "r") three in
    let five = c.in_ok-intern-5.ensures.ok ∙ after (codes "x") four in
    let six = c.in_ok-intern-6.ensures.ok ∙ after (codes "y") five in
    c.in_ok-intern-7.ensures.ok ∙ after (codes "z") six
