use Rattle.std.proofs.Common.{◌≡◌, ◌≤◌, ℕ, List, length, sym, subst, arith}
use Rattle.endpoint_link.proofs.GrownWords.{WordsUnderway, words_begin, words_turn, words_end}
use Rattle.endpoint_link.proofs.words.joined_texts.Goals as goal

pub loop-place-init : goal.loop-place-init
loop-place-init c =
    subst (λ (l : List ℕ). WordsUnderway (λ (n : ℕ). n) c.args.base.now c.args.given.now c.in_ok-texts.texts l 0) (sym c.new-numbers.ensures)
    (words_begin (λ (n : ℕ). n) c.args.base.now c.args.given.now c.in_ok-texts.texts c.in_ok-texts.ensures)

pub loop-place-preserved : goal.loop-place-preserved
loop-place-preserved c =
    words_turn (λ (n : ℕ). n) c.args.base.now c.args.given.now c.loop-place.texts c.intern.new.self c.loop-place.numbers c.push.new.self c.loop-place.place c.at.result.now c.in_ok-text.text c.at.ensures c.in_ok-text.ensures.ok c.in_ok-text.ensures.number c.in_ok-push.ensures.ok
    c.loop-place.invariant

pub returns : goal.returns
returns c =
    let past : c.len-place-end.result ≤ c.loop-place.place = c.loop-place-test.false in
    let reached : c.loop-place.place ≤ c.len-place-end.result = c.loop-place.auto.place-end in
    let all : c.loop-place.place ≡ length c.args.given.now = omega (arith, past, reached, c.len-place-end.ensures.len) in
    words_end (λ (n : ℕ). n) c.args.base.now c.args.given.now c.loop-place.texts c.loop-place.numbers c.loop-place.place all c.len-count.ensures.distinct c.loop-place.invariant
