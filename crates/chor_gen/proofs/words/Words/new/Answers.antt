use Rattle.chor_gen.specs.Words.{declared_words, used_words}
use Rattle.chor_gen.specs.Making.{tabled}
use Rattle.std.proofs.Common.{ℕ, List, ◌∙◌, ap, arith}
use Rattle.std.proofs.lemmas.Option.{slice_get_within}
use Rattle.chor_base.specs.Words.{with_word}
use Rattle.chor_gen.proofs.Tables.{next_word}
use Rattle.chor_gen.proofs.words.Words.new.Goals as goal

pub loop-number-init : goal.loop-number-init
loop-number-init c = record {
  table = c.in_ok-intern_used.ensures.table ∙ ap (λ (t : List (List ℕ)). tabled t used_words) (c.in_ok-intern_declared.ensures ∙ ap (λ (t : List (List ℕ)). tabled t declared_words) c.new-names.ensures);
  distinct = c.in_ok-intern_used.ensures.distinct;
  some = c.in_ok-intern_used.ensures.some;
}

pub loop-number-preserved : goal.loop-number-preserved
loop-number-preserved c = record {
  table = c.in_ok-intern.ensures.ok ∙ (ap (with_word c.loop-number.names) (c.as_bytes.ensures.value ∙ c.in_ok-word.ensures.ok) ∙ next_word _ _ (omega arith) c.loop-number.invariant.table);
  distinct = c.intern.ensures.distinct;
  some = let lt = slice_get_within c.intern.new.self c.in_ok-intern.field-0.0 c.as_bytes.result.now c.in_ok-intern.ensures.number in omega arith;
}
