use Rattle.std.proofs.Common.{◌<◌, ◌∙◌, ap, sym, take, List, ℕ, Some, length, arith}
use Rattle.std.proofs.lemmas.Option.{slice_get-get_or}
use Rattle.chor_base.specs.Words.{words_of, with_word}
use Rattle.chor_base.proofs.WordTables.{copied_more, copied_word, length-words_of}
use Rattle.chor_base.proofs.table.Table.copy.Goals as goal

pub loop-word-preserved : goal.loop-word-preserved
loop-word-preserved c = record {
  so_far =
      let ws = c.as_slice-source.result.now in
      let i = c.loop-word.word-index in
      let within : i < length ws = omega arith in
      let w = copied_word ws i c.word-item.result within (slice_get-get_or ws i c.word-item.result within ∙ ap Some (sym c.word-item.is)) in
      c.in_ok-intern.ensures.ok
      ∙ ap (λ (t : List (List ℕ)). with_word t c.as_slice.result.now) c.loop-word.invariant.so_far
      ∙ ap (with_word (take i (words_of ws))) (c.as_slice.ensures.value ∙ w)
      ∙ copied_more (words_of ws) i (omega (arith, length-words_of ws)) c.loop-word.invariant.distinct;
  distinct = c.loop-word.invariant.distinct;
}
