use Rattle.std.proofs.Common.{sym, ◌∙◌}
use Rattle.event_reader.proofs.WordBytes.{a_word}
use Rattle.event_reader.proofs.words.is_word.Goals as goal

pub returns-then-is_letter : goal.returns-then-is_letter
returns-then-is_letter c = a_word c.args.bytes.now c.in-Some.first.now c.in-Some.rest.now c.has_word_bytes.result c.in-Some.ensures.cases.0 (sym c.is_letter.ensures ∙ c.if-is_letter.true) c.has_word_bytes.ensures
