use Rattle.std.proofs.Common.{arith, sym, ◌∙◌}
use Rattle.chor_lexer.proofs.Pieces.{comment_within, comment_is, space_is, begins_at}
use Rattle.chor_lexer.proofs.scan.piece_at.Goals as goal

pub overflow_add-result : goal.overflow_add-result
overflow_add-result c = omega (arith, comment_within _ _ _ c.line_len.ensures c.in-Some.ensures, c.requires.few)

pub returns-in-Some-clause-piece : goal.returns-in-Some-clause-piece
returns-in-Some-clause-piece c = (omega arith, comment_within _ _ _ c.line_len.ensures c.in-Some.ensures, comment_is _ _ _ c.line_len.ensures c.in-Some.ensures)

pub returns-then-is_space-clause-piece : goal.returns-then-is_space-clause-piece
returns-then-is_space-clause-piece c = (omega arith, c.requires.some, space_is _ c.requires.some (sym c.is_space.ensures ∙ c.if-is_space.true))

pub word_at-requires : goal.word_at-requires
word_at-requires c = begins_at _ _ c.requires.some (sym c.is_letter.ensures ∙ c.if-is_letter.true)

pub number_at-requires : goal.number_at-requires
number_at-requires c = begins_at _ _ c.requires.some (sym c.is_ascii_digit.ensures.value ∙ c.if-is_ascii_digit.true)

pub text_at-requires : goal.text_at-requires
text_at-requires c = begins_at _ _ c.requires.some c.if-first-eq34.true

pub mark_at-requires-clause-begins : goal.mark_at-requires-clause-begins
mark_at-requires-clause-begins c = begins_at _ _ c.requires.some (sym c.is_space.ensures ∙ c.if-is_space.false, sym c.is_letter.ensures ∙ c.if-is_letter.false, sym c.is_ascii_digit.ensures.value ∙ c.if-is_ascii_digit.false, c.if-first-eq34.false)
