use Rattle.std.proofs.Common.{◌∙◌, sym, ap, refl, Some}
use Rattle.chor_lexer.proofs.Spelled.{spells_word, spells_text, text_grows, named, unnamed, texted, untexted}
use Rattle.chor_lexer.proofs.lex.kind_of.Goals as goal

pub returns-in_ok-intern-in-Word-clause-kind : goal.returns-in_ok-intern-in-Word-clause-kind
returns-in_ok-intern-in-Word-clause-kind c = λ s h l. spells_word _ c.args.texts.now _ c.in_ok-intern-in-Word.field-0 _ s c.in_ok-intern-in-Word.ensures.number c.in-Word.is h l

pub returns-in_ok-intern-in-Text-clause-kind : goal.returns-in_ok-intern-in-Text-clause-kind
returns-in_ok-intern-in-Text-clause-kind c = λ s h l. spells_text c.args.names.now _ _ _ _ c.in_ok-intern-in-Text.field-0 _ s (c.in_ok-intern-in-Text.ensures.number ∙ ap Some c.as_slice.ensures.value) c.between_quotes.ensures c.in_ok-text-in-Text.ensures c.in-Text.is h l

pub returns-in_ok-intern-in-Text-clause-texts : goal.returns-in_ok-intern-in-Text-clause-texts
returns-in_ok-intern-in-Text-clause-texts c = text_grows _ _ _ _ _ c.between_quotes.ensures (rw (sym c.as_slice.ensures.value) at c.in_ok-text-in-Text.ensures) c.in_ok-intern-in-Text.ensures.ok

pub returns-in_ok-intern-in-Word-clause-names_are : goal.returns-in_ok-intern-in-Word-clause-names_are
returns-in_ok-intern-in-Word-clause-names_are c = λ s h l. named _ _ _ _ s c.in_ok-intern-in-Word.ensures.ok c.in-Word.is h l

pub returns-in_ok-intern-in-Word-clause-texts_are : goal.returns-in_ok-intern-in-Word-clause-texts_are
returns-in_ok-intern-in-Word-clause-texts_are c = λ s h l. untexted _ _ _ s c.in-Word.is refl h

pub returns-in_ok-intern-in-Text-clause-names_are : goal.returns-in_ok-intern-in-Text-clause-names_are
returns-in_ok-intern-in-Text-clause-names_are c = λ s h l. unnamed _ _ _ s c.in-Text.is refl h

pub returns-in_ok-intern-in-Text-clause-texts_are : goal.returns-in_ok-intern-in-Text-clause-texts_are
returns-in_ok-intern-in-Text-clause-texts_are c = λ s h l. texted _ _ _ _ _ _ s c.in_ok-intern-in-Text.ensures.ok c.between_quotes.ensures (rw (sym c.as_slice.ensures.value) at c.in_ok-text-in-Text.ensures) c.in-Text.is h l

pub returns-in-Number-clause-names_are : goal.returns-in-Number-clause-names_are
returns-in-Number-clause-names_are c = λ s h l. unnamed _ _ _ s c.in-Number.is refl h

pub returns-in-Number-clause-texts_are : goal.returns-in-Number-clause-texts_are
returns-in-Number-clause-texts_are c = λ s h l. untexted _ _ _ s c.in-Number.is refl h

pub returns-in-Mark-clause-names_are : goal.returns-in-Mark-clause-names_are
returns-in-Mark-clause-names_are c = λ s h l. unnamed _ _ _ s c.in-Mark.is refl h

pub returns-in-Mark-clause-texts_are : goal.returns-in-Mark-clause-texts_are
returns-in-Mark-clause-texts_are c = λ s h l. untexted _ _ _ s c.in-Mark.is refl h
