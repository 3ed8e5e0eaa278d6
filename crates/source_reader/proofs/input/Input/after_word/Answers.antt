use Rattle.std.proofs.Common.{sym, ◌∙◌}
use Rattle.std.proofs.lemmas.Bool.{false≢true}
use Rattle.source_reader.proofs.Places.{stands, none_stands, no_word}
use Rattle.source_reader.proofs.input.Input.after_word.Goals as goal

pub returns-in_err-token-clause-none : goal.returns-in_err-token-clause-none
returns-in_err-token-clause-none c = rw c.from_residual.ensures (λ rest w. none_stands _ _ _ _ _ c.as_slice.ensures c.in_err-token.ensures.lookup.3 w.parts)

pub returns-in-Word-clause-found : goal.returns-in-Word-clause-found
returns-in-Word-clause-found c = record {
  token = c.in_ok-token.field-0.now;
  parts = stands _ _ _ _ c.as_slice.ensures c.in_ok-token.ensures.lookup.3.0 c.in_ok-token.ensures.lookup.1;
  is = record { number = c.in-Word.name; kind = c.in-Word.is; word = c.is_spelled.ensures.0 c.if-is_spelled.true };
}

pub returns-in_default-clause-none : goal.returns-in_default-clause-none
returns-in_default-clause-none c = λ rest w. no_word (stands _ _ _ _ c.as_slice.ensures c.in_ok-token.ensures.lookup.3.0 c.in_ok-token.ensures.lookup.1) c.in-Word.is (λ e. false≢true (sym c.if-is_spelled.false ∙ c.is_spelled.ensures.1 e)) w
