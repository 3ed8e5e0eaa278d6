use Rattle.std.proofs.Common.{sym, refl, ◌∙◌}
use Rattle.std.proofs.lemmas.Bool.{false≢true}
use Rattle.source_reader.proofs.Places.{stands, none_stands, no_name, no_word_name}
use Rattle.source_reader.proofs.input.Input.name_at.Goals as goal

pub returns-in_err-token-clause-none : goal.returns-in_err-token-clause-none
returns-in_err-token-clause-none c = rw c.from_residual.ensures (λ n rest w. none_stands _ _ _ _ _ c.as_slice.ensures c.in_err-token.ensures.lookup.3 w.parts)

pub returns-in_default : goal.returns-in_default
returns-in_default c = record { found = tt; none = λ n rest w. no_word_name (stands _ _ _ _ c.as_slice.ensures c.in_ok-token.ensures.lookup.3.0 c.in_ok-token.ensures.lookup.1) c.in_default.not-Word w }

pub returns-then-not-is_name-clause-none : goal.returns-then-not-is_name-clause-none
returns-then-not-is_name-clause-none c = λ n rest w. no_name (stands _ _ _ _ c.as_slice.ensures c.in_ok-token.ensures.lookup.3.0 c.in_ok-token.ensures.lookup.1) c.in-Word.is (λ k. false≢true (sym c.if-not-is_name.true ∙ c.is_name.ensures.1 k)) w

pub returns-clause-found : goal.returns-clause-found
returns-clause-found c =
    let named = c.is_name.ensures.0 c.if-not-is_name.false in
    record {
      token = c.in_ok-token.field-0.now;
      parts = stands _ _ _ _ c.as_slice.ensures c.in_ok-token.ensures.lookup.3.0 c.in_ok-token.ensures.lookup.1;
      is = record { word = named.0; kind = c.in-Word.is; is = named.1; name = named.2 };
      place = refl;
    }
