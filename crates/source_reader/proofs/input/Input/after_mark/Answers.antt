use denote.Enum.Bare.{same_true, same_false}
use Rattle.std.proofs.Common.{rules, sym, ◌∙◌}
use Rattle.chor_lexer.specs.contracts.mark.Mark.{the_type}
use Rattle.source_reader.proofs.Places.{stands, none_stands, marked}
use Rattle.source_reader.proofs.input.Input.after_mark.Goals as goal

pub returns-in_err-token-clause-none : goal.returns-in_err-token-clause-none
returns-in_err-token-clause-none c = rw c.from_residual.ensures (λ rest w. none_stands _ _ _ _ _ c.as_slice.ensures c.in_err-token.ensures.lookup.3 w.parts)

pub returns-in-Mark-clause-found : goal.returns-in-Mark-clause-found
returns-in-Mark-clause-found c = record {
  token = c.in_ok-token.field-0.now;
  parts = stands _ _ _ _ c.as_slice.ensures c.in_ok-token.ensures.lookup.3.0 c.in_ok-token.ensures.lookup.1;
  is = cc (c.in-Mark.is, same_true the_type (search rules) _ _ (sym c.eq.ensures ∙ c.if-eq.true));
}

pub returns-in_default-clause-none : goal.returns-in_default-clause-none
returns-in_default-clause-none c = λ rest w. same_false the_type _ _ (sym c.eq.ensures ∙ c.if-eq.false) (cc (marked _ _ (stands _ _ _ _ c.as_slice.ensures c.in_ok-token.ensures.lookup.3.0 c.in_ok-token.ensures.lookup.1) c.in-Mark.is w.parts w.is))
