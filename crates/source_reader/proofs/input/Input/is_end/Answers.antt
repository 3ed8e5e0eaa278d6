use Rattle.std.proofs.Common.{refl, ap, ◌∙◌}
use Rattle.std.proofs.lemmas.Bool.{false≢true}
use Rattle.chor_lexer.specs.declared.token.Token.{Token}
use Rattle.source_reader.proofs.Places.{stands, none_stands, same_front}
use Rattle.source_reader.proofs.input.Input.is_end.Goals as goal

pub returns-in-Last : goal.returns-in-Last
returns-in-Last c = ((λ e. record { token = c.in-Some.token.now; rest = _; parts = stands _ _ _ _ c.as_slice.ensures c.in-Some.ensures.lookup.3.0 c.in-Some.ensures.lookup.1; last = c.in-Last.is }), (λ w. refl))

pub returns-in_default : goal.returns-in_default
returns-in_default c = ((λ e. absurd (false≢true e)), (λ w. absurd (c.in_default.not-Last (ap (λ (t : Token). t.kind) (same_front (stands _ _ _ _ c.as_slice.ensures c.in-Some.ensures.lookup.3.0 c.in-Some.ensures.lookup.1) w.parts) ∙ w.last))))

pub returns-in-None : goal.returns-in-None
returns-in-None c = ((λ e. absurd (false≢true e)), (λ w. absurd (none_stands _ _ _ _ _ c.as_slice.ensures c.in-None.ensures.lookup.3 w.parts)))
