use Rattle.source_reader.proofs.Coming.{stands_by_word}
use Rattle.source_grammar.proofs.Nested.{name_first, start_first, no_statement}
use Rattle.source_reader.proofs.block.statement_at.Goals as goal

pub returns-in-Some-clause-at : goal.returns-in-Some-clause-at
returns-in-Some-clause-at c = record { token = c.in-Some.ensures.found.token; rest = _; parts = c.in-Some.ensures.found.parts; place = c.in-Some.ensures.found.place }

pub returns-in-Some-clause-first : goal.returns-in-Some-clause-first
returns-in-Some-clause-first c = name_first c.in-Some.ensures.found

pub returns-clause-at : goal.returns-clause-at
returns-clause-at c = stands_by_word c.in_ok-_after.ensures.found c.place_of.ensures

pub returns-clause-first : goal.returns-clause-first
returns-clause-first c = start_first c.in_ok-_after.ensures.found

pub returns-in_err-_after-clause-none : goal.returns-in_err-_after-clause-none
returns-in_err-_after-clause-none c = rw c.from_residual.ensures (λ h. no_statement c.in_default.ensures.none c.in_err-_after.ensures.none h)
