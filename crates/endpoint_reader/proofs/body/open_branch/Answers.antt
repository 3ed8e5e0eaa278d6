use Rattle.grammar.proofs.Passing.{passes}
use Rattle.grammar.proofs.Sequences.{then_halts, now_halts}
use Rattle.endpoint_reader.proofs.body.open_branch.Goals as goal

pub returns-in_err-names-clause-halts : goal.returns-in_err-names-clause-halts
returns-in_err-names-clause-halts c = passes _ _ c.from_residual.ensures.1 (now_halts c.in_err-names.ensures.halts)

pub returns-in_err-at-clause-halts : goal.returns-in_err-at-clause-halts
returns-in_err-at-clause-halts c = passes _ _ c.from_residual-in_err-at.ensures.1 (then_halts c.in_ok-names.ensures.reads (now_halts c.in_err-at.ensures.halts))

pub returns-clause-opens : goal.returns-clause-opens
returns-clause-opens c = record { start = _; names = c.in_ok-names.ensures.reads; opens = c.in_ok-at.ensures.reads }
