use Rattle.grammar.proofs.Sequences.{then_reads, then_halts, now_halts}
use Rattle.grammar.proofs.Passing.{passes}
use Rattle.std.proofs.Common.{refl}
use Rattle.endpoint_reader.proofs.node.read_join.Goals as goal

pub returns-in_err-place-clause-halts : goal.returns-in_err-place-clause-halts
returns-in_err-place-clause-halts c = passes _ _ c.from_residual.ensures.1 (now_halts c.in_err-place.ensures.halts)

pub returns-in_err-at-clause-halts : goal.returns-in_err-at-clause-halts
returns-in_err-at-clause-halts c = passes _ _ c.from_residual-in_err-at.ensures.1 (then_halts c.in_ok-place.ensures.reads (now_halts c.in_err-at.ensures.halts))

pub returns-in_err-session-clause-halts : goal.returns-in_err-session-clause-halts
returns-in_err-session-clause-halts c = passes _ _ c.from_residual-in_err-session.ensures.1 (then_halts c.in_ok-place.ensures.reads (then_halts c.in_ok-at.ensures.reads (now_halts c.in_err-session.ensures.halts)))

pub returns-in_err-at-2-clause-halts : goal.returns-in_err-at-2-clause-halts
returns-in_err-at-2-clause-halts c = passes _ _ c.from_residual-in_err-at-2.ensures.1 (then_halts c.in_ok-place.ensures.reads (then_halts c.in_ok-at.ensures.reads (then_halts c.in_ok-session.ensures.reads c.in_err-at-2.ensures.halts)))

pub returns-clause-reads : goal.returns-clause-reads
returns-clause-reads c = record { value = _; reads = (then_reads c.in_ok-place.ensures.reads (then_reads c.in_ok-at.ensures.reads (then_reads c.in_ok-session.ensures.reads c.in_ok-at-2.ensures.reads))); is = refl }
