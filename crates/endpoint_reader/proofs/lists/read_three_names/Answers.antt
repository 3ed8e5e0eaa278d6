use Rattle.grammar.proofs.Sequences.{then_reads, then_halts, now_halts}
use Rattle.grammar.proofs.Passing.{passes}
use Rattle.endpoint_reader.proofs.lists.read_three_names.Goals as goal

pub returns-in_err-first-clause-halts : goal.returns-in_err-first-clause-halts
returns-in_err-first-clause-halts c = passes _ _ c.from_residual.ensures.1 (now_halts c.in_err-first.ensures.halts)

pub returns-in_err-second-clause-halts : goal.returns-in_err-second-clause-halts
returns-in_err-second-clause-halts c = passes _ _ c.from_residual-in_err-second.ensures.1 (then_halts c.in_ok-first.ensures.reads (now_halts c.in_err-second.ensures.halts))

pub returns-in_err-third-clause-halts : goal.returns-in_err-third-clause-halts
returns-in_err-third-clause-halts c = passes _ _ c.from_residual-in_err-third.ensures.1 (then_halts c.in_ok-first.ensures.reads (then_halts c.in_ok-second.ensures.reads c.in_err-third.ensures.halts))

pub returns-clause-reads : goal.returns-clause-reads
returns-clause-reads c = then_reads c.in_ok-first.ensures.reads (then_reads c.in_ok-second.ensures.reads c.in_ok-third.ensures.reads)
