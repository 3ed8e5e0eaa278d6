use Rattle.grammar.proofs.Sequences.{then_halts, now_halts}
use Rattle.grammar.proofs.Passing.{passes}
use Rattle.endpoint_reader.proofs.NameLists.{signature_told}
use Rattle.endpoint_reader.proofs.lists.read_signature.Goals as goal

pub returns-in_err-names-clause-halts : goal.returns-in_err-names-clause-halts
returns-in_err-names-clause-halts c = passes _ _ c.from_residual.ensures.1 (now_halts c.in_err-names.ensures.halts)

pub returns-in_err-at-clause-halts : goal.returns-in_err-at-clause-halts
returns-in_err-at-clause-halts c = passes _ _ c.from_residual-in_err-at.ensures.1 (then_halts c.in_ok-names.ensures.reads (now_halts c.in_err-at.ensures.halts))

pub returns-in_err-sessions-clause-halts : goal.returns-in_err-sessions-clause-halts
returns-in_err-sessions-clause-halts c = passes _ _ c.from_residual-in_err-sessions.ensures.1 (then_halts c.in_ok-names.ensures.reads (then_halts c.in_ok-at.ensures.reads (now_halts c.in_err-sessions.ensures.halts)))

pub returns-in_err-at-2-clause-halts : goal.returns-in_err-at-2-clause-halts
returns-in_err-at-2-clause-halts c = passes _ _ c.from_residual-in_err-at-2.ensures.1 (then_halts c.in_ok-names.ensures.reads (then_halts c.in_ok-at.ensures.reads (then_halts c.in_ok-sessions.ensures.reads.reads c.in_err-at-2.ensures.halts)))

pub returns-clause-reads : goal.returns-clause-reads
returns-clause-reads c = signature_told c.in_ok-names.ensures.reads c.in_ok-at.ensures.reads c.in_ok-sessions.ensures.reads c.in_ok-at-2.ensures.reads
