use Rattle.std.proofs.lemmas.Result.{err_from_is_err_and}
use Rattle.source_grammar.proofs.Sequels.{past, reads_past, leads, now}
use Rattle.source_grammar.proofs.Terminals.{holds_if, fails_if}
use Rattle.source_grammar.proofs.Heads.{proc_params_part, sessions_part, sessions_apart}
use Rattle.source_reader.proofs.Readers.{params_lead, no_params_read}
use Rattle.source_reader.proofs.procedure.read_parameters.Goals as goal

pub returns-then-not-has_name-clause-reads : goal.returns-then-not-has_name-clause-reads
returns-then-not-has_name-clause-reads c = rw (c.new.ensures, c.new-then-not-has_name.ensures) (no_params_read (fails_if c.has_name.ensures c.if-not-has_name.true))

pub returns-in_err-params-clause-halts : goal.returns-in_err-params-clause-halts
returns-in_err-params-clause-halts c =
    let p = err_from_is_err_and c.from_residual.result c.from_residual.ensures.1 in
    rw (p.1, p.2) (past (params_lead (holds_if c.has_name.ensures c.if-not-has_name.false)) (now sessions_part sessions_apart c.in_err-params.ensures.halts))

pub returns-in_err-sessions-clause-halts : goal.returns-in_err-sessions-clause-halts
returns-in_err-sessions-clause-halts c =
    let p = err_from_is_err_and c.from_residual-in_err-sessions.result c.from_residual-in_err-sessions.ensures.1 in
    rw (p.1, p.2) (past (params_lead (holds_if c.has_name.ensures c.if-not-has_name.false)) (past (leads proc_params_part sessions_apart c.in_ok-params.ensures.reads) c.in_err-sessions.ensures.halts))

pub returns-clause-reads : goal.returns-clause-reads
returns-clause-reads c = reads_past (params_lead (holds_if c.has_name.ensures c.if-not-has_name.false)) (reads_past (leads proc_params_part sessions_apart c.in_ok-params.ensures.reads) c.in_ok-sessions.ensures.reads)
