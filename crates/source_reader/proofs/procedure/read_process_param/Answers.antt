use Rattle.std.proofs.lemmas.Result.{err_from_is_err_and}
use Rattle.source_grammar.proofs.Sequels.{past, reads_past}
use Rattle.source_grammar.proofs.Choices.{same_halts, same_reads}
use Rattle.source_grammar.proofs.Terminals.{after_name, at_once}
use Rattle.source_grammar.proofs.Heads.{variables_part, proc_param_alike}
use Rattle.source_reader.proofs.procedure.read_process_param.Goals as goal

pub returns-in_err-name-clause-halts : goal.returns-in_err-name-clause-halts
returns-in_err-name-clause-halts c =
    let p = err_from_is_err_and c.from_residual.result c.from_residual.ensures.1 in
    rw (p.1, p.2) (same_halts proc_param_alike (at_once variables_part c.in_err-name.ensures.halts))

pub returns-in_err-vars-clause-halts : goal.returns-in_err-vars-clause-halts
returns-in_err-vars-clause-halts c =
    let p = err_from_is_err_and c.from_residual-in_err-vars.result c.from_residual-in_err-vars.ensures.1 in
    rw (p.1, p.2) (same_halts proc_param_alike (past (after_name c.in_ok-name.ensures.read) c.in_err-vars.ensures.halts))

pub returns-clause-reads : goal.returns-clause-reads
returns-clause-reads c = same_reads proc_param_alike (reads_past (after_name c.in_ok-name.ensures.read) c.in_ok-vars.ensures.reads)
