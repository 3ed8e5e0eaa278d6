use Rattle.std.proofs.Common.{◌∙◌, ap, map, ◌++◌}
use Rattle.block_codes.specs.Walks.{StopsAt}
use Rattle.block_codes.proofs.Zips.{stops_by}
use Rattle.file_codes.specs.Units.{params_of, procedure_from, sites_in_procs}
use Rattle.file_codes.proofs.Bodies.{proc_inside, procedures_stop, procedures_more, no_procedures, all_procedures}
use Rattle.file_codes.proofs.procedures.procedures.Goals as goal

pub codes_from-requires-clause-inside : goal.codes_from-requires-clause-inside
codes_from-requires-clause-inside c = proc_inside c.args.file.now c.as_slice-proc-items.result.now c.loop-proc.proc-index c.proc-item.result c.as_slice-proc-items.ensures c.loop-proc-test.true c.proc-item.is

pub returns-in_err-list-clause-stopped : goal.returns-in_err-list-clause-stopped
returns-in_err-list-clause-stopped c =
    let f = c.args.file.now in
    stops_by (StopsAt f (sites_in_procs f f.procs)) c.from_residual-in_err-list.result c.in_err-list.field-0.0 c.from_residual-in_err-list.ensures.1
    (procedures_stop f c.as_slice-proc-items.result.now c.loop-proc.proc-index c.proc-item.result c.loop-proc-test.true c.proc-item.is c.loop-proc.procedures c.loop-proc.invariant
    f.procs c.as_slice-proc-items.ensures c.as_slice-in-loop-proc.result.now c.in_err-list.field-0.0
    (c.as_slice-in-loop-proc.ensures ∙ c.in_ok-scope.ensures ∙ ap params_of c.as_slice.ensures) c.in_err-list.ensures.stopped)

pub loop-proc-init : goal.loop-proc-init
loop-proc-init c = no_procedures c.args.file.now c.args.code.now.nodes c.new-procedures.result c.new-procedures.ensures

pub loop-proc-preserved : goal.loop-proc-preserved
loop-proc-preserved c =
    procedures_more c.args.file.now c.as_slice-proc-items.result.now c.loop-proc.proc-index c.proc-item.result c.loop-proc-test.true c.proc-item.is c.loop-proc.procedures c.loop-proc.invariant
    c.codes_from.new.code.nodes c.as_slice-in-loop-proc.result.now c.in_ok-list.list c.put_procedures.new.procedures
    (c.as_slice-in-loop-proc.ensures ∙ c.in_ok-scope.ensures ∙ ap params_of c.as_slice.ensures) c.in_ok-list.ensures.codes
    (c.in_ok-put_procedures.ensures ∙ ap (λ xs. c.loop-proc.procedures ++ map (procedure_from c.proc-item.result) xs) c.as_slice-in-loop-proc-2.ensures)

pub returns-clause-procedures : goal.returns-clause-procedures
returns-clause-procedures c =
    all_procedures c.args.file.now c.args.code.now.nodes c.loop-proc.code.nodes c.as_slice-proc-items.result.now c.args.file.now.procs c.loop-proc.proc-index c.loop-proc.procedures
    c.as_slice-proc-items.ensures c.loop-proc-test.false c.loop-proc.invariant
