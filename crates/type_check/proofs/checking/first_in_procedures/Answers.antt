use Rattle.type_check.specs.InProcedures.{IsProcedureFault, IsFaultInSome}
use Rattle.type_check.proofs.Procedures.{is_item, procedures_turn, procedures_end}
use Rattle.type_check.proofs.checking.first_in_procedures.Goals as goal

pub first_in_procedure-requires-clause-declared : goal.first_in_procedure-requires-clause-declared
first_in_procedure-requires-clause-declared c =
    is_item _ c.args.file.now.procs c.loop-procedure.procedure-index c.procedure-item.result c.as_slice-procedure-items.ensures c.loop-procedure-test.true c.procedure-item.is

pub loop-procedure-preserved : goal.loop-procedure-preserved
loop-procedure-preserved c =
    let f = c.args.file.now in
    procedures_turn (IsProcedureFault f) (IsFaultInSome (IsProcedureFault f) f.procs) c.loop-procedure.first c.in_ok-found.found _ _ f.procs c.loop-procedure.procedure-index c.procedure-item.result
    c.as_slice-procedure-items.ensures c.loop-procedure-test.true c.procedure-item.is c.in_ok-found.ensures c.earlier-first.ensures c.loop-procedure.invariant

pub returns : goal.returns
returns c =
    let f = c.args.file.now in
    procedures_end (IsProcedureFault f) (IsFaultInSome (IsProcedureFault f) f.procs) c.loop-procedure.first _ f.procs c.loop-procedure.procedure-index c.as_slice-procedure-items.ensures c.loop-procedure-test.false c.loop-procedure.invariant
