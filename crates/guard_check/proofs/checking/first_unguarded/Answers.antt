use Rattle.typing_rules.specs.Guarded.{IsGuardFault}
use Rattle.guard_check.proofs.Walks.{procedures_begin, procedures_turn, procedures_end}
use Rattle.guard_check.proofs.checking.first_unguarded.Goals as goal

pub loop-procedure-init : goal.loop-procedure-init
loop-procedure-init c = procedures_begin c.args.file.now

pub loop-procedure-preserved : goal.loop-procedure-preserved
loop-procedure-preserved c =
    let f = c.args.file.now in
    procedures_turn f (IsGuardFault f) c.loop-procedure.first c.in_ok-found.found _ _ f.procs c.loop-procedure.procedure-index c.procedure-item.result
    c.as_slice-procedure-items.ensures c.loop-procedure-test.true c.procedure-item.is c.in_ok-found.ensures c.earlier-first.ensures c.loop-procedure.invariant

pub returns : goal.returns
returns c =
    let f = c.args.file.now in
    procedures_end f (IsGuardFault f) c.loop-procedure.first _ f.procs c.loop-procedure.procedure-index c.as_slice-procedure-items.ensures c.loop-procedure-test.false c.loop-procedure.invariant
