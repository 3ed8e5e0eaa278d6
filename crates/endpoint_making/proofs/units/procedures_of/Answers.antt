use Rattle.endpoint_making.specs.Making.{procedure_made}
use Rattle.endpoint_making.proofs.Tables.{mapped_turn}
use Rattle.endpoint_making.proofs.units.procedures_of.Goals as goal

pub loop-procedure-preserved : goal.loop-procedure-preserved
loop-procedure-preserved c =
    mapped_turn procedure_made c.args.procedures.now c.loop-procedure.procedure-index c.procedure-item.result c.in_ok-procedure_of.field-0 c.loop-procedure.list c.push.new.self _
    c.loop-procedure-test.true c.procedure-item.is c.in_ok-procedure_of.ensures c.in_ok-push.ensures.ok c.loop-procedure.invariant
