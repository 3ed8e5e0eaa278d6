use Rattle.chor_base.proofs.Faults.{turn_at}
use Rattle.endpoint_names.specs.Faults.{unprovided}
use Rattle.endpoint_names.proofs.declared.Declared.unprovided_in.Goals as goal

pub loop-role-preserved : goal.loop-role-preserved
loop-role-preserved c = turn_at (unprovided c.args.self.now.written.now c.args.channel) _ _ _ _ c.args.roles.now c.loop-role.role-index _ _ c.as_slice-role-items.ensures c.loop-role-test.true c.unprovided.ensures c.earlier-first.ensures c.loop-role.invariant
