use Rattle.global_types.specs.Faults.{unused_role}
use Rattle.chor_base.proofs.Faults.{turn}
use Rattle.global_types.proofs.check.first_in_roles.Goals as goal

pub loop-role-preserved : goal.loop-role-preserved
loop-role-preserved c = turn (unused_role c.args.states.now) _ _ _ c.args.roles.now c.loop-role.role-index _ _ c.loop-role-test.true c.unused_role.ensures c.earlier-first.ensures c.loop-role.invariant
