use Rattle.std.proofs.Common.{refl}
use Rattle.endpoint_link.specs.InTables.{IsProcessLinkedIn}
use Rattle.endpoint_link.proofs.Bodies.{zip_more}
use Rattle.endpoint_link.proofs.joined.Joined.linked_processes.Goals as goal

pub loop-unit-preserved : goal.loop-unit-preserved
loop-unit-preserved c =
    zip_more (IsProcessLinkedIn c.args.self.now c.args.given.now) c.args.base.now c.loop-unit.list c.push.new.self c.loop-unit.unit-index _ _ c.loop-unit-test.true c.loop-unit.invariant c.in_ok-push.ensures.ok
    (record { name = refl; body = c.in_ok-process_body.ensures })
