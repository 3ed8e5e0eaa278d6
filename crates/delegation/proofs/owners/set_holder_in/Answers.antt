use Rattle.std.proofs.Common.{◌<◌, length, arith}
use Rattle.delegation.specs.Spans.{passed_role}
use Rattle.delegation.proofs.Parts.{changed_turn}
use Rattle.delegation.proofs.owners.set_holder_in.Goals as goal

pub loop-held-preserved : goal.loop-held-preserved
loop-held-preserved c =
    let lt : c.loop-held.held-index < length c.args.entries.now = omega arith in
    changed_turn (passed_role c.args.role c.args.to) c.args.entries.now c.loop-held.entries c.loop-held.held-index _ c.passed.result lt c.loop-held.invariant c.passed.ensures
