use Rattle.std.proofs.Common.{◌++◌, map}
use Rattle.std.specs.Prelude.{option_copied}
use Rattle.chor_tree.specs.Names.{unknown, unknown_role}
use Rattle.chor_base.proofs.Faults.{turn_at}
use Rattle.name_resolution.proofs.procedures.first_in_holders.Goals as goal

pub loop-holder-preserved : goal.loop-holder-preserved
loop-holder-preserved c =
    let p = option_copied c.args.protocol in
    let ps = map (λ q. q.name.name) c.args.params.now in
    turn_at (λ h. unknown_role p h.0 ++ unknown ps h.1) _ _ _ _ c.args.holders.now c.loop-holder.holder-index _ _ c.as_slice-holder-items.ensures c.loop-holder-test.true c.first_in_holder.ensures c.earlier-first.ensures c.loop-holder.invariant
