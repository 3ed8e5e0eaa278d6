use Rattle.std.proofs.Common.{map, []}
use Rattle.chor_tree.specs.Names.{repeated}
use Rattle.chor_base.proofs.Faults.{turn_from}
use Rattle.name_resolution.proofs.procedures.first_in_variables.Goals as goal

pub loop-param-preserved : goal.loop-param-preserved
loop-param-preserved c = turn_from (λ q. repeated [] (map (λ v. v.0) q.vars)) _ _ _ _ (c.args.params.now) c.loop-param.param-index c.param-item.result _ c.as_slice-param-items.ensures c.loop-param-test.true c.param-item.is (c.in_ok-found.ensures) c.earlier-first.ensures c.loop-param.invariant
