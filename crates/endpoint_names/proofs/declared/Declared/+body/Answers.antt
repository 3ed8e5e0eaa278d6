use Rattle.std.proofs.Common.{arith}
use Rattle.endpoint_names.specs.Bodies.{bodies_of}
use Rattle.endpoint_names.specs.Functions.{setting_of}
use Rattle.endpoint_names.proofs.Tables.{branch_below}
use Rattle.endpoint_names.proofs.Walks.{arms_turn, branch_first}
use Rattle.chor_base.proofs.Faults.{first_append}
use Rattle.endpoint_names.proofs.declared.Declared.+body.Goals as goal

pub first_in_arms-loop-arm-preserved : goal.first_in_arms-loop-arm-preserved
first_in_arms-loop-arm-preserved t c =
    arms_turn (setting_of c.args.self.now.written.now c.args.self.now.functions) c.args.bound.now c.in_ok-inside.inside (bodies_of c.args.self.now.written.now.lines.items) c.args.arms.now c.loop-arm.arm-index _
    c.loop-arm.first c.in_ok-found.found _ _ c.loop-arm-test.true c.in_ok-inside.ensures c.in_ok-found.ensures c.earlier-first.ensures c.loop-arm.invariant

pub first_in_body-first_in_arms-requires : goal.first_in_body-first_in_arms-requires
first_in_body-first_in_arms-requires t c = (omega (arith, c.decreases), (c.requires, branch_below c.args.id.0 c.line_at.result.now c.in-Branch.is c.as_slice-in-Branch.ensures c.line_at.ensures.below))

pub first_in_body-returns-in_ok-rest-in-Branch : goal.first_in_body-returns-in_ok-rest-in-Branch
first_in_body-returns-in_ok-rest-in-Branch t c =
    branch_first (setting_of c.args.self.now.written.now c.args.self.now.functions) c.args.bound c.args.self.now.written.now.lines.items c.args.id c.line_at.result.now
    c.unbound-here.result c.in_ok-labels-in-Branch.labels c.in_ok-rest-in-Branch.rest c.earlier-in-Branch.result c.earlier-in-Branch-2.result c.line_at.ensures.body c.in-Branch.is
    c.unbound-here.ensures c.in_ok-labels-in-Branch.ensures c.as_slice.ensures c.in_ok-rest-in-Branch.ensures c.as_slice-in-Branch.ensures c.earlier-in-Branch.ensures c.earlier-in-Branch-2.ensures

pub first_in_body-returns-in_ok-rest-in-Act : goal.first_in_body-returns-in_ok-rest-in-Act
first_in_body-returns-in_ok-rest-in-Act t c = grind (arith, first_append)

pub first_in_body-returns-in_ok-there-in-If : goal.first_in_body-returns-in_ok-there-in-If
first_in_body-returns-in_ok-there-in-If t c = grind (arith, first_append)
