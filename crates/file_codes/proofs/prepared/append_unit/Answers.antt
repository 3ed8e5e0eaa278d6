use Rattle.std.proofs.Common.{◌≡◌, List, subst, sym, length}
use Rattle.endpoint_code.specs.declared.code.CodeNode.{CodeNode}
use Rattle.endpoint_code.specs.Code.{IsClosed}
use Rattle.file_codes.specs.Shifted.{IsShifted}
use Rattle.file_codes.proofs.Appended.{next_fits, put_next, put_none, put_all}
use Rattle.file_codes.proofs.prepared.append_unit.Goals as goal

pub push-requires : goal.push-requires
push-requires c =
    next_fits c.as_slice-node-items.result.now c.args.code.now.nodes c.loop-node.code.nodes c.loop-node.node-index c.node-item.result c.in_ok-shifted_node.field-0 c.loop-node-test.true c.node-item.is c.loop-node.invariant (subst (λ k. IsShifted k c.node-item.result c.in_ok-shifted_node.field-0) c.count-by.ensures c.in_ok-shifted_node.ensures)
    (subst IsClosed (sym c.as_slice-node-items.ensures) c.args.unit.now.code.closed)

pub loop-node-init : goal.loop-node-init
loop-node-init c = put_none c.as_slice-node-items.result.now c.args.code.now.nodes

pub loop-node-preserved : goal.loop-node-preserved
loop-node-preserved c =
    put_next c.as_slice-node-items.result.now c.args.code.now.nodes c.loop-node.code.nodes c.loop-node.node-index c.node-item.result c.in_ok-shifted_node.field-0 c.loop-node-test.true c.node-item.is c.loop-node.invariant (subst (λ k. IsShifted k c.node-item.result c.in_ok-shifted_node.field-0) c.count-by.ensures c.in_ok-shifted_node.ensures)
    c.push.new.self.nodes c.in_ok-push.ensures.ok.1
