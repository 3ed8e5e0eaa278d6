use Rattle.std.proofs.Common.{◌+◌, ◌≤◌, ◌<◌, List, length, Some, sym, ap, ◌∙◌, subst, arith}
use Rattle.std.proofs.lemmas.Option.{slice_get-get_or}
use Rattle.endpoint_code.specs.declared.code.CodeNode.{CodeNode}
use Rattle.endpoint_link.proofs.AddedNodes.{begins, turns, ends, below_turn, at_place}
use Rattle.endpoint_link.proofs.table.add_nodes.Goals as goal

pub loop-node-init : goal.loop-node-init
loop-node-init c = begins c.args.numbers.now c.args.given.now.nodes c.args.code.now.nodes

pub push-requires : goal.push-requires
push-requires c =
    let given = c.args.given.now.nodes in
    let i = c.loop-node.node-index in
    let lt : i < length given = subst (λ (l : List CodeNode). i < length l) c.as_slice-node-items.ensures c.loop-node-test.true in
    let is = at_place given c.as_slice-node-items.result.now i c.node-item.result c.as_slice-node-items.ensures lt c.node-item.is in
    below_turn c.args.numbers.now given c.loop-node.code.nodes i c.node-item.result c.in_ok-node.node c.args.given.now.closed (slice_get-get_or given i c.node-item.result lt ∙ ap Some (sym is))
    (c.loop-node.invariant.count ∙ ap (λ k. k + i) (sym c.requires)) c.in_ok-node.ensures.children

pub loop-node-preserved : goal.loop-node-preserved
loop-node-preserved c =
    let given = c.args.given.now.nodes in
    let i = c.loop-node.node-index in
    let lt : i < length given = subst (λ (l : List CodeNode). i < length l) c.as_slice-node-items.ensures c.loop-node-test.true in
    let is = at_place given c.as_slice-node-items.result.now i c.node-item.result c.as_slice-node-items.ensures lt c.node-item.is in
    turns c.args.numbers.now given c.args.code.now.nodes c.loop-node.code.nodes c.push.new.self.nodes i c.node-item.result c.in_ok-node.node c.requires c.args.given.now.closed lt is c.in_ok-push.ensures.ok.1
    c.in_ok-node.ensures.tree c.in_ok-node.ensures.words c.in_ok-node.ensures.asks c.loop-node.invariant

pub returns : goal.returns
returns c =
    let given = c.args.given.now.nodes in
    let i = c.loop-node.node-index in
    let past : length given ≤ i = subst (λ (l : List CodeNode). length l ≤ i) c.as_slice-node-items.ensures c.loop-node-test.false in
    let within : i ≤ length given = subst (λ (l : List CodeNode). i ≤ length l) c.as_slice-node-items.ensures c.loop-node.auto.node-index-end in
    ends c.args.numbers.now given c.args.code.now.nodes c.loop-node.code.nodes i (omega (arith, past, within)) c.loop-node.invariant
