use Rattle.std.proofs.Common.{◌≡◌, Some, sym, ◌∙◌, arith}
use Rattle.std.proofs.lemmas.Grind.{common_steps}
use Rattle.endpoint_code.specs.Code.{children_of}
use Rattle.endpoint_code.specs.Heads.{next_of}
use Rattle.endpoint_code.specs.Trees.{trees_of}
use Rattle.endpoint_text.proofs.Lines.{text_on, below_on, below_more}
use Rattle.endpoint_text.proofs.code.put_actions.Goals as goal

pub node_at-node-requires-in-Some : goal.node_at-node-requires-in-Some
node_at-node-requires-in-Some c =
    let on : next_of c.loop-next.node.now ≡ Some c.in-Some.next = sym c.next_of.ensures ∙ c.in-Some.is in
    let lt = below_on c.args.id.0 c.loop-next.node.now c.in-Some.next on c.loop-next.invariant.1 in
    let inside = c.requires in
    omega (arith, lt, inside)

pub loop-next-preserved : goal.loop-next-preserved
loop-next-preserved c =
    let on : next_of c.loop-next.node.now ≡ Some c.in-Some.next = sym c.next_of.ensures ∙ c.in-Some.is in
    let next = text_on (trees_of c.args.e.now.code.nodes) c.args.e.now c.loop-next.node.now c.in-Some.next on in
    let lt = below_on c.args.id.0 c.loop-next.node.now c.in-Some.next on c.loop-next.invariant.1 in
    (grind (arith, common_steps, next, c.node_at-node-in-Some.ensures.tree, c.loop-next.invariant.0), below_more c.args.id.0 c.in-Some.next.0 (children_of c.node_at-node-in-Some.result.now) lt c.node_at-node-in-Some.ensures.below)
