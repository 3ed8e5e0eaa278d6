use Rattle.std.proofs.Common.{arith, length-append}
use Rattle.endpoint_code.specs.Kept.{has_name, has_text}
use Rattle.endpoint_making.proofs.Tables.{next_below, trees_turn, there_turn}
use Rattle.endpoint_making.proofs.table.table_of.Goals as goal

pub push-requires : goal.push-requires
push-requires c =
    let ls = c.args.lines.now in
    next_below ls.items c.as_slice-line-items.result.now c.loop-line.line-index c.line-item.result c.as_slice-line-items.ensures c.loop-line-test.true c.line-item.is
    _ _ ls.closed c.loop-line.invariant.count c.in_ok-node.ensures.children

pub loop-line-preserved : goal.loop-line-preserved
loop-line-preserved c =
    let ls = c.args.lines.now in
    let old = c.loop-line.code.nodes in
    let new = c.push.new.self.nodes in
    record {
      trees = trees_turn ls.items c.as_slice-line-items.result.now c.loop-line.line-index c.line-item.result c.as_slice-line-items.ensures c.loop-line-test.true c.line-item.is
          old new c.in_ok-node.node c.in_ok-push.ensures.ok.1 c.in_ok-node.ensures.tree c.loop-line.invariant.trees;
      count = grind (arith, length-append, c.in_ok-push.ensures.ok, c.loop-line.invariant.count);
      there = there_turn ls.items c.as_slice-line-items.result.now c.loop-line.line-index c.line-item.result c.as_slice-line-items.ensures c.loop-line-test.true c.line-item.is
          (has_name c.args.names.now) (has_text c.args.texts.now) old new c.in_ok-node.node c.in_ok-push.ensures.ok.1 (c.in_ok-node.ensures.there (has_name c.args.names.now) (has_text c.args.texts.now)) c.requires c.loop-line.invariant.there;
    }
