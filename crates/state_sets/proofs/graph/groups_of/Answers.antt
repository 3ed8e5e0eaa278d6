use Rattle.std.proofs.Common.{refl}
use Rattle.state_sets.specs.Graph.{HasOwnEdges}
use Rattle.state_sets.proofs.Groups.{groups_more, groups_whole}
use Rattle.state_sets.proofs.Gathered.{own_of}
use Rattle.state_sets.proofs.graph.groups_of.Goals as goal

pub loop-act-preserved : goal.loop-act-preserved
loop-act-preserved c =
    let parts = c.args.parts.now in
    groups_more (HasOwnEdges parts) c.args.acts.now c.loop-act.act-index _ c.loop-act.groups.items c.push.new.self.items _ c.loop-act-test.true c.loop-act.invariant.edges c.loop-act.invariant.acts refl
    (own_of parts _ c.part_number-number.result c.index-parts-number.result c.as_slice.result.now c.requires c.part_number-number.ensures c.index-parts-number.is c.as_slice.ensures.value c.in_ok-edges.ensures)
    c.in_ok-push.ensures.items

pub returns : goal.returns
returns c = record { acts = groups_whole c.args.acts.now c.loop-act.act-index c.loop-act.groups.items c.loop-act-test.false c.loop-act.invariant.acts; edges = c.loop-act.invariant.edges }
