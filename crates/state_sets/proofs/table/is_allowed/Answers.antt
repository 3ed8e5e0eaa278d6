use Rattle.std.specs.Prelude.{slice_index_or}
use Rattle.std.proofs.lemmas.Option.{slice_get-get_or}
use Rattle.state_sets.proofs.Lists.{in_of_at}
use Rattle.state_sets.proofs.Sets.{tested_in, tested_out}
use Rattle.state_sets.proofs.Tables.{allowed_more, allowed_whole}
use Rattle.state_sets.proofs.table.is_allowed.Goals as goal

pub returns-then-has : goal.returns-then-has
returns-then-has c =
    (slice_index_or c.args.edges.now c.loop-edge.edge-index _, in_of_at _ c.args.edges.now c.loop-edge.edge-index (slice_get-get_or c.args.edges.now c.loop-edge.edge-index _ c.loop-edge-test.true), tested_in c.args.still.now _ c.has.result c.has.ensures c.if-has.true)

pub loop-edge-preserved : goal.loop-edge-preserved
loop-edge-preserved c = allowed_more c.args.still.now c.args.edges.now c.loop-edge.edge-index _ c.loop-edge-test.true c.loop-edge.invariant (tested_out c.args.still.now _ c.has.result c.has.ensures c.if-has.false)

pub returns : goal.returns
returns c = allowed_whole c.args.still.now c.args.edges.now c.loop-edge.edge-index c.loop-edge-test.false c.loop-edge.invariant
