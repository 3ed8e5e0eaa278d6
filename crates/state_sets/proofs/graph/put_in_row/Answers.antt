use Rattle.std.proofs.Common.{refl}
use Rattle.state_sets.proofs.Direct.{put_written}
use Rattle.state_sets.proofs.graph.put_in_row.Goals as goal

pub returns : goal.returns
returns c = put_written c.args.rows.now.items _ c.args.number c.args.state c.index_mut-row.result.now c.put.new.marks c.requires c.index_mut-row.ensures.value c.put.ensures refl
