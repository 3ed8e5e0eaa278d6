use Rattle.std.proofs.Common.{refl}
use Rattle.state_sets.proofs.Parts.{part_written}
use Rattle.state_sets.proofs.graph.add_to_part.Goals as goal

pub returns : goal.returns
returns c = part_written c.args.number c.args.item c.args.parts.now.items _ c.index_mut-part.result.now c.push.new.self c.requires c.index_mut-part.ensures.value c.in_ok-push.ensures.items refl
