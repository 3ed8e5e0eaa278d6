use Rattle.std.proofs.Common.{List, subst}
use Rattle.chor_tree.specs.Protocols.{Protocol}
use Rattle.global_types.specs.Moves.{IsIn}
use Rattle.state_sets.proofs.Lists.{item_among}
use Rattle.conform.proofs.RoleTypes.{protocols_more}
use Rattle.conform.proofs.types.all_types.Goals as goal

pub types_of-requires : goal.types_of-requires
types_of-requires c = c.requires c.protocol-item.result (subst (λ (l : List Protocol). IsIn c.protocol-item.result l) c.as_slice-protocol-items.ensures (item_among c.as_slice-protocol-items.result.now c.loop-protocol.protocol-index c.protocol-item.result c.loop-protocol-test.true c.protocol-item.is))

pub loop-protocol-preserved : goal.loop-protocol-preserved
loop-protocol-preserved c = protocols_more c.args.file.now.protocols c.as_slice-protocol-items.result.now c.loop-protocol.protocol-index c.protocol-item.result c.loop-protocol.types c.push.new.self c.in_ok-types_of.field-0 c.as_slice-protocol-items.ensures c.loop-protocol-test.true c.protocol-item.is c.loop-protocol.invariant c.in_ok-types_of.ensures c.in_ok-push.ensures.ok
