use Rattle.local_types.proofs.Firsts.{first_refusal, protocols_more, protocols_whole}
use Rattle.local_types.proofs.view.check_views.Goals as goal

pub returns-in-Err-clause-refused : goal.returns-in-Err-clause-refused
returns-in-Err-clause-refused c = first_refusal c.args.file.now.protocols c.as_slice-protocol-items.result.now c.loop-protocol.protocol-index c.protocol-item.result c.in-Err.denied c.as_slice-protocol-items.ensures c.loop-protocol-test.true c.protocol-item.is c.loop-protocol.invariant c.in-Err.ensures.refused

pub loop-protocol-preserved : goal.loop-protocol-preserved
loop-protocol-preserved c = protocols_more c.args.file.now.protocols c.as_slice-protocol-items.result.now c.loop-protocol.protocol-index c.protocol-item.result c.as_slice-protocol-items.ensures c.loop-protocol-test.true c.protocol-item.is c.loop-protocol.invariant c.in-Ok.ensures.fine

pub returns-clause-fine : goal.returns-clause-fine
returns-clause-fine c = protocols_whole c.args.file.now.protocols c.as_slice-protocol-items.result.now c.loop-protocol.protocol-index c.as_slice-protocol-items.ensures c.loop-protocol-test.false c.loop-protocol.invariant
