use Rattle.chor_tree.specs.Names.{first_named}
use Rattle.typing_steps.proofs.Searches.{at_end, found, passed}
use Rattle.typing_steps.proofs.declared.channel_of.Goals as goal

pub returns-then-eq : goal.returns-then-eq
returns-then-eq c = found (λ x. x.name) c.as_slice-channel-items.result.now c.args.file.now.services c.args.name c.loop-channel.channel-index _ c.channel-item.result c.eq.ensures c.as_slice-channel-items.ensures c.loop-channel-test.true c.channel-item.is c.loop-channel.invariant c.if-eq.true

pub loop-channel-preserved : goal.loop-channel-preserved
loop-channel-preserved c = passed (λ x. x.name) c.as_slice-channel-items.result.now c.args.file.now.services c.args.name c.loop-channel.channel-index _ c.channel-item.result c.eq.ensures c.as_slice-channel-items.ensures c.loop-channel-test.true c.channel-item.is c.loop-channel.invariant c.if-eq.false

pub returns : goal.returns
returns c = at_end (λ l. first_named (λ x. x.name) l c.args.name) c.as_slice-channel-items.result.now c.args.file.now.services c.loop-channel.channel-index _ c.as_slice-channel-items.ensures c.loop-channel-test.false c.loop-channel.invariant
