use Rattle.std.proofs.Common.{ap, ◌==◌, ◌∙◌}
use Rattle.chor_tree.specs.Protocols.{Protocol}
use Rattle.typing_steps.proofs.Searches.{found, passed}
use Rattle.typing_steps.proofs.declared.protocol_of.Goals as goal

pub returns-then-eq : goal.returns-then-eq
returns-then-eq c = found (λ x. x.name) c.as_slice-protocol-items.result.now c.args.file.now.protocols c.args.name c.loop-protocol.protocol-index _ c.protocol-item.result (c.eq.ensures ∙ ap (λ (p : Protocol). p.name.name.0 == c.args.name.0) c.protocol.view_is) c.as_slice-protocol-items.ensures c.loop-protocol-test.true c.protocol-item.is c.loop-protocol.invariant c.if-eq.true

pub loop-protocol-preserved : goal.loop-protocol-preserved
loop-protocol-preserved c = passed (λ x. x.name) c.as_slice-protocol-items.result.now c.args.file.now.protocols c.args.name c.loop-protocol.protocol-index _ c.protocol-item.result (c.eq.ensures ∙ ap (λ (p : Protocol). p.name.name.0 == c.args.name.0) c.protocol.view_is) c.as_slice-protocol-items.ensures c.loop-protocol-test.true c.protocol-item.is c.loop-protocol.invariant c.if-eq.false
