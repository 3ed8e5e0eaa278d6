use Rattle.std.proofs.Common.{List, ℕ, ◌++◌, subst, ap, ◌∙◌}
use Rattle.chor_tree.specs.Protocols.{Protocol}
use Rattle.local_types.specs.Texts.{AreRoleTexts}
use Rattle.local_types.proofs.Firsts.{first_refusal, protocols_more, protocols_whole}
use Rattle.local_types.proofs.RoleTexts.{texts_more, texts_whole}
use Rattle.local_types.proofs.types.types_text.Goals as goal

pub returns-in-Err-clause-refused : goal.returns-in-Err-clause-refused
returns-in-Err-clause-refused c = first_refusal c.args.file.now.protocols c.as_slice-protocol-items.result.now c.loop-protocol.protocol-index c.protocol-item.result c.in-Err.denied c.as_slice-protocol-items.ensures c.loop-protocol-test.true c.protocol-item.is c.loop-protocol.invariant.fine c.in-Err.ensures.refused

pub loop-protocol-preserved : goal.loop-protocol-preserved
loop-protocol-preserved c =
    let names = c.args.file.now.names in
    let text = c.loop-protocol.text.items in
    let roles = c.in-Ok.roles.items in record {
      texts = texts_more (AreRoleTexts names) c.args.file.now.protocols c.as_slice-protocol-items.result.now c.loop-protocol.protocol-index c.protocol-item.result text c.put_bytes.new.out.items roles c.as_slice-protocol-items.ensures c.loop-protocol-test.true c.loop-protocol.invariant.texts
          (subst (λ (p : Protocol). AreRoleTexts names p roles) c.protocol-item.is c.in-Ok.ensures.text)
          (c.in_ok-put_bytes-in-Ok.ensures.ok ∙ ap (λ (l : List ℕ). text ++ l) c.as_slice.ensures.value);
      fine = protocols_more c.args.file.now.protocols c.as_slice-protocol-items.result.now c.loop-protocol.protocol-index c.protocol-item.result c.as_slice-protocol-items.ensures c.loop-protocol-test.true c.protocol-item.is c.loop-protocol.invariant.fine c.in-Ok.ensures.fine;
    }

pub returns-clause-text : goal.returns-clause-text
returns-clause-text c = texts_whole (AreRoleTexts c.args.file.now.names) c.args.file.now.protocols c.as_slice-protocol-items.result.now c.loop-protocol.protocol-index c.loop-protocol.text.items c.as_slice-protocol-items.ensures c.loop-protocol-test.false c.loop-protocol.invariant.texts

pub returns-clause-fine : goal.returns-clause-fine
returns-clause-fine c = protocols_whole c.args.file.now.protocols c.as_slice-protocol-items.result.now c.loop-protocol.protocol-index c.as_slice-protocol-items.ensures c.loop-protocol-test.false c.loop-protocol.invariant.fine
