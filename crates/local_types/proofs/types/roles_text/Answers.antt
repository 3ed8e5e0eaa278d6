use Rattle.std.proofs.Common.{◌∙◌, ap, refl}
use Rattle.local_types.specs.Texts.{IsTypeText}
use Rattle.state_sets.proofs.Lists.{in_of_at}
use Rattle.local_types.proofs.Firsts.{place_there, role_at, first_role, roles_more, roles_whole}
use Rattle.local_types.proofs.RoleTexts.{texts_more, texts_whole}
use Rattle.local_types.proofs.types.roles_text.Goals as goal

pub local-requires : goal.local-requires
local-requires c = place_there c.args.protocol.now.roles _ (in_of_at _ c.args.protocol.now.roles c.loop-role.role-index (role_at c.args.protocol.now.roles c.as_slice-role-items.result.now c.loop-role.role-index _ (c.as_slice-role-items.ensures ∙ ap (λ p. p.roles) c.protocol.view_is) c.loop-role-test.true))

pub returns-in-Err-clause-refused : goal.returns-in-Err-clause-refused
returns-in-Err-clause-refused c = first_role c.args.protocol.now c.as_slice-role-items.result.now c.loop-role.role-index _ c.in-Err.denied (c.as_slice-role-items.ensures ∙ ap (λ p. p.roles) c.protocol.view_is) c.loop-role-test.true c.loop-role.invariant.fine c.in-Err.ensures.refused

pub loop-role-preserved : goal.loop-role-preserved
loop-role-preserved c =
    let same = c.as_slice-role-items.ensures ∙ ap (λ p. p.roles) c.protocol.view_is in record {
      texts = texts_more (IsTypeText c.args.names.now c.args.protocol.now) c.args.protocol.now.roles c.as_slice-role-items.result.now c.loop-role.role-index _ c.loop-role.text.items c.print_local.new.out.items _ same c.loop-role-test.true c.loop-role.invariant.texts
          (record {
            states = c.in-Ok.local.states;
            is_type = record { stands = c.in-Ok.ensures.stands; numbered = c.in-Ok.ensures.numbered; ascend = c.in-Ok.ensures.ascend; distinct = c.in-Ok.ensures.distinct };
            text_is = refl;
          })
          c.in_ok-print_local-in-Ok.ensures.ok;
      fine = roles_more c.args.protocol.now c.as_slice-role-items.result.now c.loop-role.role-index _ same c.loop-role-test.true c.loop-role.invariant.fine c.in-Ok.ensures.fine;
    }

pub returns-clause-text : goal.returns-clause-text
returns-clause-text c = texts_whole (IsTypeText c.args.names.now c.args.protocol.now) c.args.protocol.now.roles c.as_slice-role-items.result.now c.loop-role.role-index c.loop-role.text.items (c.as_slice-role-items.ensures ∙ ap (λ p. p.roles) c.protocol.view_is) c.loop-role-test.false c.loop-role.invariant.texts

pub returns-clause-fine : goal.returns-clause-fine
returns-clause-fine c = roles_whole c.args.protocol.now c.as_slice-role-items.result.now c.loop-role.role-index (c.as_slice-role-items.ensures ∙ ap (λ p. p.roles) c.protocol.view_is) c.loop-role-test.false c.loop-role.invariant.fine
