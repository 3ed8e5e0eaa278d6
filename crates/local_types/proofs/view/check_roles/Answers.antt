use Rattle.std.proofs.Common.{◌∙◌, ap}
use Rattle.state_sets.proofs.Lists.{in_of_at}
use Rattle.local_types.proofs.Firsts.{place_there, role_at, first_role, roles_more, roles_whole}
use Rattle.local_types.proofs.view.check_roles.Goals as goal

pub local-requires : goal.local-requires
local-requires c = place_there c.args.protocol.now.roles _ (in_of_at _ c.args.protocol.now.roles c.loop-role.role-index (role_at c.args.protocol.now.roles c.as_slice-role-items.result.now c.loop-role.role-index _ (c.as_slice-role-items.ensures ∙ ap (λ p. p.roles) c.protocol.view_is) c.loop-role-test.true))

pub returns-in-Err-clause-refused : goal.returns-in-Err-clause-refused
returns-in-Err-clause-refused c = first_role c.args.protocol.now c.as_slice-role-items.result.now c.loop-role.role-index _ c.in-Err.denied (c.as_slice-role-items.ensures ∙ ap (λ p. p.roles) c.protocol.view_is) c.loop-role-test.true c.loop-role.invariant c.in-Err.ensures.refused

pub loop-role-preserved : goal.loop-role-preserved
loop-role-preserved c = roles_more c.args.protocol.now c.as_slice-role-items.result.now c.loop-role.role-index _ (c.as_slice-role-items.ensures ∙ ap (λ p. p.roles) c.protocol.view_is) c.loop-role-test.true c.loop-role.invariant c.in-Ok.ensures.fine

pub returns-clause-fine : goal.returns-clause-fine
returns-clause-fine c = roles_whole c.args.protocol.now c.as_slice-role-items.result.now c.loop-role.role-index (c.as_slice-role-items.ensures ∙ ap (λ p. p.roles) c.protocol.view_is) c.loop-role-test.false c.loop-role.invariant
