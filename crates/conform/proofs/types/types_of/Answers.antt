use Rattle.std.proofs.Common.{◌∙◌, ap}
use Rattle.state_sets.proofs.Lists.{in_of_at}
use Rattle.local_types.proofs.Firsts.{place_there, role_at}
use Rattle.conform.proofs.RoleTypes.{types_more}
use Rattle.conform.proofs.types.types_of.Goals as goal

pub local-requires : goal.local-requires
local-requires c = place_there c.args.protocol.now.roles _ (in_of_at _ c.args.protocol.now.roles c.loop-role.role-index (role_at c.args.protocol.now.roles c.as_slice-role-items.result.now c.loop-role.role-index _ (c.as_slice-role-items.ensures ∙ ap (λ p. p.roles) c.protocol.view_is) c.loop-role-test.true))

pub loop-role-preserved : goal.loop-role-preserved
loop-role-preserved c = types_more c.args.protocol.now c.as_slice-role-items.result.now c.loop-role.role-index _ c.loop-role.types c.push.new.self c.in-Ok.local (c.as_slice-role-items.ensures ∙ ap (λ p. p.roles) c.protocol.view_is) c.loop-role-test.true c.loop-role.invariant (record { stands = c.in-Ok.ensures.stands; distinct = c.in-Ok.ensures.distinct }) c.in_ok-push-in-Ok.ensures.ok
