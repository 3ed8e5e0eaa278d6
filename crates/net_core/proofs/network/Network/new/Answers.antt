use Rattle.net_core.proofs.Scopes.{first_sound}
use Rattle.net_core.proofs.network.Network.new.Goals as goal

pub invariant_of-result : goal.invariant_of-result
invariant_of-result c = first_sound c.args.endpoints.now _ c.in_ok-machines.ensures.machines c.in_ok-machines.ensures.counted c.requires c.standing_all.ensures.few
