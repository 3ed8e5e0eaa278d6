use Rattle.std.proofs.Common.{◌≡◌, ◌<◌, ◌∙◌, sym, ap, length, arith}
use Rattle.endpoint_code.specs.Scheduled.{listed}
use Rattle.net_core.proofs.Leaders.{listed_none, some_there}
use Rattle.net_core.proofs.network.Network.pick.Goals as goal

pub returns-clause-none : goal.returns-clause-none
returns-clause-none c =
    let v = c.args.self.now in
    let ls = listed v.endpoints v.capacity v.state in
    let within : c.place_of_pick.result < length ls = (let a = c.place_of_pick.ensures.within in let b = c.listed_count-count.ensures.count in omega arith) in (
      λ h. absurd (some_there ls c.place_of_pick.result within (sym c.listed_at.ensures ∙ h)),
      λ h. (let a : length ls ≡ 0 = ap length (listed_none v.endpoints v.capacity v.state 0 v.state.machines h) in absurd (omega arith)),
    )
