use Rattle.std.proofs.Common.{◌∙◌, ◌&&◌, ◌+◌, Bool, sym, ap, drop}
use Rattle.net_core.specs.Follows.{joined_by}
use Rattle.net_core.proofs.Castings.{joined_turn}
use Rattle.net_core.proofs.network.Network.are_joined.Goals as goal

pub loop-place-preserved : goal.loop-place-preserved
loop-place-preserved c =
    let v = c.args.self.now in
    let i = c.loop-place.place in
    let rs = c.args.roles.now in
    let qs = c.args.parts.now in
    sym (joined_turn v.endpoints v.state.machines c.args.channel rs qs i _ _ c.is_joined.result c.loop-place-test.true c.requires c.is_joined.ensures ∙ ap (λ (b : Bool). b && joined_by v.endpoints v.state.machines c.args.channel (drop (i + 1) rs) (drop (i + 1) qs)) c.if-not-is_joined.false) ∙ c.loop-place.invariant

pub returns-then-not-is_joined : goal.returns-then-not-is_joined
returns-then-not-is_joined c =
    let v = c.args.self.now in
    let i = c.loop-place.place in
    let rs = c.args.roles.now in
    let qs = c.args.parts.now in
    sym (sym c.loop-place.invariant ∙ joined_turn v.endpoints v.state.machines c.args.channel rs qs i _ _ c.is_joined.result c.loop-place-test.true c.requires c.is_joined.ensures ∙ ap (λ (b : Bool). b && joined_by v.endpoints v.state.machines c.args.channel (drop (i + 1) rs) (drop (i + 1) qs)) c.if-not-is_joined.true)
