use Rattle.std.proofs.Common.{refl, ◌≡◌, ◌∙◌, sym, ap, Bool, cond, Some, List, drop, ◌+◌, get_or}
use Rattle.chor_base.specs.declared.event.Why.TheVariants.{Absent}
use Rattle.endpoint_code.specs.declared.endpoints.Channel.{Channel}
use Rattle.endpoint_code.specs.Network.{channel_of}
use Rattle.net_core.specs.Views.{NetworkView}
use Rattle.endpoint_code.specs.NetworkRuns.{absent_among, absent_on}
use Rattle.net_core.proofs.Heads.{absent_turn}
use Rattle.std.proofs.lemmas.List.{drop_all}
use Rattle.net_core.proofs.network.Network.absent.Goals as goal

pub returns-then-is_missing : goal.returns-then-is_missing
returns-then-is_missing c =
    let v = c.args.self.now in
    let i = c.loop-role.role-index in
    let roles = c.as_slice-roles.result.now in
    let chan : Some c.in_ok-channel_named.field-0.now ≡ channel_of v.endpoints.channels c.args.channel =
    c.in_ok-channel_named.ensures ∙ ap (λ (ks : List Channel). channel_of ks c.args.channel) c.as_slice.ensures ∙ ap (λ (w : NetworkView). channel_of w.endpoints.channels c.args.channel) c.self.view_is
    in
    let here = absent_turn v.endpoints v.state.machines c.args.channel c.args.own roles i (record { 0 = 0 }) c.is_missing.result c.loop-role-test.true c.is_missing.ensures in
    sym (ap (absent_on v.endpoints v.state.machines c.args.channel c.args.own) (sym chan) ∙ ap (absent_among v.endpoints v.state.machines c.args.channel c.args.own) (sym c.as_slice-roles.ensures)
    ∙ c.loop-role.invariant ∙ here ∙ ap (λ (b : Bool). cond b (Some (Absent c.args.channel (get_or roles i (record { 0 = 0 })))) (absent_among v.endpoints v.state.machines c.args.channel c.args.own (drop (i + 1) roles))) c.if-is_missing.true)

pub loop-role-preserved : goal.loop-role-preserved
loop-role-preserved c =
    let v = c.args.self.now in
    let i = c.loop-role.role-index in
    let roles = c.as_slice-roles.result.now in
    c.loop-role.invariant
    ∙ absent_turn v.endpoints v.state.machines c.args.channel c.args.own roles i (record { 0 = 0 }) c.is_missing.result c.loop-role-test.true c.is_missing.ensures
    ∙ ap (λ (b : Bool). cond b (Some (Absent c.args.channel (get_or roles i (record { 0 = 0 })))) (absent_among v.endpoints v.state.machines c.args.channel c.args.own (drop (i + 1) roles))) c.if-is_missing.false

pub loop-role-init : goal.loop-role-init
loop-role-init c = refl

pub returns : goal.returns
returns c =
    let v = c.args.self.now in
    let chan : Some c.in_ok-channel_named.field-0.now ≡ channel_of v.endpoints.channels c.args.channel =
    c.in_ok-channel_named.ensures ∙ ap (λ (ks : List Channel). channel_of ks c.args.channel) c.as_slice.ensures ∙ ap (λ (w : NetworkView). channel_of w.endpoints.channels c.args.channel) c.self.view_is
    in
    sym (ap (absent_on v.endpoints v.state.machines c.args.channel c.args.own) (sym chan) ∙ ap (absent_among v.endpoints v.state.machines c.args.channel c.args.own) (sym c.as_slice-roles.ensures)
    ∙ c.loop-role.invariant ∙ ap (absent_among v.endpoints v.state.machines c.args.channel c.args.own) (drop_all c.loop-role.role-index c.as_slice-roles.result.now c.loop-role-test.false))
