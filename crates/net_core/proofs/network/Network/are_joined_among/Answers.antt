use Rattle.std.proofs.Common.{◌≡◌, ◌∙◌, ◌+◌, sym, ap, Bool, cond, Option, Some, None, List, drop, get_or, is_some}
use Rattle.std.specs.Prelude.{not}
use Rattle.std.specs.Option.{option_copied}
use Rattle.std.proofs.lemmas.List.{drop_all}
use Rattle.chor_base.specs.declared.event.Why.{Why}
use Rattle.chor_base.specs.declared.event.Why.TheVariants.{Absent}
use Rattle.endpoint_code.specs.declared.endpoints.Channel.{Channel}
use Rattle.endpoint_code.specs.Network.{channel_of}
use Rattle.endpoint_code.specs.NetworkRuns.{absent_among, absent_on}
use Rattle.net_core.specs.Views.{NetworkView}
use Rattle.net_core.proofs.Heads.{absent_turn}
use Rattle.net_core.proofs.network.Network.are_joined_among.Goals as goal

pub returns-in_default : goal.returns-in_default
returns-in_default c =
    let v = c.args.self.now in
    let none : None ≡ channel_of v.endpoints.channels c.args.channel =
    ap option_copied (sym c.in_default.is) ∙ c.channel_named.ensures ∙ ap (λ (ks : List Channel). channel_of ks c.args.channel) c.as_slice.ensures ∙ ap (λ (w : NetworkView). channel_of w.endpoints.channels c.args.channel) c.self.view_is
    in
    ap (λ (o : Option Channel). not (is_some (absent_on v.endpoints v.state.machines c.args.channel c.args.own o))) none

pub loop-role-init : goal.loop-role-init
loop-role-init c =
    let v = c.args.self.now in
    let chan : Some c.in-Some.found.now ≡ channel_of v.endpoints.channels c.args.channel =
    c.in-Some.ensures ∙ ap (λ (ks : List Channel). channel_of ks c.args.channel) c.as_slice.ensures ∙ ap (λ (w : NetworkView). channel_of w.endpoints.channels c.args.channel) c.self.view_is
    in
    ap (absent_on v.endpoints v.state.machines c.args.channel c.args.own) (sym chan) ∙ ap (absent_among v.endpoints v.state.machines c.args.channel c.args.own) (sym c.as_slice-role-items.ensures)

pub is_missing_among-requires-clause-there : goal.is_missing_among-requires-clause-there
is_missing_among-requires-clause-there c = c.requires.there

pub is_missing_among-requires-clause-all : goal.is_missing_among-requires-clause-all
is_missing_among-requires-clause-all c = c.requires.all

pub returns-then-is_missing_among : goal.returns-then-is_missing_among
returns-then-is_missing_among c =
    let v = c.args.self.now in
    let i = c.loop-role.role-index in
    let roles = c.as_slice-role-items.result.now in
    let here = absent_turn v.endpoints v.state.machines c.args.channel c.args.own roles i (record { 0 = 0 }) c.is_missing_among.result c.loop-role-test.true c.is_missing_among.ensures in
    sym (ap (λ (o : Option Why). not (is_some o)) (c.loop-role.invariant ∙ here ∙ ap (λ (b : Bool). cond b (Some (Absent c.args.channel (get_or roles i (record { 0 = 0 })))) (absent_among v.endpoints v.state.machines c.args.channel c.args.own (drop (i + 1) roles))) c.if-is_missing_among.true))

pub loop-role-preserved : goal.loop-role-preserved
loop-role-preserved c =
    let v = c.args.self.now in
    let i = c.loop-role.role-index in
    let roles = c.as_slice-role-items.result.now in
    c.loop-role.invariant
    ∙ absent_turn v.endpoints v.state.machines c.args.channel c.args.own roles i (record { 0 = 0 }) c.is_missing_among.result c.loop-role-test.true c.is_missing_among.ensures
    ∙ ap (λ (b : Bool). cond b (Some (Absent c.args.channel (get_or roles i (record { 0 = 0 })))) (absent_among v.endpoints v.state.machines c.args.channel c.args.own (drop (i + 1) roles))) c.if-is_missing_among.false

pub returns : goal.returns
returns c =
    let v = c.args.self.now in
    let none = drop_all c.loop-role.role-index c.as_slice-role-items.result.now c.loop-role-test.false in
    sym (ap (λ (o : Option Why). not (is_some o)) (c.loop-role.invariant ∙ ap (absent_among v.endpoints v.state.machines c.args.channel c.args.own) none))
