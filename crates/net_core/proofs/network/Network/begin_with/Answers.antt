use Rattle.std.proofs.Common.{◌≡◌, ◌∙◌, List, sym, ap, subst, length, take}
use Rattle.chor_base.specs.declared.names.NameId.{NameId}
use Rattle.endpoint_code.specs.Faults.{IsFaultless}
use Rattle.session_starts.specs.Starts.{AllJoin, AreApart}
use Rattle.net_core.specs.Views.{NetworkView}
use Rattle.net_core.proofs.Begins.{channel_distinct}
use Rattle.net_core.proofs.Castings.{casting_told, joined_length, all_join, joined_apart}
use Rattle.net_core.proofs.network.Network.begin_with.Goals as goal

pub slice_bounds-joining-end : goal.slice_bounds-joining-end
slice_bounds-joining-end c =
    let v = c.args.self.now in
    let k = c.args.channel.now in
    let told = casting_told v.endpoints v.state.machines k c.args.parts.now c.requires.casting in
    let long = joined_length v.endpoints v.state.machines k.name k.active (take (length k.active) c.args.parts.now) told.joins_all in
    subst (λ (l : List NameId). length l ≡ length (take (length l) c.args.parts.now)) (sym c.as_slice.ensures) (sym long)

pub begin-requires-clause-joins : goal.begin-requires-clause-joins
begin-requires-clause-joins c =
    let v = c.args.self.now in
    let k = c.args.channel.now in
    let told = casting_told v.endpoints v.state.machines k c.args.parts.now c.requires.casting in
    let same : c.in_ok-parts.parts ≡ take (length k.active) c.args.parts.now = c.in_ok-parts.ensures ∙ ap (λ (l : List NameId). take (length l) c.args.parts.now) c.as_slice.ensures in
    subst (AllJoin v.endpoints v.state.machines k.name) (sym same) (all_join v.endpoints v.state.machines k.name k.active (take (length k.active) c.args.parts.now) told.joins_all)

pub begin-requires-clause-apart : goal.begin-requires-clause-apart
begin-requires-clause-apart c =
    let v = c.args.self.now in
    let k = c.args.channel.now in
    let told = casting_told v.endpoints v.state.machines k c.args.parts.now c.requires.casting in
    let same : c.in_ok-parts.parts ≡ take (length k.active) c.args.parts.now = c.in_ok-parts.ensures ∙ ap (λ (l : List NameId). take (length l) c.args.parts.now) c.as_slice.ensures in
    let distinct = channel_distinct v.endpoints k.name k (subst (λ (w : NetworkView). IsFaultless w.endpoints) c.self.view_is c.self.invariant.faultless) c.requires.channel in
    subst AreApart (sym same) (joined_apart v.endpoints v.state.machines k.name k.active (take (length k.active) c.args.parts.now) told.joins_all distinct)
