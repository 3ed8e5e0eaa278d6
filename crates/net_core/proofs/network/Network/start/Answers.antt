use Rattle.std.proofs.Common.{◌≡◌, ◌∙◌, sym, ap, subst, List, Some, None}
use Rattle.std.specs.Option.{option_copied}
use Rattle.endpoint_code.specs.declared.endpoints.Channel.{Channel}
use Rattle.endpoint_code.specs.Network.{channel_of}
use Rattle.endpoint_code.specs.Faults.{IsFaultless}
use Rattle.chor_base.specs.Meaning.{Hosts}
use Rattle.chor_base.specs.declared.names.NameId.{NameId}
use Rattle.session_starts.specs.Starts.{AllJoin}
use Rattle.net_core.specs.Heads.{Shows}
use Rattle.net_core.specs.Starts.{IsCast}
use Rattle.net_core.specs.Views.{NetworkView}
use Rattle.net_core.specs.Steps.{HasBegunBy}
use Rattle.net_core.proofs.Answered.{on_ok}
use Rattle.net_core.proofs.Fields.{grown_begun}
use Rattle.net_core.proofs.Casts.{cast_joins, cast_apart}
use Rattle.net_core.proofs.Begins.{stands_joining, channel_distinct, channel_named, begins, join_stands, join_channel}
use Rattle.std.proofs.lemmas.Option.{none-some}
use Rattle.net_core.proofs.network.Network.start.Goals as goal

pub unreachable-requires-in_default-channel_named : goal.unreachable-requires-in_default-channel_named
unreachable-requires-in_default-channel_named c =
    let v = c.args.self.now in
    let active = join_channel v.endpoints v.state c.args.pid c.in-Join.channel c.in-Join.own (subst (Shows v.endpoints v.state c.args.pid) c.in-Join.is c.requires.shows) in
    let none : None ≡ channel_of v.endpoints.channels c.in-Join.channel =
    ap option_copied (sym c.in_default-channel_named.is) ∙ c.channel_named.ensures ∙ ap (λ (ks : List Channel). channel_of ks c.in-Join.channel) c.as_slice.ensures ∙ ap (λ (w : NetworkView). channel_of w.endpoints.channels c.in-Join.channel) c.self.view_is
    in
    none-some active.0 (none ∙ active.1)

pub begin-requires : goal.begin-requires
begin-requires c =
    let v = c.args.self.now in
    let s = (join_stands v.endpoints v.state c.args.pid c.in-Join.channel c.in-Join.own (subst (Shows v.endpoints v.state c.args.pid) c.in-Join.is c.requires.shows)).2 in
    let k = c.in-Some.found.now in
    let found : channel_of v.endpoints.channels c.in-Join.channel ≡ Some k =
    sym (c.in-Some.ensures ∙ ap (λ (ks : List Channel). channel_of ks c.in-Join.channel) c.as_slice.ensures ∙ ap (λ (w : NetworkView). channel_of w.endpoints.channels c.in-Join.channel) c.self.view_is)
    in
    let named = channel_named v.endpoints.channels c.in-Join.channel k found in
    let cast : IsCast v.endpoints v.state.machines c.in-Join.channel c.args.pid c.in-Join.own k.active c.in_ok-parts.parts =
    subst (λ (rs : List NameId). IsCast v.endpoints v.state.machines c.in-Join.channel c.args.pid c.in-Join.own rs c.in_ok-parts.parts) c.as_slice-2.ensures c.in_ok-parts.ensures
    in
    let joins = stands_joining v.endpoints v.state c.args.pid _ _ _ _ s in
    record {
      channel = subst (λ (x : NameId). channel_of v.endpoints.channels x ≡ Some k) (sym named) found;
      joins = subst (λ (x : NameId). AllJoin v.endpoints v.state.machines x c.in_ok-parts.parts) (sym named) (cast_joins cast joins);
      apart =
          cast_apart cast (channel_distinct v.endpoints c.in-Join.channel k (subst (λ (w : NetworkView). IsFaultless w.endpoints) c.self.view_is c.self.invariant.faultless) found)
          joins;
      fits = c.requires.fits;
    }

pub returns-clause-ok : goal.returns-clause-ok
returns-clause-ok c =
    let v = c.args.self.now in
    let t = join_stands v.endpoints v.state c.args.pid c.in-Join.channel c.in-Join.own (subst (Shows v.endpoints v.state c.args.pid) c.in-Join.is c.requires.shows) in
    let k = c.in-Some.found.now in
    let found : channel_of v.endpoints.channels c.in-Join.channel ≡ Some k =
    sym (c.in-Some.ensures ∙ ap (λ (ks : List Channel). channel_of ks c.in-Join.channel) c.as_slice.ensures ∙ ap (λ (w : NetworkView). channel_of w.endpoints.channels c.in-Join.channel) c.self.view_is)
    in
    let cast : IsCast v.endpoints v.state.machines c.in-Join.channel c.args.pid c.in-Join.own k.active c.in_ok-parts.parts =
    subst (λ (rs : List NameId). IsCast v.endpoints v.state.machines c.in-Join.channel c.args.pid c.in-Join.own rs c.in_ok-parts.parts) c.as_slice-2.ensures c.in_ok-parts.ensures
    in
    on_ok c.begin.result
    (λ (h : HasBegunBy c.args.worker c.args.self.now k c.in_ok-parts.parts c.begin.new.self) (hosts : Hosts).
    record {
      event = _;
      state = _;
      becomes = h.becomes;
      chooses = begins v.endpoints hosts v.capacity v.state c.args.pid c.in-Join.channel c.in-Join.own t.0 t.1 k c.in_ok-parts.parts h.machines t.2 found cast h.started;
    })
    c.begin.ensures.ok

pub returns-clause-grown : goal.returns-clause-grown
returns-clause-grown c =
    let v = c.args.self.now in
    let k = c.in-Some.found.now in
    let found : channel_of v.endpoints.channels c.in-Join.channel ≡ Some k =
    sym (c.in-Some.ensures ∙ ap (λ (ks : List Channel). channel_of ks c.in-Join.channel) c.as_slice.ensures ∙ ap (λ (w : NetworkView). channel_of w.endpoints.channels c.in-Join.channel) c.self.view_is)
    in
    let here : channel_of v.endpoints.channels k.name ≡ Some k = subst (λ (x : NameId). channel_of v.endpoints.channels x ≡ Some k) (sym (channel_named v.endpoints.channels c.in-Join.channel k found)) found in
    on_ok c.begin.result (grown_begun c.args.worker c.args.self.now k c.in_ok-parts.parts c.begin.new.self here) c.begin.ensures.ok
