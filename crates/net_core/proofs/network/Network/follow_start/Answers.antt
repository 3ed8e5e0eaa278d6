use Rattle.std.proofs.Common.{◌≡◌, ◌∙◌, ◌+◌, ◌*◌, ◌<◌, ◌^◌, List, sym, ap, subst, refl, length, Some, None, arith, take, true, false}
use Rattle.std.specs.Option.{option_copied}
use Rattle.chor_base.specs.declared.names.NameId.{NameId}
use Rattle.endpoint_code.specs.declared.endpoints.Channel.{Channel}
use Rattle.endpoint_code.specs.Network.{channel_of}
use Rattle.net_core.specs.Follows.{IsStep, IsCasting}
use Rattle.net_core.specs.Steps.{most_served}
use Rattle.net_core.specs.Views.{NetworkView}
use Rattle.net_core.proofs.Begins.{channel_named}
use Rattle.net_core.proofs.Fields.{served_most, grown_begun}
use Rattle.net_core.proofs.Castings.{step_casting, casting_step, started_step, same_start}
use Rattle.std.proofs.lemmas.Bool.{true≢false}
use Rattle.std.proofs.lemmas.Option.{none-some, same_Some}
use Rattle.net_core.proofs.network.Network.follow_start.Goals as goal

pub returns-in_default : goal.returns-in_default
returns-in_default c = λ hosts.
    let v = c.args.self.now in
    let none : None ≡ channel_of v.endpoints.channels c.args.channel =
    ap option_copied (sym c.in_default.is) ∙ c.channel_named.ensures ∙ ap (λ (ks : List Channel). channel_of ks c.args.channel) c.as_slice.ensures ∙ ap (λ (w : NetworkView). channel_of w.endpoints.channels c.args.channel) c.self.view_is
    in (
      λ step. let r = step_casting v.endpoints hosts v.capacity v.state c.args.channel c.args.sid c.args.parts.now step in none-some r.0 (none ∙ r.1),
      record { endpoints = refl; capacity = refl; state = refl; history = refl; stopped = refl; room = λ p h. h },
    )

pub may_start-requires : goal.may_start-requires
may_start-requires c =
    let v = c.args.self.now in
    let k = c.in-Some.found.now in
    let found : channel_of v.endpoints.channels c.args.channel ≡ Some k =
    sym (c.in-Some.ensures ∙ ap (λ (ks : List Channel). channel_of ks c.args.channel) c.as_slice.ensures ∙ ap (λ (w : NetworkView). channel_of w.endpoints.channels c.args.channel) c.self.view_is)
    in
    let most = served_most v.endpoints.channels c.args.channel k found in
    let one : length v.state.machines + 1 * most_served v.endpoints.channels < 2 ^ 32 = c.requires.machines in
    omega arith

pub returns-then-sid-self : goal.returns-then-sid-self
returns-then-sid-self c = λ hosts.
    let v = c.args.self.now in (
      λ step. let r = step_casting v.endpoints hosts v.capacity v.state c.args.channel c.args.sid c.args.parts.now step in c.if-sid-self.true (r.2 ∙ ap (λ (w : NetworkView). w.state.sid) (sym c.self.view_is)),
      record { endpoints = refl; capacity = refl; state = refl; history = refl; stopped = refl; room = λ p h. h },
    )

pub returns-then-not-may_start : goal.returns-then-not-may_start
returns-then-not-may_start c = λ hosts.
    let v = c.args.self.now in
    let k = c.in-Some.found.now in
    let found : channel_of v.endpoints.channels c.args.channel ≡ Some k =
    sym (c.in-Some.ensures ∙ ap (λ (ks : List Channel). channel_of ks c.args.channel) c.as_slice.ensures ∙ ap (λ (w : NetworkView). channel_of w.endpoints.channels c.args.channel) c.self.view_is)
    in (
      λ step.
          let r = step_casting v.endpoints hosts v.capacity v.state c.args.channel c.args.sid c.args.parts.now step in
          let both : Some r.0 ≡ Some k = sym r.1 ∙ found in
          let same = same_Some r.0 k both in
          let yes : c.may_start.result ≡ true = c.may_start.ensures.1 (subst (λ (x : Channel). IsCasting v.endpoints v.state.machines x c.args.parts.now) same r.3) in
          let no : c.may_start.result ≡ false = c.if-not-may_start.true in
          true≢false (sym yes ∙ no),
      record { endpoints = refl; capacity = refl; state = refl; history = refl; stopped = refl; room = λ p h. h },
    )

pub begin_with-requires-clause-channel : goal.begin_with-requires-clause-channel
begin_with-requires-clause-channel c =
    let v = c.args.self.now in
    let k = c.in-Some.found.now in
    let found : channel_of v.endpoints.channels c.args.channel ≡ Some k =
    sym (c.in-Some.ensures ∙ ap (λ (ks : List Channel). channel_of ks c.args.channel) c.as_slice.ensures ∙ ap (λ (w : NetworkView). channel_of w.endpoints.channels c.args.channel) c.self.view_is)
    in
    subst (λ (x : NameId). channel_of v.endpoints.channels x ≡ Some k) (sym (channel_named v.endpoints.channels c.args.channel k found)) found

pub returns-in-Ok : goal.returns-in-Ok
returns-in-Ok c = λ hosts.
    let v = c.args.self.now in
    let k = c.in-Some.found.now in
    let found : channel_of v.endpoints.channels c.args.channel ≡ Some k =
    sym (c.in-Some.ensures ∙ ap (λ (ks : List Channel). channel_of ks c.args.channel) c.as_slice.ensures ∙ ap (λ (w : NetworkView). channel_of w.endpoints.channels c.args.channel) c.self.view_is)
    in
    let named = channel_named v.endpoints.channels c.args.channel k found in
    let here = subst (λ (x : NameId). channel_of v.endpoints.channels x ≡ Some k) (sym named) found in
    let cast = c.may_start.ensures.0 c.if-not-may_start.false in
    let number = c.if-sid-self.false ∙ ap (λ (w : NetworkView). w.state.sid) c.self.view_is in (
      started_step hosts v c.begin_with.new.self k c.args.channel c.args.sid c.args.parts.now here cast named number c.in-Ok.ensures.ok,
      grown_begun 0 v k (take (length k.active) c.args.parts.now) c.begin_with.new.self here c.in-Ok.ensures.ok,
    )

pub returns-in-Err : goal.returns-in-Err
returns-in-Err c = λ hosts.
    let v = c.args.self.now in
    let k = c.in-Some.found.now in
    let found : channel_of v.endpoints.channels c.args.channel ≡ Some k =
    sym (c.in-Some.ensures ∙ ap (λ (ks : List Channel). channel_of ks c.args.channel) c.as_slice.ensures ∙ ap (λ (w : NetworkView). channel_of w.endpoints.channels c.args.channel) c.self.view_is)
    in
    let named = channel_named v.endpoints.channels c.args.channel k found in
    let here = subst (λ (x : NameId). channel_of v.endpoints.channels x ≡ Some k) (sym named) found in
    let cast = c.may_start.ensures.0 c.if-not-may_start.false in
    let number = c.if-sid-self.false ∙ ap (λ (w : NetworkView). w.state.sid) c.self.view_is in (
      subst (IsStep v.endpoints hosts v.capacity v.state) (same_start v.state k c.args.channel c.args.sid c.args.parts.now c.args.parts.now named number refl) (casting_step v.endpoints hosts v.capacity v.state k c.args.parts.now here cast),
      c.in-Err.ensures.err,
    )
