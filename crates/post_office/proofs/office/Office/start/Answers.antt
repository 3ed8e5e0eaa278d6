use Rattle.std.proofs.Common.{◌≡◌, ◌∙◌, sym, ap, subst, refl, List, Some, None}
use Rattle.chor_base.specs.declared.names.NameId.{NameId}
use Rattle.endpoint_code.specs.declared.endpoints.Channel.{Channel}
use Rattle.endpoint_code.specs.Network.{channel_of}
use Rattle.post_office.specs.declared.desk.Desk.{Desk}
use Rattle.post_office.specs.declared.post.Post.TheVariants.{Joining}
use Rattle.post_office.specs.Views.{OfficeView, post_at}
use Rattle.post_office.specs.Kept.{IsKept}
use Rattle.post_office.specs.Starts.{IsCast, first_absent}
use Rattle.post_office.proofs.Begins.{own_active, own_channel, own_posted, own_some, answers_by, same_as}
use Rattle.post_office.proofs.Casts.{cast_roles}
use Rattle.post_office.proofs.office.Office.start.Goals as goal

pub unreachable-requires-in_default-channel_named :
    goal.unreachable-requires-in_default-channel_named
unreachable-requires-in_default-channel_named c =
    let v = c.args.self.now in
    let kept = subst IsKept c.self.view_is c.self.invariant in
    let post : post_at v.desks c.args.pid ≡ Joining c.in-Joining.channel c.in-Joining.own = sym (c.in-Joining.ensures ∙ ap (λ (ds : List Desk). post_at ds c.args.pid) (c.as_slice.ensures.value ∙ ap (λ (w : OfficeView). w.desks) c.self.view_is)) in
    let active = own_active v kept c.args.pid c.in-Joining.channel c.in-Joining.own post in
    let none : None ≡ channel_of v.endpoints.channels c.in-Joining.channel = c.in_default-channel_named.ensures ∙ ap (λ (ks : List Channel). channel_of ks c.in-Joining.channel) (c.as_slice-2.ensures ∙ ap (λ (w : OfficeView). w.endpoints.channels) c.self.view_is) in
    let clash : None ≡ Some active.0 = none ∙ active.1 in
    cc

pub returns-in-Some-absent : goal.returns-in-Some-absent
returns-in-Some-absent c =
    let v = c.args.self.now in
    let kept = subst IsKept c.self.view_is c.self.invariant in
    let post : post_at v.desks c.args.pid ≡ Joining c.in-Joining.channel c.in-Joining.own = sym (c.in-Joining.ensures ∙ ap (λ (ds : List Desk). post_at ds c.args.pid) (c.as_slice.ensures.value ∙ ap (λ (w : OfficeView). w.desks) c.self.view_is)) in
    let found : channel_of v.endpoints.channels c.in-Joining.channel ≡ Some c.in-Some.found.now = sym (c.in-Some.ensures ∙ ap (λ (ks : List Channel). channel_of ks c.in-Joining.channel) (c.as_slice-2.ensures ∙ ap (λ (w : OfficeView). w.endpoints.channels) c.self.view_is)) in
    let absent = sym (c.in-Some-absent.ensures ∙ ap (λ (rs : List NameId). first_absent v.desks c.in-Joining.channel c.args.pid c.in-Joining.own rs) c.as_slice-3.ensures) in
    answers_by v v c.args.worker c.args.pid c.in-Joining.channel c.in-Joining.own _ post (record { channel = c.in-Some.found.now; found = found; absent = absent }, refl)

pub returns-in_default-cast : goal.returns-in_default-cast
returns-in_default-cast c =
    let v = c.args.self.now in
    let kept = subst IsKept c.self.view_is c.self.invariant in
    let post : post_at v.desks c.args.pid ≡ Joining c.in-Joining.channel c.in-Joining.own = sym (c.in-Joining.ensures ∙ ap (λ (ds : List Desk). post_at ds c.args.pid) (c.as_slice.ensures.value ∙ ap (λ (w : OfficeView). w.desks) c.self.view_is)) in
    let found : channel_of v.endpoints.channels c.in-Joining.channel ≡ Some c.in-Some.found.now = sym (c.in-Some.ensures ∙ ap (λ (ks : List Channel). channel_of ks c.in-Joining.channel) (c.as_slice-2.ensures ∙ ap (λ (w : OfficeView). w.endpoints.channels) c.self.view_is)) in
    let absent : first_absent v.desks c.in-Joining.channel c.args.pid c.in-Joining.own c.in-Some.found.now.active ≡ None = sym (c.in_default-absent.ensures ∙ ap (λ (rs : List NameId). first_absent v.desks c.in-Joining.channel c.args.pid c.in-Joining.own rs) c.as_slice-3.ensures) in
    answers_by v v c.args.worker c.args.pid c.in-Joining.channel c.in-Joining.own _ post (record { channel = c.in-Some.found.now; found = found; absent = absent }, same_as v)

pub begin-requires-clause-channel : goal.begin-requires-clause-channel
begin-requires-clause-channel c =
    let v = c.args.self.now in
    let kept = subst IsKept c.self.view_is c.self.invariant in
    let post : post_at v.desks c.args.pid ≡ Joining c.in-Joining.channel c.in-Joining.own = sym (c.in-Joining.ensures ∙ ap (λ (ds : List Desk). post_at ds c.args.pid) (c.as_slice.ensures.value ∙ ap (λ (w : OfficeView). w.desks) c.self.view_is)) in
    let found : channel_of v.endpoints.channels c.in-Joining.channel ≡ Some c.in-Some.found.now = sym (c.in-Some.ensures ∙ ap (λ (ks : List Channel). channel_of ks c.in-Joining.channel) (c.as_slice-2.ensures ∙ ap (λ (w : OfficeView). w.endpoints.channels) c.self.view_is)) in
    own_channel v kept c.args.pid c.in-Joining.channel c.in-Joining.own post c.in-Some.found.now found

pub begin-requires-clause-posted : goal.begin-requires-clause-posted
begin-requires-clause-posted c =
    let v = c.args.self.now in
    let kept = subst IsKept c.self.view_is c.self.invariant in
    let post : post_at v.desks c.args.pid ≡ Joining c.in-Joining.channel c.in-Joining.own = sym (c.in-Joining.ensures ∙ ap (λ (ds : List Desk). post_at ds c.args.pid) (c.as_slice.ensures.value ∙ ap (λ (w : OfficeView). w.desks) c.self.view_is)) in
    let found : channel_of v.endpoints.channels c.in-Joining.channel ≡ Some c.in-Some.found.now = sym (c.in-Some.ensures ∙ ap (λ (ks : List Channel). channel_of ks c.in-Joining.channel) (c.as_slice-2.ensures ∙ ap (λ (w : OfficeView). w.endpoints.channels) c.self.view_is)) in
    let cast = subst (λ (rs : List NameId). IsCast v.desks c.in-Joining.channel c.args.pid c.in-Joining.own rs c.in-Ok.parts) c.as_slice-4.ensures c.in-Ok.ensures in
    own_posted v kept c.args.pid c.in-Joining.channel c.in-Joining.own post c.in-Some.found.now found c.in-Ok.parts cast

pub begin-requires-clause-roles : goal.begin-requires-clause-roles
begin-requires-clause-roles c =
    let v = c.args.self.now in
    let cast = subst (λ (rs : List NameId). IsCast v.desks c.in-Joining.channel c.args.pid c.in-Joining.own rs c.in-Ok.parts) c.as_slice-4.ensures c.in-Ok.ensures in
    cast_roles cast

pub begin-requires-clause-some : goal.begin-requires-clause-some
begin-requires-clause-some c =
    let v = c.args.self.now in
    let kept = subst IsKept c.self.view_is c.self.invariant in
    let post : post_at v.desks c.args.pid ≡ Joining c.in-Joining.channel c.in-Joining.own = sym (c.in-Joining.ensures ∙ ap (λ (ds : List Desk). post_at ds c.args.pid) (c.as_slice.ensures.value ∙ ap (λ (w : OfficeView). w.desks) c.self.view_is)) in
    let found : channel_of v.endpoints.channels c.in-Joining.channel ≡ Some c.in-Some.found.now = sym (c.in-Some.ensures ∙ ap (λ (ks : List Channel). channel_of ks c.in-Joining.channel) (c.as_slice-2.ensures ∙ ap (λ (w : OfficeView). w.endpoints.channels) c.self.view_is)) in
    let cast = subst (λ (rs : List NameId). IsCast v.desks c.in-Joining.channel c.args.pid c.in-Joining.own rs c.in-Ok.parts) c.as_slice-4.ensures c.in-Ok.ensures in
    own_some v kept c.args.pid c.in-Joining.channel c.in-Joining.own post c.in-Some.found.now found c.in-Ok.parts cast

pub returns-in-Ok-begin : goal.returns-in-Ok-begin
returns-in-Ok-begin c =
    let v = c.args.self.now in
    let kept = subst IsKept c.self.view_is c.self.invariant in
    let post : post_at v.desks c.args.pid ≡ Joining c.in-Joining.channel c.in-Joining.own = sym (c.in-Joining.ensures ∙ ap (λ (ds : List Desk). post_at ds c.args.pid) (c.as_slice.ensures.value ∙ ap (λ (w : OfficeView). w.desks) c.self.view_is)) in
    let found : channel_of v.endpoints.channels c.in-Joining.channel ≡ Some c.in-Some.found.now = sym (c.in-Some.ensures ∙ ap (λ (ks : List Channel). channel_of ks c.in-Joining.channel) (c.as_slice-2.ensures ∙ ap (λ (w : OfficeView). w.endpoints.channels) c.self.view_is)) in
    let cast = subst (λ (rs : List NameId). IsCast v.desks c.in-Joining.channel c.args.pid c.in-Joining.own rs c.in-Ok.parts) c.as_slice-4.ensures c.in-Ok.ensures in
    answers_by v c.begin.new.self c.args.worker c.args.pid c.in-Joining.channel c.in-Joining.own _ post
    (record { channel = c.in-Some.found.now; found = found; parts = c.in-Ok.parts; cast = cast; begun = c.in-Ok-begin.ensures.begun; session = c.in-Ok-begin.ensures.sid })

pub returns-in-Err : goal.returns-in-Err
returns-in-Err c =
    let v = c.args.self.now in
    let kept = subst IsKept c.self.view_is c.self.invariant in
    let post : post_at v.desks c.args.pid ≡ Joining c.in-Joining.channel c.in-Joining.own = sym (c.in-Joining.ensures ∙ ap (λ (ds : List Desk). post_at ds c.args.pid) (c.as_slice.ensures.value ∙ ap (λ (w : OfficeView). w.desks) c.self.view_is)) in
    let found : channel_of v.endpoints.channels c.in-Joining.channel ≡ Some c.in-Some.found.now = sym (c.in-Some.ensures ∙ ap (λ (ks : List Channel). channel_of ks c.in-Joining.channel) (c.as_slice-2.ensures ∙ ap (λ (w : OfficeView). w.endpoints.channels) c.self.view_is)) in
    let absent : first_absent v.desks c.in-Joining.channel c.args.pid c.in-Joining.own c.in-Some.found.now.active ≡ None = sym (c.in_default-absent.ensures ∙ ap (λ (rs : List NameId). first_absent v.desks c.in-Joining.channel c.args.pid c.in-Joining.own rs) c.as_slice-3.ensures) in
    answers_by v c.begin.new.self c.args.worker c.args.pid c.in-Joining.channel c.in-Joining.own _ post (record { channel = c.in-Some.found.now; found = found; absent = absent }, c.in-Err.ensures.err)
