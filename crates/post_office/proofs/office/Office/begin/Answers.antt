use Rattle.std.proofs.Common.{sym, subst, ap, refl, ◌≡◌, ◌∙◌, ◌+◌, ◌<◌, ◌^◌, ◌++◌, ◌∷◌, [], ℕ, length, arith, List, Some}
use Rattle.std.specs.Prelude.{vec_len}
use Rattle.std.proofs.Math.ListN.{replicate}
use Rattle.chor_base.specs.declared.names.NameId.{NameId}
use Rattle.chor_base.specs.declared.event.Entry.{Entry}
use Rattle.chor_base.specs.declared.event.Event.TheVariants as event
use Rattle.endpoint_code.specs.Network.{channel_of, served_parts}
use Rattle.post_office.specs.declared.desk.Desk.{Desk}
use Rattle.post_office.specs.Views.{OfficeView, idle, all_joined}
use Rattle.post_office.specs.Starts.{AllPosted, FitsStart}
use Rattle.post_office.proofs.Starting.{served_most, resized, begun_kept}
use Rattle.post_office.proofs.office.Office.begin.Goals as goal

pub add_served-requires : goal.add_served-requires
add_served-requires c =
    let most = served_most c.args.self.now.endpoints.channels c.args.channel.now.name c.args.channel.now c.requires.channel in
    let desks : length c.self.inside.desks.items ≡ length c.args.self.now.desks = ap (λ (v : OfficeView). length v.desks) c.self.view_is in
    let serve = ap length c.as_slice.ensures in
    omega (arith, most, desks, serve, c.requires.fits.processes, c.len.ensures)

pub invariant_of-self-2 : goal.invariant_of-self-2
invariant_of-self-2 c =
    let k = c.args.channel.now in
    let view = c.self.view_is in
    let found = subst (λ (v : OfficeView). channel_of v.endpoints.channels k.name ≡ Some k) (sym view) c.requires.channel in
    let posted = subst (λ (v : OfficeView). AllPosted v.desks k.name c.args.parts) (sym view) c.requires.posted in
    let fits = subst FitsStart (sym view) c.requires.fits in
    let most = served_most c.self.inside.endpoints.now.channels k.name k found in
    let few : length c.self.inside.desks.items + length k.serve < 2 ^ 32 = omega (arith, most, fits.processes) in
    let s = c.self.inside.ledger.sid in
    let many : c.len.result ≡ length c.self.inside.desks.items = (let e = c.len.ensures in omega arith) in
    let parts : c.add_served.new.parts ≡ c.args.parts ++ served_parts k.serve (length c.self.inside.desks.items) =
    c.in_ok-add_served.ensures ∙ ap (λ (rs : List NameId). c.args.parts ++ served_parts rs c.len.result) c.as_slice.ensures ∙ ap (λ i. c.args.parts ++ served_parts k.serve i) many in
    let is = ap (λ (ps : List (NameId × ℕ)). event.Start k.name s ps) parts in
    let size : c.len-2.result + c.len-3.result ≡ length c.self.inside.desks.items + length k.serve = omega (arith, c.len-2.ensures, c.len-3.ensures) in
    let long : vec_len c.self.inside.desks ≡ length c.self.inside.desks.items = omega (arith, c.self.inside.desks.ok.0) in
    let all : c.resize.new.self.items ≡ c.self.inside.desks.items ++ replicate (length k.serve) idle =
    c.in_ok-resize.ensures.items ∙ resized c.self.inside.desks.items (length k.serve) (c.len-2.result + c.len-3.result) (vec_len c.self.inside.desks) c.idle.result idle size long c.idle.ensures in
    let desks = c.join_all.ensures ∙ ap (λ (ps : List (NameId × ℕ)). all_joined s ps c.resize.new.self.items) (c.as_slice-2.ensures ∙ parts)
    ∙ ap (λ (ds : List Desk). all_joined s (c.args.parts ++ served_parts k.serve (length c.self.inside.desks.items)) ds) all in
    let history = c.append.ensures.items ∙ ap (λ (es : List Entry). es ++ record { worker = c.args.worker; event = event.Start k.name s c.add_served.new.parts } ∷ []) c.reserve_entries.ensures.items in
    begun_kept c.self.invariant k c.args.parts found posted c.requires.roles c.requires.some few _ c.args.worker (s + 1) c.append.new.history.items c.join_all.new.desks.items _ _ is history refl desks
