use Rattle.std.proofs.Common.{◌≡◌, ◌∙◌, sym, refl, true, false, w64, to_z, of_z, rules}
use Rattle.std.proofs.lemmas.Bool.{true≢false}
use Rattle.chor_host.specs.Functions.{hosts_in}
use Rattle.chor_host.specs.Tables.{functions_of}
use Rattle.net_core.proofs.Fields.{grown_after}
use Rattle.net_core.proofs.Makers.{may_within}
use Rattle.net_core.proofs.Lone.{no_step, is_step}
use Rattle.net_core.proofs.Told.{followed_after, may_still}
use Rattle.net_core.proofs.network.Network.follow_call.Goals as goal

pub can_make-requires : goal.can_make-requires
can_make-requires g c = c.requires.hosts

pub returns-then-not-can_make : goal.returns-then-not-can_make
returns-then-not-can_make g c =
    let v = c.args.self.now in
    let hosts = hosts_in v.endpoints.names (functions_of c.args.hosts.now) in
    (no_step v.endpoints hosts v.capacity v.state c.args.pid c.args.event.now c.requires.maker (λ may. let yes : c.can_make.result ≡ true = c.can_make.ensures.1 may in let no : c.can_make.result ≡ false = c.if-not-can_make.true in true≢false (sym yes ∙ no)), record { endpoints = refl; capacity = refl; state = refl; history = refl; stopped = refl; room = λ p h. h })

pub reserve-requires : goal.reserve-requires
reserve-requires g c =
    let v = c.args.self.now in
    may_within v.endpoints (hosts_in v.endpoints.names (functions_of c.args.hosts.now)) v.capacity v.state c.args.pid c.args.event.now (c.can_make.ensures.0 c.if-not-can_make.false)

pub tell-requires : goal.tell-requires
tell-requires g c =
    let v = c.args.self.now in
    let same = c.in-Ok.ensures.same in
    let back : to_z w64 (of_z w64 c.args.answer) ≡ c.args.answer = search rules in
    let may = c.can_make.ensures.0 c.if-not-can_make.false in
    let still = may_still (λ e. hosts_in e.names (functions_of c.args.hosts.now)) v c.reserve.new.self c.args.pid c.args.event.now same may in
    record {
      there = may_within _ _ _ _ c.args.pid c.args.event.now still;
      call = c.requires.call;
      answer = c.requires.answer ∙ sym back;
      may = still;
      room = c.in-Ok.ensures.ok;
    }

pub returns-in-Ok : goal.returns-in-Ok
returns-in-Ok g c =
    let v = c.args.self.now in
    let w = c.reserve.new.self in
    let same = c.in-Ok.ensures.same in
    (followed_after (λ e. hosts_in e.names (functions_of c.args.hosts.now)) v w c.tell.new.self c.args.event.now same c.tell.ensures.followed, grown_after v w c.tell.new.self same c.tell.ensures.grown)

pub returns-in-Err : goal.returns-in-Err
returns-in-Err g c =
    let v = c.args.self.now in
    let hosts = hosts_in v.endpoints.names (functions_of c.args.hosts.now) in
    (is_step v.endpoints hosts v.capacity v.state c.args.pid c.args.event.now (c.can_make.ensures.0 c.if-not-can_make.false), c.in-Err.ensures.same)
