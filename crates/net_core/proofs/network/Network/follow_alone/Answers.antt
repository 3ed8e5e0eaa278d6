use Rattle.std.proofs.Common.{◌≡◌, ◌∙◌, sym, refl, true, false}
use Rattle.chor_host.specs.Functions.{hosts_in}
use Rattle.chor_host.specs.Tables.{functions_of}
use Rattle.net_core.proofs.Makers.{may_step, may_within}
use Rattle.net_core.proofs.Lone.{no_step, is_step, followed}
use Rattle.std.proofs.lemmas.Bool.{true≢false}
use Rattle.net_core.proofs.network.Network.follow_alone.Goals as goal

pub returns-then-not-can_make : goal.returns-then-not-can_make
returns-then-not-can_make g c =
    let v = c.args.self.now in
    let hosts = hosts_in v.endpoints.names (functions_of c.args.hosts.now) in
    (no_step v.endpoints hosts v.capacity v.state c.args.pid c.args.event.now c.requires.maker (λ may. let yes : c.can_make.result ≡ true = c.can_make.ensures.1 may in let no : c.can_make.result ≡ false = c.if-not-can_make.true in true≢false (sym yes ∙ no)), record { endpoints = refl; capacity = refl; state = refl; history = refl; stopped = refl; room = λ p h. h })

pub go-requires-clause-there : goal.go-requires-clause-there
go-requires-clause-there g c =
    let v = c.args.self.now in
    may_within v.endpoints (hosts_in v.endpoints.names (functions_of c.args.hosts.now)) v.capacity v.state c.args.pid c.args.event.now (c.can_make.ensures.0 c.if-not-can_make.false)

pub go-requires-clause-steps : goal.go-requires-clause-steps
go-requires-clause-steps g c =
    let v = c.args.self.now in
    may_step v.endpoints (hosts_in v.endpoints.names (functions_of c.args.hosts.now)) v.capacity v.state c.args.pid c.args.event.now (c.can_make.ensures.0 c.if-not-can_make.false)

pub returns-in-Ok : goal.returns-in-Ok
returns-in-Ok g c =
    let v = c.args.self.now in
    let hosts = hosts_in v.endpoints.names (functions_of c.args.hosts.now) in
    (followed hosts v c.go.new.self c.args.pid c.args.event.now c.requires.other (c.can_make.ensures.0 c.if-not-can_make.false) c.in-Ok.ensures.ok, c.in-Ok.ensures.grown)

pub returns-in-Err : goal.returns-in-Err
returns-in-Err g c =
    let v = c.args.self.now in
    let hosts = hosts_in v.endpoints.names (functions_of c.args.hosts.now) in
    (is_step v.endpoints hosts v.capacity v.state c.args.pid c.args.event.now (c.can_make.ensures.0 c.if-not-can_make.false), c.in-Err.ensures.same)

pub can_make-requires : goal.can_make-requires
can_make-requires g c = c.requires.hosts

pub head-requires : goal.head-requires
head-requires g c =
    let v = c.args.self.now in
    may_within v.endpoints (hosts_in v.endpoints.names (functions_of c.args.hosts.now)) v.capacity v.state c.args.pid c.args.event.now (c.can_make.ensures.0 c.if-not-can_make.false)

pub go-requires-clause-shows : goal.go-requires-clause-shows
go-requires-clause-shows g c = c.head.ensures

pub go-requires-clause-hosts : goal.go-requires-clause-hosts
go-requires-clause-hosts g c = c.requires.hosts

pub go-requires-clause-fits : goal.go-requires-clause-fits
go-requires-clause-fits g c = c.requires.fits
