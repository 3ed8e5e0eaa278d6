use Rattle.std.proofs.Common.{◌∙◌, sym, refl}
use Rattle.net_core.proofs.Runs.{steps_open}
use Rattle.net_core.proofs.network.Network.step_as.Goals as goal

pub head-head-requires : goal.head-head-requires
head-head-requires g c = c.requires.there

pub returns-then-has_ended : goal.returns-then-has_ended
returns-then-has_ended g c = (c.head-head.ensures.ended ∙ sym c.has_ended.ensures ∙ c.if-has_ended.true, record { endpoints = refl; capacity = refl; state = refl; history = refl; stopped = refl; room = λ p h. h })

pub waiting-requires-clause-there : goal.waiting-requires-clause-there
waiting-requires-clause-there g c = c.requires.there

pub waiting-requires-clause-shows : goal.waiting-requires-clause-shows
waiting-requires-clause-shows g c = c.head-head.ensures

pub returns-in-Some : goal.returns-in-Some
returns-in-Some g c = (sym c.in-Some.ensures, record { endpoints = refl; capacity = refl; state = refl; history = refl; stopped = refl; room = λ p h. h })

pub go-requires-clause-there : goal.go-requires-clause-there
go-requires-clause-there g c = c.requires.there

pub go-requires-clause-shows : goal.go-requires-clause-shows
go-requires-clause-shows g c = c.head-head.ensures

pub go-requires-clause-hosts : goal.go-requires-clause-hosts
go-requires-clause-hosts g c = c.requires.hosts

pub go-requires-clause-fits : goal.go-requires-clause-fits
go-requires-clause-fits g c = c.requires.fits

pub go-requires-clause-steps : goal.go-requires-clause-steps
go-requires-clause-steps g c = steps_open c.args.self.now.endpoints c.args.self.now.capacity c.args.self.now.state c.args.pid c.head-head.ensures (sym c.has_ended.ensures ∙ c.if-has_ended.false) (sym c.in_default.ensures)

pub returns-in-Ok : goal.returns-in-Ok
returns-in-Ok g c = (steps_open c.args.self.now.endpoints c.args.self.now.capacity c.args.self.now.state c.args.pid c.head-head.ensures (sym c.has_ended.ensures ∙ c.if-has_ended.false) (sym c.in_default.ensures), c.in-Ok.ensures.ok, c.in-Ok.ensures.grown)

pub returns-in-Err : goal.returns-in-Err
returns-in-Err g c = (steps_open c.args.self.now.endpoints c.args.self.now.capacity c.args.self.now.state c.args.pid c.head-head.ensures (sym c.has_ended.ensures ∙ c.if-has_ended.false) (sym c.in_default.ensures), c.in-Err.ensures.room, c.in-Err.ensures.same)
