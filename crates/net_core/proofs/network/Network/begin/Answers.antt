use Rattle.std.proofs.Common.{◌≤◌, ◌-◌, arith, ◌∙◌, ap, refl, map, List, add-one, ℕ, ◌++◌, ◌∷◌, []}
use Rattle.chor_base.specs.declared.event.Entry.{Entry}
use Rattle.chor_base.specs.declared.event.Event.TheVariants as event
use Rattle.std.specs.Prelude.{vec_len, vec_capacity}
use Rattle.endpoint_code.specs.Network.{Machine, NetworkState}
use Rattle.session_starts.specs.Machines.{standing_of}
use Rattle.post_office.specs.Lanes.{loads_in}
use Rattle.net_core.proofs.Answered.{on_err}
use Rattle.net_core.proofs.Fields.{has_begun, numbers_left, same_but_room}
use Rattle.net_core.proofs.Rooms.{room_all}
use Rattle.std.proofs.lemmas.Result.{IfOk-from_err}
use Rattle.net_core.proofs.network.Network.begin.Goals as goal

pub start_session-requires-clause-fits : goal.start_session-requires-clause-fits
start_session-requires-clause-fits c = numbers_left c.self.inside.machines.items c.self.inside.ledger.queues c.self.view_is c.args.channel.now c.requires.channel c.requires.fits

pub returns-clause-ok : goal.returns-clause-ok
returns-clause-ok c =
    let i = c.self.inside in
    let ns = map standing_of c.start_session.new.machines.items in
    has_begun i.machines.items i.ledger.queues c.self.view_is c.args.worker _ c.args.channel.now c.args.parts c.in_ok-parts.parts ns refl refl
    (ap (λ (k : ℕ). let n : NetworkState = record { machines = ns; queues = loads_in i.ledger.queues.lanes; sid = k } in n) (add-one i.ledger.sid))
    (c.append.ensures.items ∙ ap (λ (es : List Entry). es ++ record { worker = c.args.worker; event = event.Start c.args.channel.now.name i.ledger.sid c.in_ok-parts.parts } ∷ []) c.in_ok-reserve.ensures.items)
    refl
    c.in_ok-parts.ensures.parts
    c.in_ok-parts.ensures.started

pub returns-in_err-reserve-clause-ok : goal.returns-in_err-reserve-clause-ok
returns-in_err-reserve-clause-ok c = IfOk-from_err c.from_residual.result _ c.from_residual.ensures.0

pub returns-in_err-parts-clause-ok : goal.returns-in_err-parts-clause-ok
returns-in_err-parts-clause-ok c = IfOk-from_err c.from_residual-in_err-parts.result _ c.from_residual-in_err-parts.ensures.0

pub start_session-requires-clause-faultless : goal.start_session-requires-clause-faultless
start_session-requires-clause-faultless c = c.self.invariant.faultless

pub start_session-requires-clause-bound : goal.start_session-requires-clause-bound
start_session-requires-clause-bound c = c.self.invariant.bound

pub start_session-requires-clause-counted : goal.start_session-requires-clause-counted
start_session-requires-clause-counted c = c.self.invariant.counted

pub start_session-requires-clause-apart : goal.start_session-requires-clause-apart
start_session-requires-clause-apart c = c.requires.apart

pub returns-in_err-reserve-clause-err : goal.returns-in_err-reserve-clause-err
returns-in_err-reserve-clause-err c =
    let i = c.self.inside in
    let ms = i.machines.items in
    let k = vec_capacity i.ledger.history - vec_len i.ledger.history in
    let l = vec_capacity c.reserve.new.self - vec_len c.reserve.new.self in
    let more : k ≤ l = let a = c.in_err-reserve.ensures.capacity in let b = c.in_err-reserve.ensures.len in omega arith in
    on_err c.from_residual.result
    (same_but_room ms i.ledger.queues c.self.view_is _ refl refl refl c.in_err-reserve.ensures.items refl (room_all i.endpoints.now k l i.ledger.queues ms ms more refl (λ p h. h)))

pub returns-in_err-parts-clause-err : goal.returns-in_err-parts-clause-err
returns-in_err-parts-clause-err c =
    let i = c.self.inside in
    let ms = i.machines.items in
    let ns = c.start_session.new.machines.items in
    let k = vec_capacity i.ledger.history - vec_len i.ledger.history in
    let l = vec_capacity c.reserve.new.self - vec_len c.reserve.new.self in
    let more : k ≤ l = let a = c.in_ok-reserve.ensures.capacity in let b = c.in_ok-reserve.ensures.len in omega arith in
    on_err c.from_residual-in_err-parts.result
    (same_but_room ms i.ledger.queues c.self.view_is _ refl refl
    (ap (λ (ps : List Machine). let n : NetworkState = record { machines = ps; queues = loads_in i.ledger.queues.lanes; sid = i.ledger.sid } in n) c.in_err-parts.ensures.same)
    c.in_ok-reserve.ensures.items refl (room_all i.endpoints.now k l i.ledger.queues ms ns more c.in_err-parts.ensures.same c.in_err-parts.ensures.room))
