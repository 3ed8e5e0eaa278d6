use Rattle.std.proofs.Common.{◌≡◌, ◌≤◌, ◌<◌, ◌-◌, ◌∙◌, sym, ap, subst, refl, Some, true, List, map, arith}
use Rattle.std.specs.Prelude.{slice_get, vec_len, vec_capacity}
use Rattle.chor_base.specs.declared.value.Load.{Load}
use Rattle.chor_base.specs.Events.{Triple}
use Rattle.endpoint_code.specs.Network.{Machine, NetworkState}
use Rattle.endpoint_machine.specs.Heads.{head_of}
use Rattle.endpoint_machine.specs.Bound.{IsBound}
use Rattle.post_office.specs.Lanes.{loads_in}
use Rattle.session_starts.specs.Machines.{standing_of, is_reserved}
use Rattle.net_core.specs.Machines.{has_queue_room}
use Rattle.net_core.specs.Views.{NetworkView, has_room}
use Rattle.net_core.proofs.Answered.{on_both}
use Rattle.net_core.proofs.Fields.{within, shows_in, same_but_room}
use Rattle.net_core.proofs.Scopes.{bound_at}
use Rattle.net_core.proofs.Alone.{head_there, sound_after}
use Rattle.post_office.proofs.Lanes.{mapped_put}
use Rattle.net_core.proofs.Rooms.{set_mapped_at, kept_after, room_stays, room_made, room_known, reserved_room, reserved_first}
use Rattle.net_core.proofs.network.Network.reserve_for.Goals as goal

pub returns-in_err-reserve-clause-succeeds : goal.returns-in_err-reserve-clause-succeeds
returns-in_err-reserve-clause-succeeds c = λ h.
    let i = c.self.inside in
    let p = c.args.pid in
    let full = c.in_err-reserve.ensures.full in
    let room : 0 < vec_capacity i.ledger.history - vec_len i.ledger.history =
    reserved_first i.endpoints.now (vec_capacity i.ledger.history - vec_len i.ledger.history) i.ledger.queues i.machines.items p
    (within i.machines.items i.ledger.queues c.self.view_is p c.requires.there)
    (subst (λ (v : NetworkView). slice_get v.reserved p ≡ Some true) (sym c.self.view_is) h)
    in
    absurd (omega arith)

pub reserve-requires-2-clause-bound : goal.reserve-requires-2-clause-bound
reserve-requires-2-clause-bound c =
    let i = c.self.inside in
    bound_at i.endpoints.now i.machines.items c.args.pid c.index_mut-machine.result.now c.self.invariant (within i.machines.items i.ledger.queues c.self.view_is c.args.pid c.requires.there) c.index_mut-machine.ensures.value

pub invariant_of-self-2 : goal.invariant_of-self-2
invariant_of-self-2 c =
    let i = c.self.inside in
    let p = c.args.pid in
    let m = c.index_mut-machine.result.now in
    let in_it = within i.machines.items i.ledger.queues c.self.view_is p c.requires.there in
    sound_after i.endpoints.now i.machines.items p m c.reserve-2.new.machine c.self.invariant in_it c.index_mut-machine.ensures.value c.reserve-2.ensures.number
    (subst (IsBound i.endpoints.now) (sym c.reserve-2.ensures.machine) (bound_at i.endpoints.now i.machines.items p m c.self.invariant in_it c.index_mut-machine.ensures.value))

pub returns-clause-same : goal.returns-clause-same
returns-clause-same c =
    let i = c.self.inside in
    let p = c.args.pid in
    let machines = mapped_put standing_of i.machines.items p c.index_mut-machine.result.now c.reserve-2.new.machine (within i.machines.items i.ledger.queues c.self.view_is p c.requires.there) c.index_mut-machine.ensures.value c.reserve-2.ensures.machine in
    same_but_room i.machines.items i.ledger.queues c.self.view_is _ refl refl
    (ap (λ (ms : List Machine). let n : NetworkState = record { machines = ms; queues = loads_in c.reserve-2.new.queues.lanes; sid = i.ledger.sid } in n) machines
    ∙ ap (λ (qs : List (Triple × List Load)). let n : NetworkState = record { machines = map standing_of i.machines.items; queues = qs; sid = i.ledger.sid } in n) c.reserve-2.ensures.loads)
    c.reserve.ensures.items
    refl
    (λ j h.
    let e = i.endpoints.now in
    let k = vec_capacity i.ledger.history - vec_len i.ledger.history in
    let l = vec_capacity c.reserve.new.self - vec_len c.reserve.new.self in
    let q = c.reserve-2.new.queues in
    let more : k ≤ l = let a = c.in_ok-reserve.ensures.capacity in let b = c.in_ok-reserve.ensures.len in omega arith in
    kept_after (has_room e k i.ledger.queues) (has_room e l q) i.machines.items p c.index_mut-machine.result.now c.reserve-2.new.machine
    (within i.machines.items i.ledger.queues c.self.view_is p c.requires.there) c.index_mut-machine.ensures.value
    (λ m. room_stays e k l i.ledger.queues q m m more c.reserve-2.ensures.queues (λ r. r) refl)
    (room_stays e k l i.ledger.queues q c.index_mut-machine.result.now c.reserve-2.new.machine more c.reserve-2.ensures.queues c.reserve-2.ensures.kept c.reserve-2.ensures.machine)
    j h)

pub returns-clause-ok : goal.returns-clause-ok
returns-clause-ok c =
    let i = c.self.inside in
    let p = c.args.pid in
    let e = i.endpoints.now in
    let k = vec_capacity c.reserve.new.self - vec_len c.reserve.new.self in
    let m = c.reserve-2.new.machine in
    let in_it = within i.machines.items i.ledger.queues c.self.view_is p c.requires.there in
    let more : 0 < k = let a = c.in_ok-reserve.ensures.ok in omega arith in
    let shown : head_of e m.machine ≡ Some c.args.head =
    ap (head_of e) c.reserve-2.ensures.machine
    ∙ head_there e i.machines.items i.ledger.queues i.ledger.sid p c.index_mut-machine.result.now c.args.head (shows_in i.machines.items i.ledger.queues c.self.view_is p c.args.head c.requires.shows) in_it c.index_mut-machine.ensures.value
    in
    on_both c.reserve-2.result
    (λ (room : is_reserved e m ≡ true) (queue : has_queue_room c.reserve-2.new.queues (Some c.args.head) ≡ true).
    set_mapped_at (has_room e k c.reserve-2.new.queues) i.machines.items p m in_it
    ∙ ap Some (room_made e k c.reserve-2.new.queues m c.args.head shown more room queue))
    c.reserve-2.ensures.ok c.reserve-2.ensures.queue

pub returns-clause-succeeds : goal.returns-clause-succeeds
returns-clause-succeeds c = λ h.
    let i = c.self.inside in
    let p = c.args.pid in
    let e = i.endpoints.now in
    let k = vec_capacity i.ledger.history - vec_len i.ledger.history in
    let m = c.index_mut-machine.result.now in
    let in_it = within i.machines.items i.ledger.queues c.self.view_is p c.requires.there in
    let here = c.index_mut-machine.ensures.value in
    let room = reserved_room e k i.ledger.queues i.machines.items p m in_it here (subst (λ (v : NetworkView). slice_get v.reserved p ≡ Some true) (sym c.self.view_is) h) in
    let shown = head_there e i.machines.items i.ledger.queues i.ledger.sid p m c.args.head (shows_in i.machines.items i.ledger.queues c.self.view_is p c.args.head c.requires.shows) in_it here in
    let known = room_known e k i.ledger.queues m c.args.head shown room in
    c.reserve-2.ensures.succeeds known.1 known.2
