use Rattle.std.proofs.Common.{◌≡◌, ◌-◌, sym, subst, refl, true, false, Some, arith}
use Rattle.std.specs.Prelude.{slice_get, vec_len, vec_capacity}
use Rattle.chor_host.specs.Functions.{hosts_in, names_of}
use Rattle.chor_host.specs.Tables.{functions_of}
use Rattle.endpoint_code.specs.Faults.{AsksKnown, is_listed}
use Rattle.net_core.specs.Machines.{ActsWith}
use Rattle.net_core.specs.Heads.{steps_at, joins_at_all}
use Rattle.net_core.specs.Views.{NetworkView}
use Rattle.net_core.proofs.Fields.{within, shows_in, stepped, grown_put, moved_alone}
use Rattle.net_core.proofs.Scopes.{bound_at}
use Rattle.net_core.proofs.Rooms.{room_known, reserved_room, reserved_first}
use Rattle.net_core.proofs.Alone.{head_there, acts_freely, sound_after, alone_chooses}
use Rattle.net_core.proofs.network.Network.act.Goals as goal

pub act-event-requires : goal.act-event-requires
act-event-requires g c =
    let i = c.self.inside in
    let p = c.args.pid in
    let e = i.endpoints.now in
    let m = c.index_mut-machine.result.now in
    let in_it = within i.machines.items i.ledger.queues c.self.view_is p c.requires.there in
    let here = c.index_mut-machine.ensures.value in
    let t = shows_in i.machines.items i.ledger.queues c.self.view_is p c.args.head c.requires.shows in
    let shown = head_there e i.machines.items i.ledger.queues i.ledger.sid p m c.args.head t in_it here in
    let k = vec_capacity i.ledger.history - vec_len i.ledger.history in
    let room = room_known e k i.ledger.queues m c.args.head shown
    (reserved_room e k i.ledger.queues i.machines.items p m in_it here (subst (λ (v : NetworkView). slice_get v.reserved p ≡ Some true) (sym c.self.view_is) c.requires.room)) in
    record {
      faultless = record { faultless = c.self.invariant.faultless; hosts = subst (λ (v : NetworkView). AsksKnown (is_listed (names_of (functions_of c.args.hosts.now)) v.endpoints) v.endpoints) (sym c.self.view_is) c.requires.hosts };
      bound = bound_at e i.machines.items p m c.self.invariant in_it here;
      head = shown;
      room = room.1;
      queue = room.2;
      goes =
          acts_freely e i.ledger.capacity i.machines.items i.ledger.queues i.ledger.sid p m c.args.head t in_it here
          (subst (λ (v : NetworkView). steps_at v.endpoints v.capacity v.state p ≡ true) (sym c.self.view_is) c.requires.steps)
          (subst (λ (v : NetworkView). joins_at_all v.endpoints v.state p ≡ false) (sym c.self.view_is) c.requires.alone);
    }

pub append-requires : goal.append-requires
append-requires g c =
    let i = c.self.inside in
    let p = c.args.pid in
    let k = vec_capacity i.ledger.history - vec_len i.ledger.history in
    let more = reserved_first i.endpoints.now k i.ledger.queues i.machines.items p (within i.machines.items i.ledger.queues c.self.view_is p c.requires.there)
    (subst (λ (v : NetworkView). slice_get v.reserved p ≡ Some true) (sym c.self.view_is) c.requires.room) in
    omega arith

pub invariant_of-self : goal.invariant_of-self
invariant_of-self g c =
    let i = c.self.inside in
    let p = c.args.pid in
    sound_after i.endpoints.now i.machines.items p c.index_mut-machine.result.now c.act-event.new.machine c.self.invariant
    (within i.machines.items i.ledger.queues c.self.view_is p c.requires.there) c.index_mut-machine.ensures.value c.act-event.ensures.number c.act-event.ensures.bound

pub returns-clause-stepped : goal.returns-clause-stepped
returns-clause-stepped g c =
    let i = c.self.inside in
    let p = c.args.pid in
    let hosts = hosts_in c.args.self.now.endpoints.names (functions_of c.args.hosts.now) in
    stepped i.machines.items i.ledger.queues c.self.view_is c.args.worker hosts _ p c.act-event.result _ refl refl refl c.append.ensures.items refl
    (alone_chooses i.endpoints.now hosts i.ledger.capacity i.machines.items i.ledger.queues c.act-event.new.queues i.ledger.sid p c.index_mut-machine.result.now c.act-event.new.machine c.args.head c.act-event.result
    (shows_in i.machines.items i.ledger.queues c.self.view_is p c.args.head c.requires.shows) c.self.invariant.counted
    (within i.machines.items i.ledger.queues c.self.view_is p c.requires.there) c.index_mut-machine.ensures.value
    (subst (λ (v : NetworkView). steps_at v.endpoints v.capacity v.state p ≡ true) (sym c.self.view_is) c.requires.steps)
    (subst (λ (v : NetworkView). joins_at_all v.endpoints v.state p ≡ false) (sym c.self.view_is) c.requires.alone)
    (subst (λ (v : NetworkView). ActsWith i.endpoints.now (hosts_in v.endpoints.names (functions_of c.args.hosts.now)) i.ledger.queues c.index_mut-machine.result.now c.act-event.result c.act-event.new.queues c.act-event.new.machine) c.self.view_is c.act-event.ensures.acts))

pub returns-clause-grown : goal.returns-clause-grown
returns-clause-grown g c = grown_put c.self.inside.machines.items c.self.inside.ledger.queues c.self.view_is _ c.args.pid c.act-event.new.machine c.act-event.new.queues refl

pub returns-clause-alone : goal.returns-clause-alone
returns-clause-alone g c = moved_alone c.self.inside.machines.items c.self.inside.ledger.queues c.self.view_is _ c.args.pid c.act-event.new.machine c.act-event.new.queues refl
