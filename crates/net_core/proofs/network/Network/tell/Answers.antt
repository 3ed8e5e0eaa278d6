use Rattle.std.proofs.Common.{◌≡◌, ◌∙◌, ◌-◌, ℤ, sym, ap, subst, refl, true, ◌++◌, ◌∷◌, [], Some, arith, w64, to_z, of_z, rules}
use Rattle.std.specs.Prelude.{slice_get, vec_len, vec_capacity, nat_lt}
use Rattle.std.proofs.lemmas.Bool.{and_parts}
use Rattle.chor_base.specs.declared.event.Event.{Event}
use Rattle.chor_host.specs.Functions.{hosts_in}
use Rattle.chor_host.specs.Tables.{functions_of}
use Rattle.endpoint_code.specs.Network.{MachineAnswers}
use Rattle.endpoint_machine.specs.Heads.{head_of}
use Rattle.endpoint_machine.specs.Steps.{HasBeenTold}
use Rattle.session_starts.specs.Machines.{is_reserved}
use Rattle.session_starts.proofs.Places.{reserved_is}
use Rattle.net_core.specs.Follows.{MayMake}
use Rattle.net_core.specs.Machines.{has_queue_room}
use Rattle.net_core.specs.Views.{NetworkView}
use Rattle.net_core.proofs.Fields.{within, grown_put}
use Rattle.net_core.proofs.Scopes.{bound_at, runner_at}
use Rattle.net_core.proofs.Rooms.{reserved_room, reserved_first}
use Rattle.net_core.proofs.Alone.{sound_after}
use Rattle.net_core.proofs.Told.{can_call, told_steps, told_follows}
use Rattle.net_core.proofs.network.Network.tell.Goals as goal

pub told-requires : goal.told-requires
told-requires g c =
    let i = c.self.inside in
    let p = c.args.pid in
    let e = i.endpoints.now in
    let fs = functions_of c.args.hosts.now in
    let m = c.index_mut-machine.result.now in
    let in_it = within i.machines.items i.ledger.queues c.self.view_is p c.requires.there in
    let here = c.index_mut-machine.ensures.value in
    let k = vec_capacity i.ledger.history - vec_len i.ledger.history in
    let room = reserved_room e k i.ledger.queues i.machines.items p m in_it here (subst (λ (v : NetworkView). slice_get v.reserved p ≡ Some true) (sym c.self.view_is) c.requires.room) in
    let both = and_parts (nat_lt 0 k) _ room in
    let may = subst (λ (v : NetworkView). MayMake v.endpoints (hosts_in v.endpoints.names fs) v.capacity v.state p c.args.event.now) (sym c.self.view_is) c.requires.may in
    let can = can_call e (hosts_in e.names fs) _ _ p c.args.event.now m.machine may c.requires.call (runner_at i.machines.items p m in_it here) in
    let back : to_z w64 (of_z w64 c.args.answer) ≡ c.args.answer = search rules in
    record {
      faultless = c.self.invariant.faultless;
      bound = bound_at e i.machines.items p m c.self.invariant in_it here;
      asks = can.asks;
      allowed = subst (λ (v : ℤ). MachineAnswers (hosts_in e.names fs) e (Some m.machine) v) (c.requires.answer ∙ sym back) can.allowed;
      room = reserved_is e m (and_parts (is_reserved e m) (has_queue_room i.ledger.queues (head_of e m.machine)) both.1).0;
    }

pub append-requires : goal.append-requires
append-requires g c =
    let i = c.self.inside in
    let p = c.args.pid in
    let k = vec_capacity i.ledger.history - vec_len i.ledger.history in
    let more = reserved_first i.endpoints.now k i.ledger.queues i.machines.items p (within i.machines.items i.ledger.queues c.self.view_is p c.requires.there)
    (subst (λ (v : NetworkView). slice_get v.reserved p ≡ Some true) (sym c.self.view_is) c.requires.room) in
    omega arith

pub invariant_of-self : goal.invariant_of-self
invariant_of-self g c =
    let i = c.self.inside in
    let p = c.args.pid in
    sound_after i.endpoints.now i.machines.items p c.index_mut-machine.result.now c.told.new.self c.self.invariant
    (within i.machines.items i.ledger.queues c.self.view_is p c.requires.there) c.index_mut-machine.ensures.value c.told.ensures.number c.told.ensures.bound

pub returns-clause-followed : goal.returns-clause-followed
returns-clause-followed g c =
    let i = c.self.inside in
    let p = c.args.pid in
    let e = i.endpoints.now in
    let fs = functions_of c.args.hosts.now in
    let m = c.index_mut-machine.result.now in
    let x = c.args.event.now in
    let hosts = hosts_in c.args.self.now.endpoints.names fs in
    let back : to_z w64 (of_z w64 c.args.answer) ≡ c.args.answer = search rules in
    let may = subst (λ (v : NetworkView). MayMake v.endpoints hosts v.capacity v.state p x) (sym c.self.view_is) c.requires.may in
    let told = subst (λ (v : NetworkView). HasBeenTold e (hosts_in v.endpoints.names fs) m.number m.machine (to_z w64 (of_z w64 c.args.answer)) c.told.new.self.machine) c.self.view_is c.told.ensures.told in
    told_follows i.machines.items i.ledger.queues c.self.view_is hosts _ x _ refl refl refl
    (c.append.ensures.items ∙ ap (λ (y : Event). i.ledger.history.items ++ record { worker = 0; event = y } ∷ []) c.copy_call.ensures) refl
    (told_steps e hosts i.ledger.capacity i.machines.items i.ledger.queues i.ledger.sid p x m c.told.new.self may c.requires.call c.self.invariant.counted
    (within i.machines.items i.ledger.queues c.self.view_is p c.requires.there) c.index_mut-machine.ensures.value
    (subst (λ (v : ℤ). HasBeenTold e hosts m.number m.machine v c.told.new.self.machine) (back ∙ sym c.requires.answer) told))

pub returns-clause-grown : goal.returns-clause-grown
returns-clause-grown g c = grown_put c.self.inside.machines.items c.self.inside.ledger.queues c.self.view_is _ c.args.pid c.told.new.self c.self.inside.ledger.queues refl
