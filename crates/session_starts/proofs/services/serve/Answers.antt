use Rattle.std.proofs.Common.{◌+◌, ◌<◌, ◌≤◌, ◌∙◌, ap, get_or, length, List, subst}
use Rattle.chor_base.specs.declared.names.NameId.{NameId}
use Rattle.endpoint_code.specs.declared.code.CodeId.{CodeId}
use Rattle.endpoint_code.specs.declared.endpoints.ServiceCode.{ServiceCode}
use Rattle.endpoint_code.specs.Network.{service_of}
use Rattle.session_starts.proofs.Served.{new_at, served_more, numbers_more, none_served, none_numbered, all_served, all_numbered}
use Rattle.session_starts.proofs.services.serve.Goals as goal

pub loop-place-preserved : goal.loop-place-preserved
loop-place-preserved c =
    let e = c.args.endpoints.now in
    let name = c.args.channel.now.name in
    let items = c.as_slice-role-items.result.now in
    let roles = c.args.channel.now.serve in
    let i = c.loop-place.place in
    let d : NameId = record { 0 = 0 } in
    let m = c.in_ok-machine.machine in
    let lt = subst (λ (l : List NameId). i < length l) c.as_slice-role-items.ensures c.loop-place-test.true in
    let is =
    c.in_ok-machine.ensures.machine ∙ ap (λ (b : CodeId). new_at b name c.args.sid (get_or items i d)) (c.service_named-body.ensures ∙ ap (λ (ss : List ServiceCode). service_of ss name (get_or items i d)) c.as_slice-services.ensures)
    ∙ ap (λ (l : List NameId). new_at (service_of e.services name (get_or l i d)) name c.args.sid (get_or l i d)) c.as_slice-role-items.ensures in
    record {
      standing = served_more i roles d c.loop-place.machines.items c.push.new.self.items m lt c.in_ok-push.ensures.items e name c.args.sid is c.loop-place.invariant.standing;
      numbers = numbers_more i roles d c.loop-place.machines.items c.push.new.self.items m lt c.in_ok-push.ensures.items c.args.first c.in_ok-machine.ensures.number c.loop-place.invariant.numbers;
    }

pub loop-place-init : goal.loop-place-init
loop-place-init c = record {
  standing = none_served c.args.endpoints.now c.args.channel.now.name c.args.sid c.args.channel.now.serve c.new-machines.result.items c.new-machines.ensures.items;
  numbers = none_numbered c.args.first c.args.channel.now.serve c.new-machines.result.items c.new-machines.ensures.items;
}

pub returns : goal.returns
returns c =
    let roles = c.args.channel.now.serve in
    let i = c.loop-place.place in
    let ms = c.loop-place.machines.items in
    let le = subst (λ (l : List NameId). length l ≤ i) c.as_slice-role-items.ensures c.loop-place-test.false in
    record {
      machines = all_served roles i ms le c.args.endpoints.now c.args.channel.now.name c.args.sid c.loop-place.invariant.standing;
      numbers = all_numbered roles i ms le c.args.first (c.args.first + i) c.loop-place.invariant.numbers;
    }
