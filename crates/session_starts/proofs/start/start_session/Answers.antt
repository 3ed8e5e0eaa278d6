use Rattle.std.proofs.Common.{◌≡◌, ◌∙◌, ◌++◌, ◌<◌, ap, refl, sym, subst, List, length, map, take, true, ℕ, Result, Ok, Err}
use Rattle.std.specs.Prelude.{All}
use Rattle.std.specs.Vec.{with_items}
use Rattle.std.specs.Result.{OnErr}
use Rattle.std.proofs.lemmas.List.{with_items_is, map-append}
use Rattle.std.proofs.Math.Seq.{take-append_seam}
use Rattle.chor_base.specs.declared.names.NameId.{NameId}
use Rattle.endpoint_code.specs.declared.endpoints.Endpoints.{Endpoints}
use Rattle.endpoint_code.specs.Network.{Machine, served_parts}
use Rattle.endpoint_machine.specs.Bound.{IsBound}
use Rattle.endpoint_machine.specs.Views.{MachineView}
use Rattle.session_starts.specs.Machines.{standing_of, number_of, AreCounted}
use Rattle.session_starts.specs.Starts.{AllJoin, AreApart, reserved_in, Joined}
use Rattle.session_starts.proofs.Counts.{counted_same}
use Rattle.session_starts.proofs.Joins.{all_within}
use Rattle.session_starts.proofs.Served.{provided}
use Rattle.session_starts.proofs.Started.{same_long, few_among, started_bound, started_counted, started_few}
use Rattle.session_starts.proofs.start.start_session.Goals as goal

on_err : {A E P : Type 0} (r : Result A E) → P → OnErr r P
on_err (Ok x) p = tt
on_err (Err e) p = p

pub serve-requires-clause-provided : goal.serve-requires-clause-provided
serve-requires-clause-provided c = provided c.args.endpoints.now c.args.channel.now.name c.args.channel.now c.requires.faultless c.requires.channel

pub reserve_sessions-requires-clause-within : goal.reserve_sessions-requires-clause-within
reserve_sessions-requires-clause-within c =
    let ps = c.args.parts in
    let same : take c.len-joining.result c.as_slice-2.result.now ≡ ps =
    ap (take c.len-joining.result) (c.as_slice-2.ensures ∙ c.in_ok-add_served.ensures)
    ∙ ap (λ (n : ℕ). take n (ps ++ served_parts c.as_slice.result.now c.len-first.result)) c.len-joining.ensures
    ∙ take-append_seam ps (served_parts c.as_slice.result.now c.len-first.result)
    in
    let here : List MachineView = c.args.machines.now.items in
    subst (λ (ms : List MachineView). All (λ (q : NameId × ℕ). q.1 < length ms) (take c.len-joining.result c.as_slice-2.result.now)) (sym (c.as_mut_slice.ensures.value ∙ c.in_ok-reserve.ensures.items))
    (all_within c.args.endpoints.now here c.args.channel.now.name ps _ same c.requires.joins)

pub returns-clause-bound : goal.returns-clause-bound
returns-clause-bound c =
    let last = c.join_all.new.machines in
    let mid = with_items c.reserve.new.self c.reserve_sessions.new.machines in
    let new : c.append.new.self.items ≡ last ++ c.in_ok-new.new.items =
    c.in-Ok.ensures.items ∙ ap (λ (ms : List MachineView). ms ++ c.in_ok-new.new.items) (with_items_is mid last (c.join_all.auto.machines ∙ c.as_mut_slice-2.ensures.len))
    in
    started_bound c.args.endpoints.now c.args.channel.now c.args.sid c.args.machines.now.items last c.in_ok-new.new.items c.append.new.self.items new c.requires.faultless c.requires.channel c.join_all.ensures.bound c.in_ok-new.ensures.machines

pub returns-clause-counted : goal.returns-clause-counted
returns-clause-counted c =
    let v = c.reserve.new.self in
    let first = c.reserve_sessions.new.machines in
    let last = c.join_all.new.machines in
    let mid = with_items v first in
    let new : c.append.new.self.items ≡ last ++ c.in_ok-new.new.items =
    c.in-Ok.ensures.items ∙ ap (λ (ms : List MachineView). ms ++ c.in_ok-new.new.items) (with_items_is mid last (c.join_all.auto.machines ∙ c.as_mut_slice-2.ensures.len))
    in
    let same : map number_of last ≡ map number_of c.args.machines.now.items =
    c.join_all.ensures.numbers ∙ ap (map number_of) (c.as_mut_slice-2.ensures.value ∙ with_items_is v first (c.reserve_sessions.auto.machines ∙ c.as_mut_slice.ensures.len)) ∙ c.in_ok-reserve_sessions.ensures.numbers ∙ ap (map number_of) (c.as_mut_slice.ensures.value ∙ c.in_ok-reserve.ensures.items)
    in
    started_counted c.args.endpoints.now c.args.channel.now c.args.sid c.args.machines.now.items last c.in_ok-new.new.items c.append.new.self.items new c.requires.counted same
    (c.in_ok-new.ensures.numbers ∙ ap (λ (n : ℕ). map (λ (q : NameId × ℕ). q.1) (served_parts c.args.channel.now.serve n)) (c.len-first.ensures ∙ c.args.machines.now.ok.0))

pub returns-clause-few : goal.returns-clause-few
returns-clause-few c =
    let v = c.reserve.new.self in
    let first = c.reserve_sessions.new.machines in
    let last = c.join_all.new.machines in
    let mid = with_items v first in
    let new : c.append.new.self.items ≡ last ++ c.in_ok-new.new.items =
    c.in-Ok.ensures.items ∙ ap (λ (ms : List MachineView). ms ++ c.in_ok-new.new.items) (with_items_is mid last (c.join_all.auto.machines ∙ c.as_mut_slice-2.ensures.len))
    in
    let same : map number_of last ≡ map number_of c.args.machines.now.items =
    c.join_all.ensures.numbers ∙ ap (map number_of) (c.as_mut_slice-2.ensures.value ∙ with_items_is v first (c.reserve_sessions.auto.machines ∙ c.as_mut_slice.ensures.len)) ∙ c.in_ok-reserve_sessions.ensures.numbers ∙ ap (map number_of) (c.as_mut_slice.ensures.value ∙ c.in_ok-reserve.ensures.items)
    in
    started_few c.args.endpoints.now c.args.channel.now c.args.sid c.args.machines.now.items last c.in_ok-new.new.items c.append.new.self.items new same
    (c.in_ok-new.ensures.numbers ∙ ap (λ (n : ℕ). map (λ (q : NameId × ℕ). q.1) (served_parts c.args.channel.now.serve n)) (c.len-first.ensures ∙ c.args.machines.now.ok.0))
    c.requires.fits

pub join_all-requires : goal.join_all-requires
join_all-requires c =
    let e = c.args.endpoints.now in
    let name = c.args.channel.now.name in
    let ps = c.args.parts in
    let active : take c.len-joining.result c.as_slice-2.result.now ≡ ps =
    ap (take c.len-joining.result) (c.as_slice-2.ensures ∙ c.in_ok-add_served.ensures)
    ∙ ap (λ (n : ℕ). take n (ps ++ served_parts c.as_slice.result.now c.len-first.result)) c.len-joining.ensures
    ∙ take-append_seam ps (served_parts c.as_slice.result.now c.len-first.result)
    in
    let second = with_items_is c.reserve.new.self c.reserve_sessions.new.machines (c.reserve_sessions.auto.machines ∙ c.as_mut_slice.ensures.len) in
    let still : map standing_of c.as_mut_slice-2.result.now ≡ map standing_of c.args.machines.now.items =
    ap (map standing_of) (c.as_mut_slice-2.ensures.value ∙ second) ∙ c.in_ok-reserve_sessions.ensures.standing ∙ ap (map standing_of) (c.as_mut_slice.ensures.value ∙ c.in_ok-reserve.ensures.items)
    in
    record {
      faultless = c.requires.faultless;
      bound = subst (All (IsBound e)) (sym still) c.requires.bound;
      joins = subst (λ (ms : List Machine). AllJoin e ms name (take c.len-joining.result c.as_slice-2.result.now)) (sym still) (subst (AllJoin e (map standing_of c.args.machines.now.items) name) (sym active) c.requires.joins);
      room = subst (λ (ms : List MachineView). All (λ (q : NameId × ℕ). reserved_in e ms q.1 ≡ true) (take c.len-joining.result c.as_slice-2.result.now)) (sym (c.as_mut_slice-2.ensures.value ∙ second)) c.in_ok-reserve_sessions.ensures.ok;
      apart = subst AreApart (sym active) c.requires.apart;
    }

pub returns-clause-started : goal.returns-clause-started
returns-clause-started c =
    let e = c.args.endpoints.now in
    let k = c.args.channel.now in
    let last = c.join_all.new.machines in
    let ps = c.args.parts in
    let active : take c.len-joining.result c.as_slice-2.result.now ≡ ps =
    ap (take c.len-joining.result) (c.as_slice-2.ensures ∙ c.in_ok-add_served.ensures)
    ∙ ap (λ (n : ℕ). take n (ps ++ served_parts c.as_slice.result.now c.len-first.result)) c.len-joining.ensures
    ∙ take-append_seam ps (served_parts c.as_slice.result.now c.len-first.result)
    in
    let second = with_items_is c.reserve.new.self c.reserve_sessions.new.machines (c.reserve_sessions.auto.machines ∙ c.as_mut_slice.ensures.len) in
    let still : map standing_of c.as_mut_slice-2.result.now ≡ map standing_of c.args.machines.now.items =
    ap (map standing_of) (c.as_mut_slice-2.ensures.value ∙ second) ∙ c.in_ok-reserve_sessions.ensures.standing ∙ ap (map standing_of) (c.as_mut_slice.ensures.value ∙ c.in_ok-reserve.ensures.items)
    in
    let mid = with_items c.reserve.new.self c.reserve_sessions.new.machines in
    let new : c.append.new.self.items ≡ last ++ c.in_ok-new.new.items =
    c.in-Ok.ensures.items ∙ ap (λ (ms : List MachineView). ms ++ c.in_ok-new.new.items) (with_items_is mid last (c.join_all.auto.machines ∙ c.as_mut_slice-2.ensures.len))
    in
    record {
      joined = map standing_of last;
      joins =
          subst (λ (ms : List Machine). Joined e k.name c.args.sid ms ps (map standing_of last)) still
          (subst (λ (qs : List (NameId × ℕ)). Joined e k.name c.args.sid (map standing_of c.as_mut_slice-2.result.now) qs (map standing_of last)) active c.join_all.ensures.joined);
      serves = ap (map standing_of) new ∙ map-append standing_of last c.in_ok-new.new.items ∙ ap (λ (ns : List Machine). map standing_of last ++ ns) c.in_ok-new.ensures.machines;
    }

pub returns-in_err-reserve_sessions-clause-same : goal.returns-in_err-reserve_sessions-clause-same
returns-in_err-reserve_sessions-clause-same c =
    let here : List MachineView = c.args.machines.now.items in
    let first = c.reserve_sessions.new.machines in
    let after = with_items_is c.reserve.new.self first (c.reserve_sessions.auto.machines ∙ c.as_mut_slice.ensures.len) in
    let items : c.as_mut_slice.result.now ≡ here = c.as_mut_slice.ensures.value ∙ c.in_ok-reserve.ensures.items in
    let standing = ap (map standing_of) after ∙ c.in_err-reserve_sessions.ensures.standing ∙ ap (map standing_of) items in
    on_err c.from_residual-in_err-reserve_sessions.result standing

pub returns-in_err-reserve_sessions-clause-bound : goal.returns-in_err-reserve_sessions-clause-bound
returns-in_err-reserve_sessions-clause-bound c =
    let here : List MachineView = c.args.machines.now.items in
    let first = c.reserve_sessions.new.machines in
    let after = with_items_is c.reserve.new.self first (c.reserve_sessions.auto.machines ∙ c.as_mut_slice.ensures.len) in
    let items : c.as_mut_slice.result.now ≡ here = c.as_mut_slice.ensures.value ∙ c.in_ok-reserve.ensures.items in
    let standing = ap (map standing_of) after ∙ c.in_err-reserve_sessions.ensures.standing ∙ ap (map standing_of) items in
    subst (All (IsBound c.args.endpoints.now)) (sym standing) c.requires.bound

pub returns-in_err-reserve_sessions-clause-counted : goal.returns-in_err-reserve_sessions-clause-counted
returns-in_err-reserve_sessions-clause-counted c =
    let here : List MachineView = c.args.machines.now.items in
    let first = c.reserve_sessions.new.machines in
    let after = with_items_is c.reserve.new.self first (c.reserve_sessions.auto.machines ∙ c.as_mut_slice.ensures.len) in
    let items : c.as_mut_slice.result.now ≡ here = c.as_mut_slice.ensures.value ∙ c.in_ok-reserve.ensures.items in
    let numbers : map number_of first ≡ map number_of here = c.in_err-reserve_sessions.ensures.numbers ∙ ap (map number_of) items in
    subst AreCounted (sym after) (counted_same here first numbers c.requires.counted)

pub returns-in_err-reserve_sessions-clause-few : goal.returns-in_err-reserve_sessions-clause-few
returns-in_err-reserve_sessions-clause-few c =
    let here : List MachineView = c.args.machines.now.items in
    let first = c.reserve_sessions.new.machines in
    let after = with_items_is c.reserve.new.self first (c.reserve_sessions.auto.machines ∙ c.as_mut_slice.ensures.len) in
    let items : c.as_mut_slice.result.now ≡ here = c.as_mut_slice.ensures.value ∙ c.in_ok-reserve.ensures.items in
    let numbers : map number_of first ≡ map number_of here = c.in_err-reserve_sessions.ensures.numbers ∙ ap (map number_of) items in
    few_among (length here) (length c.args.channel.now.serve) _ (ap length after ∙ same_long here first numbers) c.requires.fits

pub returns-in_err-add_served-clause-same : goal.returns-in_err-add_served-clause-same
returns-in_err-add_served-clause-same c = on_err c.from_residual.result refl

pub returns-in_err-add_served-clause-few : goal.returns-in_err-add_served-clause-few
returns-in_err-add_served-clause-few c = few_among (length c.args.machines.now.items) (length c.args.channel.now.serve) _ refl c.requires.fits

pub returns-in_err-new-clause-same : goal.returns-in_err-new-clause-same
returns-in_err-new-clause-same c = on_err c.from_residual-in_err-new.result refl

pub returns-in_err-new-clause-few : goal.returns-in_err-new-clause-few
returns-in_err-new-clause-few c = few_among (length c.args.machines.now.items) (length c.args.channel.now.serve) _ refl c.requires.fits

pub returns-in_err-reserve-clause-same : goal.returns-in_err-reserve-clause-same
returns-in_err-reserve-clause-same c = on_err c.from_residual-in_err-reserve.result (ap (map standing_of) c.in_err-reserve.ensures.items)

pub returns-in_err-reserve-clause-bound : goal.returns-in_err-reserve-clause-bound
returns-in_err-reserve-clause-bound c = subst (λ (ms : List MachineView). All (IsBound c.args.endpoints.now) (map standing_of ms)) (sym c.in_err-reserve.ensures.items) c.requires.bound

pub returns-in_err-reserve-clause-counted : goal.returns-in_err-reserve-clause-counted
returns-in_err-reserve-clause-counted c = subst AreCounted (sym c.in_err-reserve.ensures.items) c.requires.counted

pub returns-in_err-reserve-clause-few : goal.returns-in_err-reserve-clause-few
returns-in_err-reserve-clause-few c = few_among (length c.args.machines.now.items) (length c.args.channel.now.serve) _ (ap length c.in_err-reserve.ensures.items) c.requires.fits

-- as many processes in the same places have room where the list is the same
stays : (e : Endpoints) (ms ns : List MachineView) → ns ≡ ms → (p : ℕ) → reserved_in e ms p ≡ true → reserved_in e ns p ≡ true
stays e ms ns same p h = subst (λ (l : List MachineView). reserved_in e l p ≡ true) (sym same) h

pub returns-in_err-add_served-clause-room : goal.returns-in_err-add_served-clause-room
returns-in_err-add_served-clause-room c = on_err c.from_residual.result (λ p h. h)

pub returns-in_err-new-clause-room : goal.returns-in_err-new-clause-room
returns-in_err-new-clause-room c = on_err c.from_residual-in_err-new.result (λ p h. h)

pub returns-in_err-reserve-clause-room : goal.returns-in_err-reserve-clause-room
returns-in_err-reserve-clause-room c = on_err c.from_residual-in_err-reserve.result (stays c.args.endpoints.now c.args.machines.now.items c.reserve.new.self.items c.in_err-reserve.ensures.items)

pub returns-in_err-reserve_sessions-clause-room : goal.returns-in_err-reserve_sessions-clause-room
returns-in_err-reserve_sessions-clause-room c =
    let here : List MachineView = c.args.machines.now.items in
    let first = c.reserve_sessions.new.machines in
    let after = with_items_is c.reserve.new.self first (c.reserve_sessions.auto.machines ∙ c.as_mut_slice.ensures.len) in
    let items : c.as_mut_slice.result.now ≡ here = c.as_mut_slice.ensures.value ∙ c.in_ok-reserve.ensures.items in
    on_err c.from_residual-in_err-reserve_sessions.result
    (λ p h. stays c.args.endpoints.now first (with_items c.reserve.new.self first).items after p (c.in_err-reserve_sessions.ensures.kept p (stays c.args.endpoints.now here c.as_mut_slice.result.now items p h)))
