use Rattle.std.proofs.Common.{◌≡◌, ◌<◌, ◌∙◌, sym, subst, get_or, length, ℕ, true, List}
use Rattle.std.specs.Prelude.{All}
use Rattle.std.proofs.lemmas.List.{take_all}
use Rattle.chor_base.specs.declared.names.NameId.{NameId}
use Rattle.endpoint_machine.specs.Bound.{IsBound}
use Rattle.session_starts.specs.Machines.{standing_of}
use Rattle.session_starts.specs.Machines.{number_of}
use Rattle.session_starts.specs.Starts.{reserved_in}
use Rattle.session_starts.proofs.Places.{reserved_is, is_room}
use Rattle.session_starts.proofs.Joins.{mapped_get, bound_here, reserved_put, reserved_stays, room_taken}
use Rattle.session_starts.proofs.joining.reserve_sessions.Goals as goal

pub reserve-requires-clause-bound : goal.reserve-requires-clause-bound
reserve-requires-clause-bound c =
    let i = c.loop-part.part-index in
    let parts = c.args.parts.now in
    let ms = c.loop-part.machines in
    let q = get_or parts i (record { 0 = 0 }, 0) in
    let d = c.index-machines-part.result in
    let within : q.1 < length ms = subst (λ (n : ℕ). q.1 < n) (sym c.loop-part.auto.machines) (c.requires.within i (record { 0 = 0 }, 0) c.loop-part-test.true) in
    bound_here c.args.endpoints.now ms q.1 d (subst (All (IsBound c.args.endpoints.now)) (sym c.loop-part.invariant.standing) c.requires.bound) within

pub returns-in_err-reserve-clause-standing : goal.returns-in_err-reserve-clause-standing
returns-in_err-reserve-clause-standing c =
    let i = c.loop-part.part-index in
    let parts = c.args.parts.now in
    let ms = c.loop-part.machines in
    let q = get_or parts i (record { 0 = 0 }, 0) in
    let d = c.index-machines-part.result in
    let within : q.1 < length ms = subst (λ (n : ℕ). q.1 < n) (sym c.loop-part.auto.machines) (c.requires.within i (record { 0 = 0 }, 0) c.loop-part-test.true) in
    mapped_get standing_of ms q.1 d c.reserve.new.self within c.reserve.ensures.machine ∙ c.loop-part.invariant.standing

pub returns-in_err-reserve-clause-numbers : goal.returns-in_err-reserve-clause-numbers
returns-in_err-reserve-clause-numbers c =
    let i = c.loop-part.part-index in
    let parts = c.args.parts.now in
    let ms = c.loop-part.machines in
    let q = get_or parts i (record { 0 = 0 }, 0) in
    let d = c.index-machines-part.result in
    let within : q.1 < length ms = subst (λ (n : ℕ). q.1 < n) (sym c.loop-part.auto.machines) (c.requires.within i (record { 0 = 0 }, 0) c.loop-part-test.true) in
    mapped_get number_of ms q.1 d c.reserve.new.self within c.reserve.ensures.number ∙ c.loop-part.invariant.numbers

pub returns-in_err-reserve-clause-kept : goal.returns-in_err-reserve-clause-kept
returns-in_err-reserve-clause-kept c =
    let i = c.loop-part.part-index in
    let parts = c.args.parts.now in
    let ms = c.loop-part.machines in
    let q = get_or parts i (record { 0 = 0 }, 0) in
    let d = c.index-machines-part.result in
    let within : q.1 < length ms = subst (λ (n : ℕ). q.1 < n) (sym c.loop-part.auto.machines) (c.requires.within i (record { 0 = 0 }, 0) c.loop-part-test.true) in
    let e = c.args.endpoints.now in
    λ p r. reserved_stays e ms q.1 d c.reserve.new.self p within (λ h. is_room e c.reserve.new.self (c.reserve.ensures.kept (reserved_is e (get_or ms q.1 d) h))) (c.loop-part.invariant.kept p r)

pub loop-part-preserved : goal.loop-part-preserved
loop-part-preserved c =
    let i = c.loop-part.part-index in
    let parts = c.args.parts.now in
    let ms = c.loop-part.machines in
    let q = get_or parts i (record { 0 = 0 }, 0) in
    let d = c.index-machines-part.result in
    let within : q.1 < length ms = subst (λ (n : ℕ). q.1 < n) (sym c.loop-part.auto.machines) (c.requires.within i (record { 0 = 0 }, 0) c.loop-part-test.true) in
    let e = c.args.endpoints.now in
    record {
      standing = mapped_get standing_of ms q.1 d c.reserve.new.self within c.reserve.ensures.machine ∙ c.loop-part.invariant.standing;
      numbers = mapped_get number_of ms q.1 d c.reserve.new.self within c.reserve.ensures.number ∙ c.loop-part.invariant.numbers;
      kept = λ p r.
          reserved_stays e ms q.1 d c.reserve.new.self p within (λ h. is_room e c.reserve.new.self (c.reserve.ensures.kept (reserved_is e (get_or ms q.1 d) h))) (c.loop-part.invariant.kept p r);
      room =
          room_taken e ms _ parts i (record { 0 = 0 }, 0) c.loop-part-test.true
          (λ p. reserved_stays e ms q.1 d c.reserve.new.self p within (λ r. is_room e c.reserve.new.self (c.reserve.ensures.kept (reserved_is e (get_or ms q.1 d) r))))
          (reserved_put e ms q.1 c.reserve.new.self within (is_room e c.reserve.new.self c.in_ok-reserve.ensures.ok))
          c.loop-part.invariant.room;
    }

pub returns-clause-ok : goal.returns-clause-ok
returns-clause-ok c = subst (λ (l : List (NameId × ℕ)). All (λ q. reserved_in c.args.endpoints.now c.loop-part.machines q.1 ≡ true) l) (take_all c.loop-part.part-index c.args.parts.now c.loop-part-test.false) c.loop-part.invariant.room
