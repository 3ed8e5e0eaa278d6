use Rattle.std.proofs.Common.{◌^◌, ◌≡◌, ◌<◌, ◌∙◌, sym, ap, ◌++◌, ◌∷◌, [], List, map, take, length, subst, arith, ℕ, zero, suc, refl}
use Rattle.std.proofs.lemmas.List.{take_more, map_push, length-map}
use Rattle.endpoint_code.specs.Network.{Machine, standing_all}
use Rattle.endpoint_code.specs.declared.endpoints.Process.{Process}
use Rattle.endpoint_machine.specs.Views.{MachineView}
use Rattle.session_starts.specs.Machines.{standing_of}
use Rattle.session_starts.specs.Machines.{AreCounted}
use Rattle.net_core.proofs.Turns.{standing_push}
use Rattle.net_core.proofs.Scopes.{length-standing_all}
use Rattle.session_starts.proofs.Counts.{counted_push}
use Rattle.std.proofs.lemmas.Result.{IfOk-from_err}
use Rattle.net_core.proofs.Counts.{whole_list}
use Rattle.net_core.proofs.parts.standing_all.Goals as goal

length_take : {X : Type 0} (i : ℕ) (xs : List X) → i < length xs → length (take i xs) ≡ i
length_take zero xs lt = refl
length_take (suc i) [] lt = absurd (omega arith)
length_take (suc i) (x ∷ xs) lt = ap suc (length_take i xs (omega arith))

-- as many processes as have been gone through
so_many : (ms : List MachineView) (ps : List Process) (i : ℕ) → i < length ps → map standing_of ms ≡ standing_all (take i ps) → length ms ≡ i
so_many ms ps i lt h = sym (length-map ms standing_of) ∙ ap length h ∙ length-standing_all (take i ps) ∙ length_take i ps lt

pub overflow_cast-number : goal.overflow_cast-number
overflow_cast-number c =
    let ps = c.as_slice-process-items.result.now in
    let i = c.loop-process.process-index in
    let same : length c.loop-process.machines.items ≡ i = so_many c.loop-process.machines.items ps i c.loop-process-test.true c.loop-process.invariant.standing in
    let here : length c.as_slice.result.now ≡ length c.loop-process.machines.items = ap length c.as_slice.ensures.value in
    let few : length ps ≡ c.count.result = ap length c.as_slice-process-items.ensures ∙ sym c.count.ensures in
    let bound = c.count.type_inv in
    omega arith

pub loop-process-preserved : goal.loop-process-preserved
loop-process-preserved c =
    let ps = c.as_slice-process-items.result.now in
    let i = c.loop-process.process-index in
    record {
      standing =
          ap (map standing_of) c.in_ok-push.ensures.items ∙ map_push standing_of c.loop-process.machines.items c.in_ok-machine.machine
          ∙ ap (λ (ms : List Machine). ms ++ standing_of c.in_ok-machine.machine ∷ []) c.loop-process.invariant.standing
          ∙ ap (λ (m : Machine). standing_all (take i ps) ++ m ∷ []) c.in_ok-machine.ensures.machine
          ∙ sym (ap standing_all (take_more ps i _ c.loop-process-test.true) ∙ standing_push (take i ps) _);
      counted =
          subst AreCounted (sym c.in_ok-push.ensures.items)
          (counted_push c.loop-process.machines.items c.in_ok-machine.machine c.loop-process.invariant.counted
          (c.in_ok-machine.ensures.number ∙ ap length c.as_slice.ensures.value));
    }

pub returns-in_err-machines-clause-machines : goal.returns-in_err-machines-clause-machines
returns-in_err-machines-clause-machines c = IfOk-from_err c.from_residual.result _ c.from_residual.ensures.0

pub returns-in_err-machines-clause-counted : goal.returns-in_err-machines-clause-counted
returns-in_err-machines-clause-counted c = IfOk-from_err c.from_residual.result _ c.from_residual.ensures.0

pub returns-in_err-machine-clause-machines : goal.returns-in_err-machine-clause-machines
returns-in_err-machine-clause-machines c = IfOk-from_err c.from_residual-in_err-machine.result _ c.from_residual-in_err-machine.ensures.0

pub returns-in_err-machine-clause-counted : goal.returns-in_err-machine-clause-counted
returns-in_err-machine-clause-counted c = IfOk-from_err c.from_residual-in_err-machine.result _ c.from_residual-in_err-machine.ensures.0

pub returns-in_err-push-clause-machines : goal.returns-in_err-push-clause-machines
returns-in_err-push-clause-machines c = IfOk-from_err c.from_residual-in_err-push.result _ c.from_residual-in_err-push.ensures.0

pub returns-in_err-push-clause-counted : goal.returns-in_err-push-clause-counted
returns-in_err-push-clause-counted c = IfOk-from_err c.from_residual-in_err-push.result _ c.from_residual-in_err-push.ensures.0

pub returns-clause-machines : goal.returns-clause-machines
returns-clause-machines c =
    c.loop-process.invariant.standing ∙ ap standing_all (whole_list c.loop-process.process-index c.as_slice-process-items.result.now c.loop-process-test.false ∙ c.as_slice-process-items.ensures)

pub returns-clause-counted : goal.returns-clause-counted
returns-clause-counted c = c.loop-process.invariant.counted

pub returns-clause-few : goal.returns-clause-few
returns-clause-few c = subst (λ (k : ℕ). k < 2 ^ 32) c.count.ensures c.count.type_inv

pub returns-in_err-machines-clause-few : goal.returns-in_err-machines-clause-few
returns-in_err-machines-clause-few c = subst (λ (k : ℕ). k < 2 ^ 32) c.count.ensures c.count.type_inv

pub returns-in_err-machine-clause-few : goal.returns-in_err-machine-clause-few
returns-in_err-machine-clause-few c = subst (λ (k : ℕ). k < 2 ^ 32) c.count.ensures c.count.type_inv

pub returns-in_err-push-clause-few : goal.returns-in_err-push-clause-few
returns-in_err-push-clause-few c = subst (λ (k : ℕ). k < 2 ^ 32) c.count.ensures c.count.type_inv
