use Rattle.std.proofs.Common.{◌≡◌, refl, sym, ◌∙◌, subst, inl, inr, Some, None, Bool, true, false}
use Rattle.std.specs.Prelude.{Option, if◌then◌else◌}
use Rattle.chor_base.specs.declared.fault.Fault.{Fault}
use Rattle.chor_base.specs.Faults.{earlier, comes_before, IsFirst}
use Rattle.chor_base.proofs.Faults.{first_of_either}
use Rattle.typing_rules.specs.Guarded.{IsGuardFault}
use Rattle.linearity.specs.OrderFaults.{IsOrderFault}
use Rattle.linear_check.specs.Class.{IsLinearityFault}
use Rattle.linear_check.proofs.class.first_fault.Goals as goal

-- no first one of both is no first one of the second
none_second : (o p : Option Fault) → earlier o p ≡ None → p ≡ None
none_second None p e = e
none_second (Some x) None e = refl
none_second (Some x) (Some y) e = go (comes_before y x) e where
  go : (b : Bool) → (if b then Some y else Some x) ≡ None → Some y ≡ None
  go true h = h
  go false h = absurd cc

pub returns-clause-first : goal.returns-clause-first
returns-clause-first c =
    let f = c.args.file.now in
    subst (λ o. IsFirst (IsLinearityFault f) o) (sym c.earlier.ensures)
    (first_of_either (IsGuardFault f) (IsOrderFault f) (IsLinearityFault f) c.in_ok-unguarded.unguarded c.in_ok-unordered.unordered c.in_ok-unguarded.ensures c.in_ok-unordered.ensures.first
    (λ x h. inl h) (λ x h. inr h) (λ x h. h))

pub returns-clause-linear : goal.returns-clause-linear
returns-clause-linear c = λ e. c.in_ok-unordered.ensures.linear (none_second c.in_ok-unguarded.unguarded c.in_ok-unordered.unordered (sym c.earlier.ensures ∙ e))
