-- The numbers of sessions and processes after so many events.
use Rattle.std.proofs.Common.{◌≡◌, ℕ, suc, ◌+◌, ◌*◌, ◌^◌, ◌<◌, ◌≤◌, List, [], ◌∷◌, ◌++◌, length, sym, ◌∙◌, subst, arith, add-mul}
use Rattle.std.proofs.lemmas.List.{length-append}
use Rattle.std.proofs.Math.Nat.{suc-mul}
use Rattle.chor_base.specs.declared.event.Event.{Event}
use Rattle.endpoint_code.specs.declared.endpoints.Endpoints.{Endpoints}
use Rattle.endpoint_code.specs.Network.{NetworkState}
use Rattle.net_core.specs.Steps.{FitsMore, HasGrown, HasGrownBy, most_served}
use Rattle.net_core.specs.Views.{NetworkView}

pub grown_by_none : (v : NetworkView) → HasGrownBy 0 v v
grown_by_none v = record { sid = omega arith; machines = omega arith }

pub grown_by_more : (first old new : NetworkView) (xs : List Event) (x : Event) → HasGrownBy (length xs) first old → old.endpoints ≡ first.endpoints → HasGrown old new → HasGrownBy (length (xs ++ x ∷ [])) first new
grown_by_more first old new xs x a same b =
    let m = most_served first.endpoints.channels in
    let s : old.state.sid ≤ first.state.sid + length xs = a.sid in
    let t : new.state.sid ≤ old.state.sid + 1 = b.sid in
    let p : length old.state.machines ≤ length first.state.machines + length xs * m = a.machines in
    let q : length new.state.machines ≤ length old.state.machines + m = subst (λ (e : Endpoints). length new.state.machines ≤ length old.state.machines + most_served e.channels) same b.machines in
    let longer : length (xs ++ x ∷ []) ≡ suc (length xs) = length-append xs (x ∷ []) ∙ (let k : length xs + 1 ≡ suc (length xs) = omega arith in k) in
    let grown : HasGrownBy (suc (length xs)) first new = record { sid = omega arith; machines = omega (arith, suc-mul (length xs) m) } in
    subst (λ (k : ℕ). HasGrownBy k first new) (sym longer) grown

pub grown_by_same : (k : ℕ) (first old new : NetworkView) → HasGrownBy k first old → new.state ≡ old.state → HasGrownBy k first new
grown_by_same k first old new a same = record {
  sid = subst (λ (n : NetworkState). n.sid ≤ first.state.sid + k) (sym same) a.sid;
  machines = subst (λ (n : NetworkState). length n.machines ≤ length first.state.machines + k * most_served first.endpoints.channels) (sym same) a.machines;
}

pub grown_by_both : (xs ys : List Event) (first mid new : NetworkView) → HasGrownBy (length xs) first mid → mid.endpoints ≡ first.endpoints → HasGrownBy (length ys) mid new → HasGrownBy (length (xs ++ ys)) first new
grown_by_both xs ys first mid new a same b =
    let m = most_served first.endpoints.channels in
    let s : mid.state.sid ≤ first.state.sid + length xs = a.sid in
    let t : new.state.sid ≤ mid.state.sid + length ys = b.sid in
    let p : length mid.state.machines ≤ length first.state.machines + length xs * m = a.machines in
    let q : length new.state.machines ≤ length mid.state.machines + length ys * m = subst (λ (e : Endpoints). length new.state.machines ≤ length mid.state.machines + length ys * most_served e.channels) same b.machines in
    let both : (length xs + length ys) * m ≡ length xs * m + length ys * m = add-mul (length xs) (length ys) m in
    let grown : HasGrownBy (length xs + length ys) first new = record { sid = omega arith; machines = omega arith } in
    subst (λ (k : ℕ). HasGrownBy k first new) (sym (length-append xs ys)) grown

-- so many events more fit where they fitted beside those that came
pub fits_left : (v w : NetworkView) (k left : ℕ) → w.endpoints ≡ v.endpoints → HasGrownBy k v w → FitsMore v (k + left) → FitsMore w left
fits_left v w k left same g f =
    let m = most_served v.endpoints.channels in
    let s : v.state.sid + (k + left) < 2 ^ 32 = f.sid in
    let t : w.state.sid ≤ v.state.sid + k = g.sid in
    let p : length v.state.machines + (k + left) * m < 2 ^ 32 = f.machines in
    let q : length w.state.machines ≤ length v.state.machines + k * m = g.machines in
    let both : (k + left) * m ≡ k * m + left * m = add-mul k left m in
    let machines : length w.state.machines + left * m < 2 ^ 32 = omega arith in
    record {
      sid = omega arith;
      machines = subst (λ (e : Endpoints). length w.state.machines + left * most_served e.channels < 2 ^ 32) (sym same) machines;
    }
