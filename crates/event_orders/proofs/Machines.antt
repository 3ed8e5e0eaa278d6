-- Lists of machines in which some are replaced and to which some are added.
use Rattle.std.proofs.Common.{◌≡◌, ◌≢◌, ℕ, ◌<◌, List, [], ◌∷◌, ◌++◌, length, refl, sym, ap, ◌∙◌, subst, arith, length-set}
use Rattle.std.specs.Prelude.{slice_get, slice_set}
use Rattle.std.proofs.lemmas.List.{set_comm, set-append_left}
use Rattle.chor_base.proofs.Lists.{get_set_other}
use Rattle.endpoint_code.specs.Network.{Machine, with_machines}

-- none of the places is q
abbrev pub AreOff : ℕ → List (ℕ × Machine) → Type 0
AreOff q [] = Unit {0}
AreOff q (j ∷ js) = (q ≢ j.0) × AreOff q js

-- all places are below a number, and none of them is one of the others
abbrev pub AreClear : ℕ → List (ℕ × Machine) → List (ℕ × Machine) → Type 0
AreClear l ks [] = Unit {0}
AreClear l ks (j ∷ js) = (j.0 < l) × AreOff j.0 ks × AreClear l ks js

pub with_length : (ms : List Machine) (js : List (ℕ × Machine)) → length (with_machines ms js) ≡ length ms
with_length ms [] = refl
with_length ms (j ∷ js) = with_length (slice_set ms j.0 j.1) js ∙ length-set ms j.0 j.1

pub with_other : (ms : List Machine) (js : List (ℕ × Machine)) (q : ℕ) → AreOff q js → slice_get (with_machines ms js) q ≡ slice_get ms q
with_other ms [] q off = refl
with_other ms (j ∷ js) q off = with_other (slice_set ms j.0 j.1) js q off.1 ∙ get_set_other ms j.0 q j.1 off.0

-- one machine is set before or after the others
set_past : (ms : List Machine) (js : List (ℕ × Machine)) (q : ℕ) (w : Machine) → AreOff q js → with_machines (slice_set ms q w) js ≡ slice_set (with_machines ms js) q w
set_past ms [] q w off = refl
set_past ms (j ∷ js) q w off =
    ap (λ (z : List Machine). with_machines z js) (set_comm ms q j.0 w j.1 (λ e. off.0 e))
    ∙ set_past (slice_set ms j.0 j.1) js q w off.1

-- the changes of two events to the machines commute, where one of them adds none
pub machines_commute : (ms : List Machine) (ks js : List (ℕ × Machine)) (new : List Machine) → AreClear (length ms) ks js
    → with_machines (with_machines ms ks ++ new) js ≡ with_machines (with_machines ms js) ks ++ new
machines_commute ms ks [] new clear = refl
machines_commute ms ks (j ∷ js) new clear =
    let below : j.0 < length (with_machines ms ks) = omega (arith, with_length ms ks, clear.0) in
    let there : AreClear (length (slice_set ms j.0 j.1)) ks js = subst (λ (l : ℕ). AreClear l ks js) (sym (length-set ms j.0 j.1)) clear.2 in
    ap (λ (z : List Machine). with_machines z js) (set-append_left (with_machines ms ks) new j.0 j.1 below ∙ ap (λ (z : List Machine). z ++ new) (sym (set_past ms ks j.0 j.1 clear.1)))
    ∙ machines_commute (slice_set ms j.0 j.1) ks js new there
