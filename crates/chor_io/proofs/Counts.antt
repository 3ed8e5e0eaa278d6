-- How the counts of failed calls change.
use Rattle.std.proofs.Common.{◌≡◌, ◌≢◌, ◌≤◌, ◌+◌, ℕ, List, [], ◌∷◌, ◌++◌, inl, refl, ap, ◌∙◌, arith, cond, true, false, Bool}
use Rattle.std.proofs.lemmas.List.Sums.{sum_by-append}
use Rattle.std.proofs.lemmas.Slice.Eq.{bytes_eq-Decides}
use Rattle.std.specs.Bool.{Decides}
use Rattle.std.specs.Prelude.{bytes_eq}
use Rattle.chor_io.specs.declared.outside.Fetched.{Fetched}
use Rattle.chor_io.specs.declared.outside.Fetched.TheVariants as fetched
use Rattle.chor_io.specs.Outside.{times, failed_after, Risen}

-- one name more
times-append : (names : List (List ℕ)) (name other : List ℕ) → times (names ++ name ∷ []) other ≡ times names other + cond (bytes_eq other name) 1 0
times-append names name other = sum_by-append (λ x. cond (bytes_eq other x) 1 0) names (name ∷ []) ∙ ap (λ n. times names other + n) (omega arith)

-- a name is the same as itself
own_name : (name : List ℕ) → bytes_eq name name ≡ true
own_name name = (bytes_eq-Decides name name).1 refl

other_name : (b : Bool) (other name : List ℕ) → Decides b (other ≡ name) → other ≢ name → ◌≡◌ {A = ℕ} (cond b 1 0) 0
other_name true other name d differs = absurd (differs (d.0 refl))
other_name false other name d differs = refl

counted : (names : List (List ℕ)) (name : List ℕ) → times (names ++ name ∷ []) name ≡ times names name + 1
counted names name = times-append names name name ∙ ap (λ b. times names name + cond b 1 0) (own_name name)

pub failed_cause : (names : List (List ℕ)) (name : List ℕ) (answer : Fetched) → answer ≡ fetched.Failed → Risen (times names name) (times (failed_after names name answer) name)
failed_cause names name fetched.Failed e = let n = counted names name in inl (omega arith)
failed_cause names name fetched.All e = absurd cc
failed_cause names name fetched.TooLong e = absurd cc
failed_cause names name fetched.Memory e = absurd cc

pub failed_rises : (names : List (List ℕ)) (name : List ℕ) (answer : Fetched) → times names name ≤ times (failed_after names name answer) name
failed_rises names name fetched.Failed = let n = counted names name in omega arith
failed_rises names name fetched.All = omega arith
failed_rises names name fetched.TooLong = omega arith
failed_rises names name fetched.Memory = omega arith

pub failed_others : (names : List (List ℕ)) (name : List ℕ) (answer : Fetched) (other : List ℕ) → other ≢ name → times (failed_after names name answer) other ≡ times names other
failed_others names name fetched.Failed other differs =
    let n = times-append names name other in
    let z = other_name (bytes_eq other name) other name (bytes_eq-Decides other name) differs in
    omega arith
failed_others names name fetched.All other differs = refl
failed_others names name fetched.TooLong other differs = refl
failed_others names name fetched.Memory other differs = refl

pub failed_after-same : (old names : List (List ℕ)) (word name : List ℕ) (answer : Fetched) → old ≡ names → word ≡ name → failed_after old word answer ≡ failed_after names name answer
failed_after-same old names word name answer e f = cc
