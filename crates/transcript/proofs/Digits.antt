-- The digits of a number and of the next one.
use Rattle.std.proofs.lemmas.Int.{ints}
use Rattle.std.proofs.Common.{ℕ, ◌≡◌, ◌+◌, ◌-◌, ◌/◌, ◌%◌, ◌^◌, ◌<◌, ◌≤◌, List, [], ◌∷◌, ◌++◌, length, length-append, arith, sym, ap, ◌∙◌}
use Rattle.std.specs.Prelude.{◌⊎◌}
use Rattle.std.proofs.Common.{inl, inr}
use Rattle.std.proofs.lemmas.Bool.{cases_lt}
use Rattle.std.proofs.Math.ListN.{set}
use Rattle.std.proofs.Math.Seq.{set-append_seam}
use Rattle.std.proofs.lemmas.Fmt.{decimal_digit, decimal_step}
use Rattle.std.specs.Fmt.{decimal, signed_decimal}
use Rattle.std.specs.Prelude.{ℤ, pos, negsuc, nat_abs, ◌≤ℤ◌, ◌<ℤ◌}

-- the digits of a number that doesn't end in 9 and of the next one differ in the last
pub record DifferInLast (n : ℕ) (front : List ℕ) : Type 0 where
  pub this : decimal n ≡ front ++ (48 + n % 10) ∷ []
  pub next : decimal (n + 1) ≡ front ++ (49 + n % 10) ∷ []

of_digit : (n : ℕ) → n < 10 → n % 10 < 9 → DifferInLast n []
of_digit n small h =
    let same : n ≡ n % 10 = omega arith in
    record {
      this = decimal_digit n small ∙ ap (λ (d : ℕ). (48 + d) ∷ []) same;
      next = decimal_digit (n + 1) (omega arith) ∙ ap (λ (d : ℕ). d ∷ []) (let e : 48 + (n + 1) ≡ 49 + n % 10 = omega arith in e);
    }

of_more : (n : ℕ) → 10 ≤ n → n + 1 < 2 ^ 64 → n % 10 < 9 → DifferInLast n (decimal (n / 10))
of_more n large fits h =
    let tens : (n + 1) / 10 ≡ n / 10 = omega arith in
    let last : 48 + (n + 1) % 10 ≡ 49 + n % 10 = omega arith in
    record {
      this = decimal_step n large (omega arith);
      next = decimal_step (n + 1) (omega arith) fits ∙ ap (λ (t : ℕ). decimal t ++ (48 + (n + 1) % 10) ∷ []) tens ∙ ap (λ (d : ℕ). decimal (n / 10) ++ d ∷ []) last;
    }

pub front_of : (n : ℕ) → n + 1 < 2 ^ 64 → n % 10 < 9 → (front : List ℕ) × DifferInLast n front
front_of n fits h = at (cases_lt n 10)
  where
    at : (n < 10) ⊎ (10 ≤ n) → (front : List ℕ) × DifferInLast n front
    at (inl small) = ([], of_digit n small h)
    at (inr large) = (decimal (n / 10), of_more n large fits h)

-- a number that doesn't end in 9 has a last digit
pub has_last : (ds : List ℕ) (n : ℕ) → n + 1 < 2 ^ 64 → n % 10 < 9 → ds ≡ decimal n → 1 ≤ length ds
has_last ds n fits h e =
    let w = front_of n fits h in
    let l : length ds ≡ length w.0 + 1 = ap length (e ∙ w.1.this) ∙ length-append w.0 ((48 + n % 10) ∷ []) in
    omega arith

-- one more in the last digit makes the next number
pub counted_on : (ds : List ℕ) (n last : ℕ) → n + 1 < 2 ^ 64 → n % 10 < 9 → ds ≡ decimal n → last ≡ length ds - 1 → set ds last (49 + n % 10) ≡ decimal (n + 1)
counted_on ds n last fits h e at =
    let w = front_of n fits h in
    let l : length ds ≡ length w.0 + 1 = ap length (e ∙ w.1.this) ∙ length-append w.0 ((48 + n % 10) ∷ []) in
    let place : last ≡ length w.0 = omega arith in
    ap (λ (xs : List ℕ). set xs last (49 + n % 10)) (e ∙ w.1.this)
    ∙ ap (λ (k : ℕ). set (w.0 ++ (48 + n % 10) ∷ []) k (49 + n % 10)) place
    ∙ set-append_seam w.0 (48 + n % 10) [] (49 + n % 10)
    ∙ sym w.1.next

-- a number of a single digit is written as that digit
pub one_digit : (z : ℤ) → pos 0 ≤ℤ z → z <ℤ pos 10 → signed_decimal z ≡ (48 + nat_abs z) ∷ []
one_digit (pos n) h lt = decimal_digit n (grind (arith, ints, h, lt))
one_digit (negsuc n) h lt = absurd (grind (arith, ints, h, lt))
