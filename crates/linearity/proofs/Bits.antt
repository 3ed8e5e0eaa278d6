-- Bits as tests.
use Rattle.std.proofs.Common.{◌≡◌, ℕ, zero, suc, ◌<◌, ◌==◌, ◌||◌, ◌&&◌, refl, ap, ◌∙◌, min, max, arith}
use Rattle.std.specs.Int.{bit_at}
use Rattle.std.specs.Int.Bits.{bit_and, bit_or}
use Rattle.std.proofs.lemmas.Nat.Bits.{bit_at_and, bit_at_or, bit_at-lt}

max_test : (a b : ℕ) → a < 2 → b < 2 → (max a b == 1) ≡ ((a == 1) || (b == 1))
max_test zero zero h i = refl
max_test zero (suc zero) h i = refl
max_test (suc zero) zero h i = refl
max_test (suc zero) (suc zero) h i = refl
max_test zero (suc (suc b)) h i = absurd (omega arith)
max_test (suc zero) (suc (suc b)) h i = absurd (omega arith)
max_test (suc (suc a)) b h i = absurd (omega arith)

min_test : (a b : ℕ) → a < 2 → b < 2 → (min a b == 1) ≡ ((a == 1) && (b == 1))
min_test zero zero h i = refl
min_test zero (suc zero) h i = refl
min_test (suc zero) zero h i = refl
min_test (suc zero) (suc zero) h i = refl
min_test zero (suc (suc b)) h i = absurd (omega arith)
min_test (suc zero) (suc (suc b)) h i = absurd (omega arith)
min_test (suc (suc a)) b h i = absurd (omega arith)

pub or_test : (a b i : ℕ) → (bit_at (bit_or a b) i == 1) ≡ ((bit_at a i == 1) || (bit_at b i == 1))
or_test a b i = ap (λ n. n == 1) (bit_at_or a b i) ∙ max_test (bit_at a i) (bit_at b i) (bit_at-lt a i) (bit_at-lt b i)

pub and_test : (a b i : ℕ) → (bit_at (bit_and a b) i == 1) ≡ ((bit_at a i == 1) && (bit_at b i == 1))
and_test a b i = ap (λ n. n == 1) (bit_at_and a b i) ∙ min_test (bit_at a i) (bit_at b i) (bit_at-lt a i) (bit_at-lt b i)
