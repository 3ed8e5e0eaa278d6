-- Tests, and what each answer means.
use Rattle.std.proofs.Common.{◌≡◌, ◌≢◌, ◌<◌, ◌≤◌, ◌⊎◌, inl, inr, ℕ, Bool, true, false, refl, arith, nat_lt}
use Rattle.std.proofs.lemmas.Bool.Decides.{nat_tests, Decides-eqb}
use Rattle.std.specs.Prelude.{◌==◌}

pub either : (t : Bool) → (t ≡ true) ⊎ (t ≡ false)
either true = inl refl
either false = inr refl

pub sized : (a b : ℕ) → (a ≤ b) ⊎ (b < a)
sized a b = elim (either (nat_lt b a)) [ inl e ↦ inr (grind (arith, nat_tests)) | inr e ↦ inl (grind (arith, nat_tests)) ]

pub same : (b c : ℕ) → (b ≡ c) ⊎ (b ≢ c)
same b c = elim (either (b == c)) [ inl e ↦ inl ((Decides-eqb b c).0 e) | inr e ↦ inr (λ q. grind (arith, nat_tests)) ]
