-- The places of set bits, and how many there are.
use Rattle.std.proofs.Common.{◌≡◌, ℕ, zero, suc, ◌+◌, ◌<◌, Bool, true, false, List, [], ◌∷◌, length, Some, refl, ap, ◌∙◌, arith}
use Rattle.std.specs.Prelude.{slice_get, take}
use Rattle.std.specs.List.{sum_by}
use Rattle.std.proofs.lemmas.List.Sums.{sum_by-cons}
use Rattle.std.proofs.lemmas.Option.{slice_get_within, get_or_from_slice_get}
use Rattle.counted_bits.specs.Counts.{one, before}
use Rattle.counted_bits.specs.Places.{places}
use Rattle.counted_bits.proofs.Amounts.{before_more}

pub length-places : (p : ℕ) (bits : List Bool) → length (places p bits) ≡ sum_by one bits
length-places p [] = refl
length-places p (true ∷ bits) = omega (arith, length-places (suc p) bits, sum_by-cons one true bits)
length-places p (false ∷ bits) = omega (arith, length-places (suc p) bits, sum_by-cons one false bits)

-- the set bit that so many set bits stand before
pub place_reached : (p : ℕ) (bits : List Bool) (number place : ℕ) → before one place bits ≡ number → number < before one (suc place) bits → slice_get (places p bits) number ≡ Some (p + place)
place_reached p [] number place e l = absurd (omega arith)
place_reached p (true ∷ bits) zero zero e l = ap Some (omega arith)
place_reached p (true ∷ bits) (suc number) zero e l = absurd (omega arith)
place_reached p (true ∷ bits) zero (suc place) e l = absurd (omega (arith, sum_by-cons one true (take place bits)))
place_reached p (true ∷ bits) (suc number) (suc place) e l =
    place_reached (suc p) bits number place (omega (arith, sum_by-cons one true (take place bits))) (omega (arith, sum_by-cons one true (take (suc place) bits))) ∙ ap Some (omega arith)
place_reached p (false ∷ bits) number zero e l = absurd (omega (arith, sum_by-cons one false []))
place_reached p (false ∷ bits) number (suc place) e l =
    place_reached (suc p) bits number place (omega (arith, sum_by-cons one false (take place bits))) (omega (arith, sum_by-cons one false (take (suc place) bits))) ∙ ap Some (omega arith)

-- ---- for callers

some_same : {a b : ℕ} → Some a ≡ Some b → a ≡ b
some_same e = cc

-- a listed place is one of a set bit
pub listed_is_set : (p : ℕ) (bits : List Bool) (number place : ℕ) → slice_get (places p bits) number ≡ Some place → (i : ℕ) × (place ≡ p + i) × (slice_get bits i ≡ Some true)
listed_is_set p [] number place e = cc
listed_is_set p (true ∷ bits) zero place e = (0, omega (arith, some_same e), refl)
listed_is_set p (true ∷ bits) (suc number) place e = later (listed_is_set (suc p) bits number place e)
  where
    later : (i : ℕ) × (place ≡ suc p + i) × (slice_get bits i ≡ Some true) → (i : ℕ) × (place ≡ p + i) × (slice_get (true ∷ bits) i ≡ Some true)
    later (i, f, h) = (suc i, omega arith, h)
listed_is_set p (false ∷ bits) number place e = later (listed_is_set (suc p) bits number place e)
  where
    later : (i : ℕ) × (place ≡ suc p + i) × (slice_get bits i ≡ Some true) → (i : ℕ) × (place ≡ p + i) × (slice_get (false ∷ bits) i ≡ Some true)
    later (i, f, h) = (suc i, omega arith, h)

-- a set bit's place is listed, as the number of set bits before it tells
pub set_is_listed : (bits : List Bool) (place : ℕ) → slice_get bits place ≡ Some true → slice_get (places 0 bits) (before one place bits) ≡ Some place
set_is_listed bits place h =
    let more : before one (suc place) bits ≡ before one place bits + 1 = before_more one bits place false (slice_get_within bits place true h) ∙ ap (λ b. before one place bits + one b) (get_or_from_slice_get bits place true false h) in
    place_reached 0 bits (before one place bits) place refl (omega arith) ∙ ap Some (omega arith)
