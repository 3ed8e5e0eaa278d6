-- Where whole lines end.
use Rattle.std.proofs.Common.{◌≡◌, ◌∙◌, ◌==◌, ◌-◌, ◌+◌, ◌≤◌, ℕ, suc, Bool, true, false, List, [], ◌∷◌, ◌++◌, length, take, get_or, refl, sym, ap, arith}
use Rattle.std.proofs.lemmas.Bool.Decides.{nat_tests}
use Rattle.std.specs.Prelude.{if◌then◌else◌}
use Rattle.std.proofs.Math.Seq.{take-length}
use Rattle.std.proofs.lemmas.List.{take_more}
use Rattle.transcript_lines.specs.Whole.{before_whole, whole_lines}

-- the last byte stands after the others
cut_last : (xs : List ℕ) → 1 ≤ length xs → xs ≡ take (length xs - 1) xs ++ get_or xs (length xs - 1) 0 ∷ []
cut_last xs some =
    let all : length xs ≡ length xs - 1 + 1 = omega (arith, some) in
    sym (take-length xs) ∙ ap (λ (k : ℕ). take k xs) all ∙ take_more xs (length xs - 1) 0 (omega (arith, some))

-- a last byte that is no line feed is torn
torn : (front : List ℕ) (b : ℕ) → (b ≡ 10 → ⊥) → whole_lines (front ++ b ∷ []) ≡ whole_lines front
torn [] b other = go (b == 10) refl
  where
    go : (t : Bool) → (b == 10) ≡ t → (if t then b ∷ [] else []) ≡ []
    go true e = absurd (other (grind (arith, nat_tests)))
    go false e = refl
torn (a ∷ front) b other = ap (before_whole a) (torn front b other)

-- a line feed ends all lines before it
ended : (front : List ℕ) (b : ℕ) → b ≡ 10 → whole_lines (front ++ b ∷ []) ≡ front ++ b ∷ []
ended [] b feed = ap (λ (c : ℕ). if c == 10 then b ∷ [] else []) feed
ended (a ∷ front) b feed = ap (before_whole a) (ended front b feed) ∙ kept a front b
  where
    kept : (a : ℕ) (front : List ℕ) (b : ℕ) → before_whole a (front ++ b ∷ []) ≡ a ∷ (front ++ b ∷ [])
    kept a [] b = refl
    kept a (c ∷ cs) b = refl

pub torn_at : (xs : List ℕ) → 1 ≤ length xs → (get_or xs (length xs - 1) 0 ≡ 10 → ⊥) → whole_lines xs ≡ whole_lines (take (length xs - 1) xs)
torn_at xs some other = ap whole_lines (cut_last xs some) ∙ torn (take (length xs - 1) xs) (get_or xs (length xs - 1) 0) other

pub ended_at : (xs : List ℕ) → 1 ≤ length xs → get_or xs (length xs - 1) 0 ≡ 10 → whole_lines xs ≡ xs
ended_at xs some feed = ap whole_lines (cut_last xs some) ∙ ended (take (length xs - 1) xs) (get_or xs (length xs - 1) 0) feed ∙ sym (cut_last xs some)

-- there are no more bytes than before
pub whole_shorter : (bs : List ℕ) → length (whole_lines bs) ≤ length bs
whole_shorter [] = omega arith
whole_shorter (b ∷ bs) = go (whole_lines bs) (whole_shorter bs)
  where
    torn_or : (t : Bool) → length (if t then b ∷ [] else []) ≤ suc (length bs)
    torn_or true = omega arith
    torn_or false = omega arith

    go : (ws : List ℕ) → length ws ≤ length bs → length (before_whole b ws) ≤ suc (length bs)
    go [] le = torn_or (b == 10)
    go (c ∷ cs) le = omega (arith, le)
