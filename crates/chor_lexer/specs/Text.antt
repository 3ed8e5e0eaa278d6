-- What stands between the quotes of a text, and the text that it means. A quote is 34, a backslash 92, a line feed 10, an n 110.
use Rattle.std.specs.Prelude.{◌≡◌, ◌≢◌, ℕ, Bool, true, ◌||◌, not, ◌==◌, List, [], ◌∷◌, ◌++◌, Option, Some, None, if◌then◌else◌}

-- a byte that stands for itself: it is no quote, no backslash and no line feed
abbrev pub is_plain : ℕ → Bool
is_plain b = not (b == 34 || b == 92 || b == 10)

-- what a backslash and this byte stand for: a quote, a backslash, or for n a line feed
abbrev pub escaped : ℕ → Option ℕ
escaped b = if b == 34 then Some 34 else (if b == 92 then Some 92 else (if b == 110 then Some 10 else None))

-- these bytes, written between quotes, mean this text
pub data IsTextOf : List ℕ → List ℕ → Type 0 where
  nothing : IsTextOf [] []
  plain : {b : ℕ} {written text : List ℕ}
      → is_plain b ≡ true → IsTextOf written text
      → IsTextOf (b ∷ written) (b ∷ text)
  escape : {b c : ℕ} {written text : List ℕ}
      → escaped b ≡ Some c → IsTextOf written text
      → IsTextOf (92 ∷ b ∷ written) (c ∷ text)

-- these bytes may stand before the quote that closes a text, whether or not their escapes exist: a backslash takes the next byte with it
pub data IsBody : List ℕ → Type 0 where
  empty : IsBody []
  one : {b : ℕ} {written : List ℕ} → is_plain b ≡ true → IsBody written → IsBody (b ∷ written)
  two : {b : ℕ} {written : List ℕ} → b ≢ 10 → IsBody written → IsBody (92 ∷ b ∷ written)

-- a quote before these bytes is never closed
abbrev pub IsUnclosed : List ℕ → Type 0
IsUnclosed bs = (body rest : List ℕ) → bs ≡ body ++ 34 ∷ rest → IsBody body → ⊥
