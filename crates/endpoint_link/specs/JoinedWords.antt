-- A table of words to which those of another table were added (this project's own).
use Rattle.std.specs.Prelude.{ℕ, ◌≡◌, ◌++◌, List, length, Some, slice_get}
use Rattle.chor_base.specs.Words.{AllDistinct}
use Rattle.same_programs.specs.Words.{IsSameWord}

-- The joined table begins with the base and has each word once. `numbers` holds, for each word of the given table, where it
-- is in the joined one, as f reads it
pub record AreWordsJoined {A : Type 0} (f : A → ℕ) (base given joined : List (List ℕ)) (numbers : List A) : Type 0 where
  pub begins : (more : List (List ℕ)) × (joined ≡ base ++ more)
  pub distinct : AllDistinct joined
  pub count : length numbers ≡ length given
  pub same : (i : ℕ) (n : A) → slice_get numbers i ≡ Some n → IsSameWord given joined i (f n)
