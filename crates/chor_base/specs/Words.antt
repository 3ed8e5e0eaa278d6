-- Tables of byte strings.
use Rattle.std.specs.Prelude.{ℕ, ◌≡◌, ◌++◌, ◌<◌, ◌^◌, length, List, [], ◌∷◌, map, Vec, bytes_eq, if◌then◌else◌, Option, None, Some, slice_get, false}
use Rattle.std.specs.List.{list_any}
use Rattle.std.specs.Map.{lookup}
use Rattle.std.specs.declared.alloc.Global.{Global}

abbrev pub words_of : List (Vec ℕ Global) → List (List ℕ)
words_of ws = map (λ w. w.items) ws

-- the words with this one, which goes last where it isn't among them
abbrev pub with_word : List (List ℕ) → List ℕ → List (List ℕ)
with_word ws w = if list_any (bytes_eq w) ws then ws else ws ++ w ∷ []

-- the word isn't among them
abbrev pub Lacks : List (List ℕ) → List ℕ → Type 0
Lacks ws w = list_any (bytes_eq w) ws ≡ false

-- no word stands at two places
abbrev pub AllDistinct : List (List ℕ) → Type 0
AllDistinct ws = (i j : ℕ) (w : List ℕ) → slice_get ws i ≡ Some w → slice_get ws j ≡ Some w → i ≡ j

-- fewer than 2^32 words, and none at two places
pub record IsShortSet (ws : List (List ℕ)) : Type 0 where
  pub distinct : AllDistinct ws
  pub short : length ws < 2 ^ 32

-- what entries have at a word
abbrev pub number_in : List (Vec ℕ Global × ℕ) → List ℕ → Option ℕ
number_in es w = lookup (λ k. bytes_eq w k.items) es

-- the word stands at this place, or isn't among the words where there is none
abbrev pub IsPlaceAmong : List (List ℕ) → List ℕ → Option ℕ → Type 0
IsPlaceAmong ws w None = Lacks ws w
IsPlaceAmong ws w (Some n) = slice_get ws n ≡ Some w

-- the words are a short set, and the entries have the place of each
pub record IsNumbered (ws : List (List ℕ)) (es : List (Vec ℕ Global × ℕ)) : Type 0 where
  pub set : IsShortSet ws
  pub places : (w : List ℕ) → IsPlaceAmong ws w (number_in es w)
