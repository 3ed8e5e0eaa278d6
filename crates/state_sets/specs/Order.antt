-- Words as numbers, by their first bytes.
use Rattle.std.specs.Prelude.{ℕ, zero, suc, ◌≡◌, ◌+◌, ◌*◌, ◌<◌, List, [], ◌∷◌, map, slice_index_or}
use Rattle.global_types.specs.Moves.{IsIn}
use Rattle.state_sets.specs.declared.act.Act.{Act}
use Rattle.state_sets.specs.declared.order.Keyed.{Keyed}
use Rattle.state_sets.specs.Table.{act_word}

-- the digits of acc in base 256, and after them n bytes of the word; where it is shorter zeros follow
unfoldable pub word_key : ℕ → ℕ → List ℕ → ℕ
word_key zero acc w = acc
word_key (suc n) acc [] = word_key n (acc * 256) []
word_key (suc n) acc (b ∷ w) = word_key n (acc * 256 + b) w

-- the number is made of the first eight bytes of the word
pub record IsKeyOf (word : List ℕ) (key : ℕ) : Type 0 where
  pub bytes : (i : ℕ) → slice_index_or word i 0 < 256
  pub made : key ≡ word_key 8 0 word

-- the acts of these, in their order
abbrev pub keyed_acts : List Keyed → List Act
keyed_acts ks = map (λ k. k.act.now) ks

-- by key, and then by label
abbrev pub keyed_word : List (List ℕ) → Keyed → List ℕ
keyed_word names k = k.key ∷ act_word names k.act.now

-- these acts, each with the key of its label
pub record AreKeyed (names : List (List ℕ)) (all : List Act) (ks : List Keyed) : Type 0 where
  pub acts : keyed_acts ks ≡ all
  pub keys : (k : Keyed) → IsIn k ks → IsKeyOf (act_word names k.act.now) k.key
