-- Sets of states as bytes: one for each state, 1 where the state is in the set and else 0.
use Rattle.std.specs.Prelude.{ℕ, ◌≡◌, ◌<◌, ◌⊎◌, List, [], length, Vec, slice_index_or}
use Rattle.std.specs.declared.alloc.Global.{Global}
use Rattle.chor_base.specs.Words.{words_of}

-- a state is in the set
abbrev pub Has : List ℕ → ℕ → Type 0
Has marks i = slice_index_or marks i 0 ≡ 1

-- two states are in the set
abbrev pub HasTwo : List ℕ → Type 0
HasTwo marks = (i : ℕ) × (j : ℕ) × (i < j) × Has marks i × Has marks j

-- the row of a state; a state that has none has an empty one
abbrev pub row_at : List (Vec ℕ Global) → ℕ → List ℕ
row_at rows i = slice_index_or (words_of rows) i []

-- the bytes are the set of those of n states that have a property, which no other state has
pub record IsSetFor (n : ℕ) (P : ℕ → Type 0) (marks : List ℕ) : Type 0 where
  pub size : length marks ≡ n
  pub bytes : (i : ℕ) → i < n → (slice_index_or marks i 0 ≡ 0) ⊎ (slice_index_or marks i 0 ≡ 1)
  pub sound : (i : ℕ) → Has marks i → P i
  pub complete : (i : ℕ) → P i → Has marks i
