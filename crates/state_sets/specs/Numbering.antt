-- The numbers of sets of states.
use Rattle.std.specs.Prelude.{ℕ, ◌≡◌, List, Option, Some, length, slice_get}
use Rattle.chor_base.specs.Words.{with_word}
use Rattle.global_types.specs.Moves.{IsIn}
use Rattle.state_sets.specs.declared.graph.Edge.{Edge}
use Rattle.state_sets.specs.Sets.{Has, IsSetFor}

-- one of these exchanges leads from one of the states to j
abbrev pub leads_to : List ℕ → List Edge → ℕ → Type 0
leads_to still edges j = (e : Edge) × IsIn e edges × Has still e.from × (e.to ≡ j)

-- the set of those of n states that have this property has the number, and comes last where it isn't there yet
pub record IsNumberOf (n : ℕ) (P : ℕ → Type 0) (old new : List (List ℕ)) (number : ℕ) : Type 0 where
  pub word : List ℕ
  pub set : IsSetFor n P word
  pub added : new ≡ with_word old word
  pub at : slice_get new number ≡ Some word

-- there is a place for each of n states, and a number there is that of the set of this state alone
pub record AreSingles (n : ℕ) (sets : List (List ℕ)) (singles : List (Option ℕ)) : Type 0 where
  pub size : length singles ≡ n
  pub own : (j k : ℕ) → slice_get singles j ≡ Some (Some k) → (word : List ℕ) × (slice_get sets k ≡ Some word) × IsSetFor n (λ i. j ≡ i) word
