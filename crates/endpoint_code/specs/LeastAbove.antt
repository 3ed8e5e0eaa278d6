-- The least code above others, and codes above which there is none.
use Rattle.std.specs.Prelude.{List, All}
use Rattle.endpoint_code.specs.Trees.{CodeTree}
use Rattle.endpoint_code.specs.Above.{IsAbove}
use Rattle.endpoint_code.specs.Labels.{HasDistinctLabels}

-- among the codes in which no branch has a label twice: it is above all of these, and every code above them is above it
pub record IsLeastAbove (codes : List CodeTree) (q : CodeTree) : Type 0 where
  pub distinct : HasDistinctLabels q
  pub above : All (λ c. IsAbove q c) codes
  pub least : (r : CodeTree) → HasDistinctLabels r → All (λ c. IsAbove r c) codes → IsAbove r q

-- among the codes in which no branch has a label twice, none is above all of these
abbrev pub HasNoneAbove : List CodeTree → Type 0
HasNoneAbove codes = (r : CodeTree) → HasDistinctLabels r → All (λ c. IsAbove r c) codes → ⊥
