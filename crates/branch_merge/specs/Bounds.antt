-- What is above two codes, and above the arms of two branches.
use Rattle.std.specs.Prelude.{◌≡◌, false}
use Rattle.chor_base.specs.declared.names.NameId.{NameId}
use Rattle.endpoint_code.specs.Trees.{CodeTree, Arms}
use Rattle.endpoint_code.specs.Above.{IsAbove, AreAbove}
use Rattle.endpoint_code.specs.Labels.{HasDistinctLabels, AreDistinctArms, has_label}

-- a code above both, in which no branch has a label twice
pub record IsBound (a b r : CodeTree) : Type 0 where
  pub distinct : HasDistinctLabels r
  pub left : IsAbove r a
  pub right : IsAbove r b

-- the least of these
pub record IsLeast (a b q : CodeTree) : Type 0 where
  pub bound : IsBound a b q
  pub least : (r : CodeTree) → IsBound a b r → IsAbove r q

-- there is none
pub record HasNone (a b : CodeTree) : Type 0 where
  pub none : (r : CodeTree) → IsBound a b r → ⊥

-- arms above both, of which no two have the same label
pub record AreBound (qs ps rs : Arms) : Type 0 where
  pub distinct : AreDistinctArms rs
  pub left : AreAbove rs qs
  pub right : AreAbove rs ps

-- the least of these, which have no label that neither has
pub record AreLeast (qs ps rs : Arms) : Type 0 where
  pub bound : AreBound qs ps rs
  pub least : (us : Arms) → AreBound qs ps us → AreAbove us rs
  pub labels : (l : NameId) → has_label l qs ≡ false → has_label l ps ≡ false → has_label l rs ≡ false

-- there are none
pub record HaveNone (qs ps : Arms) : Type 0 where
  pub none : (us : Arms) → AreBound qs ps us → ⊥
