-- When numbers of two tables stand for the same bytes (this project's own).
use Rattle.std.specs.Prelude.{ℕ, ◌≡◌, List, Option, Some, None, slice_get}
use Rattle.chor_base.specs.declared.names.NameId.{NameId}
use Rattle.chor_base.specs.Words.{AllDistinct}
use Rattle.endpoint_code.specs.declared.endpoints.Endpoints.{Endpoints}

-- both tables have a word there, and it is the same bytes
pub record IsSameWord (words words' : List (List ℕ)) (i j : ℕ) : Type 0 where
  pub word : List ℕ
  pub here : slice_get words i ≡ Some word
  pub there : slice_get words' j ≡ Some word

-- a name of the programs e, and the same name in the programs e'
abbrev pub SameName : Endpoints → Endpoints → NameId → NameId → Type 0
SameName e e' x y = IsSameWord e.names e'.names x.0 y.0

-- a literal text of the programs e, and the same text in the programs e'
abbrev pub SameText : Endpoints → Endpoints → ℕ → ℕ → Type 0
SameText e e' t u = IsSameWord e.texts e'.texts t u

-- no name and no text stands twice in its table
pub record HasDistinctWords (e : Endpoints) : Type 0 where
  pub names : AllDistinct e.names
  pub texts : AllDistinct e.texts

-- both are there and R holds of them, or neither is there
abbrev pub BothOrNeither : {A B : Type 0} → (A → B → Type 0) → Option A → Option B → Type 0
BothOrNeither R None None = Unit {0}
BothOrNeither R None (Some y) = ⊥
BothOrNeither R (Some x) None = ⊥
BothOrNeither R (Some x) (Some y) = R x y
