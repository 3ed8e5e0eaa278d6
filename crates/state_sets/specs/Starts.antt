-- In which states groups of exchanges begin, so that what a set allows is found from its own states.
use Rattle.std.specs.Prelude.{ℕ, ◌≡◌, List, length, Vec, Some, slice_get}
use Rattle.std.specs.declared.alloc.Global.{Global}
use Rattle.global_types.specs.Moves.{IsIn}
use Rattle.state_sets.specs.declared.graph.Edge.{Edge}
use Rattle.state_sets.specs.declared.graph.Group.{Group}
use Rattle.state_sets.specs.Sets.{Has, row_at}

-- the number of each group stands in the list of each state from which an exchange of the group leads
abbrev pub AreStarts : List Group → List (Vec ℕ Global) → Type 0
AreStarts gs starts = (k : ℕ) (g : Group) (e : Edge) → slice_get gs k ≡ Some g → IsIn e g.edges.items → IsIn k (row_at starts e.from)

-- there are as many lists as before, and what stood in one still does
pub record HasMoreStarts (old new : List (Vec ℕ Global)) : Type 0 where
  pub size : length new ≡ length old
  pub kept : (i k : ℕ) → IsIn k (row_at old i) → IsIn k (row_at new i)

-- the number of each group that the states allow is among these
abbrev pub HaveAllowed : List Group → List ℕ → List ℕ → Type 0
HaveAllowed gs still numbers = (k : ℕ) (g : Group) (e : Edge) → slice_get gs k ≡ Some g → IsIn e g.edges.items → Has still e.from → IsIn k numbers
