-- What is proved of who holds roles in a file without faults of names, protocols and types.
use Rattle.std.specs.Prelude.{ℕ, List, None}
use Rattle.chor_base.specs.declared.names.NameId.{NameId}
use Rattle.chor_tree.specs.declared.file.File.{File}
use Rattle.chor_semantics.specs.Choreography.{Named}
use Rattle.chor_semantics.specs.Sources.{procedures_of, tree_in, trees_of}
use Rattle.well_formed.specs.Holders.{ListsFit, HoldersFit, AllHoldersFit}
use Rattle.typed_sources.specs.Laws.{IsAccepted}
use Rattle.typed_sources.specs.Lists.{lists_of}

-- what is listed is the place of a parameter, in each file
abbrev pub ListsAreParameters : Type 0
ListsAreParameters = (f : File) → ListsFit (lists_of f) (procedures_of f)

-- in main, where nobody holds a role at first, whoever uses one is its holder
abbrev pub MainIsHeld : Type 0
MainIsHeld = (f : File) (words : List (List ℕ)) → IsAccepted f words → (y : ℕ) (r : NameId) → HoldersFit (lists_of f) (Named y 0) r (tree_in (trees_of f.tree.nodes) f.body) None

-- and in each body, where the listed parameters hold their roles at first
abbrev pub BodiesAreHeld : Type 0
BodiesAreHeld = (f : File) (words : List (List ℕ)) → IsAccepted f words → AllHoldersFit (lists_of f) (procedures_of f)
