-- What is proved of the roles that processes hold in a file without faults of names, protocols and types.
use Rattle.std.specs.Prelude.{ℕ, List}
use Rattle.chor_tree.specs.declared.file.File.{File}
use Rattle.typed_sources.specs.Laws.{IsAccepted}
use Rattle.accepted_files.specs.Premises.{HoldsItsRoles}

-- everybody holds the roles that it plays
abbrev pub EverybodyHoldsItsRoles : Type 0
EverybodyHoldsItsRoles = (f : File) (words : List (List ℕ)) → IsAccepted f words → HoldsItsRoles f
