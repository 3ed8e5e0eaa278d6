-- Codes of a file that were made side by side.
use Rattle.std.specs.List.{All}
use Rattle.chor_tree.specs.declared.file.File.{File}
use Rattle.file_codes.specs.UnitCodes.{MayBeUnitCode, MayBeCleanBody}
use Rattle.par_project.specs.declared.all.UnitCodes.{UnitCodes}

-- the codes and the clean bodies are of this file
pub record AreUnitCodes (f : File) (u : UnitCodes) : Type 0 where
  pub params : All (MayBeUnitCode f) u.params.items
  pub processes : All (MayBeUnitCode f) u.processes.items
  pub clean : All (MayBeCleanBody f) u.clean.items
