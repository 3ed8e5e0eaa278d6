-- Codes of a file that were made in advance.
use Rattle.std.specs.List.{All}
use Rattle.chor_tree.specs.declared.file.File.{File}
use Rattle.file_codes.specs.declared.prepared.Prepared.{Prepared}
use Rattle.file_codes.specs.UnitCodes.{MayBeUnitCode, MayBeCleanBody}

-- the codes and the clean bodies are of this file
pub record ArePrepared (f : File) (p : Prepared) : Type 0 where
  pub params : All (MayBeUnitCode f) p.params.now
  pub processes : All (MayBeUnitCode f) p.processes.now
  pub clean : All (MayBeCleanBody f) p.clean.now
