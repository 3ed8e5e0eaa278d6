use Rattle.std.proofs.Common.{◌≡◌, drop}
use Rattle.chor_io.specs.Memory.{file_of}
use Rattle.chor_io.proofs.memory.find.Given as goal

abbrev pub invariant-loop-file : goal.invariant-loop-file
invariant-loop-file l = file_of (drop l.file-index l.files) l.name ≡ file_of l.files l.name
