use Rattle.std.proofs.Common.{◌≡◌, take}
use Rattle.projection.specs.Projects.{names_of}
use Rattle.file_codes.proofs.channels.names_of.Given as goal

abbrev pub invariant-loop-name : goal.invariant-loop-name
invariant-loop-name l = l.names ≡ names_of (take l.name-index l.written)
