-- The channels with two or more active roles.
use Rattle.std.specs.Prelude.{List, [], ◌∷◌, length, nat_lt, if◌then◌else◌}
use Rattle.chor_base.specs.declared.names.NameId.{NameId}
use Rattle.chor_tree.specs.declared.file.Service.{Service}

abbrev pub several : List Service → List NameId
several [] = []
several (s ∷ ss) = if nat_lt 1 (length s.active) then s.name.name ∷ several ss else several ss
