-- The arguments of a call.
use Rattle.std.specs.Prelude.{◌==◌, List, [], ◌∷◌, Option, Some, None, if◌then◌else◌}
use Rattle.chor_base.specs.declared.names.NameId.{NameId}
use Rattle.chor_tree.specs.declared.file.Named.{Named}
use Rattle.chor_tree.specs.declared.file.ProcParam.{ProcParam}

-- the process that is passed for a parameter
abbrev pub argument_of : List ProcParam → List Named → NameId → Option NameId
argument_of [] ps x = None
argument_of (q ∷ qs) [] x = None
argument_of (q ∷ qs) (p ∷ ps) x = if q.name.name.0 == x.0 then Some p.name else argument_of qs ps x
