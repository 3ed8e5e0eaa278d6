-- What contracts see of a table of host functions.
use Rattle.std.specs.Prelude.{ℤ, List, map}
use denote.Param.Members.{Mut}
use Rattle.chor_host.specs.declared.table.HostTable.{HostTable}
use Rattle.chor_host.specs.Functions.{Function, function_of}

-- the functions of a table, in their order
abbrev pub functions_of : {X : Type 0} {g : Mut X (ℤ × (ℤ × Unit {0})) ℤ} → HostTable X g → List Function
functions_of t = map function_of t.functions.items
