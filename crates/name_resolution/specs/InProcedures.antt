-- Faults in the bodies of procedures.
use Rattle.std.specs.Prelude.{List, ℕ, Contains}
use Rattle.chor_base.specs.declared.fault.Fault.{Fault}
use Rattle.chor_tree.specs.declared.file.File.{File}
use Rattle.chor_tree.specs.declared.file.Proc.{Proc}
use Rattle.chor_tree.specs.Names.{IsBodyFault, scope_of_procedure}

-- a fault in the body of one of these procedures
abbrev pub IsFaultInProcedures : File → List (List ℕ) → List Proc → Fault → Type 0
IsFaultInProcedures f hosts ps x = (p : Proc) × Contains ps p × IsBodyFault f hosts x (scope_of_procedure p) p.body
