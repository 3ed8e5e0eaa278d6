-- Faults of procedures.
use Rattle.std.specs.Prelude.{◌≡◌, ◌⊎◌, [], List, Contains}
use Rattle.chor_base.specs.declared.fault.Fault.{Fault}
use Rattle.chor_tree.specs.declared.file.File.{File}
use Rattle.chor_tree.specs.declared.file.Proc.{Proc}
use Rattle.chor_tree.specs.Source.{body_of}
use Rattle.typing_rules.specs.Environment.{at_procedure}
use Rattle.typing_rules.specs.TypeFaults.{head_faults, IsBodyFault}

-- a fault of one of these procedures, where F tells those of each
abbrev pub IsFaultInSome : (Proc → Fault → Type 0) → List Proc → Fault → Type 0
IsFaultInSome F ps x = (p : Proc) × Contains ps p × F p x

-- a fault of types in the head of a procedure, or in its body, where its head has none
abbrev pub IsProcedureFault : File → Proc → Fault → Type 0
IsProcedureFault f p x = Contains (head_faults p) x ⊎ ((head_faults p ≡ []) × IsBodyFault f x (at_procedure p) (body_of f p.body))
