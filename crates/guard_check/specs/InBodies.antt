-- Unguarded calls of several processes.
use Rattle.std.specs.Prelude.{◌≡◌, true, List, map, Contains}
use Rattle.chor_base.specs.declared.names.NameId.{NameId}
use Rattle.chor_base.specs.declared.fault.Fault.{Fault}
use Rattle.chor_tree.specs.declared.file.File.{File}
use Rattle.chor_tree.specs.declared.file.Proc.{Proc}
use Rattle.chor_tree.specs.Names.{is_among}
use Rattle.chor_tree.specs.Source.{Block, body_of}
use Rattle.typing_rules.specs.Guarded.{IsUnguardedCall}

-- x is a call in a block that passes one of these processes, where nothing before it on its path names that
abbrev pub IsUnguardedIn : List NameId → Block → Fault → Type 0
IsUnguardedIn ps b x = (p : NameId) × (is_among ps p ≡ true) × IsUnguardedCall p x b

-- the same in the body of one of these procedures, of its parameters
abbrev pub IsUnguardedInProcedures : File → List Proc → Fault → Type 0
IsUnguardedInProcedures f hs x = (h : Proc) × Contains hs h × IsUnguardedIn (map (λ q. q.name.name) h.params) (body_of f h.body) x
