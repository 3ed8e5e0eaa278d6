-- What is proved of a generated file: its names, protocols, types and calls, the order of its starts, and its merging.
use Rattle.std.specs.Prelude.{ℕ, ◌≡◌, List, [], All}
use Rattle.chor_base.specs.declared.fault.Fault.{Fault}
use Rattle.chor_base.specs.declared.rule.Denied.{Denied}
use Rattle.chor_base.specs.declared.rule.Denied.TheVariants.{Memory}
use Rattle.chor_tree.specs.declared.file.File.{File}
use Rattle.chor_tree.specs.Names.{IsNameFault}
use Rattle.chor_tree.specs.Protocols.{Protocol}
use Rattle.global_types.specs.Moves.{IsIn}
use Rattle.global_types.specs.Faults.{faults_of}
use Rattle.local_types.specs.Reading.{HasFineRoles}
use Rattle.typing_rules.specs.TypeFaults.{IsTyped}
use Rattle.typing_rules.specs.Guarded.{IsGuarded}
use Rattle.linearity.specs.OrderFaults.{IsOrderFault}
use Rattle.projection.specs.MergeFaults.{sites_of, HasClash, services_of, HasServiceClash}
use Rattle.source_check.specs.declared.rules.Rules.TheVariants as rules
use Rattle.source_check.specs.Classes.{classes_of, IsFaultless}
use Rattle.source_check.specs.Source.{IsBroken}
use Rattle.generated_files.specs.Generated.{IsGenerated}

-- No name of a generated file is at fault, whatever host functions there are
abbrev pub GeneratedNamesAreResolved : Type 0
GeneratedNamesAreResolved = (f : File) (count : ℕ) (hosts : List (List ℕ)) → IsGenerated f count → (x : Fault) → ¬ IsNameFault f hosts x

-- No state, no receiver and no role of its protocols is at fault
abbrev pub GeneratedProtocolsAreFine : Type 0
GeneratedProtocolsAreFine = (f : File) (count : ℕ) → IsGenerated f count → faults_of f ≡ []

-- Each role of each protocol can tell where it stands
abbrev pub GeneratedViewsAreFine : Type 0
GeneratedViewsAreFine = (f : File) (count : ℕ) → IsGenerated f count → (p : Protocol) → IsIn p f.protocols → HasFineRoles p p.roles

-- No statement, no tail and no head of a procedure is at fault
abbrev pub GeneratedIsTyped : Type 0
GeneratedIsTyped = (f : File) (count : ℕ) → IsGenerated f count → IsTyped f

-- A procedure passes its parameters on only after a statement that names them
abbrev pub GeneratedIsGuarded : Type 0
GeneratedIsGuarded = (f : File) (count : ℕ) → IsGenerated f count → IsGuarded f

-- Each start is ordered after the earlier ones of its channel
abbrev pub GeneratedIsOrdered : Type 0
GeneratedIsOrdered = (f : File) (count : ℕ) → IsGenerated f count → (x : Fault) → ¬ IsOrderFault f x

-- At each conditional a process that doesn't decide can tell the branches apart
abbrev pub GeneratedBranchesMerge : Type 0
GeneratedBranchesMerge = (f : File) (count : ℕ) → IsGenerated f count → All (λ s. HasClash f s → ⊥) (sites_of f)

-- After each start of a channel the new process of a role has codes that can be merged
abbrev pub GeneratedStartsMerge : Type 0
GeneratedStartsMerge = (f : File) (count : ℕ) → IsGenerated f count → All (λ x. HasServiceClash f x → ⊥) (services_of f)

-- A file has no fault of any class, whatever host functions there are
abbrev pub HasNoFault : File → Type 0
HasNoFault f = (hosts : List (List ℕ)) → IsFaultless hosts f (classes_of rules.All)

-- So it is with each generated file
abbrev pub GeneratedHasNoFault : Type 0
GeneratedHasNoFault = (f : File) (count : ℕ) → IsGenerated f count → HasNoFault f

-- Who judges a generated file by these classes, and denies it, has no memory
abbrev pub GeneratedIsDeniedByMemory : Type 0
GeneratedIsDeniedByMemory = (f : File) (count : ℕ) (hosts : List (List ℕ)) (denied : Denied) → IsGenerated f count → IsBroken (classes_of rules.All) hosts f denied → denied ≡ Memory
