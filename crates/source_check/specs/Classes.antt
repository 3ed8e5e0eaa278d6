-- The classes of rules that judge a file, in order: the first class with a fault decides (this project's own).
use Rattle.std.specs.Prelude.{ℕ, ◌≡◌, ◌⊎◌, List, [], ◌∷◌, Contains}
use Rattle.chor_base.specs.declared.rule.Refusal.{Refusal}
use Rattle.chor_base.specs.declared.rule.Denied.TheVariants.{Refused}
use Rattle.chor_base.specs.declared.fault.Fault.{Fault}
use Rattle.std.specs.List.{All}
use Rattle.chor_base.specs.Faults.{IsDenial}
use Rattle.chor_tree.specs.declared.file.File.{File}
use Rattle.chor_tree.specs.Names.{IsNameFault}
use Rattle.chor_tree.specs.Protocols.{Protocol}
use Rattle.global_types.specs.Moves.{IsIn}
use Rattle.global_types.specs.Faults.{faults_of}
use Rattle.local_types.specs.Reading.{HasFineRoles, IsFirstRefusal}
use Rattle.typing_rules.specs.TypeFaults.{IsTypeFault, IsTyped}
use Rattle.linear_check.specs.Class.{IsLinearityFault}
use Rattle.projection.specs.MergeFaults.{sites_of, HasClash, services_of, HasServiceClash, IsMergeDenial}
use Rattle.source_check.specs.declared.rules.Class.{Class}
use Rattle.source_check.specs.declared.rules.Class.TheVariants.{Names, Protocols, Views, Types, Linearity, Merging}
use Rattle.source_check.specs.declared.rules.Rules.{Rules}
use Rattle.source_check.specs.declared.rules.Rules.TheVariants as rules

-- The classes that are applied, in order
abbrev pub classes_of : Rules → List Class
classes_of rules.Grammar = []
classes_of rules.Views = Names ∷ Protocols ∷ Views ∷ []
classes_of rules.All = Names ∷ Protocols ∷ Views ∷ Types ∷ Linearity ∷ Merging ∷ []

-- no branches of the file clash, and no starts
pub record HasNoMergeFault (f : File) : Type 0 where
  pub branches : All (λ s. HasClash f s → ⊥) (sites_of f)
  pub starts : All (λ x. HasServiceClash f x → ⊥) (services_of f)

-- ---- one class, where the host functions have these names

-- the file has no fault of it
abbrev pub HasNone : List (List ℕ) → File → Class → Type 0
HasNone hosts f Names = (x : Fault) → IsNameFault f hosts x → ⊥
HasNone hosts f Protocols = faults_of f ≡ []
HasNone hosts f Views = (p : Protocol) → IsIn p f.protocols → HasFineRoles p p.roles
HasNone hosts f Types = IsTyped f
HasNone hosts f Linearity = (x : Fault) → IsLinearityFault f x → ⊥
HasNone hosts f Merging = HasNoMergeFault f

-- this refusal tells its first fault in the file
abbrev pub HasFirst : List (List ℕ) → File → Refusal → Class → Type 0
HasFirst hosts f r Names = IsDenial (IsNameFault f hosts) (Refused r)
HasFirst hosts f r Protocols = IsDenial (Contains (faults_of f)) (Refused r)
HasFirst hosts f r Views = IsFirstRefusal f.protocols (Refused r)
HasFirst hosts f r Types = IsDenial (IsTypeFault f) (Refused r)
HasFirst hosts f r Linearity = IsDenial (IsLinearityFault f) (Refused r)
HasFirst hosts f r Merging = IsMergeDenial f (Refused r)

-- ---- several

-- The file has no fault of these classes
abbrev pub IsFaultless : List (List ℕ) → File → List Class → Type 0
IsFaultless hosts f [] = Unit {0}
IsFaultless hosts f (c ∷ cs) = HasNone hosts f c × IsFaultless hosts f cs

-- The refusal tells which rule the file violates, and where: the first fault of the first of these classes that has one
abbrev pub Breaks : List (List ℕ) → File → Refusal → List Class → Type 0
Breaks hosts f r [] = ⊥
Breaks hosts f r (c ∷ cs) = HasFirst hosts f r c ⊎ (HasNone hosts f c × Breaks hosts f r cs)
