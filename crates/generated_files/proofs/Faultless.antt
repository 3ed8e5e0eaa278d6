-- A generated file has no fault of any class, and nothing refuses it.
use Rattle.std.proofs.Common.{◌≡◌, inl, inr, ℕ, List, [], ◌∷◌, refl}
use Rattle.chor_base.specs.declared.fault.Fault.{Fault}
use Rattle.chor_base.specs.declared.rule.Denied.{Denied}
use Rattle.chor_base.specs.declared.rule.Denied.TheVariants.{Refused, Memory}
use Rattle.chor_base.specs.declared.rule.Refusal.{Refusal}
use Rattle.chor_tree.specs.declared.file.File.{File}
use Rattle.linear_check.specs.Class.{IsLinearityFault}
use Rattle.source_check.specs.declared.rules.Class.{Class}
use Rattle.source_check.specs.declared.rules.Rules.TheVariants.{All}
use Rattle.source_check.specs.Classes.{HasNoMergeFault, classes_of, IsFaultless, Breaks}
use Rattle.source_check.specs.Source.{IsBroken}
use Rattle.source_check.proofs.OneClass.{none_first}
use Rattle.generated_files.specs.Generated.{IsGenerated}
use Rattle.generated_files.proofs.Resolved.{all_resolved}
use Rattle.generated_files.proofs.Stated as stated
use Rattle.generated_files.proofs.Views as view
use Rattle.generated_files.proofs.Typed.{all_typed}
use Rattle.generated_files.proofs.Guarded.{all_guarded}
use Rattle.generated_files.proofs.Ordered.{all_ordered}
use Rattle.generated_files.proofs.Branches as branch
use Rattle.generated_files.proofs.Starts as start

module _ (f : File) (count : ℕ) (g : IsGenerated f count) where
  linear : (x : Fault) → ¬ IsLinearityFault f x
  linear x (inl u) = all_guarded f count g x u
  linear x (inr u) = all_ordered f count g x u

  merges : HasNoMergeFault f
  merges = record { branches = branch.all_merge f count g; starts = start.all_merge f count g }

  pub faultless : (hosts : List (List ℕ)) → IsFaultless hosts f (classes_of All)
  faultless hosts = (all_resolved f count hosts g, (stated.all_fine f count g, (view.all_fine f count g, (all_typed f count g, (linear, (merges, tt))))))

-- a file without faults breaks no class
unbroken : (hosts : List (List ℕ)) (f : File) (r : Refusal) (cs : List Class) → IsFaultless hosts f cs → Breaks hosts f r cs → ⊥
unbroken hosts f r [] w b = b
unbroken hosts f r (c ∷ cs) w (inl h) = none_first hosts f c r w.0 h
unbroken hosts f r (c ∷ cs) w (inr h) = unbroken hosts f r cs w.1 h.1

pub denied_by_memory : (f : File) (count : ℕ) (hosts : List (List ℕ)) (d : Denied) → IsGenerated f count → IsBroken (classes_of All) hosts f d → d ≡ Memory
denied_by_memory f count hosts (Refused r) g b = absurd (unbroken hosts f r (classes_of All) (faultless f count g hosts) b)
denied_by_memory f count hosts Memory g b = refl
