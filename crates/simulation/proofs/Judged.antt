-- A file that is judged by the classes of types, linearity and merging, after those before.
use Rattle.std.proofs.Common.{ℕ, List, [], ◌∷◌, inl, inr}
use Rattle.std.specs.Prelude.{Result, Ok, Err, OnOk, IfErr}
use Rattle.chor_base.specs.declared.rule.Denied.{Denied}
use Rattle.chor_base.specs.declared.rule.Denied.TheVariants.{Refused, Memory}
use Rattle.chor_base.specs.Faults.{IsDenial}
use Rattle.chor_tree.specs.declared.file.File.{File}
use Rattle.typing_rules.specs.TypeFaults.{IsTypeFault, IsTyped}
use Rattle.linear_check.specs.Class.{IsLinearityFault}
use Rattle.projection.specs.MergeFaults.{IsMergeDenial}
use Rattle.source_check.specs.declared.rules.Class.TheVariants.{Types, Linearity, Merging}
use Rattle.source_check.specs.declared.rules.Rules.TheVariants as rules
use Rattle.source_check.specs.Classes.{classes_of, HasNone, IsFaultless, HasNoMergeFault}
use Rattle.source_check.specs.Source.{IsBroken}
use Rattle.source_check.proofs.Checked.{broken_more}

module _ (hosts : List (List ℕ)) (f : File) where
  pub checked_broken : (d : Denied) → IsBroken (classes_of rules.Views) hosts f d → IsBroken (classes_of rules.All) hosts f d
  checked_broken d h = broken_more hosts f d (classes_of rules.Views) (Types ∷ Linearity ∷ Merging ∷ []) h

  pub typed_broken : (d : Denied) → IsFaultless hosts f (classes_of rules.Views) → IsDenial (IsTypeFault f) d → IsBroken (classes_of rules.All) hosts f d
  typed_broken (Refused r) (names, (protocols, (views, end))) h = inr (names, inr (protocols, inr (views, inl h)))
  typed_broken Memory fine h = tt

  pub linear_broken : (d : Denied) → IsFaultless hosts f (classes_of rules.Views) → IsTyped f → IsDenial (IsLinearityFault f) d → IsBroken (classes_of rules.All) hosts f d
  linear_broken (Refused r) (names, (protocols, (views, end))) types h = inr (names, inr (protocols, inr (views, inr (types, inl h))))
  linear_broken Memory fine types h = tt

  pub merged_broken : (d : Denied) → IsFaultless hosts f (classes_of rules.Views) → IsTyped f → HasNone [] f Linearity → IsMergeDenial f d → IsBroken (classes_of rules.All) hosts f d
  merged_broken (Refused r) (names, (protocols, (views, end))) types linear h = inr (names, inr (protocols, inr (views, inr (types, inr (linear, inl h)))))
  merged_broken Memory fine types linear h = tt

  pub all_fine : IsFaultless hosts f (classes_of rules.Views) → IsTyped f → HasNone [] f Linearity → HasNoMergeFault f → IsFaultless hosts f (classes_of rules.All)
  all_fine (names, (protocols, (views, end))) types linear merges = (names, (protocols, (views, (types, (linear, (merges, tt))))))

-- ---- answers

-- what holds where a call has answered gives more
pub answered : {A E : Type 0} (r : Result A E) (P Q : Type 0) → (P → Q) → OnOk r P → OnOk r Q
answered (Ok a) P Q f h = f h
answered (Err e) P Q f h = h

pub refused : {A : Type 0} (r : Result A Denied) (P Q : Denied → Type 0) → ((d : Denied) → P d → Q d) → IfErr r P → IfErr r Q
refused (Ok a) P Q f h = h
refused (Err e) P Q f h = f e h
