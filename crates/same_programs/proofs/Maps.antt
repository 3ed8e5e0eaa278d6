-- Maps from names that answer alike.
use Rattle.std.proofs.Common.{◌==◌, cond, sym, ap, ◌∙◌, Some, None}
use Rattle.std.specs.FinMap as fin
use Rattle.std.proofs.lemmas.Cmp.{nat_cmp_total}
use Rattle.std.specs.Ordering.{nat_cmp}
use Rattle.chor_base.specs.declared.names.NameId.{NameId}
use Rattle.chor_base.specs.NameMap.{FromNames}
use Rattle.chor_base.proofs.NameMaps.{ties}
use Rattle.same_programs.specs.Words.{BothOrNeither}
use Rattle.same_programs.proofs.Tests.{TellsNames}
use Rattle.same_programs.proofs.Zips.{both_at, both_if, both_unless}

module _ (N : NameId → NameId → Type 0) {X : Type 0} (R : X → X → Type 0) where
  -- at names that are related they have related values or none
  abbrev pub SameMaps : FromNames X → FromNames X → Type 0
  SameMaps m w = (x y : NameId) → N x y → BothOrNeither R (fin.get m x.0) (fin.get w y.0)

  pub empty_same : SameMaps fin.empty fin.empty
  empty_same x y n = both_at R _ None _ None (fin.get-empty nat_cmp x.0) (fin.get-empty nat_cmp y.0) tt

  pub insert_same : TellsNames N → (m w : FromNames X) → SameMaps m w → (k h : NameId) (u v : X) → N k h → R u v → SameMaps (fin.insert m k.0 u) (fin.insert w h.0 v)
  insert_same tell m w s k h u v n r x y i =
      both_at R _ (cond (x.0 == k.0) (Some u) (fin.get m x.0)) _ (cond (x.0 == k.0) (Some v) (fin.get w y.0))
      (fin.get-insert nat_cmp_total m k.0 u x.0 ∙ ap (λ b. cond b (Some u) (fin.get m x.0)) (ties x.0 k.0))
      (fin.get-insert nat_cmp_total w h.0 v y.0 ∙ ap (λ b. cond b (Some v) (fin.get w y.0)) (ties y.0 h.0 ∙ sym (tell x y k h i n)))
      (both_if R (x.0 == k.0) u v (fin.get m x.0) (fin.get w y.0) r (s x y i))

  pub remove_same : TellsNames N → (m w : FromNames X) → SameMaps m w → (k h : NameId) → N k h → SameMaps (fin.remove m k.0) (fin.remove w h.0)
  remove_same tell m w s k h n x y i =
      both_at R _ (cond (x.0 == k.0) None (fin.get m x.0)) _ (cond (x.0 == k.0) None (fin.get w y.0))
      (fin.get-remove nat_cmp_total m k.0 x.0 ∙ ap (λ b. cond b None (fin.get m x.0)) (ties x.0 k.0))
      (fin.get-remove nat_cmp_total w h.0 y.0 ∙ ap (λ b. cond b None (fin.get w y.0)) (ties y.0 h.0 ∙ sym (tell x y k h i n)))
      (both_unless R (x.0 == k.0) (fin.get m x.0) (fin.get w y.0) (s x y i))
