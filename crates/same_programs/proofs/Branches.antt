-- The arms of branches that are the same.
use Rattle.std.proofs.Common.{◌≡◌, ℕ, Bool, true, false, ◌==◌, ◌||◌, List, [], ◌∷◌, refl, sym, ap, ◌∙◌, subst, Option, Some, None, arith, if◌then◌else◌}
use Rattle.std.proofs.lemmas.Bool.Decides.{nat_tests}
use Rattle.chor_base.specs.declared.names.NameId.{NameId}
use Rattle.endpoint_code.specs.declared.code.CodeId.{CodeId}
use Rattle.endpoint_code.specs.Labels.{has_label, HasDistinctLabels, AreDistinctArms, ArmIsIn, here, there}
use Rattle.endpoint_code.specs.Network.{arm_at}
use Rattle.endpoint_code.proofs.AboveOrder.{neither}
use Rattle.endpoint_code.specs.Trees.{CodeTree, Arms, NoArms, Arm, arms_in, tree_in}
use Rattle.same_programs.specs.Words.{BothOrNeither}
use Rattle.same_programs.specs.Codes.{SameCode, SameArms, no_arm, one_arm}
use Rattle.same_programs.proofs.Tests.{TellsNames}

-- the code of the first arm with this label
abbrev pub code_for : Arms → NameId → Option CodeTree
code_for NoArms l = None
code_for (Arm k c rest) l = if k.0 == l.0 then Some c else code_for rest l

exchanged : (a b c : Bool) → (a || (b || c)) ≡ (b || (a || c))
exchanged true true c = refl
exchanged true false c = refl
exchanged false true c = refl
exchanged false false c = refl

pub label_in : (k : NameId) {l : NameId} {c : CodeTree} {others arms : Arms} → ArmIsIn l c others arms → has_label k arms ≡ ((k.0 == l.0) || has_label k others)
label_in k here = refl
label_in k {l = l} (there {k = h} {rest = rest} i) = ap (λ b. (k.0 == h.0) || b) (label_in k i) ∙ exchanged (k.0 == h.0) (k.0 == l.0) (has_label k rest)

-- where the label of this arm stands once, the arm is found, and others as without it
found_in : {l : NameId} {c : CodeTree} {others arms : Arms} → ArmIsIn l c others arms → has_label l others ≡ false → (m : NameId) → code_for arms m ≡ (if l.0 == m.0 then Some c else code_for others m)
found_in here n m = refl
found_in {l = l} {c = c} (there {k = h} {d = d} {rest = rest} {arms = arms} i) n m = go (h.0 == m.0) refl (l.0 == m.0) refl (found_in i (neither (l.0 == h.0) (has_label l rest) n).1 m)
  where
    apart : (l.0 == h.0) ≡ false
    apart = (neither (l.0 == h.0) (has_label l rest) n).0

    clash : (i j k : ℕ) → (i == j) ≡ false → (j == k) ≡ true → (i == k) ≡ true → ⊥
    clash i j k a b c = grind (arith, nat_tests)

    go : (a : Bool) → (h.0 == m.0) ≡ a → (b : Bool) → (l.0 == m.0) ≡ b → code_for arms m ≡ (if l.0 == m.0 then Some c else code_for rest m)
        → (if h.0 == m.0 then Some d else code_for arms m) ≡ (if l.0 == m.0 then Some c else (if h.0 == m.0 then Some d else code_for rest m))
    go true e true f ih = absurd (clash l.0 h.0 m.0 apart e f)
    go true e false f ih = ap (λ t. if t then Some d else code_for arms m) e ∙ sym (ap (λ t. if t then Some c else (if h.0 == m.0 then Some d else code_for rest m)) f ∙ ap (λ t. if t then Some d else code_for rest m) e)
    go false e true f ih = ap (λ t. if t then Some d else code_for arms m) e ∙ ih ∙ ap (λ t. if t then Some c else code_for rest m) f ∙ sym (ap (λ t. if t then Some c else (if h.0 == m.0 then Some d else code_for rest m)) f)
    go false e false f ih =
        ap (λ t. if t then Some d else code_for arms m) e ∙ ih ∙ ap (λ t. if t then Some c else code_for rest m) f
        ∙ sym (ap (λ t. if t then Some c else (if h.0 == m.0 then Some d else code_for rest m)) f ∙ ap (λ t. if t then Some d else code_for rest m) e)

module _ (N : NameId → NameId → Type 0) (T : ℕ → ℕ → Type 0) (tell : TellsNames N) where
  -- the same code, without a label twice
  pub record SameOnce (q p : CodeTree) : Type 0 where
    pub code : SameCode N T q p
    pub distinct : HasDistinctLabels q

  pub labels_same : {qs ps : Arms} → SameArms N T qs ps → (k h : NameId) → N k h → has_label k qs ≡ has_label h ps
  labels_same no_arm k h n = refl
  labels_same (one_arm {l = l} {m = m} {qs = qs} {others = others} i c at rest) k h n =
      ap (λ b. (k.0 == l.0) || b) (labels_same rest k h n) ∙ ap (λ b. b || has_label h others) (tell k h l m n i) ∙ sym (label_in h at)

  pub arms_same : {qs ps : Arms} → SameArms N T qs ps → AreDistinctArms qs → (k h : NameId) → N k h → BothOrNeither SameOnce (code_for qs k) (code_for ps h)
  arms_same no_arm d k h n = tt
  arms_same (one_arm {l = l} {m = m} {q = q} {p = p} {qs = qs} {ps = ps} {others = others} i c at rest) d k h n =
      subst (λ (o : Option CodeTree). BothOrNeither SameOnce (code_for (Arm l q qs) k) o) (sym there_so)
      (go (l.0 == k.0) (arms_same rest d.2 k h n))
    where
      there_so : code_for ps h ≡ (if l.0 == k.0 then Some p else code_for others h)
      there_so = found_in at (sym (labels_same rest l m i) ∙ d.0) h ∙ ap (λ b. if b then Some p else code_for others h) (sym (tell l m k h i n))

      go : (b : Bool) → BothOrNeither SameOnce (code_for qs k) (code_for others h) → BothOrNeither SameOnce (if b then Some q else code_for qs k) (if b then Some p else code_for others h)
      go true r = record { code = c; distinct = d.1 }
      go false r = r

-- ---- arms whose codes stand in a table

abbrev pub tree_at : List CodeTree → Option CodeId → Option CodeTree
tree_at ts None = None
tree_at ts (Some id) = Some (tree_in ts id)

pub arm_in_table : (ts : List CodeTree) (arms : List (NameId × CodeId)) (l : NameId) → code_for (arms_in ts arms) l ≡ tree_at ts (arm_at arms l)
arm_in_table ts [] l = refl
arm_in_table ts (arm ∷ arms) l = go (arm.0.0 == l.0) (arm_in_table ts arms l)
  where
    go : (b : Bool) → code_for (arms_in ts arms) l ≡ tree_at ts (arm_at arms l) → (if b then Some (tree_in ts arm.1) else code_for (arms_in ts arms) l) ≡ tree_at ts (if b then Some arm.1 else arm_at arms l)
    go true h = refl
    go false h = h
