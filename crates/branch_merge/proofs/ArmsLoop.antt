-- Arms are merged one after another.
use Rattle.std.proofs.Common.{◌≡◌, ℕ, zero, suc, refl, ◌<◌, ◌≤◌, ◌+◌, List, [], ◌∷◌, ◌++◌, length, drop, sym, ap, ◌∙◌, subst, arith, add-one, drop-cons}
use Rattle.std.specs.Prelude.{All, slice_index_or}
use Rattle.std.proofs.lemmas.List.Elements.{All-append, All-push, All-weaker}
use Rattle.chor_base.specs.declared.names.NameId.{NameId}
use Rattle.endpoint_code.specs.declared.code.CodeId.{CodeId}
use Rattle.endpoint_code.specs.declared.code.CodeNode.{CodeNode}
use Rattle.endpoint_code.specs.Trees.{CodeTree, Arms, NoArms, Arm, trees_of, code_at}
use Rattle.endpoint_code.specs.Labels.{HasDistinctLabels, AreDistinctArms}
use Rattle.branch_merge.specs.Merged.{Keeps}
use Rattle.branch_merge.specs.Bounds.{AreLeast, HaveNone}
use Rattle.branch_merge.specs.Merging.{arms_at, IsTaken, IsStuck, Takes, AreMerged}
use Rattle.branch_merge.proofs.Bounds.{AreJoining, followed_by, joining_more, joining_stuck, joining_last}
use Rattle.branch_merge.proofs.ArmTables.{code_kept, arms_kept, arms_append, kept_length}

abbrev Entry : Type 0
Entry = NameId × CodeId

-- all are before a number
abbrev AllBefore : ℕ → List Entry → Type 0
AllBefore n arms = All (λ arm. arm.1.0 < n) arms

all_within : (m n : ℕ) → m ≤ n → (arms : List Entry) → AllBefore m arms → AllBefore n arms
all_within m n le arms h = All-weaker (λ arm. arm.1.0 < m) (λ arm. arm.1.0 < n) (λ arm b. let lt : arm.1.0 < m = b in omega arith) arms h

-- the next arm of those that are left
pub next_arm : {qs ps rest made : Arms} (old : List CodeNode) (arms : List Entry) (i : ℕ) (d : Entry) → i < length arms → AreJoining qs ps (arms_at old (drop i arms)) rest made
    → AreJoining qs ps (Arm (slice_index_or arms i d).0 (code_at old (slice_index_or arms i d).1) (arms_at old (drop (i + 1) arms))) rest made
next_arm {qs = qs} {ps = ps} {rest = rest} {made = made} old arms i d h j =
    let e : drop i arms ≡ slice_index_or arms i d ∷ drop (i + 1) arms = rw (add-one) (drop-cons arms i d h) in
    subst (λ (ys : List Entry). AreJoining qs ps (arms_at old ys) rest made) e j

module _ {old mid : List CodeNode} (k : Keeps old mid) (b : CodeId) (hb : b.0 < length old) where
  rest_kept : (rest : List Entry) → AllBefore b.0 rest → arms_at mid rest ≡ arms_at old rest
  rest_kept rest h = arms_kept rest k (all_within b.0 (length old) (omega arith) rest h)

  module _ {qs ps left made : Arms} (arm : Entry) (rest : List Entry) (here : arm.1.0 < length old) (before : AllBefore b.0 rest) (j : AreJoining qs ps (Arm arm.0 (code_at old arm.1) left) (arms_at old rest) made) where
    pub arm_distinct : HasDistinctLabels (code_at mid arm.1)
    arm_distinct = subst HasDistinctLabels (sym (code_kept arm.1 k here)) j.left_distinct.1

    pub rest_distinct : AreDistinctArms (arms_at mid rest)
    rest_distinct = subst AreDistinctArms (sym (rest_kept rest before)) j.rest_distinct

    pub loop_stuck : IsStuck arm.0 (code_at mid arm.1) (arms_at mid rest) → HaveNone qs ps
    loop_stuck s =
        joining_stuck j (subst (λ (q : CodeTree). IsStuck arm.0 q (arms_at old rest)) (code_kept arm.1 k here)
        (subst (IsStuck arm.0 (code_at mid arm.1)) (rest_kept rest before) s))

    pub loop_more : (new : List CodeNode) (rest' : List Entry) (id : CodeId) → AllBefore b.0 rest' → Takes mid new arm rest rest' id → AreJoining qs ps left (arms_at old rest') (followed_by made (Arm arm.0 (code_at new id) NoArms))
    loop_more new rest' id before' t =
        joining_more j
        (subst (λ (r : Arms). IsTaken arm.0 (code_at old arm.1) (code_at new id) (arms_at old rest) r) (rest_kept rest' before')
        (subst (λ (r : Arms). IsTaken arm.0 (code_at old arm.1) (code_at new id) r (arms_at mid rest')) (rest_kept rest before)
        (subst (λ (q : CodeTree). IsTaken arm.0 q (code_at new id) (arms_at mid rest) (arms_at mid rest')) (code_kept arm.1 k here) t.taken)))

-- one arm more is made
pub made_more : {qs ps left rest : Arms} {mid new : List CodeNode} (made made' : List Entry) (x : Entry) → Keeps mid new → AllBefore (length mid) made → made' ≡ made ++ x ∷ []
    → AreJoining qs ps left rest (followed_by (arms_at mid made) (Arm x.0 (code_at new x.1) NoArms)) → AreJoining qs ps left rest (arms_at new made')
made_more {qs = qs} {ps = ps} {left = left} {rest = rest} {mid = mid} {new = new} made made' x k h e j =
    let same : arms_at new made' ≡ followed_by (arms_at mid made) (Arm x.0 (code_at new x.1) NoArms) =
    ap (arms_at new) e ∙ arms_append (trees_of new) made (x ∷ []) ∙ ap (λ (r : Arms). followed_by r (Arm x.0 (code_at new x.1) NoArms)) (arms_kept made k h) in
    subst (AreJoining qs ps left rest) (sym same) j

pub made_inside : {mid new : List CodeNode} (made made' : List Entry) (x : Entry) → Keeps mid new → AllBefore (length mid) made → x.1.0 < length new → made' ≡ made ++ x ∷ [] → AllBefore (length new) made'
made_inside {mid = mid} {new = new} made made' x k h i e =
    subst (AllBefore (length new)) (sym e) (All-push (λ arm. arm.1.0 < length new) made x (all_within (length mid) (length new) (kept_length k) made h) i)

-- the arms that are left over come last
pub made_all : {old mid : List CodeNode} (k : Keeps old mid) (b : CodeId) (hb : b.0 < length old) (qs ps made rest all : List Entry) (i : ℕ) → length qs ≤ i
    → AreJoining (arms_at old qs) (arms_at old ps) (arms_at old (drop i qs)) (arms_at old rest) (arms_at mid made) → AllBefore b.0 rest → AllBefore (length mid) made → all ≡ made ++ rest → AreMerged old mid qs ps all
made_all {old = old} {mid = mid} k b hb qs ps made rest all i past j before inside e =
    let within : b.0 ≤ length mid = let n = kept_length k in omega arith in
    record {
      inside = subst (AllBefore (length mid)) (sym e) (All-append (λ arm. arm.1.0 < length mid) made rest inside (all_within b.0 (length mid) within rest before));
      least =
          let none : drop i qs ≡ [] = drop_past qs i past in
          let same : arms_at mid all ≡ followed_by (arms_at mid made) (arms_at old rest) =
          ap (arms_at mid) e ∙ arms_append (trees_of mid) made rest ∙ ap (followed_by (arms_at mid made)) (rest_kept k b hb rest before) in
          subst (AreLeast (arms_at old qs) (arms_at old ps)) (sym same)
          (joining_last (subst (λ (ys : List Entry). AreJoining (arms_at old qs) (arms_at old ps) (arms_at old ys) (arms_at old rest) (arms_at mid made)) none j));
    }
  where
    drop_past : {X : Type 0} (xs : List X) (i : ℕ) → length xs ≤ i → drop i xs ≡ []
    drop_past [] zero h = refl
    drop_past [] (suc i) h = refl
    drop_past (x ∷ xs) zero h = absurd (omega arith)
    drop_past (x ∷ xs) (suc i) h = drop_past xs i (omega arith)
