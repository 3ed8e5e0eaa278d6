-- Arms in a table, and as trees.
use Rattle.std.proofs.Common.{◌≡◌, ℕ, zero, suc, ◌<◌, ◌≤◌, ◌==◌, ◌||◌, Bool, true, false, List, [], ◌∷◌, ◌++◌, length, take, drop, refl, sym, ap, ◌∙◌, subst, Some, arith, length-append}
use Rattle.std.specs.Prelude.{All, slice_get, slice_index_or}
use Rattle.std.specs.List.{remove}
use Rattle.std.proofs.lemmas.List.Elements.{All-head, All-tail, All-append, All-take, All-drop, All-same}
use Rattle.std.proofs.lemmas.Bool.Decides.{nat_tests}
use Rattle.std.proofs.lemmas.Option.{get_or_from_slice_get}
use Rattle.chor_base.specs.declared.names.NameId.{NameId}
use Rattle.endpoint_code.specs.declared.code.Code.{Code}
use Rattle.endpoint_code.specs.declared.code.CodeId.{CodeId}
use Rattle.endpoint_code.specs.declared.code.CodeNode.{CodeNode}
use Rattle.endpoint_code.specs.Trees.{CodeTree, Arm, tree_in, arms_in, trees_of, code_at}
use Rattle.endpoint_code.specs.Labels.{has_label, ArmIsIn, here, there}
use Rattle.endpoint_code.proofs.CodeTables.{code_at-kept}
use Rattle.branch_merge.specs.Merged.{Keeps}
use Rattle.branch_merge.specs.Merging.{arms_at, IsPlaceOf}
use Rattle.branch_merge.proofs.Bounds.{followed_by}

pub keeps_all : (nodes : List CodeNode) → Keeps nodes nodes
keeps_all nodes = record { more = []; is = sym (append_nil nodes) }
  where
    append_nil : {X : Type 0} (xs : List X) → xs ++ [] ≡ xs
    append_nil [] = refl
    append_nil (x ∷ xs) = ap (λ ys. x ∷ ys) (append_nil xs)

pub keeps_both : {old mid new : List CodeNode} → Keeps old mid → Keeps mid new → Keeps old new
keeps_both {old = old} k l = record { more = k.more ++ l.more; is = l.is ∙ ap (λ ns. ns ++ l.more) k.is ∙ assoc old k.more l.more }
  where
    assoc : {X : Type 0} (xs ys zs : List X) → (xs ++ ys) ++ zs ≡ xs ++ (ys ++ zs)
    assoc [] ys zs = refl
    assoc (x ∷ xs) ys zs = ap (λ us. x ∷ us) (assoc xs ys zs)

pub keeps_pushed : {mid new : List CodeNode} (n : CodeNode) → new ≡ mid ++ n ∷ [] → Keeps mid new
keeps_pushed n e = record { more = n ∷ []; is = e }

-- a table that stays as it is
pub keeps_still : {old : List CodeNode} {mid new : Code} → Keeps old mid.nodes → new ≡ mid → Keeps old new.nodes
keeps_still {old = old} k e = subst (λ (table : Code). Keeps old table.nodes) (sym e) k

pub code_kept : {old new : List CodeNode} (id : CodeId) → Keeps old new → id.0 < length old → code_at new id ≡ code_at old id
code_kept {old = old} {new = new} id k h = code_at-kept old new k.more id k.is h

pub arms_kept : {old new : List CodeNode} (arms : List (NameId × CodeId)) → Keeps old new → All (λ arm. arm.1.0 < length old) arms → arms_at new arms ≡ arms_at old arms
arms_kept [] k h = refl
arms_kept {old = old} {new = new} (arm ∷ arms) k h =
    let here' = code_kept arm.1 k (All-head (λ b. b.1.0 < length old) arm arms h) in
    let rest = arms_kept arms k (All-tail (λ b. b.1.0 < length old) arm arms h) in cc

pub arms_append : (ts : List CodeTree) (xs ys : List (NameId × CodeId)) → arms_in ts (xs ++ ys) ≡ followed_by (arms_in ts xs) (arms_in ts ys)
arms_append ts [] ys = refl
arms_append ts (x ∷ xs) ys = ap (Arm x.0 (tree_in ts x.1)) (arms_append ts xs ys)

pub arm_removed : (ts : List CodeTree) (arms : List (NameId × CodeId)) (i : ℕ) (l : NameId) (c : CodeId) → slice_get arms i ≡ Some (l, c) → ArmIsIn l (tree_in ts c) (arms_in ts (remove arms i)) (arms_in ts arms)
arm_removed ts [] i l c h = absurd cc
arm_removed ts (arm ∷ arms) zero l c h =
    let e : arm ≡ (l, c) = cc in
    subst (λ (b : NameId × CodeId). ArmIsIn l (tree_in ts c) (arms_in ts arms) (Arm b.0 (tree_in ts b.1) (arms_in ts arms))) (sym e) here
arm_removed ts (arm ∷ arms) (suc i) l c h = there (arm_removed ts arms i l c h)

pub all_removed : {X : Type 0} (P : X → Type 0) (xs : List X) (i : ℕ) → All P xs → All P (remove xs i)
all_removed P xs i h = All-append P (take i xs) (drop (suc i) xs) (All-take P i xs h) (All-drop P (suc i) xs h)

none_of : (b c : Bool) → b ≡ false → c ≡ false → (b || c) ≡ false
none_of b c e f = ap (λ t. t || c) e ∙ f

-- no arm has the label where none of them has it
pub absent_everywhere : (l : NameId) (arms : List (NameId × CodeId)) → All (λ arm. (arm.0.0 == l.0) ≡ false) arms → (ts : List CodeTree) → has_label l (arms_in ts arms) ≡ false
absent_everywhere l [] h ts = refl
absent_everywhere l (arm ∷ arms) h ts =
    none_of (l.0 == arm.0.0) (has_label l (arms_in ts arms)) (flip arm.0.0 l.0 (All-head (λ b. (b.0.0 == l.0) ≡ false) arm arms h))
    (absent_everywhere l arms (All-tail (λ b. (b.0.0 == l.0) ≡ false) arm arms h) ts)
  where
    flip : (m n : ℕ) → (m == n) ≡ false → (n == m) ≡ false
    flip m n h = grind (arith, nat_tests)

pub place_found : (arms : List (NameId × CodeId)) (l : NameId) (i : ℕ) → i < length arms → ((slice_index_or arms i (record { 0 = 0 }, record { 0 = 0 })).0.0 == l.0) ≡ true → IsPlaceOf arms l i
place_found [] l i h e = absurd (omega arith)
place_found (arm ∷ arms) l zero h e =
    let n : arm.0.0 ≡ l.0 = grind (arith, nat_tests) in
    let name : ℕ → NameId = λ k. record { 0 = k } in
    record { within = h; code = arm.1; at = ap (λ k. Some (name k, arm.1)) n }
place_found (arm ∷ arms) l (suc i) h e = let f = place_found arms l i (omega arith) e in record { within = h; code = f.code; at = f.at }

pub all_taken : {X : Type 0} (P : X → Type 0) (xs : List X) (i : ℕ) → length xs ≤ i → All P (take i xs) → All P xs
all_taken P xs i h a = All-same P xs (take i xs) (sym (take_past xs i h)) a
  where
    take_past : {X : Type 0} (xs : List X) (i : ℕ) → length xs ≤ i → take i xs ≡ xs
    take_past [] zero h = refl
    take_past [] (suc i) h = refl
    take_past (x ∷ xs) zero h = absurd (omega arith)
    take_past (x ∷ xs) (suc i) h = ap (λ ys. x ∷ ys) (take_past xs i (omega arith))

-- the arm that is taken out of a list by its place
module _ {xs rest : List (NameId × CodeId)} {l : NameId} {i : ℕ} (other : NameId × CodeId) (place : IsPlaceOf xs l i) (same : xs ≡ rest) (value : other ≡ slice_index_or rest i other) where
  within : i < length rest
  within = subst (λ (ys : List (NameId × CodeId)). i < length ys) same place.within

  pub other_holds : (P : NameId × CodeId → Type 0) → All P rest → P other
  other_holds P h = subst P (sym value) (h i other within)

  pub taken_out : (nodes : List CodeNode) {left : List (NameId × CodeId)} → left ≡ remove rest i → ArmIsIn l (code_at nodes other.1) (arms_at nodes left) (arms_at nodes rest)
  taken_out nodes e =
      let at : slice_get rest i ≡ Some (l, place.code) = sym (ap (λ ys. slice_get ys i) same) ∙ place.at in
      let is : slice_index_or rest i other ≡ (l, place.code) = get_or_from_slice_get rest i (l, place.code) other at in
      let code : other.1 ≡ place.code = ap (λ x. x.1) (value ∙ is) in
      subst (λ (ys : List (NameId × CodeId)). ArmIsIn l (code_at nodes other.1) (arms_at nodes ys) (arms_at nodes rest)) (sym e)
      (subst (λ (d : CodeId). ArmIsIn l (code_at nodes d) (arms_at nodes (remove rest i)) (arms_at nodes rest)) (sym code) (arm_removed (trees_of nodes) rest i l place.code at))

pub kept_length : {old new : List CodeNode} → Keeps old new → length old ≤ length new
kept_length {old = old} k = let n = ap length k.is in omega (arith, length-append old k.more)
