-- The least code above a list, from those above its parts.
use Rattle.std.proofs.Common.{◌≡◌, ℕ, ◌<◌, ◌-◌, List, [], ◌∷◌, ◌++◌, length, take, drop, refl, sym, ap, ◌∙◌, subst, arith, Result, Ok, Err}
use Rattle.std.specs.Prelude.{All, IfOk, slice_index_or}
use Rattle.std.proofs.lemmas.List.Elements.{All-nil, All-cons, All-head, All-tail, All-append, All-weaker}
use Rattle.std.proofs.lemmas.List.{take-append-drop, map-append, take_rest}
use Rattle.endpoint_code.specs.declared.code.CodeId.{CodeId}
use Rattle.endpoint_code.specs.declared.code.CodeNode.{CodeNode}
use Rattle.endpoint_code.specs.Trees.{CodeTree, code_at}
use Rattle.endpoint_code.specs.Above.{IsAbove}
use Rattle.endpoint_code.specs.Labels.{HasDistinctLabels}
use Rattle.endpoint_code.specs.LeastAbove.{IsLeastAbove, HasNoneAbove}
use Rattle.endpoint_code.proofs.AboveOrder.{above_self, above_trans}
use Rattle.branch_merge.specs.Merged.{Keeps, IsMerged}
use Rattle.branch_merge.proofs.ArmTables.{code_kept, kept_length}
use Rattle.service_merge.specs.Merged.{codes_at, IsMergedOfAll}

-- ---- codes

front : {X : Type 0} (P : X → Type 0) (xs ys : List X) → All P (xs ++ ys) → All P xs
front P [] ys h = All-nil P
front P (x ∷ xs) ys h = All-cons P x xs (All-head P x (xs ++ ys) h) (front P xs ys (All-tail P x (xs ++ ys) h))

back : {X : Type 0} (P : X → Type 0) (xs ys : List X) → All P (xs ++ ys) → All P ys
back P [] ys h = h
back P (x ∷ xs) ys h = back P xs ys (All-tail P x (xs ++ ys) h)

pub least_one : (c : CodeTree) → HasDistinctLabels c → IsLeastAbove (c ∷ []) c
least_one c d = record {
  distinct = d;
  above = All-cons (IsAbove c) c [] (above_self c) (All-nil (IsAbove c));
  least = λ r e h. All-head (IsAbove r) c [] h;
}

module _ (xs ys : List CodeTree) (p q : CodeTree) (f : IsLeastAbove xs p) (g : IsLeastAbove ys q) where
  two : (s : CodeTree) → HasDistinctLabels s → All (IsAbove s) (xs ++ ys) → All (IsAbove s) (p ∷ q ∷ [])
  two s d h =
      All-cons (IsAbove s) p (q ∷ []) (f.least s d (front (IsAbove s) xs ys h)) (All-cons (IsAbove s) q [] (g.least s d (back (IsAbove s) xs ys h)) (All-nil (IsAbove s)))

  pub least_both : (r : CodeTree) → IsLeastAbove (p ∷ q ∷ []) r → IsLeastAbove (xs ++ ys) r
  least_both r l =
      let a : IsAbove r p = All-head (IsAbove r) p (q ∷ []) l.above in
      let b : IsAbove r q = All-head (IsAbove r) q [] (All-tail (IsAbove r) p (q ∷ []) l.above) in
      record {
        distinct = l.distinct;
        above = All-append (IsAbove r) xs ys (All-weaker (IsAbove p) (IsAbove r) (λ c. above_trans a) xs f.above) (All-weaker (IsAbove q) (IsAbove r) (λ c. above_trans b) ys g.above);
        least = λ s d h. l.least s d (two s d h);
      }

  pub none_both : HasNoneAbove (p ∷ q ∷ []) → HasNoneAbove (xs ++ ys)
  none_both n = λ s d h. n s d (two s d h)

pub none_front : (xs ys : List CodeTree) → HasNoneAbove xs → HasNoneAbove (xs ++ ys)
none_front xs ys n = λ s d h. n s d (front (IsAbove s) xs ys h)

pub none_back : (xs ys : List CodeTree) → HasNoneAbove ys → HasNoneAbove (xs ++ ys)
none_back xs ys n = λ s d h. n s d (back (IsAbove s) xs ys h)

-- ---- in a table

pub codes_kept : {old new : List CodeNode} (list : List CodeId) → Keeps old new → All (λ id. id.0 < length old) list → codes_at new list ≡ codes_at old list
codes_kept [] k h = refl
codes_kept {old = old} (id ∷ list) k h =
    let here = code_kept id k (All-head (λ i. i.0 < length old) id list h) in
    let rest = codes_kept list k (All-tail (λ i. i.0 < length old) id list h) in cc

pub codes_halved : (nodes : List CodeNode) (i : ℕ) (list : List CodeId) → codes_at nodes list ≡ codes_at nodes (take i list) ++ codes_at nodes (drop i list)
codes_halved nodes i list = ap (codes_at nodes) (sym (take-append-drop i list)) ∙ map-append (code_at nodes) (take i list) (drop i list)

pub parts_of : (list : List CodeId) (h : ℕ) → list ≡ take h list ++ take (length list - h) (drop h list)
parts_of list h = sym (take-append-drop h list) ∙ ap (λ ys. take h list ++ ys) (sym (take_rest list h))

pub merged_one : (nodes : List CodeNode) (list : List CodeId) (d : CodeId) → length list ≡ 1 → All (λ id. id.0 < length nodes) list → All (λ id. HasDistinctLabels (code_at nodes id)) list
    → IsMergedOfAll nodes nodes list (slice_index_or list 0 d)
merged_one nodes [] d e h g = absurd (omega arith)
merged_one nodes (x ∷ []) d e h g = record {
  inside = All-head (λ id. id.0 < length nodes) x [] h;
  least = least_one (code_at nodes x) (All-head (λ id. HasDistinctLabels (code_at nodes id)) x [] g);
}
merged_one nodes (x ∷ y ∷ list) d e h g = absurd (omega arith)

-- a list of two parts, merged one after another
module _ {old mid : List CodeNode} (k : Keeps old mid) (list xs ys : List CodeId) (is : list ≡ xs ++ ys) (inside : All (λ id. id.0 < length old) list) where
  inside_back : All (λ id. id.0 < length old) ys
  inside_back = back (λ id. id.0 < length old) xs ys (subst (All (λ id. id.0 < length old)) is inside)

  pub inside_later : All (λ id. id.0 < length mid) ys
  inside_later = All-weaker (λ id. id.0 < length old) (λ id. id.0 < length mid) (λ id lt. let n = kept_length k in let m : id.0 < length old = lt in omega arith) ys inside_back

  codes_parts : codes_at old list ≡ codes_at old xs ++ codes_at old ys
  codes_parts = ap (codes_at old) is ∙ map-append (code_at old) xs ys

  pub distinct_later : All (λ id. HasDistinctLabels (code_at old id)) list → All (λ id. HasDistinctLabels (code_at mid id)) ys
  distinct_later d =
      each ys inside_back (back (λ id. HasDistinctLabels (code_at old id)) xs ys (subst (All (λ id. HasDistinctLabels (code_at old id))) is d))
    where
      each : (zs : List CodeId) → All (λ id. id.0 < length old) zs → All (λ id. HasDistinctLabels (code_at old id)) zs → All (λ id. HasDistinctLabels (code_at mid id)) zs
      each [] h d = All-nil (λ id. HasDistinctLabels (code_at mid id))
      each (z ∷ zs) h d =
          All-cons (λ id. HasDistinctLabels (code_at mid id)) z zs
          (subst HasDistinctLabels (sym (code_kept z k (All-head (λ id. id.0 < length old) z zs h))) (All-head (λ id. HasDistinctLabels (code_at old id)) z zs d))
          (each zs (All-tail (λ id. id.0 < length old) z zs h) (All-tail (λ id. HasDistinctLabels (code_at old id)) z zs d))

  pub front_clash : HasNoneAbove (codes_at old xs) → HasNoneAbove (codes_at old list)
  front_clash n = subst HasNoneAbove (sym codes_parts) (none_front (codes_at old xs) (codes_at old ys) n)

  pub back_clash : HasNoneAbove (codes_at mid ys) → HasNoneAbove (codes_at old list)
  back_clash n = subst HasNoneAbove (sym codes_parts) (none_back (codes_at old xs) (codes_at old ys) (subst HasNoneAbove (codes_kept ys k inside_back) n))

  module _ {end : List CodeNode} (l : Keeps mid end) (first second : CodeId) (f : IsMergedOfAll old mid xs first) (g : IsMergedOfAll mid end ys second) where
    first_least : IsLeastAbove (codes_at old xs) (code_at end first)
    first_least = subst (IsLeastAbove (codes_at old xs)) (sym (code_kept first l f.inside)) f.least

    second_least : IsLeastAbove (codes_at old ys) (code_at end second)
    second_least = subst (λ (cs : List CodeTree). IsLeastAbove cs (code_at end second)) (codes_kept ys k inside_back) g.least

    pub first_distinct : HasDistinctLabels (code_at end first)
    first_distinct = first_least.distinct

    pub last_clash : HasNoneAbove (code_at end first ∷ code_at end second ∷ []) → HasNoneAbove (codes_at old list)
    last_clash n = subst HasNoneAbove (sym codes_parts) (none_both (codes_at old xs) (codes_at old ys) (code_at end first) (code_at end second) first_least second_least n)

    pub last_merged : {E : Type 0} (new : List CodeNode) (r : Result CodeId E) → IfOk r (IsMerged end new first second) → IfOk r (IsMergedOfAll old new list)
    last_merged new (Ok id) h = record {
      inside = h.inside;
      least = subst (λ (cs : List CodeTree). IsLeastAbove cs (code_at new id)) (sym codes_parts) (least_both (codes_at old xs) (codes_at old ys) (code_at end first) (code_at end second) first_least second_least (code_at new id) h.least);
    }
    last_merged new (Err e) h = h
