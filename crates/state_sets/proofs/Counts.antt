-- Numbers in the order in which they are given out.
use Rattle.std.proofs.Common.{ℕ, ◌≡◌, ◌+◌, ◌<◌, ◌≤◌, List, [], ◌∷◌, ◌++◌, Bool, true, false, refl, ap, sym, subst, ◌∙◌, arith, inl, inr, zero, suc, length, take, append_assoc, length-append}
use Rattle.std.specs.Prelude.{◌⊎◌, Some, slice_get, bytes_eq, if◌then◌else◌}
use Rattle.std.specs.List.{list_any}
use Rattle.std.proofs.lemmas.List.{append-nil, map-append}
use Rattle.std.proofs.lemmas.Bool.{cases_lt}
use Rattle.std.proofs.lemmas.Grind.{flat_map-append}
use Rattle.std.proofs.lemmas.Option.{slice_get_within}
use Rattle.chor_base.specs.Words.{with_word, AllDistinct}
use Rattle.global_types.specs.Moves.{IsIn}
use Rattle.state_sets.specs.declared.table.Arm.{Arm}
use Rattle.state_sets.specs.declared.table.Row.{Row}
use Rattle.state_sets.specs.Table.{Counts, nexts, all_nexts}
use Rattle.state_sets.proofs.Lists.{in_left, in_last}

-- ---- one after the other

pub counts_append : (c d e : ℕ) (xs ys : List ℕ) → Counts c xs d → Counts d ys e → Counts c (xs ++ ys) e
counts_append c d e [] ys h k = subst (λ m. Counts m ys e) (sym h) k
counts_append c d e (x ∷ xs) ys (inl h) k = inl (h.0, counts_append c d e xs ys h.1 k)
counts_append c d e (x ∷ xs) ys (inr h) k = inr (h.0, counts_append (suc c) d e xs ys h.1 k)

pub counts_split : (c e : ℕ) (xs ys : List ℕ) → Counts c (xs ++ ys) e → (d : ℕ) × Counts c xs d × Counts d ys e
counts_split c e [] ys h = (c, refl, h)
counts_split c e (x ∷ xs) ys (inl h) = let p = counts_split c e xs ys h.1 in (p.0, inl (h.0, p.1), p.2)
counts_split c e (x ∷ xs) ys (inr h) = let p = counts_split (suc c) e xs ys h.1 in (p.0, inr (h.0, p.1), p.2)

-- ---- as sets come in

counts_word : (c : ℕ) (ns : List ℕ) (old new : List (List ℕ)) (word : List ℕ) (n : ℕ) → Counts c ns (length old) → new ≡ with_word old word → AllDistinct new → slice_get new n ≡ Some word → Counts c (ns ++ n ∷ []) (length new)
counts_word c ns old new word n was is distinct at = go (list_any (bytes_eq word) old) is where
  last : (ws : List (List ℕ)) → slice_get (ws ++ word ∷ []) (length ws) ≡ Some word
  last [] = refl
  last (w ∷ ws) = last ws

  go : (b : Bool) → new ≡ (if b then old else old ++ word ∷ []) → Counts c (ns ++ n ∷ []) (length new)
  go true e =
      let l : length new ≡ length old = ap (λ (s : List (List ℕ)). length s) e in
      let b = slice_get_within new n word at in
      counts_append c (length old) (length new) ns (n ∷ []) was (inl (omega (arith, b, l), sym l))
  go false e =
      let l : length new ≡ suc (length old) = (let f : length new ≡ length (old ++ word ∷ []) = ap (λ (s : List (List ℕ)). length s) e in let g : length (old ++ word ∷ []) ≡ length old + 1 = length-append old (word ∷ []) in omega (arith, f, g)) in
      let there : slice_get new (length old) ≡ Some word = subst (λ (s : List (List ℕ)). slice_get s (length old) ≡ Some word) (sym e) (last old) in
      counts_append c (length old) (length new) ns (n ∷ []) was (inr (distinct n (length old) word at there, sym l))

pub counts_arm : (c : ℕ) (arms : List Arm) (arm : Arm) (old new : List (List ℕ)) (word : List ℕ) → Counts c (nexts arms) (length old) → new ≡ with_word old word → AllDistinct new → slice_get new arm.next ≡ Some word → Counts c (nexts (arms ++ arm ∷ [])) (length new)
counts_arm c arms arm old new word was is distinct at =
    subst (λ l. Counts c l (length new)) (sym (map-append (λ (x : Arm). x.next) arms (arm ∷ []))) (counts_word c (nexts arms) old new word arm.next was is distinct at)

pub counts_row : (c d e : ℕ) (rows : List Row) (row : Row) → Counts c (all_nexts rows) d → Counts d (nexts row.arms.items) e → Counts c (all_nexts (rows ++ row ∷ [])) e
counts_row c d e rows row was own =
    let last : Counts d (nexts row.arms.items ++ []) e = subst (λ l. Counts d l e) (sym (append-nil (nexts row.arms.items))) own in
    subst (λ l. Counts c l e) (sym (flat_map-append (λ (o : Row). nexts o.arms.items) rows (row ∷ []))) (counts_append c d e (all_nexts rows) (nexts row.arms.items ++ []) was last)

-- ---- one number for all

counts_old : (c d n : ℕ) (ns : List ℕ) → ((m : ℕ) → IsIn m ns → n ≡ m) → n < c → Counts c ns d → c ≡ d
counts_old c d n [] all h k = k
counts_old c d n (m ∷ ms) all h (inl k) = counts_old c d n ms (λ i p. all i (inr p)) h k.1
counts_old c d n (m ∷ ms) all h (inr k) = absurd (let e : n ≡ m = all m (inl refl) in let f = k.0 in omega (arith, e, f, h))

pub counts_once : (c d n : ℕ) (ns : List ℕ) → ((m : ℕ) → IsIn m ns → n ≡ m) → IsIn n ns → Counts c ns d → Counts c (n ∷ []) d
counts_once c d n [] all among k = absurd among
counts_once c d n (m ∷ ms) all among (inl k) =
    let e : n ≡ m = all m (inl refl) in
    let h : n < c = (let f = k.0 in omega (arith, e, f)) in
    inl (h, counts_old c d n ms (λ i p. all i (inr p)) h k.1)
counts_once c d n (m ∷ ms) all among (inr k) =
    let e : n ≡ m = all m (inl refl) in
    inr (e ∙ k.0, counts_old (suc c) d n ms (λ i p. all i (inr p)) (let f = k.0 in omega (arith, e, f)) k.1)

-- ---- no number before a lesser one

pub in_order : (front ns : List ℕ) (c d : ℕ) → ((m : ℕ) → 0 < m → m < c → IsIn m front) → Counts c ns d → (i n m : ℕ) → slice_get ns i ≡ Some n → 0 < m → m < n → IsIn m (front ++ take i ns)
in_order front [] c d before h i n m at low less = absurd (cc)
in_order front (x ∷ ns) c d before h zero n m at low less = in_left m front [] (before m low (go h)) where
  go : ((x < c) × Counts c ns d) ⊎ ((x ≡ c) × Counts (suc c) ns d) → m < c
  go (inl k) = let e : x ≡ n = cc in let f = k.0 in omega (arith, e, f, less)
  go (inr k) = let e : x ≡ n = cc in let f = k.0 in omega (arith, e, f, less)
in_order front (x ∷ ns) c d before (inl k) (suc i) n m at low less =
    subst (λ l. IsIn m l) (append_assoc front (x ∷ []) (take i ns)) (in_order (front ++ x ∷ []) ns c d (λ j a b. in_left j front (x ∷ []) (before j a b)) k.1 i n m at low less)
in_order front (x ∷ ns) c d before (inr k) (suc i) n m at low less =
    subst (λ l. IsIn m l) (append_assoc front (x ∷ []) (take i ns)) (in_order (front ++ x ∷ []) ns (suc c) d before_more k.1 i n m at low less)
  where
    before_more : (j : ℕ) → 0 < j → j < suc c → IsIn j (front ++ x ∷ [])
    before_more j a b = go (cases_lt j c) where
      go : (j < c) ⊎ (c ≤ j) → IsIn j (front ++ x ∷ [])
      go (inl l) = in_left j front (x ∷ []) (before j a l)
      go (inr g) = let e : x ≡ j = (let f = k.0 in omega (arith, f, g, b)) in subst (λ v. IsIn v (front ++ x ∷ [])) e (in_last x front)
