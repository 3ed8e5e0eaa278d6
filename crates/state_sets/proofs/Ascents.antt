-- Words in ascending order, and acts that are apart.
use Rattle.std.proofs.Common.{ℕ, ◌≡◌, ◌≢◌, ◌+◌, ◌<◌, List, [], ◌∷◌, ◌++◌, map, Bool, false, ap, sym, subst, ◌∙◌, arith, inl, inr, suc, length, drop, append_assoc}
use Rattle.std.specs.Prelude.{◌⊎◌, slice_index_or}
use denote.Ref.{Bor}
use denote.Param.Members.{Mut}
use Rattle.std.specs.Fn.{Called, ComparesAs}
use Rattle.std.specs.declared.cmp.Ordering.{Ordering}
use Rattle.std.specs.Ordering.{is_lt, nat_cmp}
use Rattle.std.specs.Cmp.{IsStrictWeakOrder}
use Rattle.std.specs.Cmp.Lexicographic.{slice_cmp, nat_list_cmp_total}
use Rattle.std.specs.List.Sorted.{IsSortedBy}
use Rattle.std.proofs.lemmas.Fn.{always_returns_same}
use Rattle.std.proofs.lemmas.List.Sorted.{ranks_by}
use Rattle.std.proofs.lemmas.List.{map-append, drop_more}
use Rattle.global_types.specs.Moves.{IsIn}
use Rattle.state_sets.specs.declared.graph.Group.{Group}
use Rattle.state_sets.specs.declared.table.Arm.{Arm}
use Rattle.state_sets.specs.Ascending.{Ascend}
use Rattle.state_sets.specs.declared.act.Act.{Act}
use Rattle.state_sets.specs.Moves.{action_of}
use Rattle.state_sets.specs.Graph.{AreApart, group_acts}
use Rattle.state_sets.specs.Table.{act_word, group_words, arm_acts, arm_words}
use Rattle.state_sets.proofs.Lists.{in_left, in_right, in_either, in_map_back}
use Rattle.state_sets.proofs.Pairs.{pairs_without, pairs_front}

-- ---- after a sort

module _ {A : Type 0} (word : A → List ℕ) where
  abbrev less : A → A → Bool
  less x y = is_lt (slice_cmp nat_cmp (word x) (word y))

  order : IsStrictWeakOrder less
  order = ranks_by nat_list_cmp_total word

  sorted_rest : (x : A) (ys : List A) → IsSortedBy less (x ∷ ys) → IsSortedBy less ys
  sorted_rest x ys up k d le lt =
      let e : suc k + 1 ≡ suc (k + 1) = omega arith in
      rw e at (up (suc k) d (omega arith) (omega arith))

  sorted_first : (x : A) (ys : List A) → IsSortedBy less (x ∷ ys) → (y : A) → IsIn y ys → less y x ≡ false
  sorted_first x [] up y among = absurd among
  sorted_first x (z ∷ zs) up y (inl e) = subst (λ v. less v x ≡ false) e (up 0 z (omega arith) (omega arith))
  sorted_first x (z ∷ zs) up y (inr m) = order.chain y z x (sorted_first z zs (sorted_rest x (z ∷ zs) up) y m) (up 0 z (omega arith) (omega arith))

  ascend_sorted : (xs : List A) → IsSortedBy less xs → Ascend (map word xs)
  ascend_sorted [] up = tt
  ascend_sorted (x ∷ xs) up = ((λ v m. first v (in_map_back word v xs m)), ascend_sorted xs (sorted_rest x xs up))
    where
      first : (v : List ℕ) → (y : A) × IsIn y xs × (word y ≡ v) → is_lt (slice_cmp nat_cmp v (word x)) ≡ false
      first v p = subst (λ w. is_lt (slice_cmp nat_cmp w (word x)) ≡ false) p.2 (sorted_first x xs up p.0 p.1)

  pub ascend_from_sort : {F : Type 0} {g : Mut F (Bor A × (Bor A × Unit {0})) Ordering} {f : F} (xs : List A)
      → ((lt : A → A → Bool) → IsStrictWeakOrder lt → ComparesAs g lt f → IsSortedBy lt xs)
      → ((a : Bor A × (Bor A × Unit {0})) (r : Ordering) (f' : F) → Called g f a r f' → (r ≡ slice_cmp nat_cmp (word a.0.now) (word a.1.0.now)) × (f' ≡ f))
      → Ascend (map word xs)
  ascend_from_sort {g = g} {f = f} xs up h = ascend_sorted xs (up less order (always_returns_same g (λ a r. is_lt r ≡ is_lt (slice_cmp nat_cmp (word a.0.now) (word a.1.0.now))) f (λ a r f' k. (ap is_lt (h a r f' k).0, (h a r f' k).1))))

-- ---- the arms of some groups, in their order

ascend_without : (xs : List (List ℕ)) (w : List ℕ) (ys : List (List ℕ)) → Ascend (xs ++ w ∷ ys) → Ascend (xs ++ ys)
ascend_without [] w ys up = up.1
ascend_without (x ∷ xs) w ys up = ((λ v m. up.0 v (more v (in_either v xs ys m))), ascend_without xs w ys up.1)
  where
    more : (v : List ℕ) → IsIn v xs ⊎ IsIn v ys → IsIn v (xs ++ w ∷ ys)
    more v (inl m) = in_left v xs (w ∷ ys) m
    more v (inr m) = in_right v xs (w ∷ ys) (inr m)

ascend_front : (xs ys : List (List ℕ)) → Ascend (xs ++ ys) → Ascend xs
ascend_front [] ys up = tt
ascend_front (x ∷ xs) ys up = ((λ v m. up.0 v (in_left v xs ys m)), ascend_front xs ys up.1)

-- B is what an act is seen as, and what P says of a list stays true where an item is left out
module _ {B : Type 0} (f : Act → B) (P : List B → Type 0) where
  kept_in : (gs : List Group) (i : ℕ) (g : Group) (arms : List Arm) (arm : Arm) → i < length gs → g ≡ slice_index_or gs i g → arm.act ≡ g.act
      → P (map (λ x. f x.act) arms ++ map (λ k. f k.act) (drop i gs)) → P (map (λ x. f x.act) (arms ++ arm ∷ []) ++ map (λ k. f k.act) (drop (i + 1) gs))
  kept_in gs i g arms arm h is act kept = subst P (front ∙ back) kept
    where
      rest : List B
      rest = map (λ (k : Group). f k.act) (drop (i + 1) gs)

      done : List B
      done = map (λ (x : Arm). f x.act) arms

      front : done ++ map (λ (k : Group). f k.act) (drop i gs) ≡ done ++ f arm.act ∷ rest
      front = ap (λ l. done ++ map (λ (k : Group). f k.act) l) (drop_more gs i g h) ∙ ap (λ (v : Group). done ++ f v.act ∷ rest) (sym is) ∙ ap (λ b. done ++ f b ∷ rest) (sym act)

      back : done ++ f arm.act ∷ rest ≡ map (λ (x : Arm). f x.act) (arms ++ arm ∷ []) ++ rest
      back = sym (append_assoc done (f arm.act ∷ []) rest) ∙ ap (λ l. l ++ rest) (sym (map-append (λ (x : Arm). f x.act) arms (arm ∷ [])))

  kept_out : ((xs : List B) (w : B) (ys : List B) → P (xs ++ w ∷ ys) → P (xs ++ ys)) → (gs : List Group) (i : ℕ) (g : Group) (arms : List Arm) → i < length gs
      → P (map (λ x. f x.act) arms ++ map (λ k. f k.act) (drop i gs)) → P (map (λ x. f x.act) arms ++ map (λ k. f k.act) (drop (i + 1) gs))
  kept_out without gs i g arms h kept =
      without (map (λ (x : Arm). f x.act) arms) (f (slice_index_or gs i g).act) (map (λ (k : Group). f k.act) (drop (i + 1) gs))
      (subst P (ap (λ l. map (λ (x : Arm). f x.act) arms ++ map (λ (k : Group). f k.act) l) (drop_more gs i g h)) kept)

pub arms_ascend_begin : (names : List (List ℕ)) (gs : List Group) → Ascend (group_words names gs) → Ascend (arm_words names [] ++ group_words names (drop 0 gs))
arms_ascend_begin names gs up = up

pub arms_ascend_in : (names : List (List ℕ)) (gs : List Group) (i : ℕ) (g : Group) (arms : List Arm) (arm : Arm) → i < length gs → g ≡ slice_index_or gs i g → arm.act ≡ g.act
    → Ascend (arm_words names arms ++ group_words names (drop i gs)) → Ascend (arm_words names (arms ++ arm ∷ []) ++ group_words names (drop (i + 1) gs))
arms_ascend_in names gs i g arms arm h is act up = kept_in (act_word names) Ascend gs i g arms arm h is act up

pub arms_ascend_out : (names : List (List ℕ)) (gs : List Group) (i : ℕ) (g : Group) (arms : List Arm) → i < length gs
    → Ascend (arm_words names arms ++ group_words names (drop i gs)) → Ascend (arm_words names arms ++ group_words names (drop (i + 1) gs))
arms_ascend_out names gs i g arms h up = kept_out (act_word names) Ascend ascend_without gs i g arms h up

pub arms_ascend_end : (names : List (List ℕ)) (gs : List Group) (i : ℕ) (arms : List Arm) → Ascend (arm_words names arms ++ group_words names (drop i gs)) → Ascend (arm_words names arms)
arms_ascend_end names gs i arms up = ascend_front (arm_words names arms) (group_words names (drop i gs)) up

pub arms_apart_in : (gs : List Group) (i : ℕ) (g : Group) (arms : List Arm) (arm : Arm) → i < length gs → g ≡ slice_index_or gs i g → arm.act ≡ g.act
    → AreApart (arm_acts arms ++ group_acts (drop i gs)) → AreApart (arm_acts (arms ++ arm ∷ []) ++ group_acts (drop (i + 1) gs))
arms_apart_in gs i g arms arm h is act apart = kept_in (λ a. a) AreApart gs i g arms arm h is act apart

pub arms_apart_out : (gs : List Group) (i : ℕ) (g : Group) (arms : List Arm) → i < length gs
    → AreApart (arm_acts arms ++ group_acts (drop i gs)) → AreApart (arm_acts arms ++ group_acts (drop (i + 1) gs))
arms_apart_out gs i g arms h apart = kept_out (λ a. a) AreApart (λ xs w ys. pairs_without (λ a b. action_of a ≢ action_of b) xs w ys) gs i g arms h apart

pub arms_apart_end : (gs : List Group) (i : ℕ) (arms : List Arm) → AreApart (arm_acts arms ++ group_acts (drop i gs)) → AreApart (arm_acts arms)
arms_apart_end gs i arms apart = pairs_front (λ a b. action_of a ≢ action_of b) (arm_acts arms) (group_acts (drop i gs)) apart
