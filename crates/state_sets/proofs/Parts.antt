-- Moves cut into parts, so that acts are compared with few others.
use Rattle.std.specs.declared.alloc.Global.{Global}
use Rattle.std.proofs.lemmas.Option.{slice_get-get_or}
use Rattle.state_sets.proofs.Sets.{same_or_not}
use Rattle.std.proofs.Common.{zero, suc, length-set, length-append, Bool, ℕ, ◌≡◌, ◌≢◌, ◌+◌, ◌<◌, ◌≤◌, List, [], ◌∷◌, ◌++◌, true, false, refl, ap, sym, subst, ◌∙◌, arith, inl, inr, length, take}
use Rattle.std.specs.Prelude.{◌⊎◌, ◌==◌, Option, Some, None, Vec, slice_get, slice_set, slice_index_or}
use Rattle.std.proofs.lemmas.Bool.Decides.{nat_tests}
use Rattle.std.proofs.lemmas.Nat.{mod_below}
use Rattle.std.proofs.lemmas.List.{take_all}
use Rattle.global_types.specs.Moves.{IsIn}
use Rattle.global_types.specs.Paths.{Action}
use Rattle.state_sets.specs.declared.act.Act.{Act}
use Rattle.state_sets.specs.declared.act.Act.TheVariants.{Send, Recv, Pick, Branch}
use Rattle.state_sets.specs.declared.moves.Move.{Move}
use Rattle.state_sets.specs.Moves.{action_of, actions_in}
use Rattle.state_sets.specs.Graph.{part_number, falls, IsPart, AreParts, AreEmptyParts, HasMoreIn}
use Rattle.state_sets.proofs.Lists.{in_more, in_kept, in_new, in_push, in_left, in_last}

-- ---- lists in a list

pub get_set : {A : Type 0} (xs : List A) (k : ℕ) (v : A) (n : ℕ) (u : A) → slice_get (slice_set xs k v) n ≡ Some u → ((n ≡ k) × (v ≡ u)) ⊎ ((n ≢ k) × (slice_get xs n ≡ Some u))
get_set [] k v n u h = absurd (cc)
get_set (x ∷ xs) zero v zero u h = inl (refl, cc)
get_set (x ∷ xs) zero v (suc n) u h = inr ((λ e. absurd (omega (arith, e))), h)
get_set (x ∷ xs) (suc k) v zero u h = inr ((λ e. absurd (omega (arith, e))), h)
get_set (x ∷ xs) (suc k) v (suc n) u h = go (get_set xs k v n u h) where
  go : ((n ≡ k) × (v ≡ u)) ⊎ ((n ≢ k) × (slice_get xs n ≡ Some u)) → ((suc n ≡ suc k) × (v ≡ u)) ⊎ ((suc n ≢ suc k) × (slice_get xs n ≡ Some u))
  go (inl p) = inl (ap suc p.0, p.1)
  go (inr p) = inr ((λ e. p.0 (omega (arith, e))), p.1)

get_push : {A : Type 0} (xs : List A) (v : A) (n : ℕ) (u : A) → slice_get (xs ++ v ∷ []) n ≡ Some u → (slice_get xs n ≡ Some u) ⊎ (v ≡ u)
get_push [] v zero u h = inr cc
get_push [] v (suc n) u h = absurd (cc)
get_push (x ∷ xs) v zero u h = inl h
get_push (x ∷ xs) v (suc n) u h = get_push xs v n u h

pub count_more : (old new : List (Vec Move Global)) (v : Vec Move Global) (k : ℕ) → new ≡ old ++ v ∷ [] → length old ≡ k → length new ≡ k + 1
count_more old new v k is e = let a : length (old ++ v ∷ []) ≡ length old + 1 = length-append old (v ∷ []) in let b : length new ≡ length (old ++ v ∷ []) = ap (λ (l : List (Vec Move Global)). length l) is in omega (arith, a, b, e)

pub empty_more : (old new : List (Vec Move Global)) (v : Vec Move Global) → v.items ≡ [] → new ≡ old ++ v ∷ [] → ((n : ℕ) (u : Vec Move Global) → slice_get old n ≡ Some u → u.items ≡ [])
    → (n : ℕ) (u : Vec Move Global) → slice_get new n ≡ Some u → u.items ≡ []
empty_more old new v e is was n u h = go (get_push old v n u (subst (λ (l : List (Vec Move Global)). slice_get l n ≡ Some u) is h)) where
  go : (slice_get old n ≡ Some u) ⊎ (v ≡ u) → u.items ≡ []
  go (inl o) = was n u o
  go (inr s) = subst (λ (x : Vec Move Global). x.items ≡ []) s e

pub part_written : (k : ℕ) (m : Move) (old new : List (Vec Move Global)) (was part : Vec Move Global) → k < length old → was ≡ slice_index_or old k was → part.items ≡ was.items ++ m ∷ [] → new ≡ slice_set old k part → HasMoreIn k m old new
part_written k m old new was part h at grows is = rw is (record {
  size = length-set old k part;
  own = λ v g. own_at v (get_set old k part k v g);
  rest = λ n v d g. rest_at n v d (get_set old k part n v g);
})
  where
    here : slice_get old k ≡ Some was
    here = slice_get-get_or old k was h ∙ ap (λ (v : Vec Move Global). Some v) (sym at)

    own_at : (v : Vec Move Global) → ((k ≡ k) × (part ≡ v)) ⊎ ((k ≢ k) × (slice_get old k ≡ Some v)) → (u : Vec Move Global) × (slice_get old k ≡ Some u) × (v.items ≡ u.items ++ m ∷ [])
    own_at v (inl p) = (was, here, subst (λ (x : Vec Move Global). x.items ≡ was.items ++ m ∷ []) p.1 grows)
    own_at v (inr p) = absurd (p.0 refl)

    rest_at : (n : ℕ) (v : Vec Move Global) → n ≢ k → ((n ≡ k) × (part ≡ v)) ⊎ ((n ≢ k) × (slice_get old n ≡ Some v)) → slice_get old n ≡ Some v
    rest_at n v d (inl p) = absurd (d p.0)
    rest_at n v d (inr p) = p.1

pub act_at : (o : Option Act) (a : Action) → actions_in o ≡ a ∷ [] → (b : Act) × (o ≡ Some b) × (action_of b ≡ a)
act_at None a e = absurd (cc)
act_at (Some b) a e = (b, refl, cc)

-- ---- the moves of so many parts

module _ (count : ℕ) where
  part_in : (ms : List Move) (n i : ℕ) (d : Move) (old new : List Move) → i < length ms → IsPart count (take i ms) n old → falls count n (slice_index_or ms i d).act ≡ true
      → new ≡ old ++ slice_index_or ms i d ∷ [] → IsPart count (take (i + 1) ms) n new
  part_in ms n i d old new h was test is = rw is (record {
    sound = λ m o. sound_at m (in_push m (slice_index_or ms i d) old o);
    complete = λ m o f. complete_at m f (in_more m ms i d h o);
  })
    where
      sound_at : (m : Move) → IsIn m old ⊎ (slice_index_or ms i d ≡ m) → IsIn m (take (i + 1) ms) × (falls count n m.act ≡ true)
      sound_at m (inl o) = let p = was.sound m o in (in_kept m ms i d h p.0, p.1)
      sound_at m (inr e) = (subst (λ (v : Move). IsIn v (take (i + 1) ms)) e (in_new ms i d h), subst (λ (v : Move). falls count n v.act ≡ true) e test)

      complete_at : (m : Move) → falls count n m.act ≡ true → IsIn m (take i ms) ⊎ (slice_index_or ms i d ≡ m) → IsIn m (old ++ slice_index_or ms i d ∷ [])
      complete_at m f (inl o) = in_left m old (slice_index_or ms i d ∷ []) (was.complete m o f)
      complete_at m f (inr e) = subst (λ (v : Move). IsIn v (old ++ slice_index_or ms i d ∷ [])) e (in_last (slice_index_or ms i d) old)

  part_out : (ms : List Move) (n i : ℕ) (d : Move) (old : List Move) → i < length ms → IsPart count (take i ms) n old → falls count n (slice_index_or ms i d).act ≡ false → IsPart count (take (i + 1) ms) n old
  part_out ms n i d old h was test = record {
    sound = λ m o. let p = was.sound m o in (in_kept m ms i d h p.0, p.1);
    complete = λ m o f. complete_at m f (in_more m ms i d h o);
  }
    where
      complete_at : (m : Move) → falls count n m.act ≡ true → IsIn m (take i ms) ⊎ (slice_index_or ms i d ≡ m) → IsIn m old
      complete_at m f (inl o) = was.complete m o f
      complete_at m f (inr e) = absurd (let g : false ≡ true = sym test ∙ ap (λ (v : Move). falls count n v.act) e ∙ f in cc)

  pub parts_begin : (ms : List Move) (parts : List (Vec Move Global)) → AreEmptyParts count parts → AreParts count (take 0 ms) parts
  parts_begin ms parts none = record {
    size = none.size;
    part = λ n v h. record { sound = λ m o. absurd (subst (λ (l : List Move). IsIn m l) (none.empty n v h) o); complete = λ m o f. absurd o };
  }

  falls_here : (n : ℕ) (a : Act) (o : Option Act) → o ≡ Some a → n ≡ part_number count a → falls count n o ≡ true
  falls_here n a o e f = rw e (grind (arith, nat_tests))

  falls_not : (n : ℕ) (a : Act) (o : Option Act) → o ≡ Some a → n ≢ part_number count a → falls count n o ≡ false
  falls_not n a o e f = rw e (other (part_number count a == n) refl) where
    other : (b : Bool) → (part_number count a == n) ≡ b → (part_number count a == n) ≡ false
    other true g = absurd (f (grind (arith, nat_tests)))
    other false g = g

  pub parts_in : (ms : List Move) (i : ℕ) (d : Move) (a : Act) (old new : List (Vec Move Global)) → i < length ms → AreParts count (take i ms) old → (slice_index_or ms i d).act ≡ Some a
      → HasMoreIn (part_number count a) (slice_index_or ms i d) old new → AreParts count (take (i + 1) ms) new
  parts_in ms i d a old new h was is more = record {
    size = more.size ∙ was.size;
    part = λ n v g. part_at n v g (same_or_not n (part_number count a));
  }
    where
      part_at : (n : ℕ) (v : Vec Move Global) → slice_get new n ≡ Some v → (n ≡ part_number count a) ⊎ (n ≢ part_number count a) → IsPart count (take (i + 1) ms) n v.items
      part_at n v g (inl e) =
          let o = more.own v (subst (λ k. slice_get new k ≡ Some v) e g) in
          let p = was.part n o.0 (subst (λ k. slice_get old k ≡ Some o.0) (sym e) o.1) in
          part_in ms n i d o.0.items v.items h p (falls_here n a (slice_index_or ms i d).act is e) o.2
      part_at n v g (inr e) = part_out ms n i d v.items h (was.part n v (more.rest n v e g)) (falls_not n a (slice_index_or ms i d).act is e)

  pub parts_out : (ms : List Move) (i : ℕ) (d : Move) (parts : List (Vec Move Global)) → i < length ms → AreParts count (take i ms) parts → (slice_index_or ms i d).act ≡ None → AreParts count (take (i + 1) ms) parts
  parts_out ms i d parts h was is = record {
    size = was.size;
    part = λ n v g. part_out ms n i d v.items h (was.part n v g) (ap (falls count n) is);
  }

  pub parts_whole : (ms : List Move) (i : ℕ) (parts : List (Vec Move Global)) → length ms ≤ i → AreParts count (take i ms) parts → AreParts count ms parts
  parts_whole ms i parts h was = subst (λ l. AreParts count l parts) (take_all i ms h) was

  pub part_of : (ms : List Move) (parts : List (Vec Move Global)) (n : ℕ) (part : Vec Move Global) → AreParts count ms parts → n < length parts → part ≡ slice_index_or parts n part → IsPart count ms n part.items
  part_of ms parts n part are h at = are.part n part (slice_get-get_or parts n part h ∙ ap (λ (v : Vec Move Global). Some v) (sym at))

  -- the same action falls into one part
  pub same_part : (a b : Act) → action_of a ≡ action_of b → part_number count a ≡ part_number count b
  same_part (Send b c) (Send b' c') e = refl
  same_part (Send b c) (Recv a' c') e = refl
  same_part (Send b c) (Pick b' l') e = absurd (cc)
  same_part (Send b c) (Branch a' l') e = absurd (cc)
  same_part (Recv a c) (Send b' c') e = refl
  same_part (Recv a c) (Recv a' c') e = refl
  same_part (Recv a c) (Pick b' l') e = absurd (cc)
  same_part (Recv a c) (Branch a' l') e = absurd (cc)
  same_part (Pick b l) (Send b' c') e = absurd (cc)
  same_part (Pick b l) (Recv a' c') e = absurd (cc)
  same_part (Pick b l) (Pick b' l') e = let f : l ≡ l' = cc in ap (λ v. part_number count (Pick b v)) f
  same_part (Pick b l) (Branch a' l') e = absurd (cc)
  same_part (Branch a l) (Send b' c') e = absurd (cc)
  same_part (Branch a l) (Recv a' c') e = absurd (cc)
  same_part (Branch a l) (Pick b' l') e = absurd (cc)
  same_part (Branch a l) (Branch a' l') e = let f : l ≡ l' = cc in ap (λ v. part_number count (Branch a v)) f

  pub falls_into : (n : ℕ) (a : Act) (o : Option Act) → o ≡ Some a → part_number count a ≡ n → falls count n o ≡ true
  falls_into n a o e f = rw e (grind (arith, nat_tests))

  pub fell_into : (n : ℕ) (a : Act) (o : Option Act) → o ≡ Some a → falls count n o ≡ true → part_number count a ≡ n
  fell_into n a o e f = let g : (part_number count a == n) ≡ true = ap (falls count n) (sym e) ∙ f in grind (arith, nat_tests)

  pub number_below : (a : Act) → 0 < count → part_number count a < count
  number_below (Send b c) h = h
  number_below (Recv a c) h = h
  number_below (Pick b l) h = mod_below l.0 count h
  number_below (Branch a l) h = mod_below l.0 count h
