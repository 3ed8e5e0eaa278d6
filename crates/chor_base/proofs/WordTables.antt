-- Words in a set and their places.
use Rattle.std.proofs.Common.{take, drop, take-append-drop, drop-cons, ◌<◌, ◌+◌, ◌≡◌, ℕ, Bool, true, false, List, [], ◌∷◌, ◌++◌, refl, sym, ap, ◌∙◌, Option, Some, None, Vec, Global, subst, arith, get_or, ◌||◌, ◌&&◌, ◌==◌, length, zero, suc}
use Rattle.std.specs.Prelude.{slice_get, bytes_eq, Decides, IfSome, IfNone, if◌then◌else◌}
use Rattle.std.specs.List.{list_any}
use Rattle.std.specs.Map.{lookup, KeepsOthers, IsKeyTest, AreApart}
use Rattle.std.proofs.lemmas.Cmp.{nat_list_eq_equiv}
use Rattle.std.proofs.lemmas.Slice.Eq.{bytes_eq-Decides}
use Rattle.std.proofs.lemmas.Bool.Decides.{nat_tests}
use Rattle.std.proofs.lemmas.List.{take_more}
use Rattle.chor_base.proofs.Lists.{AtEnd, before, last, at_end, slice_get_last}
use Rattle.chor_base.specs.Words.{words_of, with_word, AllDistinct, Lacks, number_in, IsPlaceAmong}

same_bytes : (xs ys : List ℕ) → bytes_eq xs ys ≡ true → xs ≡ ys
same_bytes xs ys h = (subst (λ b. Decides b (xs ≡ ys)) h (bytes_eq-Decides xs ys)).0 refl

own_bytes : (w : List ℕ) → bytes_eq w w ≡ true
own_bytes [] = refl
own_bytes (x ∷ w) = ap (λ b. (x == x) && b) (own_bytes w) ∙ grind (arith, nat_tests)

pub words-push : (ws : List (Vec ℕ Global)) (k : Vec ℕ Global) → words_of (ws ++ k ∷ []) ≡ words_of ws ++ k.items ∷ []
words-push [] k = refl
words-push (w ∷ ws) k = ap (λ r. w.items ∷ r) (words-push ws k)

-- ---- what entries have at words

module _ {K X : Type 0} (eq : K → K → Bool) (test : K → Bool) where
  other_entries : (old new : List (K × X)) → KeepsOthers eq test old new → (other : K → Bool) → IsKeyTest eq other → AreApart test other → lookup other new ≡ lookup other old
  unfolding KeepsOthers
  other_entries old new h = h

apart : (v w ks : List ℕ) → bytes_eq v w ≡ false → bytes_eq v ks ≡ true → bytes_eq w ks ≡ false
apart v w ks n y = nat_list_eq_equiv.symm w ks ∙ sym (nat_list_eq_equiv.congr v ks w y) ∙ n

abbrev pub Puts : List (Vec ℕ Global × ℕ) → List (Vec ℕ Global × ℕ) → List ℕ → ℕ → Type 0
Puts old new w n = (number_in new w ≡ Some n) × KeepsOthers (λ x y. bytes_eq x.items y.items) (λ k. bytes_eq w k.items) old new

any_more : (ws : List (List ℕ)) (v w : List ℕ) → bytes_eq v w ≡ false → list_any (bytes_eq v) (ws ++ w ∷ []) ≡ list_any (bytes_eq v) ws
any_more [] v w n = ap (λ b. b || false) n
any_more (u ∷ ws) v w n = ap (λ b. bytes_eq v u || b) (any_more ws v w n)

slice_get_more : (ws : List (List ℕ)) (w v : List ℕ) (n : ℕ) → slice_get ws n ≡ Some v → slice_get (ws ++ w ∷ []) n ≡ Some v
slice_get_more [] w v n h = absurd cc
slice_get_more (u ∷ ws) w v zero h = h
slice_get_more (u ∷ ws) w v (suc n) h = slice_get_more ws w v n h

-- a word that isn't there goes last, and the entries have its number
pub numbered_more : (ws : List (List ℕ)) (old new : List (Vec ℕ Global × ℕ)) (w : List ℕ) → Lacks ws w → ((v : List ℕ) → IsPlaceAmong ws v (number_in old v)) → Puts old new w (length ws) → (v : List ℕ) → IsPlaceAmong (ws ++ w ∷ []) v (number_in new v)
numbered_more ws old new w absent places put v = go (bytes_eq w v) refl
  where
    stays : (o : Option ℕ) → bytes_eq w v ≡ false → IsPlaceAmong ws v o → IsPlaceAmong (ws ++ w ∷ []) v o
    stays None h lacks = any_more ws v w (nat_list_eq_equiv.symm v w ∙ h) ∙ lacks
    stays (Some n) h at = slice_get_more ws w v n at

    go : (t : Bool) → bytes_eq w v ≡ t → IsPlaceAmong (ws ++ w ∷ []) v (number_in new v)
    go true h =
        let same : w ≡ v = same_bytes w v h in
        subst (λ u. IsPlaceAmong (ws ++ w ∷ []) u (number_in new u)) same (subst (IsPlaceAmong (ws ++ w ∷ []) w) (sym put.0) (slice_get_last ws w))
    go false h =
        let kept : number_in new v ≡ number_in old v = other_entries _ _ old new put.1 (λ k. bytes_eq v k.items) (λ x y. nat_list_eq_equiv.congr v x.items y.items) (λ k. apart w v k.items h) in
        subst (IsPlaceAmong (ws ++ w ∷ []) v) (sym kept) (stays (number_in old v) h (places v))

-- what is found of a word
pub found_at : (ws : List (List ℕ)) (w : List ℕ) (o : Option ℕ) → IsPlaceAmong ws w o → IfSome o (λ n. slice_get ws n ≡ Some w)
found_at ws w None h = tt
found_at ws w (Some n) h = h

pub absent_at : (ws : List (List ℕ)) (w : List ℕ) (o : Option ℕ) → IsPlaceAmong ws w o → IfNone o (Lacks ws w)
absent_at ws w None h = h
absent_at ws w (Some n) h = tt

-- what stands in a list without it
pub put_absent : (ws : List (List ℕ)) (w : List ℕ) → list_any (bytes_eq w) ws ≡ false → with_word ws w ≡ ws ++ w ∷ []
put_absent ws w h = ap (λ b. if b then ws else ws ++ w ∷ []) h

any_at : (ws : List (List ℕ)) (w : List ℕ) (n : ℕ) → slice_get ws n ≡ Some w → list_any (bytes_eq w) ws ≡ true
any_at [] w n h = absurd cc
any_at (v ∷ ws) w zero h = let e : v ≡ w = cc in rw (e, own_bytes w) refl
any_at (v ∷ ws) w (suc n) h = ap (λ b. bytes_eq w v || b) (any_at ws w n h) ∙ or_true (bytes_eq w v)
  where
    or_true : (b : Bool) → (b || true) ≡ true
    or_true true = refl
    or_true false = refl

pub put_present : (ws : List (List ℕ)) (w : List ℕ) (n : ℕ) → slice_get ws n ≡ Some w → with_word ws w ≡ ws
put_present ws w n h = ap (λ b. if b then ws else ws ++ w ∷ []) (any_at ws w n h)

pub get_last : (ws : List (List ℕ)) (w : List ℕ) → slice_get (ws ++ w ∷ []) (length ws) ≡ Some w
get_last = slice_get_last

-- ---- no word twice

any_none : (ws : List (List ℕ)) (w : List ℕ) (i : ℕ) → list_any (bytes_eq w) ws ≡ false → slice_get ws i ≡ Some w → ⊥
any_none ws w i none at = let t = any_at ws w i at in cc

pub distinct_more : (ws : List (List ℕ)) (w : List ℕ) → AllDistinct ws → Lacks ws w → AllDistinct (ws ++ w ∷ [])
distinct_more ws w d none i j v h k = go (at_end ws w v i h) (at_end ws w v j k)
  where
    go : AtEnd ws w v i → AtEnd ws w v j → i ≡ j
    go (before a) (before b) = d i j v a b
    go (last e s) (last f t) = e ∙ sym f
    go (before a) (last f t) = absurd (any_none ws w i none (a ∙ ap Some t))
    go (last e s) (before b) = absurd (any_none ws w j none (b ∙ ap Some s))

pub distinct_none : AllDistinct []
distinct_none i j w h k = absurd cc

distinct_tail : (u : List ℕ) (ws : List (List ℕ)) → AllDistinct (u ∷ ws) → AllDistinct ws
distinct_tail u ws d i j w h k = let e : suc i ≡ suc j = d (suc i) (suc j) w h k in omega arith

at_seam : (us : List (List ℕ)) (w : List ℕ) (rest : List (List ℕ)) → slice_get (us ++ w ∷ rest) (length us) ≡ Some w
at_seam [] w rest = refl
at_seam (u ∷ us) w rest = at_seam us w rest

lacks_front : (us : List (List ℕ)) (w : List ℕ) (rest : List (List ℕ)) → AllDistinct (us ++ w ∷ rest) → Lacks us w
lacks_front [] w rest d = refl
lacks_front (u ∷ us) w rest d = go (bytes_eq w u) refl (lacks_front us w rest (distinct_tail u (us ++ w ∷ rest) d))
  where
    go : (b : Bool) → bytes_eq w u ≡ b → Lacks us w → (b || list_any (bytes_eq w) us) ≡ false
    go true e h =
        let same : w ≡ u = same_bytes w u e in
        let clash : 0 ≡ suc (length us) = d 0 (suc (length us)) w (ap Some (sym same)) (at_seam us w rest) in
        absurd (omega arith)
    go false e h = h

pub copied_more : (ws : List (List ℕ)) (i : ℕ) → i < length ws → AllDistinct ws → with_word (take i ws) (get_or ws i []) ≡ take (i + 1) ws
copied_more ws i h d =
    let e : drop i ws ≡ get_or ws i [] ∷ drop (suc i) ws = drop-cons ws i [] h in
    let parts : take i ws ++ get_or ws i [] ∷ drop (suc i) ws ≡ ws = ap (λ (r : List (List ℕ)). take i ws ++ r) (sym e) ∙ take-append-drop i ws in
    put_absent (take i ws) (get_or ws i []) (lacks_front (take i ws) (get_or ws i []) (drop (suc i) ws) (subst AllDistinct (sym parts) d))
    ∙ sym (take_more ws i [] h)

pub copied_word : (ws : List (Vec ℕ Global)) (i : ℕ) (v : Vec ℕ Global) → i < length ws → slice_get ws i ≡ Some v → v.items ≡ get_or (words_of ws) i []
copied_word [] i v h e = absurd cc
copied_word (w ∷ ws) zero v h e = cc
copied_word (w ∷ ws) (suc i) v h e = copied_word ws i v (omega arith) e

pub length-words_of : (ws : List (Vec ℕ Global)) → length (words_of ws) ≡ length ws
length-words_of [] = refl
length-words_of (w ∷ ws) = ap suc (length-words_of ws)
