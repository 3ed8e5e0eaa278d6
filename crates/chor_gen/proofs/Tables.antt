-- Names in their table.
use Rattle.std.proofs.Common.{◌≡◌, ◌<◌, ◌+◌, ◌^◌, ◌||◌, ◌&&◌, ◌==◌, ℕ, zero, suc, Bool, true, false, List, [], ◌∷◌, ◌++◌, length, map, Option, Some, None, refl, sym, ap, ◌∙◌, subst, nat_lt, arith, add-one, append_assoc}
use Rattle.std.specs.Prelude.{slice_get, bytes_eq, codes, option_map, unwrap_or, Decides, IfSome, IfNone, if◌then◌else◌}
use Rattle.std.specs.List.{list_any, AllByRecursion}
use Rattle.std.proofs.lemmas.Bool.{lt-ltb}
use Rattle.std.proofs.lemmas.Slice.Eq.{bytes_eq-Decides}
use Rattle.chor_base.specs.declared.names.NameId.{NameId}
use Rattle.chor_base.specs.Words.{with_word, AllDistinct, Lacks}
use Rattle.chor_tree.specs.Kept.{has_name}
use Rattle.chor_base.proofs.WordTables.{put_absent}
use Rattle.chor_gen.specs.Words.{declared_words, used_words, generated_names, procedure_word, procedure_words, found_at, number_in}
use Rattle.std.specs.Fmt.{decimal}
use Rattle.std.specs.Int.Digits.{digits_of}
use Rattle.std.proofs.lemmas.Fmt.{decimal_injective, decimal-digits_of}
use Rattle.std.proofs.lemmas.Int.Digits.{all_below_base_digits_of}
use Rattle.std.proofs.lemmas.Bool.Decides.{nat_tests}

-- ---- words one after another

same_bytes : (xs ys : List ℕ) → bytes_eq xs ys ≡ true → xs ≡ ys
same_bytes xs ys h = (subst (λ b. Decides b (xs ≡ ys)) h (bytes_eq-Decides xs ys)).0 refl

any_append : {A : Type 0} (p : A → Bool) (xs ys : List A) → list_any p xs ≡ false → list_any p ys ≡ false → list_any p (xs ++ ys) ≡ false
any_append p [] ys h k = k
any_append p (x ∷ xs) ys h k = go (p x) h (any_append p xs ys)
  where
    go : (b : Bool) → (b || list_any p xs) ≡ false → (list_any p xs ≡ false → list_any p ys ≡ false → list_any p (xs ++ ys) ≡ false) → (b || list_any p (xs ++ ys)) ≡ false
    go true h more = absurd cc
    go false h more = more h k

-- a word of letters is no number
not_letters : (n : ℕ) → 0 < n → n < 2 ^ 64 → bytes_eq (decimal n) (codes "ork") ≡ false
not_letters n some fits = ap (λ (l : List ℕ). bytes_eq l (codes "ork")) (decimal-digits_of n some fits) ∙ go (digits_of 10 n) (all_below_base_digits_of 10 n (omega arith))
  where
    go : (ds : List ℕ) → AllByRecursion (λ d. d < 10) ds → bytes_eq (map (λ d. 48 + d) ds) (codes "ork") ≡ false
    go [] h = refl
    go (d ∷ ds) h =
        let small = h.0 in
        let first : (48 + d == 111) ≡ false = grind (arith, nat_tests) in
        ap (λ b. b && bytes_eq (map (λ d. 48 + d) ds) (codes "rk")) first

-- no procedure has a word of the rounds
no_common : (n : ℕ) → 0 < n → n < 2 ^ 64 → Lacks (declared_words ++ used_words) (procedure_word n)
no_common n some fits = ap (λ b. b || false) (not_letters n some fits)

no_other : (n i : ℕ) → i < n → n < 2 ^ 64 → Lacks (procedure_words i) (procedure_word n)
no_other n zero lt fits = refl
no_other n (suc i) lt fits =
    any_append (bytes_eq (procedure_word n)) (procedure_words i) (procedure_word (suc i) ∷ []) (no_other n i (omega arith) fits)
    (ap (λ b. b || false) (apart (bytes_eq (decimal n) (decimal (suc i))) refl))
  where
    apart : (b : Bool) → bytes_eq (decimal n) (decimal (suc i)) ≡ b → b ≡ false
    apart true e = let same = decimal_injective n (suc i) fits (omega arith) (same_bytes _ _ e) in absurd (omega arith)
    apart false e = refl

pub next_word : (names : List (List ℕ)) (i : ℕ) → i < 4000 → names ≡ generated_names i → with_word names (procedure_word (i + 1)) ≡ generated_names (i + 1)
next_word names i lt e =
    let common = declared_words ++ used_words in
    let lacks : Lacks (generated_names i) (procedure_word (suc i)) = any_append (bytes_eq (procedure_word (suc i))) common (procedure_words i) (no_common (suc i) (omega arith) (omega arith)) (no_other (suc i) i (omega arith) (omega arith)) in
    rw add-one (ap (λ (t : List (List ℕ)). with_word t (procedure_word (suc i))) e ∙ put_absent (generated_names i) (procedure_word (suc i)) lacks ∙ append_assoc common (procedure_words i) (procedure_word (suc i) ∷ []))

-- ---- the place of a word

other_bytes : (xs ys : List ℕ) → bytes_eq xs ys ≡ false → xs ≡ ys → ⊥
other_bytes xs ys h e = let t : false ≡ true = (subst (λ b. Decides b (xs ≡ ys)) h (bytes_eq-Decides xs ys)).1 e in cc

distinct_tail : (u : List ℕ) (ws : List (List ℕ)) → AllDistinct (u ∷ ws) → AllDistinct ws
distinct_tail u ws d i j w h k = let e : suc i ≡ suc j = d (suc i) (suc j) w h k in omega arith

at_place : (ws : List (List ℕ)) (w : List ℕ) (n : ℕ) → AllDistinct ws → slice_get ws n ≡ Some w → found_at ws w ≡ Some n
at_place [] w n d h = absurd cc
at_place (v ∷ vs) w n d h = go (bytes_eq w v) refl n h (λ m k. at_place vs w m (distinct_tail v vs d) k)
  where
    go : (b : Bool) → bytes_eq w v ≡ b → (n : ℕ) → slice_get (v ∷ vs) n ≡ Some w → ((m : ℕ) → slice_get vs m ≡ Some w → found_at vs w ≡ Some m) → (if b then Some 0 else option_map suc (found_at vs w)) ≡ Some n
    go true e n h more = ap Some (d 0 n w (ap Some (sym (same_bytes w v e))) h)
    go false e zero h more = let same : v ≡ w = cc in absurd (other_bytes w v e (sym same))
    go false e (suc m) h more = ap (option_map suc) (more m h)

no_place : (ws : List (List ℕ)) (w : List ℕ) → Lacks ws w → found_at ws w ≡ None
no_place [] w h = refl
no_place (v ∷ vs) w h = go (bytes_eq w v) h (no_place vs w)
  where
    go : (b : Bool) → (b || list_any (bytes_eq w) vs) ≡ false → (Lacks vs w → found_at vs w ≡ None) → (if b then Some 0 else option_map suc (found_at vs w)) ≡ None
    go true h more = absurd cc
    go false h more = ap (option_map suc) (more h)

pub number_found : (names : List (List ℕ)) (w : List ℕ) (r : Option NameId) → AllDistinct names → IfSome r (λ n. slice_get names n.0 ≡ Some w) → IfNone r (Lacks names w) → unwrap_or r (record { 0 = 0 }) ≡ number_in names w
number_found names w None d some none = ap (λ (o : Option ℕ). let n : NameId = record { 0 = unwrap_or o 0 } in n) (sym (no_place names w none))
number_found names w (Some n) d some none = ap (λ (o : Option ℕ). let n : NameId = record { 0 = unwrap_or o 0 } in n) (sym (at_place names w n.0 d some))

within : (ws : List (List ℕ)) (w : List ℕ) (k : ℕ) → found_at ws w ≡ Some k → k < length ws
within [] w k h = absurd cc
within (v ∷ vs) w k h = go (bytes_eq w v) (found_at vs w) h (within vs w)
  where
    go : (b : Bool) (r : Option ℕ) → (if b then Some 0 else option_map suc r) ≡ Some k → ((m : ℕ) → r ≡ Some m → m < length vs) → k < suc (length vs)
    go true r h more = let e : 0 ≡ k = cc in omega arith
    go false None h more = absurd cc
    go false (Some m) h more = let e : suc m ≡ k = cc in let lt = more m refl in omega arith

pub number_there : (names : List (List ℕ)) (w : List ℕ) → 0 < length names → has_name names (number_in names w) ≡ true
number_there names w some = go (found_at names w) refl
  where
    go : (r : Option ℕ) → found_at names w ≡ r → nat_lt (unwrap_or r 0) (length names) ≡ true
    go None e = lt-ltb 0 (length names) some
    go (Some k) e = lt-ltb k (length names) (within names w k e)
