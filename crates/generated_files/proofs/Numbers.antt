-- The numbers of the procedures' names.
use Rattle.std.proofs.Common.{◌≡◌, ◌<◌, ◌≤◌, ◌+◌, ◌||◌, ◌&&◌, ◌==◌, ◌⊎◌, inl, inr, ℕ, zero, suc, Bool, true, false, List, [], ◌∷◌, ◌++◌, length, Option, Some, None, refl, sym, ap, ◌∙◌, subst, arith, length-append, append_assoc}
use Rattle.std.specs.Prelude.{bytes_eq, option_map, unwrap_or, if◌then◌else◌}
use Rattle.std.specs.List.{list_any}
use Rattle.std.proofs.lemmas.Bool.{cases_lt}
use Rattle.std.proofs.lemmas.Bool.Decides.{nat_tests}
use Rattle.chor_base.specs.declared.names.NameId.{NameId}
use Rattle.chor_base.specs.Words.{with_word, Lacks}
use Rattle.chor_tree.specs.declared.file.Named.{Named}
use Rattle.chor_gen.specs.Words.{declared_words, used_words, generated_names, procedure_word, procedure_words, found_at, named_in, beginning}
use Rattle.chor_gen.proofs.Tables.{next_word}

words_length : (c : ℕ) → length (procedure_words c) ≡ c
words_length zero = refl
words_length (suc c) = omega (arith, length-append (procedure_words c) (procedure_word (suc c) ∷ []), words_length c)

names_length : (c : ℕ) → length (generated_names c) ≡ 20 + c
names_length c = omega (arith, length-append (declared_words ++ used_words) (procedure_words c), words_length c)

names_more : (c : ℕ) → generated_names (suc c) ≡ generated_names c ++ procedure_word (suc c) ∷ []
names_more c = sym (append_assoc (declared_words ++ used_words) (procedure_words c) (procedure_word (suc c) ∷ []))

-- the names of fewer rounds lack the next one's
lacks_next : (c : ℕ) → c < 4000 → Lacks (generated_names c) (procedure_word (suc c))
lacks_next c lt = go (list_any (bytes_eq (procedure_word (suc c))) (generated_names c)) refl
  where
    next : c + 1 ≡ suc c
    next = omega arith

    more : with_word (generated_names c) (procedure_word (suc c)) ≡ generated_names (suc c)
    more = subst (λ (k : ℕ). with_word (generated_names c) (procedure_word k) ≡ generated_names k) next (next_word (generated_names c) c lt refl)

    go : (b : Bool) → list_any (bytes_eq (procedure_word (suc c))) (generated_names c) ≡ b → b ≡ false
    go false e = refl
    go true e =
        let same = ap length (sym (ap (λ (d : Bool). if d then generated_names c else generated_names c ++ procedure_word (suc c) ∷ []) e) ∙ more) in
        absurd (omega (arith, same, names_length c, names_length (suc c)))

found_front : (xs ys : List (List ℕ)) (w : List ℕ) (n : ℕ) → found_at xs w ≡ Some n → found_at (xs ++ ys) w ≡ Some n
found_front [] ys w n h = absurd cc
found_front (x ∷ xs) ys w n h = go (bytes_eq w x) (found_at xs w) n h (λ m. found_front xs ys w m)
  where
    go : (b : Bool) (r : Option ℕ) (n : ℕ) → (if b then Some 0 else option_map suc r) ≡ Some n → ((m : ℕ) → r ≡ Some m → found_at (xs ++ ys) w ≡ Some m) → (if b then Some 0 else option_map suc (found_at (xs ++ ys) w)) ≡ Some n
    go true r n h more = h
    go false None n h more = absurd cc
    go false (Some m) n h more = ap (option_map suc) (more m refl) ∙ h

found_last : (xs : List (List ℕ)) (w : List ℕ) → bytes_eq w w ≡ true → Lacks xs w → found_at (xs ++ w ∷ []) w ≡ Some (length xs)
found_last [] w own h = ap (λ (b : Bool). if b then Some 0 else None) own
found_last (x ∷ xs) w own h = go (bytes_eq w x) h (found_last xs w own)
  where
    go : (b : Bool) → (b || list_any (bytes_eq w) xs) ≡ false → (Lacks xs w → found_at (xs ++ w ∷ []) w ≡ Some (length xs)) → (if b then Some 0 else option_map suc (found_at (xs ++ w ∷ []) w)) ≡ Some (suc (length xs))
    go true h more = absurd cc
    go false h more = ap (option_map suc) (more h)

own_bytes : (w : List ℕ) → bytes_eq w w ≡ true
own_bytes [] = refl
own_bytes (x ∷ w) = ap (λ b. (x == x) && b) (own_bytes w) ∙ grind (arith, nat_tests)

word_found : (count i : ℕ) → i < count → count ≤ 4000 → found_at (generated_names count) (procedure_word (suc i)) ≡ Some (20 + i)
word_found zero i lt few = absurd (omega arith)
word_found (suc c) i lt few = ap (λ (l : List (List ℕ)). found_at l (procedure_word (suc i))) (names_more c) ∙ go (cases_lt i c) (λ l. word_found c i l (omega arith))
  where
    go : (i < c) ⊎ (c ≤ i) → (i < c → found_at (generated_names c) (procedure_word (suc i)) ≡ Some (20 + i)) → found_at (generated_names c ++ procedure_word (suc c) ∷ []) (procedure_word (suc i)) ≡ Some (20 + i)
    go (inl l) more = found_front (generated_names c) (procedure_word (suc c) ∷ []) (procedure_word (suc i)) (20 + i) (more l)
    go (inr l) more =
        let same : c ≡ i = omega arith in
        ap (λ (j : ℕ). found_at (generated_names c ++ procedure_word (suc j) ∷ []) (procedure_word (suc i))) same
        ∙ found_last (generated_names c) (procedure_word (suc i)) (own_bytes (procedure_word (suc i))) (subst (λ (j : ℕ). Lacks (generated_names c) (procedure_word (suc j))) same (lacks_next c (omega arith)))
        ∙ ap Some (names_length c ∙ omega arith)

-- The number of the name of a procedure, of which the first is 20
pub number_of_round : (count i : ℕ) → i < count → count ≤ 4000 → named_in (generated_names count) (procedure_word (suc i)) ≡ record { name = record { 0 = 20 + i }; place = beginning }
number_of_round count i lt few = ap (λ (r : Option ℕ). let n : NameId = record { 0 = unwrap_or r 0 } in let x : Named = record { name = n; place = beginning } in x) (word_found count i lt few)
