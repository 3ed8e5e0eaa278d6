-- Names of two tables that are the same words, and lists of them.
use Rattle.std.proofs.Common.{◌≡◌, ◌==◌, ◌&&◌, ◌||◌, ◌<◌, ℕ, true, false, suc, List, [], ◌∷◌, ◌++◌, length, refl, sym, ap, ◌∙◌}
use Rattle.std.specs.Prelude.{bytes_eq, if◌then◌else◌}
use Rattle.std.specs.List.{AllZip}
use Rattle.chor_base.specs.declared.names.NameId.{NameId}
use Rattle.chor_base.specs.Words.{AllDistinct}
use Rattle.chor_base.specs.Writing.{name_in}
use Rattle.endpoint_code.specs.Faults.{is_among, AreDistinct, no_name, one_more, without, all_among}
use Rattle.endpoint_laws.proofs.Trees.{names_words}

module _ (here there : List (List ℕ)) where
  -- both tables have the name, and it is the same word
  pub record Same (x n : NameId) : Type 0 where
    pub first : x.0 < length here
    pub second : n.0 < length there
    pub words : name_in here x ≡ name_in there n

  abbrev pub AllSame : List NameId → List NameId → Type 0
  AllSame xs ns = AllZip Same xs ns

  pub both_same : (xs ys ns ms : List NameId) → AllSame xs ns → AllSame ys ms → AllSame (xs ++ ys) (ns ++ ms)
  both_same [] ys [] ms h k = k
  both_same [] ys (n ∷ ns) ms h k = absurd h
  both_same (x ∷ xs) ys [] ms h k = absurd h
  both_same (x ∷ xs) ys (n ∷ ns) ms h k = (h.0, both_same xs ys ns ms h.1 k)

  pub as_many : (xs ns : List NameId) → AllSame xs ns → length xs ≡ length ns
  as_many [] [] h = refl
  as_many [] (n ∷ ns) h = absurd h
  as_many (x ∷ xs) [] h = absurd h
  as_many (x ∷ xs) (n ∷ ns) h = ap (λ k. suc k) (as_many xs ns h.1)

  module _ (dn : AllDistinct here) (dm : AllDistinct there) where
    pub same_number : {x n y m : NameId} → Same x n → Same y m → (x.0 == y.0) ≡ (n.0 == m.0)
    same_number {x} {n} {y} {m} h k =
        names_words here x y dn h.first k.first
        ∙ (λ i. bytes_eq (h.words i) (k.words i))
        ∙ sym (names_words there n m dm h.second k.second)

    pub same_among : {x n : NameId} → Same x n → (xs ns : List NameId) → AllSame xs ns → is_among x xs ≡ is_among n ns
    same_among h [] [] k = refl
    same_among h [] (m ∷ ns) k = absurd k
    same_among h (y ∷ xs) [] k = absurd k
    same_among h (y ∷ xs) (m ∷ ns) k = let a = same_number h k.0 in let b = same_among h xs ns k.1 in λ i. a i || b i

    pub same_without : {x n : NameId} → Same x n → (xs ns : List NameId) → AllSame xs ns → AllSame (without x xs) (without n ns)
    same_without h [] [] k = tt
    same_without h [] (m ∷ ns) k = absurd k
    same_without h (y ∷ xs) [] k = absurd k
    same_without {x} {n} h (y ∷ xs) (m ∷ ns) k =
        let r = same_without h xs ns k.1 in
        rw (same_number h k.0) (elim (n.0 == m.0) as (λ b. AllSame (if b then without x xs else y ∷ without x xs) (if b then without n ns else m ∷ without n ns)) [ true ↦ r | false ↦ (k.0, r) ])

    pub same_distinct : (xs ns : List NameId) → AllSame xs ns → AreDistinct xs → AreDistinct ns
    same_distinct [] [] h no_name = no_name
    same_distinct [] (m ∷ ns) h d = absurd h
    same_distinct (y ∷ xs) [] h d = absurd h
    same_distinct (y ∷ xs) (m ∷ ns) h (one_more f d) = one_more (sym (same_among h.0 xs ns h.1) ∙ f) (same_distinct xs ns h.1 d)

    pub same_all_among : (xs ns ys ms : List NameId) → AllSame xs ns → AllSame ys ms → all_among xs ys ≡ all_among ns ms
    same_all_among [] [] ys ms h k = refl
    same_all_among [] (n ∷ ns) ys ms h k = absurd h
    same_all_among (x ∷ xs) [] ys ms h k = absurd h
    same_all_among (x ∷ xs) (n ∷ ns) ys ms h k = let a = same_among h.0 ys ms k in let b = same_all_among xs ns ys ms h.1 k in λ i. a i && b i
