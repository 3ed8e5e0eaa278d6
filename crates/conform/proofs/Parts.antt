-- The roles of a start's parts.
use Rattle.std.proofs.Common.{◌≡◌, ℕ, zero, suc, ◌<◌, ◌≤◌, Bool, true, false, List, [], ◌∷◌, ◌++◌, map, length, take, drop, refl, sym, ap, ◌∙◌, arith}
use Rattle.std.specs.Prelude.{◌↔◌, IsTrue, slice_index_or, nat_eq, not}
use Rattle.std.proofs.lemmas.List.{length-map}
use Rattle.std.proofs.lemmas.Bool.Decides.{nat_tests}
use Rattle.chor_base.specs.declared.names.NameId.{NameId}
use Rattle.chor_tree.specs.declared.file.Named.{Named}
use Rattle.chor_tree.specs.Names.{names_in}

abbrev pub roles_of : List (NameId × ℕ) → List NameId
roles_of ps = map (λ q. q.0) ps

same_at : (ps : List (NameId × ℕ)) (rs : List Named) (i : ℕ) (d : NameId × ℕ) (e : Named) → roles_of ps ≡ names_in rs → i < length rs → (slice_index_or ps i d).0 ≡ (slice_index_or rs i e).name
same_at ps [] i d e h lt = absurd (omega (arith, lt))
same_at [] (r ∷ rs) i d e h lt = absurd cc
same_at (q ∷ ps) (r ∷ rs) zero d e h lt = let w : q.0 ≡ r.name = cc in w
same_at (q ∷ ps) (r ∷ rs) (suc i) d e h lt = let w : roles_of ps ≡ names_in rs = cc in same_at ps rs i d e w (omega (arith, lt))

pub parts_differ : (ps : List (NameId × ℕ)) (rs : List Named) (i : ℕ) (d : NameId × ℕ) (e : Named) (t : Bool) → length ps ≡ length rs → i < length rs → t ≡ not (nat_eq (slice_index_or ps i d).0.0 (slice_index_or rs i e).name.0) → t ≡ true
    → IsTrue false ↔ (roles_of ps ≡ names_in rs)
parts_differ ps rs i d e t long lt is on = (λ h. absurd (let c : false ≡ true = h in cc), λ h. absurd (clash (ap (λ (n : NameId). n.0) (same_at ps rs i d e h lt))))
  where
    clash : (slice_index_or ps i d).0.0 ≡ (slice_index_or rs i e).name.0 → ⊥
    clash same = grind (arith, nat_tests)

cancel : {A : Type 0} (xs ys zs : List A) → xs ++ ys ≡ xs ++ zs → ys ≡ zs
cancel [] ys zs h = h
cancel (x ∷ xs) ys zs h = cancel xs ys zs cc

fronts : {A : Type 0} (xs ys as' bs : List A) → xs ++ ys ≡ as' ++ bs → length xs ≡ length as' → xs ≡ as'
fronts [] ys [] bs h l = refl
fronts [] ys (a ∷ as') bs h l = absurd (omega (arith, l))
fronts (x ∷ xs) ys [] bs h l = absurd (omega (arith, l))
fronts (x ∷ xs) ys (a ∷ as') bs h l =
    let one : x ≡ a = cc in
    let more : xs ++ ys ≡ as' ++ bs = cc in
    let rest = fronts xs ys as' bs more (omega (arith, l)) in
    λ i. one i ∷ rest i

length_front : {A : Type 0} (n : ℕ) (xs : List A) → n ≤ length xs → length (take n xs) ≡ n
length_front zero xs h = refl
length_front (suc n) [] h = absurd (omega (arith, h))
length_front (suc n) (x ∷ xs) h = ap suc (length_front n xs (omega (arith, h)))

split : (n : ℕ) (ps : List (NameId × ℕ)) → roles_of ps ≡ roles_of (take n ps) ++ roles_of (drop n ps)
split zero ps = refl
split (suc n) [] = refl
split (suc n) (q ∷ ps) = ap (λ l. q.0 ∷ l) (split n ps)

pub parts_of : (ps : List (NameId × ℕ)) (active serve : List Named) (front back : List (NameId × ℕ)) (one two : List Named) → one ≡ active → two ≡ serve → length one ≤ length ps → front ≡ take (length one) ps → back ≡ drop (length one) ps
    → (b : Bool) → IsTrue b ↔ (roles_of front ≡ names_in one) → b ≡ true → (r : Bool) → IsTrue r ↔ (roles_of back ≡ names_in two) → IsTrue r ↔ (roles_of ps ≡ names_in active ++ names_in serve)
parts_of ps active serve front back one two a s enough first rest b on is r more = (to, from)
  where
    head : roles_of (take (length one) ps) ≡ names_in active
    head = ap roles_of (sym first) ∙ on.0 is ∙ ap names_in a

    to : IsTrue r → roles_of ps ≡ names_in active ++ names_in serve
    to h =
        let tail : roles_of (drop (length one) ps) ≡ names_in serve = ap roles_of (sym rest) ∙ more.0 h ∙ ap names_in s in
        split (length one) ps ∙ (λ i. head i ++ tail i)

    from : roles_of ps ≡ names_in active ++ names_in serve → IsTrue r
    from h = more.1 (ap roles_of rest ∙ cancel (names_in active) (roles_of (drop (length one) ps)) (names_in serve) (ap (λ l. l ++ roles_of (drop (length one) ps)) (sym head) ∙ sym (split (length one) ps) ∙ h) ∙ ap names_in (sym s))

pub first_off : (ps : List (NameId × ℕ)) (active serve : List Named) (front : List (NameId × ℕ)) (one : List Named) → one ≡ active → length one ≤ length ps → front ≡ take (length one) ps
    → (b : Bool) → IsTrue b ↔ (roles_of front ≡ names_in one) → b ≡ false → IsTrue b ↔ (roles_of ps ≡ names_in active ++ names_in serve)
first_off ps active serve front one a enough first b on off = (λ h. absurd (let c : true ≡ false = sym h ∙ off in cc), back)
  where
    back : roles_of ps ≡ names_in active ++ names_in serve → IsTrue b
    back h =
        let count : length (roles_of (take (length one) ps)) ≡ length (names_in active) =
        length-map (take (length one) ps) (λ q. q.0) ∙ length_front (length one) ps enough ∙ sym (length-map one (λ x. x.name)) ∙ ap (λ l. length (names_in l)) a in
        let head : roles_of (take (length one) ps) ≡ names_in active = fronts (roles_of (take (length one) ps)) (roles_of (drop (length one) ps)) (names_in active) (names_in serve) (sym (split (length one) ps) ∙ h) count in
        on.1 (ap roles_of first ∙ head ∙ ap names_in (sym a))
