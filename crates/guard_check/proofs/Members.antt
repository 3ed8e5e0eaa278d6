-- Lists of names as sets.
use Rattle.std.proofs.Common.{◌≡◌, ℕ, ◌+◌, ◌==◌, ◌||◌, ◌&&◌, Bool, true, false, List, [], ◌∷◌, ◌++◌, refl, ap, sym, ◌∙◌, subst, arith, length, drop, add-one, drop-cons, ◌<◌, inl, inr, ◌⊎◌}
use Rattle.std.specs.Prelude.{map, not, slice_index_or, Contains}
use Rattle.std.proofs.lemmas.Bool.Decides.{nat_tests}
use Rattle.std.proofs.lemmas.List.{map-append}
use Rattle.std.proofs.lemmas.List.Folds.{list_any-append}
use Rattle.std.proofs.lemmas.Bool.{eqb-true}
use Rattle.chor_base.specs.declared.names.NameId.{NameId}
use Rattle.chor_base.proofs.Members.{nowhere, at_head, at_tail, head_or_tail}
use Rattle.chor_tree.specs.declared.tree.Part.{Part}
use Rattle.chor_tree.specs.declared.file.ProcParam.{ProcParam}
use Rattle.chor_tree.specs.Names.{is_among}

pub number_itself : (n : ℕ) → (n == n) ≡ true
number_itself n = grind (arith, nat_tests)

pub same_name : (x y : NameId) → (x.0 == y.0) ≡ true → x ≡ y
same_name x y h = let e = eqb-true x.0 y.0 h in let name : ℕ → NameId = λ n. record { 0 = n } in ap name e

-- the processes of two lists of parts
pub among_parts : (xs ys : List Part) (p : NameId) → is_among (map (λ q. q.process.name) (xs ++ ys)) p ≡ (is_among (map (λ q. q.process.name) xs) p || is_among (map (λ q. q.process.name) ys) p)
among_parts xs ys p =
    ap (λ l. is_among l p) (map-append (λ (q : Part). q.process.name) xs ys)
    ∙ list_any-append (λ (y : NameId). y.0 == p.0) (map (λ q. q.process.name) xs) (map (λ q. q.process.name) ys)

or_false : (a : Bool) → (a || false) ≡ a
or_false true = refl
or_false false = refl

pub among_one : (x p : NameId) → is_among (x ∷ []) p ≡ (x.0 == p.0)
among_one x p = or_false (x.0 == p.0)

pub among_two : (x y p : NameId) → is_among (x ∷ y ∷ []) p ≡ ((x.0 == p.0) || (y.0 == p.0))
among_two x y p = ap (λ b. (x.0 == p.0) || b) (or_false (y.0 == p.0))

-- ---- a list of those that aren't named, item by item

dropped : (l e r k : Bool) → (e ≡ true → k ≡ false) → (l || (r && k)) ≡ (l || ((e || r) && k))
dropped l true true k h = refl
dropped l true false k h = ap (λ b. l || b) (sym (h refl))
dropped l false r k h = refl

kept : (l e r k : Bool) → (e ≡ true → k ≡ true) → ((l || (e || false)) || (r && k)) ≡ (l || ((e || r) && k))
kept true e r k h = refl
kept false true r k h = sym (h refl)
kept false false r k h = refl

module _ (named : List NameId) where
  -- what those that were kept and those that are left have, but for the named ones
  abbrev pub both_have : List NameId → List NameId → NameId → Bool
  both_have list rest p = is_among list p || (is_among rest p && not (is_among named p))

  test_of : (x p : NameId) (b : Bool) → is_among named x ≡ b → (x.0 == p.0) ≡ true → not (is_among named p) ≡ not b
  test_of x p b h e = ap (λ n. not (is_among named n)) (sym (same_name x p e)) ∙ ap not h

  pub named_turn : (list : List NameId) (x : NameId) (rest : List NameId) (p : NameId) → is_among named x ≡ true → both_have list rest p ≡ both_have list (x ∷ rest) p
  named_turn list x rest p h = dropped (is_among list p) (x.0 == p.0) (is_among rest p) (not (is_among named p)) (test_of x p true h)

  pub unnamed_turn : (list : List NameId) (x : NameId) (rest : List NameId) (p : NameId) → is_among named x ≡ false → both_have (list ++ x ∷ []) rest p ≡ both_have list (x ∷ rest) p
  unnamed_turn list x rest p h =
      ap (λ b. b || (is_among rest p && not (is_among named p))) (list_any-append (λ (y : NameId). y.0 == p.0) list (x ∷ []))
      ∙ kept (is_among list p) (x.0 == p.0) (is_among rest p) (not (is_among named p)) (test_of x p false h)

-- ---- parameters by their names

taken : {X : Type 0} (xs : List X) (i : ℕ) (x d : X) → i < length xs → x ≡ slice_index_or xs i d → drop i xs ≡ x ∷ drop (i + 1) xs
taken xs i x d h e = (let p : drop i xs ≡ slice_index_or xs i d ∷ drop (i + 1) xs = rw (add-one, drop-cons xs i d) refl in p) ∙ ap (λ y. y ∷ drop (i + 1) xs) (sym e)

pub taken_from : {X : Type 0} (ys xs : List X) (i : ℕ) (x d : X) → ys ≡ xs → i < length ys → x ≡ slice_index_or ys i d → drop i xs ≡ x ∷ drop (i + 1) xs
taken_from ys xs i x d same h e = taken xs i x d (subst (λ l. i < length l) same h) (e ∙ ap (λ l. slice_index_or l i d) same)

or_right : (a b : Bool) → b ≡ true → (a || b) ≡ true
or_right true b h = refl
or_right false b h = h

pub among_params : (ps : List ProcParam) (q : ProcParam) → Contains ps q → is_among (map (λ r. r.name.name) ps) q.name.name ≡ true
among_params [] q m = absurd (nowhere q m)
among_params (p ∷ ps) q m = split (head_or_tail p ps q m) (λ k. among_params ps q k) where
  split : (p ≡ q) ⊎ Contains ps q → (Contains ps q → is_among (map (λ r. r.name.name) ps) q.name.name ≡ true) → ((p.name.name.0 == q.name.name.0) || is_among (map (λ r. r.name.name) ps) q.name.name) ≡ true
  split (inl e) k = ap (λ (r : ProcParam). (r.name.name.0 == q.name.name.0) || is_among (map (λ r. r.name.name) ps) q.name.name) e ∙ ap (λ b. b || is_among (map (λ r. r.name.name) ps) q.name.name) (number_itself q.name.name.0)
  split (inr m) k = or_right (p.name.name.0 == q.name.name.0) _ (k m)

-- a parameter of that name
pub record IsParamNamed (ps : List ProcParam) (x : NameId) : Type 0 where
  pub param : ProcParam
  pub is_param : Contains ps param
  pub is_name : param.name.name ≡ x

pub param_named : (ps : List ProcParam) (x : NameId) → is_among (map (λ r. r.name.name) ps) x ≡ true → IsParamNamed ps x
param_named [] x h = absurd cc
param_named (p ∷ ps) x h = go (p.name.name.0 == x.0) refl h (λ k. param_named ps x k) where
  go : (b : Bool) → (p.name.name.0 == x.0) ≡ b → (b || is_among (map (λ r. r.name.name) ps) x) ≡ true → (is_among (map (λ r. r.name.name) ps) x ≡ true → IsParamNamed ps x) → IsParamNamed (p ∷ ps) x
  go true e k rest = record { param = p; is_param = at_head p ps p refl; is_name = same_name p.name.name x e }
  go false e k rest = let r = rest k in record { param = r.param; is_param = at_tail p ps r.param r.is_param; is_name = r.is_name }
