-- Lists of faults, of names, and of items with names.
use Rattle.std.proofs.Common.{◌≡◌, ℕ, zero, suc, ◌==◌, ◌||◌, ◌&&◌, Bool, true, false, List, [], ◌∷◌, ◌++◌, map, refl, sym, ap, ◌∙◌, subst, Some, arith, if◌then◌else◌}
use Rattle.std.specs.Prelude.{Contains, not}
use Rattle.std.specs.List.{flat_map}
use Rattle.std.proofs.lemmas.Bool.Decides.{nat_tests}
use Rattle.std.proofs.lemmas.Bool.{eqb-true}
use Rattle.chor_base.specs.declared.names.NameId.{NameId}
use Rattle.chor_base.specs.declared.rule.Rule.{Rule}
use Rattle.chor_base.specs.declared.rule.Rule.TheVariants.{N1, N2}
use Rattle.chor_base.proofs.Members.{at_head, at_tail}
use Rattle.chor_tree.specs.declared.file.Named.{Named as Written}
use Rattle.chor_tree.specs.Names.{is_among, are_same, fault_at, unknown, repeated, first_named}

-- ---- lists of faults

pub no_items : {A : Type 0} (xs : List A) → ((x : A) → Contains xs x → ⊥) → xs ≡ []
no_items [] h = refl
no_items (x ∷ xs) h = absurd (h x (at_head x xs x refl))

pub both_empty : {A : Type 0} (xs ys : List A) → xs ++ ys ≡ [] → (xs ≡ []) × (ys ≡ [])
both_empty [] ys h = (refl, h)
both_empty (x ∷ xs) ys h = absurd cc

pub each_empty : {A B : Type 0} (g : A → List B) (xs : List A) → flat_map g xs ≡ [] → (x : A) → Contains xs x → g x ≡ []
each_empty g [] h x (i, l, e) = absurd (omega (arith, l))
each_empty g (y ∷ ys) h x (zero, l, e) = ap g (sym e) ∙ (both_empty (g y) (flat_map g ys) h).0
each_empty g (y ∷ ys) h x (suc i, l, e) = each_empty g ys (both_empty (g y) (flat_map g ys) h).1 x (i, omega (arith, l), e)

pub no_fault_at : (b : Bool) (r : Rule) (x : Written) → fault_at b r x ≡ [] → b ≡ false
no_fault_at true r x h = absurd cc
no_fault_at false r x h = refl

pub not_true : (b : Bool) → not b ≡ false → b ≡ true
not_true true h = refl
not_true false h = absurd cc

pub is_known : (known : List NameId) (x : Written) → unknown known x ≡ [] → is_among known x.name ≡ true
is_known known x h = not_true (is_among known x.name) (no_fault_at (not (is_among known x.name)) N1 x h)

-- ---- names

pub name_same : (x y : NameId) → x.0 ≡ y.0 → x ≡ y
name_same x y e = let name : ℕ → NameId = λ n. record { 0 = n } in ap name e

pub itself : (n : ℕ) → (n == n) ≡ true
itself n = grind (arith, nat_tests)

pub same_names : (xs ys : List NameId) → are_same xs ys ≡ true → xs ≡ ys
same_names [] [] h = refl
same_names [] (y ∷ ys) h = absurd cc
same_names (x ∷ xs) [] h = absurd cc
same_names (x ∷ xs) (y ∷ ys) h = go (x.0 == y.0) refl h (same_names xs ys)
  where
    go : (b : Bool) → (x.0 == y.0) ≡ b → (b && are_same xs ys) ≡ true → (are_same xs ys ≡ true → xs ≡ ys) → x ∷ xs ≡ y ∷ ys
    go true e i ih = let here = name_same x y (eqb-true x.0 y.0 e) in let rest = ih i in cc
    go false e i ih = absurd cc

false_or : (a b : Bool) → (a || b) ≡ false → (a ≡ false) × (b ≡ false)
false_or true b h = absurd cc
false_or false b h = (refl, h)

pub or_right : (a b : Bool) → b ≡ true → (a || b) ≡ true
or_right true b h = refl
or_right false b h = h

-- a name that a list repeats is known
later_known : (known : List NameId) (ws : List Written) (w : Written) → repeated known ws ≡ [] → Contains ws w → is_among known w.name ≡ false
later_known known [] w h (i, l, e) = absurd (omega (arith, l))
later_known known (x ∷ xs) w h (zero, l, e) =
    subst (λ (y : Written). is_among known y.name ≡ false) e (no_fault_at (is_among known x.name) N2 x (both_empty (fault_at (is_among known x.name) N2 x) (repeated (x.name ∷ known) xs) h).0)
later_known known (x ∷ xs) w h (suc i, l, e) =
    (false_or _ _ (later_known (x.name ∷ known) xs w (both_empty (fault_at (is_among known x.name) N2 x) (repeated (x.name ∷ known) xs) h).1 (i, omega (arith, l), e))).1

-- where no name stands twice, the first item of a name is the only one
pub first_is : {A : Type 0} (nm : A → Written) (xs : List A) (known : List NameId) → repeated known (map nm xs) ≡ [] → (x : A) → Contains xs x → first_named nm xs (nm x).name ≡ Some x
first_is nm [] known h x (i, l, e) = absurd (omega (arith, l))
first_is nm (y ∷ ys) known h x (zero, l, e) =
    ap (λ b. if b then Some y else first_named nm ys (nm x).name) (ap (λ z. (nm y).name.0 == (nm z).name.0) (sym e) ∙ itself (nm y).name.0) ∙ ap (λ z. Some z) e
first_is nm (y ∷ ys) known h x (suc i, l, e) =
    let rest = (both_empty (fault_at (is_among known (nm y).name) N2 (nm y)) (repeated ((nm y).name ∷ known) (map nm ys)) h).1 in
    let there : Contains ys x = (i, omega (arith, l), e) in
    let apart = (false_or _ _ (later_known ((nm y).name ∷ known) (map nm ys) (nm x) rest (mapped ys there))).0 in
    ap (λ b. if b then Some y else first_named nm ys (nm x).name) apart ∙ first_is nm ys ((nm y).name ∷ known) rest x there
  where
    mapped : (zs : List _) → Contains zs x → Contains (map nm zs) (nm x)
    mapped [] (j, m, f) = absurd (omega (arith, m))
    mapped (z ∷ zs) (zero, m, f) = at_head (nm z) (map nm zs) (nm x) (ap nm f)
    mapped (z ∷ zs) (suc j, m, f) = at_tail (nm z) (map nm zs) (nm x) (mapped zs (j, omega (arith, m), f))

-- an item of that name is there
pub named_among : {A : Type 0} (nm : A → Written) (xs : List A) (n : NameId) (x : A) → first_named nm xs n ≡ Some x → is_among (map (λ x. (nm x).name) xs) n ≡ true
named_among nm [] n x h = absurd cc
named_among nm (y ∷ ys) n x h = go ((nm y).name.0 == n.0) h (named_among nm ys n x)
  where
    go : (b : Bool) → (if b then Some y else first_named nm ys n) ≡ Some x → (first_named nm ys n ≡ Some x → is_among (map (λ x. (nm x).name) ys) n ≡ true) → (b || is_among (map (λ x. (nm x).name) ys) n) ≡ true
    go true e ih = refl
    go false e ih = ih e
