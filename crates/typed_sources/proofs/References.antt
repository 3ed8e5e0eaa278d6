-- Names of a source as references, and the tests of them.
use Rattle.std.proofs.Common.{◌≡◌, ℕ, suc, List, [], ◌∷◌, ◌++◌, map, length, refl, ap, ◌∙◌, Bool, true, false, ◌==◌, ◌&&◌, ◌||◌, arith}
use Rattle.std.specs.Prelude.{not}
use Rattle.std.specs.List.{list_all}
use Rattle.std.proofs.lemmas.Bool.{and_parts}
use Rattle.chor_base.specs.declared.names.NameId.{NameId}
use Rattle.chor_tree.specs.declared.file.Named.{Named as Written}
use Rattle.chor_tree.specs.declared.tree.Part.{Part}
use Rattle.chor_tree.specs.Names.{is_among, names_in}
use Rattle.chor_semantics.specs.Choreography.{Ref, Named, ref_eq, among}
use Rattle.chor_semantics.specs.Sources.{name_ref, parts_of, served_of}
use Rattle.well_formed.specs.WellFormed.{AllIn, AreDistinctRefs, AreNoDeeper, entered, firsts, names_in_scope}
use Rattle.well_formed.proofs.References.{clash}
use Rattle.delegation.specs.Checks.{all_differ}
use Rattle.typed_sources.proofs.Opened.{eq_flip}
use Rattle.typed_sources.proofs.Arguments.{named}
use Rattle.typed_sources.proofs.Opened.{not_is}
use Rattle.typed_sources.proofs.Scopes.{among_front}

and_true : (b : Bool) → (b && true) ≡ b
and_true true = refl
and_true false = refl

pub named_eq : (x y : ℕ) → ref_eq (Named x 0) (Named y 0) ≡ (y == x)
named_eq x y = and_true (x == y) ∙ eq_flip x y

pub among_named : (xs : List NameId) (x : ℕ) → among (Named x 0) (names_in_scope xs) ≡ is_among xs (named x)
among_named [] x = refl
among_named (z ∷ zs) x = ap (λ b. b || among (Named x 0) (names_in_scope zs)) (named_eq x z.0) ∙ ap (λ b. (z.0 == x) || b) (among_named zs x)

pub distinct_refs : (xs : List NameId) → all_differ xs ≡ true → AreDistinctRefs (names_in_scope xs)
distinct_refs [] h = tt
distinct_refs (x ∷ xs) h = let w = and_parts _ _ h in (among_named xs x.0 ∙ not_is (is_among xs x) w.0, distinct_refs xs w.1)

pub all_in : (n : ℕ) (bs : List Ref) (scope : List NameId) → ((x : ℕ) → among (Named x 0) bs ≡ is_among scope (named x)) → (xs : List NameId) → list_all (λ x. is_among scope x) xs ≡ true → AllIn n bs (names_in_scope xs)
all_in n bs scope a [] h = tt
all_in n bs scope a (x ∷ xs) h = let w = and_parts _ _ h in (a x.0 ∙ w.0, all_in n bs scope a xs w.1)

pub refs_same : (ps : List Written) → map name_ref ps ≡ names_in_scope (names_in ps)
refs_same [] = refl
refs_same (p ∷ ps) = ap (λ l. name_ref p ∷ l) (refs_same ps)

pub firsts_same : (ps : List Part) → firsts (parts_of ps) ≡ names_in_scope (map (λ q. q.process.name) ps)
firsts_same [] = refl
firsts_same (p ∷ ps) = ap (λ l. name_ref p.process ∷ l) (firsts_same ps)

pub roles_same : (ps : List Part) → map (λ p. p.1) (parts_of ps) ≡ map (λ q. q.role.name) ps
roles_same [] = refl
roles_same (p ∷ ps) = ap (λ l. p.role.name ∷ l) (roles_same ps)

pub served_roles : (ps : List Part) → map (λ p. p.1) (served_of ps) ≡ map (λ q. q.role.name) ps
served_roles [] = refl
served_roles (p ∷ ps) = ap (λ l. p.role.name ∷ l) (served_roles ps)

pub list_of : {A : Type 0} (nm : A → NameId) (scope : List NameId) (xs : List A) → list_all (λ x. is_among scope (nm x)) xs ≡ true → list_all (λ x. is_among scope x) (map nm xs) ≡ true
list_of nm scope [] h = refl
list_of nm scope (x ∷ xs) h = let w = and_parts _ _ h in ap (λ b. b && list_all (λ x. is_among scope x) (map nm xs)) w.0 ∙ list_of nm scope xs w.1

pub no_deeper : (xs : List NameId) → AreNoDeeper 0 (names_in_scope xs)
no_deeper [] = tt
no_deeper (x ∷ xs) = (omega arith, no_deeper xs)

pub length_map : {A B : Type 0} (g : A → B) (xs : List A) → length (map g xs) ≡ length xs
length_map g [] = refl
length_map g (x ∷ xs) = ap suc (length_map g xs)

pub front_differ : (xs ys : List NameId) → all_differ (xs ++ ys) ≡ true → all_differ xs ≡ true
front_differ [] ys h = refl
front_differ (x ∷ xs) ys h = let w = and_parts _ _ h in both (is_among xs x) (is_among (xs ++ ys) x) (among_front xs ys x) w.0 (front_differ xs ys w.1)
  where
    both : (a b : Bool) → (a ≡ true → b ≡ true) → not b ≡ true → all_differ xs ≡ true → (not a && all_differ xs) ≡ true
    both true b i n d = absurd (clash (i refl) (not_is b n))
    both false b i n d = d

-- ---- new processes

or_swap : (a b c : Bool) → (a || (b || c)) ≡ ((b || a) || c)
or_swap true true c = refl
or_swap true false c = refl
or_swap false b c = go b
  where
    go : (b : Bool) → (b || c) ≡ ((b || false) || c)
    go true = refl
    go false = refl

pub among_entered : (ps : List Part) (bs : List Ref) (x : ℕ) → among (Named x 0) (entered 0 (served_of ps) bs) ≡ (is_among (map (λ q. q.process.name) ps) (named x) || among (Named x 0) bs)
among_entered [] bs x = refl
among_entered (p ∷ ps) bs x =
    among_entered ps (Named p.process.name.0 0 ∷ bs) x
    ∙ ap (λ b. is_among (map (λ q. q.process.name) ps) (named x) || (b || among (Named x 0) bs)) (named_eq x p.process.name.0)
    ∙ or_swap (is_among (map (λ q. q.process.name) ps) (named x)) (p.process.name.0 == x) (among (Named x 0) bs)

pub no_deeper_entered : (ps : List Part) (bs : List Ref) → AreNoDeeper 0 bs → AreNoDeeper 0 (entered 0 (served_of ps) bs)
no_deeper_entered [] bs h = h
no_deeper_entered (p ∷ ps) bs h = no_deeper_entered ps (Named p.process.name.0 0 ∷ bs) (omega arith, h)
