-- Names that stand twice, found from left to right.
use Rattle.std.proofs.Common.{◌≡◌, ℕ, ◌+◌, ◌<◌, ◌≤◌, ◌==◌, ◌||◌, List, [], ◌∷◌, ◌++◌, length, map, drop, add-one, drop-cons, refl, ap, sym, ◌∙◌, subst, append_assoc, Bool, true, false}
use Rattle.std.proofs.lemmas.List.{append-nil, drop_all}
use Rattle.std.specs.Prelude.{slice_index_or, Option}
use Rattle.chor_base.specs.declared.names.NameId.{NameId}
use Rattle.chor_base.specs.declared.rule.Rule.TheVariants.{N2}
use Rattle.chor_tree.specs.declared.file.Named.{Named}
use Rattle.chor_tree.specs.declared.tree.Part.{Part}
use Rattle.chor_base.specs.declared.fault.Fault.{Fault}
use Rattle.chor_tree.specs.Names.{is_among, names_in, fault_at, repeated, Scope}
use Rattle.chor_base.specs.Faults.{earlier, first_of_all}
use Rattle.name_resolution.specs.Places.{names_of}
use Rattle.name_resolution.specs.Sets.{AreAlike, IsSameScope, BeginsWith, Grows, with_name, scope_of, bound_in}
use Rattle.chor_base.proofs.Faults.{first_append, earlier_assoc, earlier_none}
use Rattle.name_resolution.proofs.Members.{alike_turn, among_append, with_last, with_first_of_two, with_second_of_two, grows_on, grows_with}

pub repeated_alike : (ks ls : List NameId) (xs : List Named) → AreAlike ks ls → repeated ks xs ≡ repeated ls xs
repeated_alike ks ls [] h = refl
repeated_alike ks ls (x ∷ xs) h =
    ap (λ b. fault_at b N2 x ++ repeated (x.name ∷ ks) xs) (h x.name)
    ∙ ap (λ l. fault_at (is_among ls x.name) N2 x ++ l) (repeated_alike (x.name ∷ ks) (x.name ∷ ls) xs (λ y. ap (λ b. (x.name.0 == y.0) || b) (h y)))

-- what is left of a list where one item is taken
pub taken : {X : Type 0} (xs : List X) (i : ℕ) (x d : X) → i < length xs → x ≡ slice_index_or xs i d → drop i xs ≡ x ∷ drop (i + 1) xs
taken xs i x d h e = (let p : drop i xs ≡ slice_index_or xs i d ∷ drop (i + 1) xs = rw (add-one, drop-cons xs i d) refl in p) ∙ ap (λ y. y ∷ drop (i + 1) xs) (sym e)

-- the same, where the items ys are those of the list
pub taken_from : {X : Type 0} (ys xs : List X) (i : ℕ) (x d : X) → ys ≡ xs → i < length ys → x ≡ slice_index_or ys i d → drop i xs ≡ x ∷ drop (i + 1) xs
taken_from ys xs i x d same h e = taken xs i x d (subst (λ l. i < length l) same h) (e ∙ ap (λ l. slice_index_or l i d) same)

pub names_in_map : {X : Type 0} (f : X → Named) (xs : List X) → names_in (map f xs) ≡ names_of f xs
names_in_map f [] = refl
names_in_map f (x ∷ xs) = ap (λ l. (f x).name ∷ l) (names_in_map f xs)

-- one name of a list is looked at and becomes known
pub repeated_step : (known new : List NameId) (old found : Option Fault) (x : Named) (rest : List Named) (whole : Option Fault)
    → AreAlike new (x.name ∷ known) → found ≡ first_of_all (fault_at (is_among known x.name) N2 x)
    → earlier old (first_of_all (repeated known (x ∷ rest))) ≡ whole
    → earlier (earlier old found) (first_of_all (repeated new rest)) ≡ whole
repeated_step known new old found x rest whole is_new is h =
    ap (λ l. earlier (earlier old found) (first_of_all l)) (repeated_alike new (x.name ∷ known) rest is_new)
    ∙ earlier_assoc old found (first_of_all (repeated (x.name ∷ known) rest))
    ∙ ap (λ o. earlier old (earlier o (first_of_all (repeated (x.name ∷ known) rest)))) is
    ∙ ap (λ o. earlier old o) (sym (first_append (fault_at (is_among known x.name) N2 x) (repeated (x.name ∷ known) rest)))
    ∙ h

-- the same in a loop over the items ys, which are those of the list xs
pub repeated_turn : {X : Type 0} (f : X → Named) (known new : List NameId) (old one first : Option Fault) (ys xs : List X) (i : ℕ) (x d : X) (n : Named) (whole : Option Fault)
    → ys ≡ xs → i < length ys → x ≡ slice_index_or ys i d → n ≡ f x
    → AreAlike new (n.name ∷ known) → one ≡ first_of_all (fault_at (is_among known n.name) N2 n) → first ≡ earlier old one
    → earlier old (first_of_all (repeated known (map f (drop i xs)))) ≡ whole
    → earlier first (first_of_all (repeated new (map f (drop (i + 1) xs)))) ≡ whole
repeated_turn f known new old one first ys xs i x d n whole same lt is_x is_n is_new is_one is_first so_far =
    ap (λ o. earlier o (first_of_all (repeated new (map f (drop (i + 1) xs))))) is_first
    ∙ repeated_step known new old one n (map f (drop (i + 1) xs)) whole is_new is_one
    (ap (λ m. earlier old (first_of_all (repeated known (m ∷ map f (drop (i + 1) xs))))) is_n
    ∙ ap (λ l. earlier old (first_of_all (repeated known (map f l)))) (sym (taken_from ys xs i x d same lt is_x)) ∙ so_far)

pub known_turn : {X : Type 0} (f : X → Named) (known new all : List NameId) (ys xs : List X) (i : ℕ) (x d : X) (n : Named)
    → ys ≡ xs → i < length ys → x ≡ slice_index_or ys i d → n ≡ f x → new ≡ with_name known n.name
    → AreAlike (known ++ names_of f (drop i xs)) all
    → AreAlike (new ++ names_of f (drop (i + 1) xs)) all
known_turn f known new all ys xs i x d n same lt is_x is_n is_new so_far =
    let rest = names_of f (drop (i + 1) xs) in
    let before : AreAlike (known ++ n.name ∷ rest) all = subst (λ l. AreAlike (known ++ l) all) (ap (λ l. names_of f l) (taken_from ys xs i x d same lt is_x) ∙ ap (λ m. m.name ∷ rest) (sym is_n)) so_far in
    subst (λ l. AreAlike (l ++ rest) all) (sym is_new) (alike_turn known all n.name rest before)

-- a name is looked for in a list
module _ {X : Type 0} (f : X → Named) (xs : List X) (i : ℕ) (x : X) (n : Named) (name : NameId) where
  looked : (b : Bool) → i < length xs → x ≡ slice_index_or xs i x → n ≡ f x → (n.name.0 == name.0) ≡ b → is_among (names_of f (drop i xs)) name ≡ (b || is_among (names_of f (drop (i + 1) xs)) name)
  looked b lt is_x is_n same =
      let rest = is_among (names_of f (drop (i + 1) xs)) name in
      ap (λ l. is_among (names_of f l) name) (taken xs i x x lt is_x) ∙ ap (λ m. (m.name.0 == name.0) || rest) (sym is_n) ∙ ap (λ b. b || rest) same

  pub found_here : i < length xs → x ≡ slice_index_or xs i x → n ≡ f x → (n.name.0 == name.0) ≡ true → is_among (names_of f (drop i xs)) name ≡ true
  found_here = looked true

  pub not_here : i < length xs → x ≡ slice_index_or xs i x → n ≡ f x → (n.name.0 == name.0) ≡ false → is_among (names_of f (drop (i + 1) xs)) name ≡ is_among (names_of f (drop i xs)) name
  not_here lt is_x is_n other = sym (looked false lt is_x is_n other)

-- in two lists, one after the other
pub repeated_append : (ks ls : List NameId) (xs ys : List Named) → AreAlike ls (ks ++ names_in xs) → repeated ks (xs ++ ys) ≡ repeated ks xs ++ repeated ls ys
repeated_append ks ls [] ys h = repeated_alike ks ls ys (λ y. ap (λ l. is_among l y) (sym (append-nil ks)) ∙ sym (h y))
repeated_append ks ls (x ∷ xs) ys h =
    ap (λ l. fault_at (is_among ks x.name) N2 x ++ l) (repeated_append (x.name ∷ ks) ls xs ys (λ y. h y ∙ moved y))
    ∙ sym (append_assoc (fault_at (is_among ks x.name) N2 x) (repeated (x.name ∷ ks) xs) (repeated ls ys)) where
      moved : (y : NameId) → is_among (ks ++ x.name ∷ names_in xs) y ≡ is_among ((x.name ∷ ks) ++ names_in xs) y
      moved y = among_append ks (x.name ∷ names_in xs) y ∙ shuffled (is_among ks y) (x.name.0 == y.0) (is_among (names_in xs) y) ∙ sym (among_append (x.name ∷ ks) (names_in xs) y) where
        shuffled : (a b c : Bool) → (a || (b || c)) ≡ ((b || a) || c)
        shuffled true true c = refl
        shuffled true false c = refl
        shuffled false true c = refl
        shuffled false false c = refl

-- nothing is left of the list
pub repeated_ends : {X : Type 0} (f : X → Named) (known : List NameId) (first whole : Option Fault) (ys xs : List X) (i : ℕ)
    → ys ≡ xs → length ys ≤ i → earlier first (first_of_all (repeated known (map f (drop i xs)))) ≡ whole → first ≡ whole
repeated_ends f known first whole ys xs i same le h =
    let none : drop i xs ≡ [] = drop_all i xs (subst (λ l. length l ≤ i) same le) in
    sym (earlier_none first) ∙ ap (λ l. earlier first (first_of_all (repeated known (map f l)))) (sym none) ∙ h

-- ---- in a scope

-- a session came into the scope, and then processes did
pub bound_on : (s inside t : Scope) (new : List NameId) (k : Named) (serve : List Part) → inside ≡ s → new ≡ with_name inside.sessions k.name
    → IsSameScope t (scope_of (inside.processes ++ map (λ q. q.process.name) serve) new) → IsSameScope t (bound_in s k serve)
bound_on s inside t new k serve e is h = record {
  processes = λ y. h.processes y ∙ ap (λ u. is_among (u.processes ++ map (λ q. q.process.name) serve) y) e;
  sessions = λ y. h.sessions y ∙ ap (λ l. is_among l y) is ∙ with_last inside.sessions k.name y ∙ ap (λ u. is_among (u.sessions ++ k.name ∷ []) y) e;
}

pub begins_bound : (s inside t : Scope) (new : List NameId) (k : Named) → inside ≡ s → new ≡ with_name inside.sessions k.name
    → BeginsWith (scope_of inside.processes new) t → BeginsWith s t
begins_bound s inside t new k e is h = subst (λ u. BeginsWith u t) e (record {
  processes = h.processes;
  sessions = grows_on inside.sessions new t.sessions (subst (λ l. Grows inside.sessions l) (sym is) (grows_with inside.sessions k.name)) h.sessions;
})

pub alike_here : (s inside : Scope) (new : List NameId) (x : NameId) → inside ≡ s → new ≡ with_name inside.processes x → AreAlike (new ++ inside.sessions) (x ∷ (s.processes ++ s.sessions))
alike_here s inside new x e is =
    let here : AreAlike (new ++ inside.sessions) (x ∷ (inside.processes ++ inside.sessions)) = subst (λ l. AreAlike (l ++ inside.sessions) (x ∷ (inside.processes ++ inside.sessions))) (sym is) (with_first_of_two inside.processes inside.sessions x) in
    subst (λ t. AreAlike (new ++ inside.sessions) (x ∷ (t.processes ++ t.sessions))) e here

pub known_ends : {X : Type 0} (f : X → Named) (ks all : List NameId) (ys xs : List X) (i : ℕ) → ys ≡ xs → length ys ≤ i → AreAlike (ks ++ names_of f (drop i xs)) all → AreAlike ks all
known_ends f ks all ys xs i same le h =
    let none : drop i xs ≡ [] = drop_all i xs (subst (λ l. length l ≤ i) same le) in
    let rest : ks ++ names_of f (drop i xs) ≡ ks = ap (λ l. ks ++ names_of f l) none ∙ append-nil ks in
    subst (λ l. AreAlike l all) rest h

pub alike_second : (s inside : Scope) (new : List NameId) (x : NameId) → inside ≡ s → new ≡ with_name inside.sessions x → AreAlike (inside.processes ++ new) (x ∷ (s.processes ++ s.sessions))
alike_second s inside new x e is =
    let here : AreAlike (inside.processes ++ new) (x ∷ (inside.processes ++ inside.sessions)) = subst (λ l. AreAlike (inside.processes ++ l) (x ∷ (inside.processes ++ inside.sessions))) (sym is) (with_second_of_two inside.processes inside.sessions x) in
    subst (λ t. AreAlike (inside.processes ++ new) (x ∷ (t.processes ++ t.sessions))) e here
