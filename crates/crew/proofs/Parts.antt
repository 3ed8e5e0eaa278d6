-- The parts of a start, and what becomes of their processes.
use Rattle.std.proofs.Common.{◌≡◌, ◌≢◌, ℕ, zero, suc, ◌+◌, ◌<◌, ◌≤◌, ◌==◌, ◌||◌, ◌⊎◌, inl, inr, Bool, true, false, List, [], ◌∷◌, ◌++◌, length, get_or, take, refl, sym, ap, ◌∙◌, subst, append_assoc, Option, Some, None, arith, length-append}
use Rattle.std.specs.Prelude.{slice_get, slice_set, All, nat_lt}
use Rattle.std.proofs.lemmas.List.{length-set}
use Rattle.std.proofs.lemmas.List.Elements.{All-nil, All-cons, All-head, All-tail, All-append, All-weaker}
use Rattle.std.proofs.lemmas.Bool.{eqb-true, eqb-false}
use Rattle.std.proofs.lemmas.Bool.Decides.{nat_tests}
use Rattle.std.proofs.lemmas.Option.{slice_get_past}
use Rattle.chor_base.proofs.Lists.{get_set_other}
use Rattle.chor_base.specs.declared.names.NameId.{NameId}
use Rattle.endpoint_code.specs.declared.endpoints.Endpoints.{Endpoints}
use Rattle.endpoint_code.specs.Network.{Machine, NetworkState, joins, joiners, one_joiner, with_machines, served, served_parts}
use Rattle.session_starts.specs.Starts.{AreApart, no_part, one_part}
use Rattle.session_starts.proofs.Joins.{apart_head, apart_tail}
use Rattle.crew.specs.Starts.{served_one}
use Rattle.crew.proofs.Numbers.{set_own}

-- whether a process has one of the parts
abbrev pub has_part : ℕ → List (NameId × ℕ) → Bool
has_part p [] = false
has_part p (q ∷ qs) = (q.1 == p) || has_part p qs

same_test : (a : ℕ) → (a == a) ≡ true
same_test a = grind (arith, nat_tests)

other_test : (a b : ℕ) → a ≢ b → (a == b) ≡ false
other_test a b h = go (a == b) refl
  where
    go : (t : Bool) → (a == b) ≡ t → t ≡ false
    go true i = absurd (h (eqb-true a b i))
    go false i = refl

or_false : (a b : Bool) → (a || b) ≡ false → (a ≡ false) × (b ≡ false)
or_false true b h = absurd cc
or_false false b h = (refl, h)

or_true : (a : Bool) → (a || true) ≡ true
or_true true = refl
or_true false = refl

pub has_append : (p : ℕ) (qs rs : List (NameId × ℕ)) → has_part p (qs ++ rs) ≡ (has_part p qs || has_part p rs)
has_append p [] rs = refl
has_append p (q ∷ qs) rs = ap (λ b. (q.1 == p) || b) (has_append p qs rs) ∙ assoc (q.1 == p) (has_part p qs) (has_part p rs)
  where
    assoc : (a b c : Bool) → (a || (b || c)) ≡ ((a || b) || c)
    assoc true b c = refl
    assoc false b c = refl

-- no part of others
apart_none : (p : ℕ) (qs : List (NameId × ℕ)) → All (λ q. q.1 ≢ p) qs → has_part p qs ≡ false
apart_none p [] h = refl
apart_none p (q ∷ qs) h = ap (λ b. b || has_part p qs) (other_test q.1 p (All-head (λ (x : NameId × ℕ). x.1 ≢ p) q qs h)) ∙ apart_none p qs (All-tail (λ (x : NameId × ℕ). x.1 ≢ p) q qs h)

-- a process has no part before its own
pub once : (qs : List (NameId × ℕ)) (i : ℕ) (d : NameId × ℕ) → AreApart qs → i < length qs → has_part (get_or qs i d).1 (take i qs) ≡ false
once [] i d apart lt = absurd (omega (arith, lt))
once (q ∷ qs) zero d apart lt = refl
once (q ∷ qs) (suc i) d apart lt =
    let later : (get_or qs i d).1 ≢ q.1 = apart_head q qs apart i d (omega arith) in
    ap (λ b. b || has_part (get_or qs i d).1 (take i qs)) (other_test q.1 (get_or qs i d).1 (λ same. later (sym same))) ∙ once qs i d (apart_tail q qs apart) (omega arith)

-- who has a part is at its place
pub part_place : (p : ℕ) (qs : List (NameId × ℕ)) → has_part p qs ≡ true → (i : ℕ) × (i < length qs) × ((d : NameId × ℕ) → (get_or qs i d).1 ≡ p)
part_place p [] h = absurd cc
part_place p (q ∷ qs) h = go (q.1 == p) refl h (part_place p qs)
  where
    go : (b : Bool) → (q.1 == p) ≡ b → (b || has_part p qs) ≡ true → (has_part p qs ≡ true → (i : ℕ) × (i < length qs) × ((d : NameId × ℕ) → (get_or qs i d).1 ≡ p)) → (i : ℕ) × (i < length (q ∷ qs)) × ((d : NameId × ℕ) → (get_or (q ∷ qs) i d).1 ≡ p)
    go true t i more = (0, omega arith, λ d. eqb-true q.1 p t)
    go false t i more = (let m = more i in (suc m.0, omega (arith, m.1), m.2))

-- ---- numbers of service roles

pub served_from : (rs : List NameId) (first : ℕ) → All (λ q. first ≤ q.1) (served_parts rs first)
served_from [] first = All-nil (λ (q : NameId × ℕ). first ≤ q.1)
served_from (r ∷ rs) first =
    All-cons (λ (q : NameId × ℕ). first ≤ q.1) (r, first) (served_parts rs (suc first)) (omega arith)
    (All-weaker (λ (q : NameId × ℕ). suc first ≤ q.1) (λ (q : NameId × ℕ). first ≤ q.1) (λ q h. omega (arith, h)) (served_parts rs (suc first)) (served_from rs (suc first)))

served_apart : (rs : List NameId) (first : ℕ) → AreApart (served_parts rs first)
served_apart [] first = no_part
served_apart (r ∷ rs) first =
    one_part (All-weaker (λ (q : NameId × ℕ). suc first ≤ q.1) (λ (q : NameId × ℕ). q.1 ≢ first) (λ q h same. omega (arith, h, same)) (served_parts rs (suc first)) (served_from rs (suc first))) (served_apart rs (suc first))

-- those that join and new ones
pub all_apart : (qs : List (NameId × ℕ)) (rs : List NameId) (first : ℕ) → AreApart qs → All (λ q. q.1 < first) qs → AreApart (qs ++ served_parts rs first)
all_apart [] rs first apart below = served_apart rs first
all_apart (q ∷ qs) rs first apart below =
    one_part (All-append (λ (x : NameId × ℕ). x.1 ≢ q.1) qs (served_parts rs first) (apart_head q qs apart)
    (All-weaker (λ (x : NameId × ℕ). first ≤ x.1) (λ (x : NameId × ℕ). x.1 ≢ q.1) (λ x h same. let lt = All-head (λ (y : NameId × ℕ). y.1 < first) q qs below in omega (arith, h, same, lt)) (served_parts rs first) (served_from rs first)))
    (all_apart qs rs first (apart_tail q qs apart) (All-tail (λ (y : NameId × ℕ). y.1 < first) q qs below))

served_before : (rs : List NameId) (first i p : ℕ) (d : NameId × ℕ) → i < length (served_parts rs first) → first ≤ p → p < (get_or (served_parts rs first) i d).1 → has_part p (take i (served_parts rs first)) ≡ true
served_before [] first i p d lt le less = absurd (omega (arith, lt))
served_before (r ∷ rs) first zero p d lt le less = absurd (omega (arith, le, less))
served_before (r ∷ rs) first (suc i) p d lt le less = go (first == p) refl (λ le. served_before rs (suc first) i p d (omega (arith, lt)) le less)
  where
    go : (b : Bool) → (first == p) ≡ b → (suc first ≤ p → has_part p (take i (served_parts rs (suc first))) ≡ true) → ((first == p) || has_part p (take i (served_parts rs (suc first)))) ≡ true
    go true t more = ap (λ b. b || has_part p (take i (served_parts rs (suc first)))) t
    go false t more = (let apart : first ≢ p = eqb-false first p t in ap (λ b. (first == p) || b) (more (omega (arith, le, apart))) ∙ or_true (first == p))

-- before a new process each number from the first new one on has its part
pub all_before : (qs : List (NameId × ℕ)) (rs : List NameId) (first i p : ℕ) (d : NameId × ℕ) → All (λ q. q.1 < first) qs → i < length (qs ++ served_parts rs first) → first ≤ p → p < (get_or (qs ++ served_parts rs first) i d).1 → has_part p (take i (qs ++ served_parts rs first)) ≡ true
all_before [] rs first i p d below lt le less = served_before rs first i p d lt le less
all_before (q ∷ qs) rs first zero p d below lt le less = (let h = All-head (λ (y : NameId × ℕ). y.1 < first) q qs below in absurd (omega (arith, h, le, less)))
all_before (q ∷ qs) rs first (suc i) p d below lt le less =
    ap (λ b. (q.1 == p) || b) (all_before qs rs first i p d (All-tail (λ (y : NameId × ℕ). y.1 < first) q qs below) (omega (arith, lt)) le less) ∙ or_true (q.1 == p)

none_served : (rs : List NameId) (first p : ℕ) → first ≤ p → has_part p (served_parts rs first) ≡ false → first + length rs ≤ p
none_served [] first p le h = omega (arith, le)
none_served (r ∷ rs) first p le h =
    let parts = or_false (first == p) (has_part p (served_parts rs (suc first))) h in
    let apart : first ≢ p = eqb-false first p parts.0 in
    let more = none_served rs (suc first) p (omega (arith, le, apart)) parts.1 in
    omega (arith, more)

-- ---- those that join

-- what became of one that joined
abbrev pub HasJoinedAs : Endpoints → NetworkState → NameId → ℕ → List Machine → NameId × ℕ → Type 0
HasJoinedAs e n c s all q = (new : Machine) × (joins e (slice_get n.machines q.1) c q.0 s ≡ Some new) × (slice_get all q.1 ≡ Some new)

pub record Joiners (e : Endpoints) (n : NetworkState) (c : NameId) (s : ℕ) (qs : List (NameId × ℕ)) (old new : List Machine) : Type 0 where
  pub each : All (HasJoinedAs e n c s new) qs
  pub others : (p : ℕ) → has_part p qs ≡ false → slice_get new p ≡ slice_get old p
  pub long : length new ≡ length old

pub joiners_all : (e : Endpoints) (n : NetworkState) (c : NameId) (s : ℕ) (qs : List (NameId × ℕ)) (js : List (ℕ × Machine)) (old : List Machine) → joiners e n c s qs ≡ Some js → AreApart qs → All (λ q. q.1 < length old) qs → Joiners e n c s qs old (with_machines old js)
joiners_all e n c s [] js old h apart within =
    let same : [] ≡ js = cc in
    subst (λ (x : List (ℕ × Machine)). Joiners e n c s [] old (with_machines old x)) same (record { each = All-nil (HasJoinedAs e n c s old); others = λ p i. refl; long = refl })
joiners_all e n c s (q ∷ qs) js old h apart within =
    at_one (joins e (slice_get n.machines q.1) c q.0 s) refl h
    (λ m ks k. joiners_all e n c s qs ks (slice_set old q.1 m) k (apart_tail q qs apart)
    (subst (λ w. All (λ (x : NameId × ℕ). x.1 < w) qs) (sym (length-set old q.1 m)) (All-tail (λ (x : NameId × ℕ). x.1 < length old) q qs within)))
  where
    at_one : (o : Option Machine) → joins e (slice_get n.machines q.1) c q.0 s ≡ o → one_joiner q.1 o (joiners e n c s qs) ≡ Some js
        → ((m : Machine) (ks : List (ℕ × Machine)) → joiners e n c s qs ≡ Some ks → Joiners e n c s qs (slice_set old q.1 m) (with_machines (slice_set old q.1 m) ks)) → Joiners e n c s (q ∷ qs) old (with_machines old js)
    at_one None i j again = absurd cc
    at_one (Some m) i j again = at_rest (joiners e n c s qs) refl j
      where
        at_rest : (o : Option (List (ℕ × Machine))) → joiners e n c s qs ≡ o → one_joiner q.1 (Some m) o ≡ Some js → Joiners e n c s (q ∷ qs) old (with_machines old js)
        at_rest None k l = absurd cc
        at_rest (Some ks) k l =
            let same : (q.1, m) ∷ ks ≡ js = cc in
            let set : List Machine = slice_set old q.1 m in
            let inside : q.1 < length old = All-head (λ (x : NameId × ℕ). x.1 < length old) q qs within in
            let rest = again m ks k in
            let head : HasJoinedAs e n c s (with_machines set ks) q = (m, i, rest.others q.1 (apart_none q.1 qs (apart_head q qs apart)) ∙ set_own old q.1 m inside) in
            subst (λ (x : List (ℕ × Machine)). Joiners e n c s (q ∷ qs) old (with_machines old x)) same (record {
              each = All-cons (HasJoinedAs e n c s (with_machines set ks)) q qs head rest.each;
              others = λ p none. (let parts = or_false (q.1 == p) (has_part p qs) none in rest.others p parts.1 ∙ get_set_other old q.1 p m (λ same. eqb-false q.1 p parts.0 (sym same)));
              long = rest.long ∙ length-set old q.1 m;
            })

-- ---- new ones

pub get_front : {X : Type 0} (xs ys : List X) (i : ℕ) → i < length xs → slice_get (xs ++ ys) i ≡ slice_get xs i
get_front [] ys i lt = absurd (omega arith)
get_front (x ∷ xs) ys zero lt = refl
get_front (x ∷ xs) ys (suc i) lt = get_front xs ys i (omega arith)

get_middle : {X : Type 0} (xs ys : List X) (y : X) → slice_get (xs ++ y ∷ ys) (length xs) ≡ Some y
get_middle [] ys y = refl
get_middle (x ∷ xs) ys y = get_middle xs ys y

pub length-served : (e : Endpoints) (c : NameId) (s : ℕ) (rs : List NameId) → length (served e c s rs) ≡ length rs
length-served e c s [] = refl
length-served e c s (r ∷ rs) = ap suc (length-served e c s rs)

-- what became of a new one
abbrev pub IsServedAs : Endpoints → NameId → ℕ → List Machine → NameId × ℕ → Type 0
IsServedAs e c s all q = slice_get all q.1 ≡ Some (served_one e c s q.0)

pub served_all : (e : Endpoints) (c : NameId) (s : ℕ) (rs : List NameId) (front : List Machine) (first : ℕ) → length front ≡ first → All (IsServedAs e c s (front ++ served e c s rs)) (served_parts rs first)
served_all e c s [] front first long = All-nil (IsServedAs e c s (front ++ []))
served_all e c s (r ∷ rs) front first long =
    let one : Machine = served_one e c s r in
    let whole : (front ++ one ∷ []) ++ served e c s rs ≡ front ++ one ∷ served e c s rs = append_assoc front (one ∷ []) (served e c s rs) in
    let longer : length (front ++ one ∷ []) ≡ suc first = length-append front (one ∷ []) ∙ omega (arith, long) in
    All-cons (IsServedAs e c s (front ++ served e c s (r ∷ rs))) (r, first) (served_parts rs (suc first)) (ap (slice_get (front ++ one ∷ served e c s rs)) (sym long) ∙ get_middle front (served e c s rs) one)
    (subst (λ (all : List Machine). All (IsServedAs e c s all) (served_parts rs (suc first))) whole (served_all e c s rs (front ++ one ∷ []) (suc first) longer))

-- ---- others

pub others_all : (e : Endpoints) (c : NameId) (s : ℕ) (rs : List NameId) (qs : List (NameId × ℕ)) (old front : List Machine) (p : ℕ) → length front ≡ length old → ((p : ℕ) → has_part p qs ≡ false → slice_get front p ≡ slice_get old p) → has_part p (qs ++ served_parts rs (length old)) ≡ false
    → slice_get (front ++ served e c s rs) p ≡ slice_get old p
others_all e c s rs qs old front p long others none = go (nat_lt_or p (length old))
  where
    parts : (has_part p qs ≡ false) × (has_part p (served_parts rs (length old)) ≡ false)
    parts = or_false (has_part p qs) (has_part p (served_parts rs (length old))) (sym (has_append p qs (served_parts rs (length old))) ∙ none)

    nat_lt_or : (a b : ℕ) → (a < b) ⊎ (b ≤ a)
    nat_lt_or a b = by (nat_lt a b) refl
      where
        by : (t : Bool) → nat_lt a b ≡ t → (a < b) ⊎ (b ≤ a)
        by true i = inl (grind (arith, nat_tests))
        by false i = inr (grind (arith, nat_tests))

    go : (p < length old) ⊎ (length old ≤ p) → slice_get (front ++ served e c s rs) p ≡ slice_get old p
    go (inl lt) = get_front front (served e c s rs) p (omega (arith, lt, long)) ∙ others p parts.0
    go (inr le) =
        let past = none_served rs (length old) p le parts.1 in
        let whole : length (front ++ served e c s rs) ≡ length front + length (served e c s rs) = length-append front (served e c s rs) in
        let more = length-served e c s rs in
        slice_get_past (front ++ served e c s rs) p (omega (arith, past, whole, more, long)) ∙ sym (slice_get_past old p le)
