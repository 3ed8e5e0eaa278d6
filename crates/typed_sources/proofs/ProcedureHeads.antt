-- What a procedure without fault in its head and its names keeps.
use Rattle.std.proofs.Common.{◌≡◌, suc, List, [], ◌∷◌, ◌++◌, map, length, refl, sym, ap, ◌∙◌, subst, Some, Bool, true, false, ◌==◌, ◌&&◌, ◌||◌, arith, if◌then◌else◌}
use Rattle.std.proofs.lemmas.Bool.Decides.{nat_tests}
use Rattle.std.specs.Prelude.{not}
use Rattle.std.specs.List.{flat_map}
use Rattle.std.proofs.lemmas.Bool.{and_parts}
use Rattle.chor_base.specs.declared.names.NameId.{NameId}
use Rattle.chor_base.specs.declared.rule.Rule.{Rule}
use Rattle.chor_base.specs.declared.rule.Rule.TheVariants.{N1, N2, T9}
use Rattle.chor_base.specs.declared.rule.Place.{Place}
use Rattle.chor_base.specs.Faults.{fault_if}
use Rattle.chor_tree.specs.declared.file.Named.{Named as Written}
use Rattle.chor_tree.specs.declared.file.Proc.{Proc}
use Rattle.chor_tree.specs.declared.file.ProcParam.{ProcParam}
use Rattle.chor_tree.specs.declared.file.SessionParam.{SessionParam}
use Rattle.chor_tree.specs.Kept.{proc_filled, comes_after_items}
use Rattle.chor_tree.specs.Names.{fault_at, is_among, unknown, repeated, names_in}
use Rattle.well_formed.proofs.References.{true_eq, same_name, or_rights}
use Rattle.delegation.specs.declared.held.Held.{Held}
use Rattle.delegation.specs.Owners.{held as entry, holder_of}
use Rattle.delegation.specs.Checks.{all_differ}
use Rattle.typing_rules.specs.TypeFaults.{holder_fault, head_faults}
use Rattle.typed_sources.proofs.Checked.{some_is}
use Rattle.typed_sources.proofs.Opened.{not_is}
use Rattle.typed_sources.proofs.Arguments.{owners_of, no_owner, holder_elsewhere}
use Rattle.typed_sources.proofs.Begins.{IsProper}
use Rattle.typed_sources.proofs.Resolved.{both_empty}

-- ---- tests

pub no_fault_at : (b : Bool) (r : Rule) (x : Written) → fault_at b r x ≡ [] → b ≡ false
no_fault_at true r x h = absurd cc
no_fault_at false r x h = refl

pub not_true : (b : Bool) → not b ≡ false → b ≡ true
not_true true h = refl
not_true false h = absurd cc

pub is_known : (known : List NameId) (x : Written) → unknown known x ≡ [] → is_among known x.name ≡ true
is_known known x h = not_true (is_among known x.name) (no_fault_at (not (is_among known x.name)) N1 x h)

pub false_or : (a b : Bool) → (a || b) ≡ false → (a ≡ false) × (b ≡ false)
false_or true b h = absurd cc
false_or false b h = (refl, h)

-- no name of a list is among those that are known
pub none_known : (known : List NameId) (xs : List Written) → repeated known xs ≡ [] → (x : NameId) → is_among (names_in xs) x ≡ true → is_among known x ≡ false
none_known known [] h x m = absurd cc
none_known known (y ∷ ys) h x m = go (y.name.0 == x.0) refl m (none_known (y.name ∷ known) ys (both_empty (fault_at (is_among known y.name) N2 y) (repeated (y.name ∷ known) ys) h).1 x)
  where
    go : (b : Bool) → (y.name.0 == x.0) ≡ b → (b || is_among (names_in ys) x) ≡ true → (is_among (names_in ys) x ≡ true → is_among (y.name ∷ known) x ≡ false) → is_among known x ≡ false
    go true i j ih = subst (λ z. is_among known z ≡ false) (same_name y.name x i) (no_fault_at (is_among known y.name) N2 y (both_empty (fault_at (is_among known y.name) N2 y) (repeated (y.name ∷ known) ys) h).0)
    go false i j ih = (false_or _ _ (ih j)).1

pub all_apart : (known : List NameId) (xs : List Written) → repeated known xs ≡ [] → all_differ (names_in xs) ≡ true
all_apart known [] h = refl
all_apart known (y ∷ ys) h = go (is_among (names_in ys) y.name) refl (all_apart (y.name ∷ known) ys w.1)
  where
    w : (fault_at (is_among known y.name) N2 y ≡ []) × (repeated (y.name ∷ known) ys ≡ [])
    w = both_empty (fault_at (is_among known y.name) N2 y) (repeated (y.name ∷ known) ys) h

    clash : (b : Bool) → b ≡ true → b ≡ false → ⊥
    clash b i j = cc

    go : (b : Bool) → is_among (names_in ys) y.name ≡ b → all_differ (names_in ys) ≡ true → (not (is_among (names_in ys) y.name) && all_differ (names_in ys)) ≡ true
    go false i d = ap (λ b. not b && all_differ (names_in ys)) i ∙ d
    go true i d = absurd (clash (y.name.0 == y.name.0) (true_eq y.name.0) (false_or _ _ (none_known (y.name ∷ known) ys w.1 y.name i)).0)

-- the later part of a list whose items differ
pub later_differ : (xs ys : List NameId) → all_differ (xs ++ ys) ≡ true → all_differ ys ≡ true
later_differ [] ys h = h
later_differ (x ∷ xs) ys h = later_differ xs ys (and_parts _ _ h).1

pub names_append : (xs ys : List Written) → names_in (xs ++ ys) ≡ names_in xs ++ names_in ys
names_append [] ys = refl
names_append (x ∷ xs) ys = ap (λ l. x.name ∷ l) (names_append xs ys)

pub names_map : {A : Type 0} (nm : A → Written) (xs : List A) → names_in (map nm xs) ≡ map (λ x. (nm x).name) xs
names_map nm [] = refl
names_map nm (x ∷ xs) = ap (λ l. (nm x).name ∷ l) (names_map nm xs)

-- ---- one role each

no_check : (b : Bool) (r : Rule) (p : Place) → fault_if (not b) r p ≡ [] → b ≡ true
no_check true r p h = refl
no_check false r p h = absurd cc

-- a session's entries, of processes that differ
among_entries : (n : NameId) (hs : List (Written × Written)) (y r q : NameId) → holder_of (map (λ h. entry n h.0.name h.1.name) hs) y r ≡ Some q → is_among (map (λ h. h.1.name) hs) q ≡ true
among_entries n [] y r q h = absurd cc
among_entries n (x ∷ xs) y r q h = go ((n.0 == y.0) && (x.0.name.0 == r.0)) h (among_entries n xs y r q)
  where
    go : (b : Bool) → (if b then Some x.1.name else holder_of (map (λ h. entry n h.0.name h.1.name) xs) y r) ≡ Some q → (holder_of (map (λ h. entry n h.0.name h.1.name) xs) y r ≡ Some q → is_among (map (λ h. h.1.name) xs) q ≡ true) → ((x.1.name.0 == q.0) || is_among (map (λ h. h.1.name) xs) q) ≡ true
    go true i ih = ap (λ b. b || is_among (map (λ h. h.1.name) xs) q) (ap (λ z. z.0 == q.0) (some_is _ _ i) ∙ true_eq q.0)
    go false i ih = or_rights _ _ (ih i)

one_entry : (n : NameId) (hs : List (Written × Written)) → all_differ (map (λ h. h.1.name) hs) ≡ true → (y a b q : NameId) → (n.0 == y.0) ≡ true
    → holder_of (map (λ h. entry n h.0.name h.1.name) hs) y a ≡ Some q → holder_of (map (λ h. entry n h.0.name h.1.name) hs) y b ≡ Some q → a ≡ b
one_entry n [] od y a b q on h i = absurd cc
one_entry n (x ∷ xs) od y a b q on h i =
    go (x.0.name.0 == a.0) (x.0.name.0 == b.0) refl refl
    (subst (λ z. (if z && (x.0.name.0 == a.0) then Some x.1.name else holder_of (map (λ h. entry n h.0.name h.1.name) xs) y a) ≡ Some q) on h)
    (subst (λ z. (if z && (x.0.name.0 == b.0) then Some x.1.name else holder_of (map (λ h. entry n h.0.name h.1.name) xs) y b) ≡ Some q) on i)
    (one_entry n xs (and_parts _ _ od).1 y a b q on)
  where
    clash : (b : Bool) → b ≡ true → b ≡ false → ⊥
    clash b i j = cc

    twice : (r : NameId) → x.1.name ≡ q → holder_of (map (λ h. entry n h.0.name h.1.name) xs) y r ≡ Some q → ⊥
    twice r same j = clash (is_among (map (λ h. h.1.name) xs) x.1.name) (ap (is_among (map (λ h. h.1.name) xs)) same ∙ among_entries n xs y r q j) (not_is _ (and_parts _ _ od).0)

    go : (u v : Bool) → (x.0.name.0 == a.0) ≡ u → (x.0.name.0 == b.0) ≡ v → (if u then Some x.1.name else holder_of (map (λ h. entry n h.0.name h.1.name) xs) y a) ≡ Some q → (if v then Some x.1.name else holder_of (map (λ h. entry n h.0.name h.1.name) xs) y b) ≡ Some q
        → (holder_of (map (λ h. entry n h.0.name h.1.name) xs) y a ≡ Some q → holder_of (map (λ h. entry n h.0.name h.1.name) xs) y b ≡ Some q → a ≡ b) → a ≡ b
    go true true j k l m ih = sym (same_name x.0.name a j) ∙ same_name x.0.name b k
    go true false j k l m ih = absurd (twice b (some_is _ _ l) m)
    go false true j k l m ih = absurd (twice a (some_is _ _ m) l)
    go false false j k l m ih = ih l m

-- a holder is in the entries of the session, where sessions differ
in_entries : (n : NameId) (hs : List (Written × Written)) (rest : List Held) (y r q : NameId) → (holder_of rest y r ≡ Some q → ⊥) → holder_of (map (λ h. entry n h.0.name h.1.name) hs ++ rest) y r ≡ Some q → holder_of (map (λ h. entry n h.0.name h.1.name) hs) y r ≡ Some q
in_entries n [] rest y r q out h = absurd (out h)
in_entries n (x ∷ xs) rest y r q out h = go ((n.0 == y.0) && (x.0.name.0 == r.0)) h (in_entries n xs rest y r q out)
  where
    go : (b : Bool) → (if b then Some x.1.name else holder_of (map (λ h. entry n h.0.name h.1.name) xs ++ rest) y r) ≡ Some q → (holder_of (map (λ h. entry n h.0.name h.1.name) xs ++ rest) y r ≡ Some q → holder_of (map (λ h. entry n h.0.name h.1.name) xs) y r ≡ Some q)
        → (if b then Some x.1.name else holder_of (map (λ h. entry n h.0.name h.1.name) xs) y r) ≡ Some q
    go true i ih = i
    go false i ih = ih i

one_role : (ks : List SessionParam) → all_differ (map (λ k. k.name.name) ks) ≡ true → flat_map holder_fault ks ≡ []
    → (s a b q : NameId) → holder_of (owners_of ks) s a ≡ Some q → holder_of (owners_of ks) s b ≡ Some q → a ≡ b
one_role [] od h s a b q i j = absurd cc
one_role (k ∷ ks) od h s a b q i j = go (k.name.name.0 == s.0) refl (one_role ks (and_parts _ _ od).1 w.1 s a b q)
  where
    w : (holder_fault k ≡ []) × (flat_map holder_fault ks ≡ [])
    w = both_empty (holder_fault k) (flat_map holder_fault ks) h

    go : (x : Bool) → (k.name.name.0 == s.0) ≡ x → (holder_of (owners_of ks) s a ≡ Some q → holder_of (owners_of ks) s b ≡ Some q → a ≡ b) → a ≡ b
    go false n ih = ih (sym (holder_elsewhere k.name.name k.holders (owners_of ks) s a n) ∙ i) (sym (holder_elsewhere k.name.name k.holders (owners_of ks) s b n) ∙ j)
    go true n ih =
        let out : (r : NameId) → holder_of (owners_of ks) s r ≡ Some q → ⊥ = λ r. no_owner ks s r q (subst (λ z. is_among (map (λ k. k.name.name) ks) z ≡ false) (same_name k.name.name s n) (not_is _ (and_parts _ _ od).0)) in
        one_entry k.name.name k.holders (no_check (all_differ (map (λ h. h.1.name) k.holders)) T9 k.name.place w.0) s a b q n
        (in_entries k.name.name k.holders (owners_of ks) s a q (out a) i) (in_entries k.name.name k.holders (owners_of ks) s b q (out b) j)

-- ---- a procedure

no_sessions : (ps : List ProcParam) (ks : List SessionParam) → comes_after_items ps ks ≡ true → length ps ≡ 0 → length ks ≡ 0
no_sessions ps [] h l = refl
no_sessions [] (k ∷ ks) h l = absurd (clash h)
  where
    zero_is : (suc (length ks) == 0) ≡ false
    zero_is = grind (arith, nat_tests)

    clash : comes_after_items {A = ProcParam} [] (k ∷ ks) ≡ true → ⊥
    clash t = let u : comes_after_items {A = ProcParam} [] (k ∷ ks) ≡ false = ap (λ b. not (0 == 0) || not (not b)) zero_is in cc
no_sessions (p ∷ ps) (k ∷ ks) h l = absurd (omega (arith, l))

pub proper_head : (p : Proc) → proc_filled p ≡ true → repeated [] (map (λ q. q.name) p.params ++ map (λ k. k.name) p.sessions) ≡ [] → head_faults p ≡ [] → IsProper p
proper_head p filled names types =
    let differ = ap all_differ (sym (names_append (map (λ q. q.name) p.params) (map (λ k. k.name) p.sessions))) ∙ all_apart [] (map (λ q. q.name) p.params ++ map (λ k. k.name) p.sessions) names in
    let sessions : all_differ (map (λ k. k.name.name) p.sessions) ≡ true = ap all_differ (sym (names_map (λ k. k.name) p.sessions)) ∙ later_differ (names_in (map (λ q. q.name) p.params)) (names_in (map (λ k. k.name) p.sessions)) differ in
    record {
      filled = no_sessions p.params p.sessions (and_parts _ _ filled).0;
      sessions = sessions;
      one_role = λ s a b q i j. one_role p.sessions sessions types s a b q i j;
    }
