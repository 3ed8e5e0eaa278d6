-- Where a procedure's body begins, each parameter holds a role in the sessions that list it.
use Rattle.std.proofs.Common.{◌≡◌, List, [], ◌∷◌, ◌++◌, map, refl, ap, ◌∙◌, ◌⊎◌, inl, inr, Some, Bool, true, false, if◌then◌else◌, ◌==◌, ◌&&◌, ◌||◌}
use Rattle.std.specs.Prelude.{not}
use Rattle.std.specs.List.{AllByRecursion}
use Rattle.std.proofs.lemmas.Bool.{and_parts}
use Rattle.chor_base.specs.declared.names.NameId.{NameId}
use Rattle.chor_tree.specs.declared.file.Named.{Named as Written}
use Rattle.chor_tree.specs.declared.file.Proc.{Proc}
use Rattle.chor_tree.specs.declared.file.SessionParam.{SessionParam}
use Rattle.chor_tree.specs.Names.{is_among as is_in}
use Rattle.endpoint_code.specs.Faults.{is_among}
use Rattle.well_formed.proofs.References.{same_name, clash, true_eq, or_left, or_rights}
use Rattle.delegation.specs.declared.held.Held.{Held as Entry}
use Rattle.delegation.specs.Owners.{held as entry, holder_of}
use Rattle.delegation.specs.Checks.{all_differ}
use Rattle.typing_rules.specs.Environment.{at_procedure}
use Rattle.typed_sources.proofs.Checked.{some_is}
use Rattle.typed_sources.proofs.Opened.{eq_flip}
use Rattle.typed_sources.proofs.Arguments.{owners_of, holder_elsewhere}
use Rattle.typed_sources.proofs.Opened.{not_is}
use Rattle.projection.specs.Codes.{holds, sessions_for}
use Rattle.accepted_files.specs.Held.{Held}
use Rattle.accepted_files.proofs.Knows.{HasRole, Knows}

abbrev entries : NameId → List (Written × Written) → List Entry
entries n hs = map (λ h. entry n h.0.name h.1.name) hs

-- who holds a role is listed in the session, or holds it among the rest
listed_or : (n : NameId) (hs : List (Written × Written)) (rest : List Entry) (y a p : NameId) → holder_of (entries n hs ++ rest) y a ≡ Some p → (((n.0 == y.0) ≡ true) × (holds p hs ≡ true)) ⊎ (holder_of rest y a ≡ Some p)
listed_or n [] rest y a p h = inr h
listed_or n (x ∷ xs) rest y a p h = go (n.0 == y.0) (x.0.name.0 == a.0) refl h (listed_or n xs rest y a p)
  where
    later : (((n.0 == y.0) ≡ true) × (holds p xs ≡ true)) ⊎ (holder_of rest y a ≡ Some p) → (((n.0 == y.0) ≡ true) × (((x.1.name.0 == p.0) || holds p xs) ≡ true)) ⊎ (holder_of rest y a ≡ Some p)
    later (inl w) = inl (w.0, or_rights _ _ w.1)
    later (inr w) = inr w

    go : (b c : Bool) → (n.0 == y.0) ≡ b → (if b && c then Some x.1.name else holder_of (entries n xs ++ rest) y a) ≡ Some p
        → (holder_of (entries n xs ++ rest) y a ≡ Some p → (((n.0 == y.0) ≡ true) × (holds p xs ≡ true)) ⊎ (holder_of rest y a ≡ Some p))
        → (((n.0 == y.0) ≡ true) × (((x.1.name.0 == p.0) || holds p xs) ≡ true)) ⊎ (holder_of rest y a ≡ Some p)
    go true true i j ih = inl (i, or_left _ _ (ap (λ (z : NameId). z.0 == p.0) (some_is _ _ j) ∙ true_eq p.0))
    go true false i j ih = later (ih j)
    go false c i j ih = later (ih j)

listed_there : (p : NameId) (ks : List SessionParam) (k a : NameId) → holder_of (owners_of ks) k a ≡ Some p → is_among k (sessions_for p ks) ≡ true
listed_there p [] k a h = absurd cc
listed_there p (x ∷ xs) k a h = go (holds p x.holders) refl (listed_or x.name.name x.holders (owners_of xs) k a p h) (listed_there p xs k a)
  where
    go : (b : Bool) → holds p x.holders ≡ b → (((x.name.name.0 == k.0) ≡ true) × (holds p x.holders ≡ true)) ⊎ (holder_of (owners_of xs) k a ≡ Some p) → (holder_of (owners_of xs) k a ≡ Some p → is_among k (sessions_for p xs) ≡ true)
        → is_among k (if b then x.name.name ∷ sessions_for p xs else sessions_for p xs) ≡ true
    go true i (inl w) ih = or_left _ _ (eq_flip k.0 x.name.name.0 ∙ w.0)
    go true i (inr w) ih = or_rights _ _ (ih w)
    go false i (inl w) ih = absurd (clash w.1 i)
    go false i (inr w) ih = ih w

-- a role for which p is listed
record OwnRole (n : NameId) (hs : List (Written × Written)) (rest : List Entry) (y p : NameId) : Type 0 where
  role : NameId
  is : holder_of (entries n hs ++ rest) y role ≡ Some p
  there : is_in (map (λ h. h.0.name) hs) role ≡ true

own_role : (n : NameId) (hs : List (Written × Written)) (rest : List Entry) (y p : NameId) → (n.0 == y.0) ≡ true → all_differ (map (λ h. h.0.name) hs) ≡ true → holds p hs ≡ true → OwnRole n hs rest y p
own_role n [] rest y p same od h = absurd cc
own_role n (x ∷ xs) rest y p same od h = go (x.1.name.0 == p.0) refl h (own_role n xs rest y p same w.1)
  where
    w : (not (is_in (map (λ h. h.0.name) xs) x.0.name) ≡ true) × (all_differ (map (λ h. h.0.name) xs) ≡ true)
    w = and_parts _ _ od

    tested : (a : NameId) (b : Bool) → (x.0.name.0 == a.0) ≡ b → holder_of (entries n (x ∷ xs) ++ rest) y a ≡ (if b then Some x.1.name else holder_of (entries n xs ++ rest) y a)
    tested a b i = ap (λ c. if c && (x.0.name.0 == a.0) then Some x.1.name else holder_of (entries n xs ++ rest) y a) same ∙ ap (λ c. if c then Some x.1.name else holder_of (entries n xs ++ rest) y a) i

    go : (b : Bool) → (x.1.name.0 == p.0) ≡ b → (b || holds p xs) ≡ true → (holds p xs ≡ true → OwnRole n xs rest y p) → OwnRole n (x ∷ xs) rest y p
    go true i j ih = record { role = x.0.name; is = tested x.0.name true (true_eq x.0.name.0) ∙ ap Some (same_name x.1.name p i); there = or_left _ _ (true_eq x.0.name.0) }
    go false i j ih = let v = ih j in record { role = v.role; is = tested v.role false (off v.role v.there (x.0.name.0 == v.role.0) refl) ∙ v.is; there = or_rights _ _ v.there }
      where
        off : (a : NameId) → is_in (map (λ h. h.0.name) xs) a ≡ true → (b : Bool) → (x.0.name.0 == a.0) ≡ b → (x.0.name.0 == a.0) ≡ false
        off a t false i = i
        off a t true i = absurd (clash (ap (is_in (map (λ h. h.0.name) xs)) (same_name x.0.name a i) ∙ t) (not_is _ w.0))

among_params : (p : NameId) (ks : List SessionParam) (k : NameId) → is_among k (sessions_for p ks) ≡ true → is_in (map (λ z. z.name.name) ks) k ≡ true
among_params p [] k h = absurd cc
among_params p (x ∷ xs) k h = go (holds p x.holders) h (among_params p xs k)
  where
    first : (b : Bool) → (k.0 == x.name.name.0) ≡ b → (b || is_among k (sessions_for p xs)) ≡ true → (is_among k (sessions_for p xs) ≡ true → is_in (map (λ z. z.name.name) xs) k ≡ true) → ((x.name.name.0 == k.0) || is_in (map (λ z. z.name.name) xs) k) ≡ true
    first true i j ih = or_left _ _ (eq_flip x.name.name.0 k.0 ∙ i)
    first false i j ih = or_rights _ _ (ih j)

    go : (b : Bool) → is_among k (if b then x.name.name ∷ sessions_for p xs else sessions_for p xs) ≡ true → (is_among k (sessions_for p xs) ≡ true → is_in (map (λ z. z.name.name) xs) k ≡ true) → ((x.name.name.0 == k.0) || is_in (map (λ z. z.name.name) xs) k) ≡ true
    go true i ih = first (k.0 == x.name.name.0) refl i ih
    go false i ih = or_rights _ _ (ih i)

listed_back : (p : NameId) (ks : List SessionParam) → all_differ (map (λ k. k.name.name) ks) ≡ true → AllByRecursion (λ k. all_differ (map (λ h. h.0.name) k.holders) ≡ true) ks → (k : NameId) → is_among k (sessions_for p ks) ≡ true → HasRole (owners_of ks) k p
listed_back p [] od each k h = absurd cc
listed_back p (x ∷ xs) od each k h = go (holds p x.holders) refl h (λ m. listed_back p xs w.1 each.1 k m)
  where
    w : (not (is_in (map (λ k. k.name.name) xs) x.name.name) ≡ true) × (all_differ (map (λ k. k.name.name) xs) ≡ true)
    w = and_parts _ _ od

    off : is_among k (sessions_for p xs) ≡ true → (b : Bool) → (x.name.name.0 == k.0) ≡ b → (x.name.name.0 == k.0) ≡ false
    off i false j = j
    off i true j = absurd (clash (ap (is_in (map (λ k. k.name.name) xs)) (same_name x.name.name k j) ∙ among_params p xs k i) (not_is _ w.0))

    later : HasRole (owners_of xs) k p → is_among k (sessions_for p xs) ≡ true → HasRole (owners_of (x ∷ xs)) k p
    later v i = record { role = v.role; is = holder_elsewhere x.name.name x.holders (owners_of xs) k v.role (off i (x.name.name.0 == k.0) refl) ∙ v.is }

    first : holds p x.holders ≡ true → (b : Bool) → (k.0 == x.name.name.0) ≡ b → (b || is_among k (sessions_for p xs)) ≡ true → (is_among k (sessions_for p xs) ≡ true → HasRole (owners_of xs) k p) → HasRole (owners_of (x ∷ xs)) k p
    first i true j l ih = let v = own_role x.name.name x.holders (owners_of xs) k p (eq_flip x.name.name.0 k.0 ∙ j) each.0 i in record { role = v.role; is = v.is }
    first i false j l ih = later (ih l) l

    go : (b : Bool) → holds p x.holders ≡ b → is_among k (if b then x.name.name ∷ sessions_for p xs else sessions_for p xs) ≡ true → (is_among k (sessions_for p xs) ≡ true → HasRole (owners_of xs) k p) → HasRole (owners_of (x ∷ xs)) k p
    go true i j ih = first i (k.0 == x.name.name.0) refl j ih
    go false i j ih = later (ih j) j

-- the sessions that list a parameter
abbrev pub listing : NameId → Proc → Held
listing p h = λ y. is_among (record { 0 = y }) (sessions_for p h.sessions)

-- Those are the sessions in which it holds a role where the body begins
pub head_knows : (p : NameId) (h : Proc) → all_differ (map (λ k. k.name.name) h.sessions) ≡ true → AllByRecursion (λ k. all_differ (map (λ h. h.0.name) k.holders) ≡ true) h.sessions → Knows p (listing p h) (at_procedure h)
head_knows p h od each = record { there = λ k a i. listed_there p h.sessions k a i; back = λ k i. listed_back p h.sessions od each k i }
