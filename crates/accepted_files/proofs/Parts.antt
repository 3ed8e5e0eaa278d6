-- Who has a part in a start, who is passed for a parameter, and who is listed for a role.
use Rattle.std.proofs.Common.{◌≡◌, suc, zero, List, [], ◌∷◌, ◌++◌, map, refl, sym, ap, ◌∙◌, subst, Some, Bool, true, false, if◌then◌else◌, ◌==◌, ◌&&◌, ◌||◌, arith}
use Rattle.std.specs.Prelude.{Contains, not}
use Rattle.std.specs.List.{list_all}
use Rattle.std.proofs.lemmas.Bool.{and_parts}
use Rattle.chor_base.specs.declared.names.NameId.{NameId}
use Rattle.chor_tree.specs.declared.file.Named.{Named as Written}
use Rattle.chor_tree.specs.declared.file.Proc.{Proc}
use Rattle.chor_tree.specs.declared.file.ProcParam.{ProcParam}
use Rattle.chor_tree.specs.declared.tree.Part.{Part}
use Rattle.chor_tree.specs.Names.{is_among, first_named}
use Rattle.chor_semantics.specs.Sources.{name_ref, parts_of}
use Rattle.well_formed.proofs.References.{same_name, clash, true_eq, or_rights}
use Rattle.delegation.specs.declared.held.Held.{Held}
use Rattle.delegation.specs.Owners.{held as entry, holder_of, holds, started}
use Rattle.delegation.specs.Checks.{all_differ}
use Rattle.typing_rules.specs.Environment.{Environment}
use Rattle.typing_rules.specs.Checks.{holds_as}
use Rattle.typed_sources.proofs.Checked.{some_is, holder_is}
use Rattle.projection.specs.Codes.{role_in, proc_named, param_for, holds as is_listed}
use Rattle.accepted_files.specs.PlayedRoles.{holder_role}
use Rattle.typed_sources.proofs.Opened.{holder_among, not_is}

-- ---- starts

-- who holds a role of a new session has a part with that role, where no process has two parts
pub part_role : (k : NameId) (parts : List Part) → all_differ (map (λ q. q.process.name) parts) ≡ true → (q : Part) → Contains parts q → (a : NameId) → holder_of (started k parts) k a ≡ Some q.process.name → a ≡ q.role.name
part_role k [] od q (i, l, e) a h = absurd (omega (arith, l))
part_role k (x ∷ xs) od q m a h = go (x.role.name.0 == a.0) refl (subst (λ z. (if z && (x.role.name.0 == a.0) then Some x.process.name else holder_of (started k xs) k a) ≡ Some q.process.name) (true_eq k.0) h)
    (λ n i. part_role k xs w.1 q n a i)
  where
    w : (not (is_among (map (λ q. q.process.name) xs) x.process.name) ≡ true) × (all_differ (map (λ q. q.process.name) xs) ≡ true)
    w = and_parts _ _ od

    among_here : (ys : List Part) → Contains ys q → is_among (map (λ q. q.process.name) ys) q.process.name ≡ true
    among_here [] (i, l, e) = absurd (omega (arith, l))
    among_here (y ∷ ys) (zero, l, e) = ap (λ b. b || is_among (map (λ q. q.process.name) ys) q.process.name) (ap (λ (z : Part). z.process.name.0 == q.process.name.0) e ∙ true_eq q.process.name.0)
    among_here (y ∷ ys) (suc i, l, e) = or_rights (y.process.name.0 == q.process.name.0) _ (among_here ys (i, omega (arith, l), e))

    twice : x.process.name ≡ q.process.name → is_among (map (λ q. q.process.name) xs) q.process.name ≡ true → ⊥
    twice same i = clash (ap (is_among (map (λ q. q.process.name) xs)) same ∙ i) (not_is _ w.0)

    first : Contains (x ∷ xs) q → (x.role.name.0 == a.0) ≡ true → x.process.name ≡ q.process.name → a ≡ q.role.name
    first (zero, l, e) i same = sym (same_name x.role.name a i) ∙ ap (λ (z : Part). z.role.name) e
    first (suc j, l, e) i same = absurd (twice same (among_here xs (j, omega (arith, l), e)))

    later : (Contains xs q → holder_of (started k xs) k a ≡ Some q.process.name → a ≡ q.role.name) → Contains (x ∷ xs) q → holder_of (started k xs) k a ≡ Some q.process.name → a ≡ q.role.name
    later ih (zero, l, e) h = absurd (twice (ap (λ (z : Part). z.process.name) e) (holder_among k xs a q.process.name h))
    later ih (suc j, l, e) h = ih (j, omega (arith, l), e) h

    go : (b : Bool) → (x.role.name.0 == a.0) ≡ b → (if b then Some x.process.name else holder_of (started k xs) k a) ≡ Some q.process.name → (Contains xs q → holder_of (started k xs) k a ≡ Some q.process.name → a ≡ q.role.name) → a ≡ q.role.name
    go true i j ih = first m i (some_is _ _ j)
    go false i j ih = later ih m j

-- an active process of a start plays the role that it holds
pub active_role : (k r : NameId) (active serve : List Part) → all_differ (map (λ q. q.process.name) (active ++ serve)) ≡ true → is_among (map (λ q. q.process.name) serve) r ≡ false
    → (a : NameId) → holder_of (started k (active ++ serve)) k a ≡ Some r → role_in r (parts_of active) ≡ Some a
active_role k r [] serve od off a h = absurd (clash (holder_among k serve a r h) off)
active_role k r (x ∷ xs) serve od off a h =
    go (x.role.name.0 == a.0) (r.0 == x.process.name.0) refl refl (subst (λ z. (if z && (x.role.name.0 == a.0) then Some x.process.name else holder_of (started k (xs ++ serve)) k a) ≡ Some r) (true_eq k.0) h)
    (active_role k r xs serve w.1 off a)
  where
    w : (not (is_among (map (λ q. q.process.name) (xs ++ serve)) x.process.name) ≡ true) × (all_differ (map (λ q. q.process.name) (xs ++ serve)) ≡ true)
    w = and_parts _ _ od

    go : (b c : Bool) → (x.role.name.0 == a.0) ≡ b → (r.0 == x.process.name.0) ≡ c → (if b then Some x.process.name else holder_of (started k (xs ++ serve)) k a) ≡ Some r
        → (holder_of (started k (xs ++ serve)) k a ≡ Some r → role_in r (parts_of xs) ≡ Some a) → (if c then Some x.role.name else role_in r (parts_of xs)) ≡ Some a
    go true true i j h ih = ap Some (same_name x.role.name a i)
    go true false i j h ih = absurd (clash (ap (λ z. r.0 == z.0) (some_is x.process.name r h) ∙ true_eq r.0) j)
    go false true i j h ih = absurd (clash (ap (is_among (map (λ q. q.process.name) (xs ++ serve))) (sym (same_name r x.process.name j)) ∙ holder_among k (xs ++ serve) a r h) (not_is _ w.0))
    go false false i j h ih = ih h

-- ---- calls

pub proc_same : (ps : List Proc) (h : NameId) → proc_named ps h ≡ first_named (λ q. q.name) ps h
proc_same [] h = refl
proc_same (p ∷ ps) h = ap (λ z. if p.name.name.0 == h.0 then Some p else z) (proc_same ps h)

param_among : (r x : NameId) (qs : List ProcParam) (ps : List Written) → param_for r qs (map name_ref ps) ≡ Some x → is_among (map (λ q. q.name.name) qs) x ≡ true
param_among r x [] ps h = absurd cc
param_among r x (q ∷ qs) [] h = absurd cc
param_among r x (q ∷ qs) (p ∷ ps) h = go (r.0 == p.name.0) h (param_among r x qs ps)
  where
    go : (b : Bool) → (if b then Some q.name.name else param_for r qs (map name_ref ps)) ≡ Some x → (param_for r qs (map name_ref ps) ≡ Some x → is_among (map (λ q. q.name.name) qs) x ≡ true) → ((q.name.name.0 == x.0) || is_among (map (λ q. q.name.name) qs) x) ≡ true
    go true i ih = ap (λ b. b || is_among (map (λ q. q.name.name) qs) x) (ap (λ z. z.0 == x.0) (some_is q.name.name x i) ∙ true_eq x.0)
    go false i ih = or_rights (q.name.name.0 == x.0) _ (ih i)

-- where a listed role has the process that is passed for x as its holder, and r is passed for x, r is the holder
pub passed_holds : (e : Environment) (k c r x : NameId) (qs : List ProcParam) (ps : List Written) → all_differ (map (λ q. q.name.name) qs) ≡ true → param_for r qs (map name_ref ps) ≡ Some x → holds_as e k c x qs ps ≡ true → holder_of e.owners k c ≡ Some r
passed_holds e k c r x [] ps od i h = absurd cc
passed_holds e k c r x (q ∷ qs) [] od i h = absurd cc
passed_holds e k c r x (q ∷ qs) (p ∷ ps) od i h = go (r.0 == p.name.0) refl i (q.name.name.0 == x.0) refl h (passed_holds e k c r x qs ps w.1)
  where
    w : (not (is_among (map (λ q. q.name.name) qs) q.name.name) ≡ true) × (all_differ (map (λ q. q.name.name) qs) ≡ true)
    w = and_parts _ _ od

    go : (b : Bool) → (r.0 == p.name.0) ≡ b → (if b then Some q.name.name else param_for r qs (map name_ref ps)) ≡ Some x → (d : Bool) → (q.name.name.0 == x.0) ≡ d → (if d then holds e.owners k c p.name else holds_as e k c x qs ps) ≡ true
        → (param_for r qs (map name_ref ps) ≡ Some x → holds_as e k c x qs ps ≡ true → holder_of e.owners k c ≡ Some r) → holder_of e.owners k c ≡ Some r
    go true t i true u h ih = holder_is e.owners k c p.name h ∙ ap Some (sym (same_name r p.name t))
    go true t i false u h ih = absurd (clash (ap (λ z. z.0 == x.0) (some_is q.name.name x i) ∙ true_eq x.0) u)
    go false t i true u h ih = absurd (clash (ap (is_among (map (λ q. q.name.name) qs)) (same_name q.name.name x u) ∙ param_among r x qs ps i) (not_is _ w.0))
    go false t i false u h ih = ih i h

-- who is listed in a session is listed for a role, of which what holds of each entry holds
pub record IsListedFor (P : NameId → NameId → Bool) (x : NameId) (hs : List (Written × Written)) : Type 0 where
  pub role : NameId
  pub is : holder_role x hs ≡ Some role
  pub holds_of : P role x ≡ true

pub listed_role : (P : NameId → NameId → Bool) (x : NameId) (hs : List (Written × Written)) → is_listed x hs ≡ true → list_all (λ h. P h.0.name h.1.name) hs ≡ true → IsListedFor P x hs
listed_role P x [] i h = absurd cc
listed_role P x (y ∷ ys) i h = go (y.1.name.0 == x.0) refl i (listed_role P x ys)
  where
    w : (P y.0.name y.1.name ≡ true) × (list_all (λ h. P h.0.name h.1.name) ys ≡ true)
    w = and_parts _ _ h

    go : (b : Bool) → (y.1.name.0 == x.0) ≡ b → (b || is_listed x ys) ≡ true → (is_listed x ys ≡ true → list_all (λ h. P h.0.name h.1.name) ys ≡ true → IsListedFor P x ys) → IsListedFor P x (y ∷ ys)
    go true t i ih = record { role = y.0.name; is = ap (λ (b : Bool). if b then Some y.0.name else holder_role x ys) t; holds_of = ap (P y.0.name) (sym (same_name y.1.name x t)) ∙ w.0 }
    go false t i ih = let l = ih i w.1 in record { role = l.role; is = ap (λ (b : Bool). if b then Some y.0.name else holder_role x ys) t ∙ l.is; holds_of = l.holds_of }

-- ---- heads

-- who holds a listed role is listed for it, where no process is listed twice
pub head_role : (n : NameId) (hs : List (Written × Written)) (rest : List Held) (y a p : NameId) → (n.0 == y.0) ≡ true → all_differ (map (λ h. h.1.name) hs) ≡ true → (holder_of rest y a ≡ Some p → ⊥)
    → holder_of (map (λ h. entry n h.0.name h.1.name) hs ++ rest) y a ≡ Some p → holder_role p hs ≡ Some a
head_role n [] rest y a p on od out h = absurd (out h)
head_role n (x ∷ xs) rest y a p on od out h =
    go (x.0.name.0 == a.0) (x.1.name.0 == p.0) refl refl (subst (λ z. (if z && (x.0.name.0 == a.0) then Some x.1.name else holder_of (map (λ h. entry n h.0.name h.1.name) xs ++ rest) y a) ≡ Some p) on h)
    (head_role n xs rest y a p on w.1 out)
  where
    w : (not (is_among (map (λ h. h.1.name) xs) x.1.name) ≡ true) × (all_differ (map (λ h. h.1.name) xs) ≡ true)
    w = and_parts _ _ od

    among_entries : (hs : List (Written × Written)) → holder_of (map (λ h. entry n h.0.name h.1.name) hs ++ rest) y a ≡ Some p → is_among (map (λ h. h.1.name) hs) p ≡ true
    among_entries [] h = absurd (out h)
    among_entries (z ∷ zs) h = step ((n.0 == y.0) && (z.0.name.0 == a.0)) h (among_entries zs)
      where
        step : (b : Bool) → (if b then Some z.1.name else holder_of (map (λ h. entry n h.0.name h.1.name) zs ++ rest) y a) ≡ Some p → (holder_of (map (λ h. entry n h.0.name h.1.name) zs ++ rest) y a ≡ Some p → is_among (map (λ h. h.1.name) zs) p ≡ true) → ((z.1.name.0 == p.0) || is_among (map (λ h. h.1.name) zs) p) ≡ true
        step true i ih = ap (λ b. b || is_among (map (λ h. h.1.name) zs) p) (ap (λ y. y.0 == p.0) (some_is z.1.name p i) ∙ true_eq p.0)
        step false i ih = or_rights (z.1.name.0 == p.0) _ (ih i)

    go : (b c : Bool) → (x.0.name.0 == a.0) ≡ b → (x.1.name.0 == p.0) ≡ c → (if b then Some x.1.name else holder_of (map (λ h. entry n h.0.name h.1.name) xs ++ rest) y a) ≡ Some p
        → (holder_of (map (λ h. entry n h.0.name h.1.name) xs ++ rest) y a ≡ Some p → holder_role p xs ≡ Some a) → (if c then Some x.0.name else holder_role p xs) ≡ Some a
    go true true i j h ih = ap Some (same_name x.0.name a i)
    go true false i j h ih = absurd (clash (ap (λ z. z.0 == p.0) (some_is x.1.name p h) ∙ true_eq p.0) j)
    go false true i j h ih = absurd (clash (ap (is_among (map (λ h. h.1.name) xs)) (same_name x.1.name p j) ∙ among_entries xs h) (not_is _ w.0))
    go false false i j h ih = ih h
