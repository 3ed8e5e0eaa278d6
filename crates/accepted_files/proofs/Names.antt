-- Names that differ, in the words of sources and of endpoints; and the roles of a start.
use Rattle.std.proofs.Common.{◌≡◌, suc, zero, ◌<◌, List, [], ◌∷◌, ◌++◌, map, length, refl, sym, ap, ◌∙◌, Some, Bool, true, false, if◌then◌else◌, ◌==◌, ◌&&◌, ◌||◌, arith}
use Rattle.std.specs.Prelude.{Contains}
use Rattle.std.proofs.lemmas.Bool.{and_parts}
use Rattle.chor_base.specs.declared.names.NameId.{NameId}
use Rattle.chor_tree.specs.declared.tree.Part.{Part}
use Rattle.chor_tree.specs.Names.{is_among as is_in}
use Rattle.chor_semantics.specs.Sources.{parts_of}
use Rattle.endpoint_code.specs.Faults.{is_among, AreDistinct, no_name, one_more}
use Rattle.well_formed.specs.WellFormed.{role_among, AreDistinctRoles}
use Rattle.well_formed.proofs.References.{same_name, clash, true_eq, or_rights}
use Rattle.delegation.specs.Owners.{holder_of, started}
use Rattle.delegation.specs.Checks.{all_differ}
use Rattle.typed_sources.proofs.Checked.{some_is}
use Rattle.typed_sources.proofs.Opened.{eq_flip}
use Rattle.typed_sources.proofs.Opened.{not_is}
use Rattle.projection.specs.Codes.{role_in}

-- ---- names that differ

-- both words of a name in a list are one
pub among_in : (x : NameId) (ys : List NameId) → is_among x ys ≡ is_in ys x
among_in x [] = refl
among_in x (y ∷ ys) = ap (λ b. b || is_among x ys) (eq_flip x.0 y.0) ∙ ap (λ b. (y.0 == x.0) || b) (among_in x ys)

-- so no name stands twice
pub distinct_names : (xs : List NameId) → all_differ xs ≡ true → AreDistinct xs
distinct_names [] h = no_name
distinct_names (x ∷ xs) h = let w = and_parts _ _ h in one_more (among_in x xs ∙ not_is _ w.0) (distinct_names xs w.1)

among_roles : (x : NameId) (ys : List NameId) → is_among x ys ≡ role_among x ys
among_roles x [] = refl
among_roles x (y ∷ ys) = ap (λ b. (x.0 == y.0) || b) (among_roles x ys)

-- nor a role
pub distinct_roles : (xs : List NameId) → AreDistinctRoles xs → AreDistinct xs
distinct_roles [] d = no_name
distinct_roles (x ∷ xs) d = one_more (among_roles x xs ∙ d.0) (distinct_roles xs d.1)

-- ---- the roles of a start

-- a part of a process, with this role
pub record HasPart (r a : NameId) (parts : List Part) : Type 0 where
  pub part : Part
  pub at : Contains parts part
  pub process : part.process.name ≡ r
  pub role : part.role.name ≡ a

-- who has a role in a start has a part in it
pub has_part : (r a : NameId) (parts : List Part) → role_in r (parts_of parts) ≡ Some a → HasPart r a parts
has_part r a [] h = absurd cc
has_part r a (x ∷ xs) h = go (r.0 == x.process.name.0) refl h (has_part r a xs)
  where
    go : (b : Bool) → (r.0 == x.process.name.0) ≡ b → (if b then Some x.role.name else role_in r (parts_of xs)) ≡ Some a → (role_in r (parts_of xs) ≡ Some a → HasPart r a xs) → HasPart r a (x ∷ xs)
    go true e i ih = record { part = x; at = (0, omega arith, refl); process = sym (same_name r x.process.name e); role = some_is _ _ i }
    go false e i ih =
        let w = ih i in
        record { part = w.part; at = (suc w.at.0, (let l : w.at.0 < length xs = w.at.1 in omega (arith, l)), w.at.2); process = w.process; role = w.role }

-- a part of one of two lists is one of both
pub front_part : (xs ys : List Part) (q : Part) → Contains xs q → Contains (xs ++ ys) q
front_part [] ys q (i, l, e) = absurd (omega (arith, l))
front_part (x ∷ xs) ys q (zero, l, e) = (0, omega arith, e)
front_part (x ∷ xs) ys q (suc i, l, e) = let w = front_part xs ys q (i, omega (arith, l), e) in (suc w.0, (let m : w.0 < length (xs ++ ys) = w.1 in omega (arith, m)), w.2)

pub behind_part : (xs ys : List Part) (q : Part) → Contains ys q → Contains (xs ++ ys) q
behind_part [] ys q m = m
behind_part (x ∷ xs) ys q m = let w = behind_part xs ys q m in (suc w.0, (let l : w.0 < length (xs ++ ys) = w.1 in omega (arith, l)), w.2)

-- a role of a part is among the roles
pub role_there : (parts : List Part) (q : Part) → Contains parts q → is_among q.role.name (map (λ z. z.role.name) parts) ≡ true
role_there [] q (i, l, e) = absurd (omega (arith, l))
role_there (x ∷ xs) q (zero, l, e) = ap (λ b. b || is_among q.role.name (map (λ z. z.role.name) xs)) (ap (λ (z : Part). q.role.name.0 == z.role.name.0) e ∙ true_eq q.role.name.0)
role_there (x ∷ xs) q (suc i, l, e) = or_rights (q.role.name.0 == x.role.name.0) _ (role_there xs q (i, omega (arith, l), e))

-- where no role stands twice, each part's process holds its role
pub part_holder : (k : NameId) (parts : List Part) → AreDistinctRoles (map (λ q. q.role.name) parts) → (q : Part) → Contains parts q → holder_of (started k parts) k q.role.name ≡ Some q.process.name
part_holder k [] d q (i, l, e) = absurd (omega (arith, l))
part_holder k (x ∷ xs) d q (zero, l, e) =
    ap (λ b. if b && (x.role.name.0 == q.role.name.0) then Some x.process.name else holder_of (started k xs) k q.role.name) (true_eq k.0)
    ∙ ap (λ b. if b then Some x.process.name else holder_of (started k xs) k q.role.name) (ap (λ (z : Part). z.role.name.0 == q.role.name.0) e ∙ true_eq q.role.name.0)
    ∙ ap (λ (z : Part). Some z.process.name) e
part_holder k (x ∷ xs) d q (suc i, l, e) =
    ap (λ b. if b && (x.role.name.0 == q.role.name.0) then Some x.process.name else holder_of (started k xs) k q.role.name) (true_eq k.0)
    ∙ go (x.role.name.0 == q.role.name.0) refl (part_holder k xs d.1 q (i, omega (arith, l), e))
  where
    there : is_among q.role.name (map (λ z. z.role.name) xs) ≡ true
    there = role_there xs q (i, omega (arith, l), e)

    go : (b : Bool) → (x.role.name.0 == q.role.name.0) ≡ b → holder_of (started k xs) k q.role.name ≡ Some q.process.name → (if b then Some x.process.name else holder_of (started k xs) k q.role.name) ≡ Some q.process.name
    go true j ih = absurd (clash there (ap (λ z. is_among z (map (λ z. z.role.name) xs)) (sym (same_name x.role.name q.role.name j)) ∙ among_roles x.role.name (map (λ z. z.role.name) xs) ∙ d.0))
    go false j ih = ih
