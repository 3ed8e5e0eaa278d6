-- Tables of the places at which names stand first, filled from left to right.
use Rattle.std.proofs.Common.{◌≡◌, ℕ, ◌+◌, ◌==◌, Bool, true, false, cond, refl, ap, sym, ◌∙◌, arith}
use Rattle.std.specs.Prelude.{Option, Some, None, is_some, if◌then◌else◌}
use Rattle.std.specs.Ordering.{nat_cmp, eq_by_cmp}
use Rattle.std.specs.FinMap as fin
use Rattle.std.proofs.lemmas.Cmp.{nat_cmp_total}
use Rattle.std.proofs.lemmas.Bool.Decides.{nat_tests}
use Rattle.chor_base.specs.declared.names.NameId.{NameId}
use Rattle.chor_base.specs.NameMap.{FromNames}
use Rattle.chor_base.specs.FirstPlaces.{one_later, or_else, with_place}

-- a place in what is left, after so many
abbrev pub later : ℕ → Option ℕ → Option ℕ
later i None = None
later i (Some k) = Some (i + k)

pub later_one : (i : ℕ) (o : Option ℕ) → later i (one_later o) ≡ later (i + 1) o
later_one i None = refl
later_one i (Some k) = ap (λ n. Some n) (omega arith)

pub later_none : (o : Option ℕ) → later 0 o ≡ o
later_none None = refl
later_none (Some k) = ap (λ n. Some n) (omega arith)

pub or_none : (o : Option ℕ) → or_else o None ≡ o
or_none None = refl
or_none (Some k) = refl

-- a table of nothing says nothing of what is left
pub none_yet : (places : FromNames ℕ) (x : NameId) (o : Option ℕ) → places ≡ fin.empty → or_else (fin.get places x.0) (later 0 o) ≡ o
none_yet places x o e = ap (λ p. or_else p (later 0 o)) (ap (λ m. fin.get m x.0) e ∙ fin.get-empty nat_cmp x.0) ∙ later_none o

same_number : (m n : ℕ) → (m == n) ≡ true → m ≡ n
same_number m n h = grind (arith, nat_tests)

ties : (x y : ℕ) → eq_by_cmp nat_cmp x y ≡ (y == x)
ties x y = grind (arith, nat_tests)

put : (places : FromNames ℕ) (y x : NameId) (i : ℕ) → fin.get (fin.insert places y.0 i) x.0 ≡ cond (y.0 == x.0) (Some i) (fin.get places x.0)
put places y x i = fin.get-insert nat_cmp_total places y.0 i x.0 ∙ ap (λ b. cond b (Some i) (fin.get places x.0)) (ties x.0 y.0)

same_place : (places : FromNames ℕ) (y x : NameId) → (y.0 == x.0) ≡ true → fin.get places x.0 ≡ fin.get places y.0
same_place places y x h = ap (λ n. fin.get places n) (sym (same_number y.0 x.0 h))

-- one name passes from what is left to the table
pub one_more : (places : FromNames ℕ) (y x : NameId) (i : ℕ) (o : Option ℕ)
    → or_else (fin.get (with_place places y i) x.0) (later (i + 1) o) ≡ or_else (fin.get places x.0) (later i (if y.0 == x.0 then Some 0 else one_later o))
one_more places y x i o = go (is_some (fin.get places y.0)) (y.0 == x.0) refl refl where
  there : (p q : Option ℕ) → (a b : Option ℕ) → p ≡ q → is_some q ≡ true → or_else p a ≡ or_else p b
  there (Some k) q a b e h = refl
  there None None a b e h = cc
  there None (Some k) a b e h = cc

  absent : (p q a : Option ℕ) → p ≡ q → is_some q ≡ false → a ≡ or_else p a
  absent None q a e h = refl
  absent (Some k) None a e h = cc
  absent (Some k) (Some l) a e h = cc

  go : (b c : Bool) → is_some (fin.get places y.0) ≡ b → (y.0 == x.0) ≡ c
      → or_else (fin.get (if b then places else fin.insert places y.0 i) x.0) (later (i + 1) o) ≡ or_else (fin.get places x.0) (later i (if c then Some 0 else one_later o))
  go true true e f = there (fin.get places x.0) (fin.get places y.0) _ _ (same_place places y x f) e
  go true false e f = ap (λ p. or_else (fin.get places x.0) p) (sym (later_one i o))
  go false true e f =
      ap (λ p. or_else p (later (i + 1) o)) (put places y x i ∙ ap (λ b. cond b (Some i) (fin.get places x.0)) f)
      ∙ absent (fin.get places x.0) (fin.get places y.0) (Some i) (same_place places y x f) e
      ∙ ap (λ n. or_else (fin.get places x.0) (Some n)) (omega arith)
  go false false e f =
      ap (λ p. or_else p (later (i + 1) o)) (put places y x i ∙ ap (λ b. cond b (Some i) (fin.get places x.0)) f)
      ∙ ap (λ p. or_else (fin.get places x.0) p) (sym (later_one i o))
