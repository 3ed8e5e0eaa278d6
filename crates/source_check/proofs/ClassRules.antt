-- The first fault of a class of rules is one: the digit of a rule tells it within its class.
use Rattle.std.proofs.Common.{ℕ, ◌≡◌, ◌∙◌, ◌==◌, ◌&&◌, ◌||◌, Bool, true, false, List, [], ◌∷◌, ◌++◌, sym, ap, subst, Some, arith, inl, inr, ◌⊎◌}
use Rattle.std.specs.Prelude.{Contains, flat_map, nat_lt}
use Rattle.std.proofs.lemmas.Bool.Decides.{nat_tests}
use Rattle.chor_base.specs.declared.rule.Place.{Place}
use Rattle.chor_base.specs.declared.rule.Rule.{Rule}
use Rattle.chor_base.specs.declared.fault.Fault.{Fault}
use Rattle.chor_base.specs.Faults.{fault, fault_if, rank, IsFirst}
use Rattle.chor_base.proofs.Members.{nowhere, head_or_tail}

-- whether a place and a digit come before others
abbrev sooner : ℕ → ℕ → ℕ → ℕ → ℕ → ℕ → Bool
sooner a b c d r s = nat_lt a b || ((a == b) && (nat_lt c d || ((c == d) && nat_lt r s)))

same_line : (a b c d r s : ℕ) → sooner a b c d r s ≡ false → sooner b a d c s r ≡ false → a ≡ b
same_line a b c d r s p q = grind (arith, nat_tests)

same_col : (a c d r s : ℕ) → sooner a a c d r s ≡ false → sooner a a d c s r ≡ false → c ≡ d
same_col a c d r s p q = grind (arith, nat_tests)

same_digit : (a c r s : ℕ) → sooner a a c c r s ≡ false → sooner a a c c s r ≡ false → r ≡ s
same_digit a c r s p q = grind (arith, nat_tests)

-- the same place and the same digit, where neither comes before the other
neither : (a b c d r s : ℕ) → sooner a b c d r s ≡ false → sooner b a d c s r ≡ false → (a ≡ b) × (c ≡ d) × (r ≡ s)
neither a b c d r s p q =
    let lines = same_line a b c d r s p q in
    let p' : sooner a a c d r s ≡ false = subst (λ (n : ℕ). sooner a n c d r s ≡ false) (sym lines) p in
    let q' : sooner a a d c s r ≡ false = subst (λ (n : ℕ). sooner n a d c s r ≡ false) (sym lines) q in
    let cols = same_col a c d r s p' q' in
    let p'' : sooner a a c c r s ≡ false = subst (λ (n : ℕ). sooner a a c n r s ≡ false) (sym cols) p' in
    let q'' : sooner a a c c s r ≡ false = subst (λ (n : ℕ). sooner a a n c s r ≡ false) (sym cols) q' in
    (lines, cols, same_digit a c r s p'' q'')

-- a class, by the rule of each digit
module _ (rule_of : ℕ → Rule) where
  -- the rule is one of the class
  abbrev pub IsOf : Rule → Type 0
  IsOf r = rule_of (rank r) ≡ r

  pub one_first : (P : Fault → Type 0) → ((x : Fault) → P x → IsOf x.rule) → (r q : Rule) (p o : Place) → IsFirst P (Some (fault r p)) → IsFirst P (Some (fault q o)) → (r ≡ q) × (p ≡ o)
  one_first P of r q p o f g =
      let same = neither p.line o.line p.col o.col (rank r) (rank q) (g.1 (fault r p) f.0) (f.1 (fault q o) g.0) in
      (sym (of (fault r p) f.0) ∙ ap rule_of same.2 ∙ of (fault q o) g.0, λ i. record { line = same.0 i; col = same.1 i })

  -- ---- all faults of a list are of the class

  abbrev pub Are : List Fault → Type 0
  Are [] = Unit {0}
  Are (x ∷ xs) = IsOf x.rule × Are xs

  pub both : (xs ys : List Fault) → Are xs → Are ys → Are (xs ++ ys)
  both [] ys h i = i
  both (x ∷ xs) ys h i = (h.0, both xs ys h.1 i)

  pub each : {X : Type 0} (g : X → List Fault) → ((a : X) → Are (g a)) → (xs : List X) → Are (flat_map g xs)
  each g h [] = tt
  each g h (x ∷ xs) = both (g x) (flat_map g xs) (h x) (each g h xs)

  pub one_if : (b : Bool) (r : Rule) (p : Place) → IsOf r → Are (fault_if b r p)
  one_if true r p h = (h, tt)
  one_if false r p h = tt

  at_either : (y x : Fault) (ys : List Fault) → IsOf y.rule → (Contains ys x → IsOf x.rule) → (y ≡ x) ⊎ Contains ys x → IsOf x.rule
  at_either y x ys h rest (inl e) = subst (λ (z : Fault). IsOf z.rule) e h
  at_either y x ys h rest (inr n) = rest n

  pub among : (xs : List Fault) (x : Fault) → Are xs → Contains xs x → IsOf x.rule
  among [] x h m = absurd (nowhere x m)
  among (y ∷ ys) x h m = at_either y x ys h.0 (among ys x h.1) (head_or_tail y ys x m)
