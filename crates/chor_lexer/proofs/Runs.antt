-- The longest run of bytes that pass a test.
use Rattle.std.proofs.Common.{◌≡◌, ◌≤◌, ◌+◌, ℕ, suc, Bool, true, false, cond, List, [], ◌∷◌, ◌++◌, length, take, drop, refl, sym, ap, ◌∙◌, subst, arith}
use Rattle.std.specs.List.{AllByRecursion, prefix_len}

abbrev pub Passes : (ℕ → Bool) → List ℕ → Type 0
Passes p xs = AllByRecursion (λ b. p b ≡ true) xs

-- the first n are the longest run of those that pass
pub record IsRun (p : ℕ → Bool) (xs : List ℕ) (n : ℕ) : Type 0 where
  pub within : n ≤ length xs
  pub passes : Passes p (take n xs)
  pub most : (v u : List ℕ) → xs ≡ v ++ u → Passes p v → length v ≤ n
  pub ends : (b : ℕ) (bs : List ℕ) → drop n xs ≡ b ∷ bs → p b ≡ false

run_more : (p : ℕ → Bool) (x : ℕ) (xs : List ℕ) (n : ℕ) → p x ≡ true → IsRun p xs n → IsRun p (x ∷ xs) (suc n)
run_more p x xs n e r = record { within = omega (arith, r.within); passes = (e, r.passes); most = most; ends = r.ends }
  where
    most : (v u : List ℕ) → x ∷ xs ≡ v ++ u → Passes p v → length v ≤ suc n
    most [] u q h = omega arith
    most (y ∷ v) u q h = let t : xs ≡ v ++ u = cc in omega (arith, r.most v u t h.1)

run_none : (p : ℕ → Bool) (x : ℕ) (xs : List ℕ) → p x ≡ false → IsRun p (x ∷ xs) 0
run_none p x xs e = record { within = omega arith; passes = tt; most = most; ends = λ b bs q. let same : x ≡ b = cc in subst (λ (c : ℕ). p c ≡ false) same e }
  where
    most : (v u : List ℕ) → x ∷ xs ≡ v ++ u → Passes p v → length v ≤ 0
    most [] u q h = omega arith
    most (y ∷ v) u q h = let same : x ≡ y = cc in let no : p y ≡ false = subst (λ (c : ℕ). p c ≡ false) same e in let yes = h.0 in absurd cc

pub run_of : (p : ℕ → Bool) (xs : List ℕ) → IsRun p xs (prefix_len p xs)
run_of p [] = record { within = omega arith; passes = tt; most = most; ends = λ b bs q. absurd cc }
  where
    most : (v u : List ℕ) → [] ≡ v ++ u → Passes p v → length v ≤ 0
    most [] u q h = omega arith
    most (y ∷ v) u q h = absurd cc
run_of p (x ∷ xs) = go (p x) refl (run_of p xs)
  where
    go : (b : Bool) → p x ≡ b → IsRun p xs (prefix_len p xs) → IsRun p (x ∷ xs) (cond (p x) (1 + prefix_len p xs) 0)
    go true e r = let n : cond (p x) (1 + prefix_len p xs) 0 ≡ suc (prefix_len p xs) = ap (λ b. cond b (1 + prefix_len p xs) 0) e ∙ (omega arith) in subst (IsRun p (x ∷ xs)) (sym n) (run_more p x xs (prefix_len p xs) e r)
    go false e r = let n : cond (p x) (1 + prefix_len p xs) 0 ≡ 0 = ap (λ b. cond b (1 + prefix_len p xs) 0) e in subst (IsRun p (x ∷ xs)) (sym n) (run_none p x xs e)
