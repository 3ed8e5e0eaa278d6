-- What is derived keeps the limits of its grammar, and has so many tokens.
use Rattle.std.proofs.Common.{◌≡◌, ◌<◌, ◌≤◌, ◌+◌, ℕ, zero, suc, List, [], ◌∷◌, length, Some, None, inl, inr, refl, sym, ap, subst, arith}
use Rattle.chor_base.specs.declared.rule.Rule.{Rule}
use Rattle.chor_lexer.specs.Lexeme.{Lexeme}
use Rattle.grammar.specs.Grammars.{Grammar, empty, one, seq, alt, many, more, within, short, after, Room, less, Value, Rules, nowhere, HasRoom, AreFew, no_token, a_token, Derives, is_empty, is_one, in_turn, the_first, the_second, none_of_many, one_of_many, no_more, one_more, with_room, in_short, by_rule}

-- no more than there is room for
abbrev pub IsAtMost : Room → ℕ → Type 0
IsAtMost None k = Unit {0}
IsAtMost (Some n) k = k ≤ n

-- there is room for one
abbrev pub HasPlace : Room → Type 0
HasPlace None = Unit {0}
HasPlace (Some n) = 0 < n

-- items of so many tokens
abbrev pub EachCounts : {A : Type 0} → (A → ℕ → Type 0) → List A → ℕ → Type 0
EachCounts P [] k = Unit {0}
EachCounts P (x ∷ xs) k = (i : ℕ) × (j : ℕ) × (i + j ≤ k) × P x i × EachCounts P xs j

-- items of so many tokens, for which there is room where they have some
abbrev pub EachFits : {A : Type 0} → (A → ℕ → Type 0) → Room → List A → ℕ → Type 0
EachFits P n [] k = Unit {0}
EachFits P n (x ∷ xs) k = (i : ℕ) × (j : ℕ) × (i + j < k) × (0 < i → HasPlace n) × P x i × EachFits P (less n) xs j

module _ {N : Type 0} (r : Rules N) (Made : (n : N) → r.V n → ℕ → Type 0) where
  -- the value is derived from so many tokens, within the limits
  abbrev pub Counts : (g : Grammar N) → Value r.V g → ℕ → Type 0
  Counts empty v k = Unit {0}
  Counts (one c) v k = 1 ≤ k
  Counts (seq g h) v k = (i : ℕ) × (j : ℕ) × (i + j ≤ k) × Counts g v.0 i × Counts h v.1 j
  Counts (alt g h) (inl x) k = Counts g x k
  Counts (alt g h) (inr y) k = Counts h y k
  Counts (many e n g) vs k = EachCounts (Counts g) vs k
  Counts (more e n c g) vs k = EachFits (Counts g) n vs k
  Counts (within e n g) v k = (0 < k → HasPlace n) × Counts g v k
  Counts (short e n g) v k = IsAtMost n k × Counts g v k
  Counts (after c n) v k = (i : ℕ) × (i < k) × Made n v i

  -- from the one tokens to the others
  pub record Used (g : Grammar N) (v : Value r.V g) (ts us : List Lexeme) : Type 0 where
    pub count : ℕ
    pub is : length ts ≡ count + length us
    pub counts : Counts g v count

  has_place : (e : Rule) (n : Room) (ts us : List Lexeme) (k : ℕ) → length ts ≡ k + length us → HasRoom nowhere e n ts → 0 < k → HasPlace n
  has_place e None ts us k is room some = tt
  has_place e (Some n) [] us k is room some = absurd (omega arith)
  has_place e (Some zero) (t ∷ ts) us k is room some = absurd (room refl)
  has_place e (Some (suc n)) (t ∷ ts) us k is room some = omega arith

  at_most : (e : Rule) (n : Room) {ts us : List Lexeme} (k : ℕ) → length ts ≡ k + length us → AreFew nowhere e n ts us → IsAtMost n k
  at_most e None k is few = tt
  at_most e (Some n) {us = us} k is (no_token same) = omega (arith, ap length same, is)
  at_most e (Some zero) k is (a_token l p room few) = absurd (room refl)
  at_most e (Some (suc n)) zero is (a_token l p room few) = omega arith
  at_most e (Some (suc n)) (suc k) is (a_token l p room few) = (let rest = at_most e (Some n) k (omega (arith, is, ap length p)) few in omega (arith, rest))

  module _ (made : (n : N) (v : Value r.V (r.rule n)) (k : ℕ) → Counts (r.rule n) v k → Made n (r.make n v) k) where
    pub used : {g : Grammar N} {ts us : List Lexeme} {v : Value r.V g} → Derives r nowhere g ts v us → Used g v ts us
    used is_empty = record { count = 0; is = omega arith; counts = tt }
    used (is_one l p i) = record { count = 1; is = omega (arith, ap length p); counts = omega arith }
    used (in_turn d m) =
        let x = used d in
        let y = used m in
        record { count = x.count + y.count; is = omega (arith, x.is, y.is); counts = (x.count, y.count, omega arith, x.counts, y.counts) }
    used (the_first d) = let x = used d in record { count = x.count; is = x.is; counts = x.counts }
    used (the_second d) = let x = used d in record { count = x.count; is = x.is; counts = x.counts }
    used none_of_many = record { count = 0; is = omega arith; counts = tt }
    used (one_of_many h d m) =
        let x = used d in
        let y = used m in
        record { count = x.count + y.count; is = omega (arith, x.is, y.is); counts = (x.count, y.count, omega arith, x.counts, y.counts) }
    used no_more = record { count = 0; is = omega arith; counts = tt }
    used (one_more {e = e} {n = n} l p i d m) =
        let x = used d in
        let y = used m in
        record { count = suc (x.count + y.count); is = omega (arith, ap length p, x.is, y.is); counts = (x.count, y.count, omega arith, x.counts.0, x.counts.1, y.counts) }
    used (with_room {e = e} {n = n} {ts = ts} {rest = us} h d) =
        let x = used d in
        record { count = x.count; is = x.is; counts = (has_place e n ts us x.count x.is h, x.counts) }
    used (in_short {e = e} {n = n} f d) =
        let x = used d in
        record { count = x.count; is = x.is; counts = (at_most e n x.count x.is f, x.counts) }
    used (by_rule {n = n} {x = x} l p i d s) =
        let y = used d in
        record { count = suc y.count; is = omega (arith, ap length p, y.is); counts = (y.count, omega arith, subst (λ (v : r.V n). Made n v y.count) (sym s) (made n x y.count y.counts)) }
