-- An expression that is printed has no more tokens than it was derived from.
use Rattle.std.proofs.Common.{◌≡◌, ◌<◌, ◌≤◌, ◌+◌, ℕ, suc, Bool, true, false, List, [], ◌∷◌, inl, inr, refl, arith, nat_lt}
use Rattle.std.proofs.lemmas.Bool.Decides.{nat_tests}
use Rattle.chor_base.specs.declared.expr.BinOp.{BinOp}
use Rattle.chor_base.specs.declared.expr.BinOp.TheVariants as binop
use Rattle.chor_lexer.specs.declared.mark.Mark.TheVariants.{Star, Slash, Plus, Minus, And, Or}
use Rattle.chor_lexer.specs.Canonical.{strength, left_needs, right_needs}
use Rattle.endpoint_grammar.specs.Written.{Phrase, Leaf, Unary, Binary}
use Rattle.endpoint_grammar.specs.Grammar.{Nonterminal, operand, parens, Part, operators, comparisons, un, product, sum, comparison, conjunction, disjunction}
use Rattle.endpoint_grammar.specs.Values.{Derived, rules, Meaning, leaf_of, grouped, product_op, sum_op, comparison_op, product_phrase, sum_phrase, comparison_phrase, conjunction_phrase, phrase}
use Rattle.written_programs.proofs.Counts.{EachCounts, Counts}

-- ---- how many tokens a printed expression has

abbrev pub strength_in : Phrase → ℕ
strength_in (Leaf s) = 6
strength_in (Unary op e) = 6
strength_in (Binary op e f) = strength op

abbrev pub in_parens : Bool → ℕ → ℕ
in_parens true n = n + 2
in_parens false n = n

abbrev pub tokens_in : Phrase → ℕ
tokens_in (Leaf s) = 1
tokens_in (Unary op e) = suc (in_parens (nat_lt (strength_in e) 6) (tokens_in e))
tokens_in (Binary op e f) = in_parens (nat_lt (strength_in e) (left_needs op)) (tokens_in e) + suc (in_parens (nat_lt (strength_in f) (right_needs op)) (tokens_in f))

-- as an operand, where so much strength is needed
abbrev pub size : ℕ → Phrase → ℕ
size needed e = in_parens (nat_lt (strength_in e) needed) (tokens_in e)

pub size_least : (k : ℕ) (e : Phrase) → tokens_in e ≤ size k e
size_least k e = go (nat_lt (strength_in e) k)
  where
    go : (b : Bool) → tokens_in e ≤ in_parens b (tokens_in e)
    go true = omega arith
    go false = omega arith

size_most : (k : ℕ) (e : Phrase) → size k e ≤ tokens_in e + 2
size_most k e = go (nat_lt (strength_in e) k)
  where
    go : (b : Bool) → in_parens b (tokens_in e) ≤ tokens_in e + 2
    go true = omega arith
    go false = omega arith

size_own : (k : ℕ) (e : Phrase) → k ≤ strength_in e → size k e ≤ tokens_in e
size_own k e h = go (nat_lt (strength_in e) k) refl
  where
    go : (b : Bool) → nat_lt (strength_in e) k ≡ b → in_parens b (tokens_in e) ≤ tokens_in e
    go true is = absurd (grind (arith, nat_tests))
    go false is = omega arith

size_weaker : (j k : ℕ) (e : Phrase) → j ≤ k → size j e ≤ size k e
size_weaker j k e h = go (nat_lt (strength_in e) j) (nat_lt (strength_in e) k) refl refl
  where
    go : (a b : Bool) → nat_lt (strength_in e) j ≡ a → nat_lt (strength_in e) k ≡ b → in_parens a (tokens_in e) ≤ in_parens b (tokens_in e)
    go true true p q = omega arith
    go true false p q = absurd (grind (arith, nat_tests))
    go false true p q = omega arith
    go false false p q = omega arith

-- operands of an operator of this strength
binary_size : (op : BinOp) (a b : Phrase) (j k : ℕ) → strength op ≡ k → left_needs op ≤ j → size k (Binary op a b) ≤ size j a + suc (size (suc k) b)
binary_size op a b j k is needs =
    omega (arith, size_own k (Binary op a b) (omega (arith, is)), size_weaker (left_needs op) j a needs, size_weaker (right_needs op) (suc k) b (omega (arith, is)))

-- ---- what tokens derive

abbrev pub IsPhrase : ℕ → Phrase → ℕ → Type 0
IsPhrase needed e k = size needed e ≤ k

module _ (Made : (n : Nonterminal) → Meaning n → ℕ → Type 0) (one_operand : (e : Phrase) (k : ℕ) → Made operand e k → IsPhrase 6 e k) (in_them : (e : Phrase) (k : ℕ) → Made parens e k → size 1 e < k) where
  abbrev Has : (g : Part) → Derived g → ℕ → Type 0
  Has g v k = Counts rules Made g v k

  pub leaf_counts : (v : Derived un) (k : ℕ) → Has un v k → IsPhrase 6 (leaf_of v) k
  leaf_counts (inl x) k h = let rest = one_operand x h.0 h.2 in let less = h.1 in omega (arith, rest, less)
  leaf_counts (inr (inl x)) k h = let rest = one_operand x h.0 h.2 in let less = h.1 in omega (arith, rest, less)
  leaf_counts (inr (inr (inl x))) k h = let rest = in_them x h.0 h.2 in let less = h.1 in omega (arith, rest, less, size_most 6 x, size_least 1 x)
  leaf_counts (inr (inr (inr (inl l)))) k h = h
  leaf_counts (inr (inr (inr (inr (inl l))))) k h = h
  leaf_counts (inr (inr (inr (inr (inr (inl v)))))) k h = h
  leaf_counts (inr (inr (inr (inr (inr (inr (inl v))))))) k h = h
  leaf_counts (inr (inr (inr (inr (inr (inr (inr l))))))) k h = h

  -- operands that follow, each with its operator before it
  module _ {A B : Type 0} (op : A → BinOp) (f : B → Phrase) (s : ℕ) (P : A → ℕ → Type 0) (Q : B → ℕ → Type 0)
      (strong : (a : A) → strength (op a) ≡ s) (needs : (a : A) → left_needs (op a) ≤ s) (some : (a : A) (k : ℕ) → P a k → 0 < k) (item : (b : B) (k : ℕ) → Q b k → IsPhrase (suc s) (f b) k) where
    grouped_counts : (x : Phrase) (ys : List (A × B)) (k : ℕ) → EachCounts (λ y k. (i : ℕ) × (j : ℕ) × (i + j ≤ k) × P y.0 i × Q y.1 j) ys k → size s (grouped op f x ys) ≤ size s x + k
    grouped_counts x [] k h = omega arith
    grouped_counts x (y ∷ ys) k h =
        let one = h.3 in
        let rest = grouped_counts (Binary (op y.0) x (f y.1)) ys h.1 h.4 in
        omega (arith, h.2, one.2, some y.0 one.0 one.3, item y.1 one.1 one.4, rest, binary_size (op y.0) x (f y.1) s s (strong y.0) (needs y.0))

  product_strong : (v : Derived (operators (Star ∷ Slash ∷ []))) → strength (product_op v) ≡ 5
  product_strong (inl v) = refl
  product_strong (inr v) = refl

  product_needs : (v : Derived (operators (Star ∷ Slash ∷ []))) → left_needs (product_op v) ≤ 5
  product_needs (inl v) = omega arith
  product_needs (inr v) = omega arith

  product_some : (v : Derived (operators (Star ∷ Slash ∷ []))) (k : ℕ) → Has (operators (Star ∷ Slash ∷ [])) v k → 0 < k
  product_some (inl v) k h = h
  product_some (inr v) k h = h

  product_counts : (v : Derived product) (k : ℕ) → Has product v k → IsPhrase 5 (product_phrase v) k
  product_counts v k h =
      let rest = grouped_counts product_op leaf_of 5 (Has (operators (Star ∷ Slash ∷ []))) (Has un) product_strong product_needs product_some leaf_counts (leaf_of v.0) v.1 h.1 h.4 in
      omega (arith, h.2, rest, leaf_counts v.0 h.0 h.3, size_weaker 5 6 (leaf_of v.0) (omega arith))

  sum_strong : (v : Derived (operators (Plus ∷ Minus ∷ []))) → strength (sum_op v) ≡ 4
  sum_strong (inl v) = refl
  sum_strong (inr v) = refl

  sum_needs : (v : Derived (operators (Plus ∷ Minus ∷ []))) → left_needs (sum_op v) ≤ 4
  sum_needs (inl v) = omega arith
  sum_needs (inr v) = omega arith

  sum_some : (v : Derived (operators (Plus ∷ Minus ∷ []))) (k : ℕ) → Has (operators (Plus ∷ Minus ∷ [])) v k → 0 < k
  sum_some (inl v) k h = h
  sum_some (inr v) k h = h

  sum_counts : (v : Derived sum) (k : ℕ) → Has sum v k → IsPhrase 4 (sum_phrase v) k
  sum_counts v k h =
      let rest = grouped_counts sum_op product_phrase 4 (Has (operators (Plus ∷ Minus ∷ []))) (Has product) sum_strong sum_needs sum_some product_counts (product_phrase v.0) v.1 h.1 h.4 in
      omega (arith, h.2, rest, product_counts v.0 h.0 h.3, size_weaker 4 5 (product_phrase v.0) (omega arith))

  comparison_strong : (v : Derived (operators comparisons)) → strength (comparison_op v) ≡ 3
  comparison_strong (inl v) = refl
  comparison_strong (inr (inl v)) = refl
  comparison_strong (inr (inr (inl v))) = refl
  comparison_strong (inr (inr (inr v))) = refl

  comparison_needs : (v : Derived (operators comparisons)) → left_needs (comparison_op v) ≤ 4
  comparison_needs (inl v) = omega arith
  comparison_needs (inr (inl v)) = omega arith
  comparison_needs (inr (inr (inl v))) = omega arith
  comparison_needs (inr (inr (inr v))) = omega arith

  comparison_some : (v : Derived (operators comparisons)) (k : ℕ) → Has (operators comparisons) v k → 0 < k
  comparison_some (inl v) k h = h
  comparison_some (inr (inl v)) k h = h
  comparison_some (inr (inr (inl v))) k h = h
  comparison_some (inr (inr (inr v))) k h = h

  comparison_counts : (v : Derived comparison) (k : ℕ) → Has comparison v k → IsPhrase 3 (comparison_phrase v) k
  comparison_counts (x, inl (op, y)) k h =
      let signed = comparison_some op h.4.0 h.4.3 in
      let right = sum_counts y h.4.1 h.4.4 in
      omega (arith, h.2, h.4.2, signed, right, sum_counts x h.0 h.3, binary_size (comparison_op op) (sum_phrase x) (sum_phrase y) 4 3 (comparison_strong op) (comparison_needs op))
  comparison_counts (x, inr v) k h = omega (arith, h.2, sum_counts x h.0 h.3, size_weaker 3 4 (sum_phrase x) (omega arith))

  conjunction_counts : (v : Derived conjunction) (k : ℕ) → Has conjunction v k → IsPhrase 2 (conjunction_phrase v) k
  conjunction_counts v k h =
      let rest = grouped_counts (λ op. binop.And) comparison_phrase 2 (Has (operators (And ∷ []))) (Has comparison) (λ op. refl) (λ op. omega arith) (λ op k some. some) comparison_counts (comparison_phrase v.0) v.1 h.1 h.4 in
      omega (arith, h.2, rest, comparison_counts v.0 h.0 h.3, size_weaker 2 3 (comparison_phrase v.0) (omega arith))

  pub phrase_counts : (v : Derived disjunction) (k : ℕ) → Has disjunction v k → IsPhrase 1 (phrase v) k
  phrase_counts v k h =
      let rest = grouped_counts (λ op. binop.Or) conjunction_phrase 1 (Has (operators (Or ∷ []))) (Has conjunction) (λ op. refl) (λ op. omega arith) (λ op k some. some) conjunction_counts (conjunction_phrase v.0) v.1 h.1 h.4 in
      omega (arith, h.2, rest, conjunction_counts v.0 h.0 h.3, size_weaker 1 2 (conjunction_phrase v.0) (omega arith))
