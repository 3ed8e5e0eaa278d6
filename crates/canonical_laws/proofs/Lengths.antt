-- The canonical text of an expression has no more tokens than the expression was derived from.
use Rattle.std.proofs.Common.{◌≡◌, ◌≢◌, ◌≤◌, ◌+◌, ◌==◌, ℕ, suc, Bool, true, false, List, [], ◌∷◌, ◌++◌, length, Option, Some, None, refl, sym, subst, arith, nat_lt, slice_get}
use Rattle.std.specs.Prelude.{if◌then◌else◌}
use Rattle.std.proofs.lemmas.Bool.Decides.{nat_tests}
use Rattle.std.proofs.lemmas.List.{length-append}
use Rattle.chor_base.specs.declared.value.Value.{Value}
use Rattle.chor_base.specs.declared.value.Value.TheVariants as value
use Rattle.chor_base.specs.declared.expr.BinOp.{BinOp}
use Rattle.chor_base.specs.declared.expr.BinOp.TheVariants as binop
use Rattle.chor_base.specs.Expr.{Term, Binary}
use Rattle.chor_lexer.specs.declared.mark.Mark.TheVariants.{CloseParen}
use Rattle.chor_lexer.specs.declared.token.Token.{Token}
use Rattle.chor_lexer.specs.Lexeme.{Symbol, mark}
use Rattle.chor_lexer.specs.Canonical.{binary_mark, strength, strength_of, left_needs, right_needs}
use Rattle.chor_lexer.specs.Grammar.{ExprIs, OrIs, OrGoes, AndIs, AndGoes, CmpIs, CmpGoes, SumIs, SumGoes, ProdIs, ProdGoes, UnIs, a_disjunction, or_done, or_more, a_conjunction, and_done, and_more, a_comparison, cmp_done, cmp_once, a_sum, sum_done, sum_more, a_product, prod_done, prod_more, a_unary, a_number, a_text, a_truth, a_name, in_parens}
use Rattle.chor_lexer.specs.Spelling.{enclosed_symbols, operand_symbols, text_symbols, constant_symbols, expr_symbols}

-- ---- parentheses

-- an operand has two symbols more where it needs parentheses
record Enclosed (b : Bool) (ss : List Symbol) : Type 0 where
  least : length ss ≤ length (enclosed_symbols b ss)
  most : length (enclosed_symbols b ss) ≤ length ss + 2

enclosed_length : (b : Bool) (ss : List Symbol) → Enclosed b ss
enclosed_length true ss = let e = length-append ss (mark CloseParen ∷ []) in record { least = omega (arith, e); most = omega (arith, e) }
enclosed_length false ss = record { least = omega arith; most = omega arith }

-- where less is needed there are no more of them
weaker_length : (j k strong : ℕ) (ss : List Symbol) → j ≤ k → length (operand_symbols j strong ss) ≤ length (operand_symbols k strong ss)
weaker_length j k strong ss h = go (nat_lt strong j) (nat_lt strong k) refl refl
  where
    go : (a b : Bool) → nat_lt strong j ≡ a → nat_lt strong k ≡ b → length (enclosed_symbols a ss) ≤ length (enclosed_symbols b ss)
    go true true p q = omega arith
    go true false p q = absurd (grind (arith, nat_tests))
    go false b p q = (enclosed_length b ss).least

module _ (names texts : List (List ℕ)) where
  -- how many symbols an expression has as an operand
  abbrev size : ℕ → Term → ℕ
  size needed x = length (operand_symbols needed (strength_of x) (expr_symbols names texts x))

  size_least : (k : ℕ) (x : Term) → length (expr_symbols names texts x) ≤ size k x
  size_least k x = (enclosed_length (nat_lt (strength_of x) k) (expr_symbols names texts x)).least

  size_most : (k : ℕ) (x : Term) → size k x ≤ length (expr_symbols names texts x) + 2
  size_most k x = (enclosed_length (nat_lt (strength_of x) k) (expr_symbols names texts x)).most

  size_weaker : (j k : ℕ) (x : Term) → j ≤ k → size j x ≤ size k x
  size_weaker j k x h = weaker_length j k (strength_of x) (expr_symbols names texts x) h

  -- ---- what an expression is made of

  text_length : (o : Option (List ℕ)) → length (text_symbols o) ≤ 1
  text_length None = omega arith
  text_length (Some b) = omega arith

  constant_length : (v : Value) → length (constant_symbols texts v) ≤ 1
  constant_length (value.Int z) = omega arith
  constant_length (value.Bool b) = omega arith
  constant_length (value.Text t) = text_length (slice_get texts t)
  constant_length (value.Part s r) = omega arith

  -- as an operand of just its own strength an expression needs no parentheses
  size_own : (k : ℕ) (x : Term) → k ≤ strength_of x → size k x ≤ length (expr_symbols names texts x)
  size_own k x h = go (nat_lt (strength_of x) k) refl
    where
      go : (b : Bool) → nat_lt (strength_of x) k ≡ b → length (enclosed_symbols b (expr_symbols names texts x)) ≤ length (expr_symbols names texts x)
      go true e = absurd (grind (arith, nat_tests))
      go false e = omega arith

  -- an operand to the left of an operator that groups
  left_groups : (op : BinOp) (k : ℕ) → strength op ≡ k → k ≢ 3 → left_needs op ≤ k
  left_groups binop.Add k e h = omega (arith, e)
  left_groups binop.Sub k e h = omega (arith, e)
  left_groups binop.Mul k e h = omega (arith, e)
  left_groups binop.Div k e h = omega (arith, e)
  left_groups binop.Eq k e h = absurd (h (sym e))
  left_groups binop.Ne k e h = absurd (h (sym e))
  left_groups binop.Lt k e h = absurd (h (sym e))
  left_groups binop.Le k e h = absurd (h (sym e))
  left_groups binop.And k e h = omega (arith, e)
  left_groups binop.Or k e h = omega (arith, e)

  -- of a comparison
  left_compares : (op : BinOp) → strength op ≡ 3 → left_needs op ≤ 4
  left_compares op e = subst (λ (s : ℕ). (if s == 3 then 4 else s) ≤ 4) (sym e) (omega arith)

  binary_size : (op : BinOp) (a b : Term) (j k : ℕ) → strength op ≡ k → left_needs op ≤ j → size k (Binary op a b) ≤ size j a + suc (size (suc k) b)
  binary_size op a b j k e h =
      let lefts = operand_symbols (left_needs op) (strength_of a) (expr_symbols names texts a) in
      let rights = operand_symbols (right_needs op) (strength_of b) (expr_symbols names texts b) in
      let own : size k (Binary op a b) ≤ length (lefts ++ mark (binary_mark op) ∷ rights) = size_own k (Binary op a b) (omega (arith, e)) in
      let left : length lefts ≤ size j a = size_weaker (left_needs op) j a h in
      let right : length rights ≤ size (suc k) b = size_weaker (right_needs op) (suc k) b (omega (arith, e)) in
      omega (arith, own, left, right, length-append lefts (mark (binary_mark op) ∷ rights))

  -- an operator and its operand to the right come before what follows
  grown : (op : BinOp) (a b : Term) (k : ℕ) (whole : ℕ) (ts mid : List Token) → strength op ≡ k → k ≢ 3 → size (suc k) b + length mid ≤ length ts
      → whole ≤ length mid + size k (Binary op a b) → whole ≤ suc (length ts) + size k a
  grown op a b k whole ts mid e h p g = let s = binary_size op a b k k e (left_groups op k e h) in omega (arith, s, p, g)

  mutual
    or_length : (ts : List Token) (x : Term) (rest : List Token) → OrIs names ts x rest → size 1 x + length rest ≤ length ts
    or_length ts x rest (a_disjunction {mid = mid} {a = a} p g) =
        omega (arith, and_length ts a mid p, or_goes_length a mid x rest g, size_weaker 1 2 a (omega arith))

    or_goes_length : (a : Term) (ts : List Token) (x : Term) (rest : List Token) → OrGoes names a ts x rest → size 1 x + length rest ≤ length ts + size 1 a
    or_goes_length a ts x rest or_done = omega arith
    or_goes_length a ts x rest (or_more {ts = l} {mid = mid} {b = b} {op = op} e h p g) =
        grown op a b 1 (size 1 x + length rest) l mid e (λ q. absurd cc) (and_length l b mid p) (or_goes_length (Binary op a b) mid x rest g)

    and_length : (ts : List Token) (x : Term) (rest : List Token) → AndIs names ts x rest → size 2 x + length rest ≤ length ts
    and_length ts x rest (a_conjunction {mid = mid} {a = a} p g) =
        omega (arith, cmp_length ts a mid p, and_goes_length a mid x rest g, size_weaker 2 3 a (omega arith))

    and_goes_length : (a : Term) (ts : List Token) (x : Term) (rest : List Token) → AndGoes names a ts x rest → size 2 x + length rest ≤ length ts + size 2 a
    and_goes_length a ts x rest and_done = omega arith
    and_goes_length a ts x rest (and_more {ts = l} {mid = mid} {b = b} {op = op} e h p g) =
        grown op a b 2 (size 2 x + length rest) l mid e (λ q. absurd cc) (cmp_length l b mid p) (and_goes_length (Binary op a b) mid x rest g)

    cmp_length : (ts : List Token) (x : Term) (rest : List Token) → CmpIs names ts x rest → size 3 x + length rest ≤ length ts
    cmp_length ts x rest (a_comparison {mid = mid} {a = a} p g) = omega (arith, sum_length ts a mid p, cmp_goes_length a mid x rest g)

    cmp_goes_length : (a : Term) (ts : List Token) (x : Term) (rest : List Token) → CmpGoes names a ts x rest → size 3 x + length rest ≤ length ts + size 4 a
    cmp_goes_length a ts x rest cmp_done = omega (arith, size_weaker 3 4 a (omega arith))
    cmp_goes_length a ts x rest (cmp_once {ts = l} {b = b} {op = op} e h p) =
        omega (arith, binary_size op a b 4 3 e (left_compares op e), sum_length l b rest p)

    sum_length : (ts : List Token) (x : Term) (rest : List Token) → SumIs names ts x rest → size 4 x + length rest ≤ length ts
    sum_length ts x rest (a_sum {mid = mid} {a = a} p g) =
        omega (arith, prod_length ts a mid p, sum_goes_length a mid x rest g, size_weaker 4 5 a (omega arith))

    sum_goes_length : (a : Term) (ts : List Token) (x : Term) (rest : List Token) → SumGoes names a ts x rest → size 4 x + length rest ≤ length ts + size 4 a
    sum_goes_length a ts x rest sum_done = omega arith
    sum_goes_length a ts x rest (sum_more {ts = l} {mid = mid} {b = b} {op = op} e h p g) =
        grown op a b 4 (size 4 x + length rest) l mid e (λ q. absurd cc) (prod_length l b mid p) (sum_goes_length (Binary op a b) mid x rest g)

    prod_length : (ts : List Token) (x : Term) (rest : List Token) → ProdIs names ts x rest → size 5 x + length rest ≤ length ts
    prod_length ts x rest (a_product {mid = mid} {a = a} p g) =
        omega (arith, un_length ts a mid p, prod_goes_length a mid x rest g, size_weaker 5 6 a (omega arith))

    prod_goes_length : (a : Term) (ts : List Token) (x : Term) (rest : List Token) → ProdGoes names a ts x rest → size 5 x + length rest ≤ length ts + size 5 a
    prod_goes_length a ts x rest prod_done = omega arith
    prod_goes_length a ts x rest (prod_more {ts = l} {mid = mid} {b = b} {op = op} e h p g) =
        grown op a b 5 (size 5 x + length rest) l mid e (λ q. absurd cc) (un_length l b mid p) (prod_goes_length (Binary op a b) mid x rest g)

    un_length : (ts : List Token) (x : Term) (rest : List Token) → UnIs names ts x rest → size 6 x + length rest ≤ length ts
    un_length ts x rest (a_unary {ts = l} {x = y} h p) = omega (arith, un_length l y rest p)
    un_length ts x rest (a_number h) = omega arith
    un_length ts x rest (a_text {n = n} h) = omega (arith, constant_length (value.Text n))
    un_length ts x rest (a_truth h) = omega arith
    un_length ts x rest (a_name h) = omega arith
    un_length ts x rest (in_parens {u = u} {ts = l} h p c) = omega (arith, or_length l x (u ∷ rest) p, size_least 1 x, size_most 6 x)

  -- the symbols of an expression are no more than the tokens that derive it
  pub expr_length : (ts : List Token) (x : Term) (rest : List Token) → ExprIs names ts x rest → length (expr_symbols names texts x) + length rest ≤ length ts
  expr_length ts x rest p = omega (arith, or_length ts x rest p, size_least 1 x)
