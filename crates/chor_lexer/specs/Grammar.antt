-- What tokens an expression has (this project's own). Each nonterminal relates the tokens from some place on, the term that
-- they derive there, and the tokens that are left after it. The words have the numbers of `names`.
use Rattle.std.specs.Prelude.{◌≡◌, ◌≤◌, ℕ, ℤ, Bool, List, [], ◌∷◌, ◌++◌, length}
use Rattle.chor_base.specs.declared.names.NameId.{NameId}
use Rattle.chor_base.specs.declared.value.Value.TheVariants as value
use Rattle.chor_base.specs.declared.expr.UnOp.{UnOp}
use Rattle.chor_base.specs.declared.expr.BinOp.{BinOp}
use Rattle.chor_base.specs.Expr.{Term, Constant, Variable, Unary, Binary}
use Rattle.chor_base.specs.Writing.{truth_text}
use Rattle.chor_lexer.specs.declared.mark.Mark.TheVariants.{OpenParen, CloseParen}
use Rattle.chor_lexer.specs.declared.token.Kind.TheVariants as kind
use Rattle.chor_lexer.specs.declared.token.Token.{Token}
use Rattle.chor_lexer.specs.Keywords.{HasMark, HasWord, HasName}
use Rattle.chor_lexer.specs.Canonical.{unary_mark, binary_mark, strength}

mutual
  -- or = and { "||" and }
  pub data OrIs (names : List (List ℕ)) : List Token → Term → List Token → Type 0 where
    a_disjunction : {ts mid rest : List Token} {a x : Term}
        → AndIs names ts a mid → OrGoes names a mid x rest → OrIs names ts x rest

  -- what follows the operand a, up to the whole x: operators group to the left
  pub data OrGoes (names : List (List ℕ)) : Term → List Token → Term → List Token → Type 0 where
    or_done : {ts : List Token} {a : Term} → OrGoes names a ts a ts
    or_more : {t : Token} {ts mid rest : List Token} {a b x : Term} {op : BinOp}
        → strength op ≡ 1 → HasMark (binary_mark op) t → AndIs names ts b mid
        → OrGoes names (Binary op a b) mid x rest → OrGoes names a (t ∷ ts) x rest

  -- and = cmp { "&&" cmp }
  pub data AndIs (names : List (List ℕ)) : List Token → Term → List Token → Type 0 where
    a_conjunction : {ts mid rest : List Token} {a x : Term}
        → CmpIs names ts a mid → AndGoes names a mid x rest → AndIs names ts x rest

  -- what follows the first operand of `&&`: nothing more, or the operator, an operand and what follows
  pub data AndGoes (names : List (List ℕ)) : Term → List Token → Term → List Token → Type 0 where
    and_done : {ts : List Token} {a : Term} → AndGoes names a ts a ts
    and_more : {t : Token} {ts mid rest : List Token} {a b x : Term} {op : BinOp}
        → strength op ≡ 2 → HasMark (binary_mark op) t → CmpIs names ts b mid
        → AndGoes names (Binary op a b) mid x rest → AndGoes names a (t ∷ ts) x rest

  -- cmp = sum [ ( "==" | "!=" | "<" | "<=" ) sum ]
  pub data CmpIs (names : List (List ℕ)) : List Token → Term → List Token → Type 0 where
    a_comparison : {ts mid rest : List Token} {a x : Term}
        → SumIs names ts a mid → CmpGoes names a mid x rest → CmpIs names ts x rest

  -- what follows the first operand of a comparison: nothing more, or one operator and one operand
  pub data CmpGoes (names : List (List ℕ)) : Term → List Token → Term → List Token → Type 0 where
    cmp_done : {ts : List Token} {a : Term} → CmpGoes names a ts a ts
    cmp_once : {t : Token} {ts rest : List Token} {a b : Term} {op : BinOp}
        → strength op ≡ 3 → HasMark (binary_mark op) t → SumIs names ts b rest
        → CmpGoes names a (t ∷ ts) (Binary op a b) rest

  -- sum = prod { ( "+" | "-" ) prod }
  pub data SumIs (names : List (List ℕ)) : List Token → Term → List Token → Type 0 where
    a_sum : {ts mid rest : List Token} {a x : Term}
        → ProdIs names ts a mid → SumGoes names a mid x rest → SumIs names ts x rest

  -- what follows the first operand of a sum
  pub data SumGoes (names : List (List ℕ)) : Term → List Token → Term → List Token → Type 0 where
    sum_done : {ts : List Token} {a : Term} → SumGoes names a ts a ts
    sum_more : {t : Token} {ts mid rest : List Token} {a b x : Term} {op : BinOp}
        → strength op ≡ 4 → HasMark (binary_mark op) t → ProdIs names ts b mid
        → SumGoes names (Binary op a b) mid x rest → SumGoes names a (t ∷ ts) x rest

  -- prod = un { ( "*" | "/" ) un }
  pub data ProdIs (names : List (List ℕ)) : List Token → Term → List Token → Type 0 where
    a_product : {ts mid rest : List Token} {a x : Term}
        → UnIs names ts a mid → ProdGoes names a mid x rest → ProdIs names ts x rest

  -- what follows the first operand of a product
  pub data ProdGoes (names : List (List ℕ)) : Term → List Token → Term → List Token → Type 0 where
    prod_done : {ts : List Token} {a : Term} → ProdGoes names a ts a ts
    prod_more : {t : Token} {ts mid rest : List Token} {a b x : Term} {op : BinOp}
        → strength op ≡ 5 → HasMark (binary_mark op) t → UnIs names ts b mid
        → ProdGoes names (Binary op a b) mid x rest → ProdGoes names a (t ∷ ts) x rest

  -- un = "-" un | "!" un | number | text | "true" | "false" | NAME | "(" or ")"
  pub data UnIs (names : List (List ℕ)) : List Token → Term → List Token → Type 0 where
    a_unary : {t : Token} {ts rest : List Token} {x : Term} {op : UnOp}
        → HasMark (unary_mark op) t → UnIs names ts x rest → UnIs names (t ∷ ts) (Unary op x) rest
    a_number : {t : Token} {rest : List Token} {z : ℤ}
        → t.kind ≡ kind.Number z → UnIs names (t ∷ rest) (Constant (value.Int z)) rest
    a_text : {t : Token} {rest : List Token} {n : ℕ}
        → t.kind ≡ kind.Text n → UnIs names (t ∷ rest) (Constant (value.Text n)) rest
    a_truth : {t : Token} {rest : List Token} {b : Bool}
        → HasWord names (truth_text b) t → UnIs names (t ∷ rest) (Constant (value.Bool b)) rest
    a_name : {t : Token} {rest : List Token} {x : NameId}
        → HasName names x t → UnIs names (t ∷ rest) (Variable x) rest
    in_parens : {t u : Token} {ts rest : List Token} {x : Term}
        → HasMark OpenParen t → OrIs names ts x (u ∷ rest) → HasMark CloseParen u → UnIs names (t ∷ ts) x rest

-- expr = or
abbrev pub ExprIs : List (List ℕ) → List Token → Term → List Token → Type 0
ExprIs names ts x rest = OrIs names ts x rest

-- these tokens are this expression
abbrev pub IsExpr : List (List ℕ) → List Token → Term → Type 0
IsExpr names ts x = ExprIs names ts x []

-- some expression begins with these tokens
abbrev pub IsExprFront : List (List ℕ) → List Token → Type 0
IsExprFront names w = (rest : List Token) × (x : Term) × IsExpr names (w ++ rest) x

-- of the tokens ts these, before the rest, are the longest front with which some expression begins
pub record IsLongestFront (names : List (List ℕ)) (w rest ts : List Token) : Type 0 where
  pub parts : ts ≡ w ++ rest
  pub begins : IsExprFront names w
  pub longest : (v u : List Token) → ts ≡ v ++ u → IsExprFront names v → length v ≤ length w
