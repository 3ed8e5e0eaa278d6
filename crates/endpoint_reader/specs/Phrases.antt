-- What the readers of expressions answer.
use Rattle.std.specs.Prelude.{◌≡◌, ◌<◌, ◌-◌, ℕ, List, [], ◌∷◌, Some, codes, true}
use Rattle.chor_base.specs.declared.rule.Rule.TheVariants.{E4}
use Rattle.chor_base.specs.declared.expr.UnOp.TheVariants.{Neg, Not}
use Rattle.chor_base.specs.declared.expr.BinOp.{BinOp}
use Rattle.chor_base.specs.declared.expr.BinOp.TheVariants as binop
use Rattle.chor_base.specs.Expr.{term_of}
use Rattle.chor_lexer.specs.declared.mark.Mark.{Mark}
use Rattle.chor_lexer.specs.declared.mark.Mark.TheVariants as sign
use Rattle.chor_lexer.specs.Lexeme.{Symbol, word as a_word_of, Lexeme}
use Rattle.grammar.specs.Classes.{Class, a_mark, a_word, a_name, a_number, a_text, is_of}
use Rattle.grammar.specs.Readers.{ReadsIn, Begins}
use Rattle.endpoint_grammar.specs.Written.{Phrase, Leaf}
use Rattle.endpoint_grammar.specs.Grammar.{Part, operators, level, un, product, comparison, conjunction}
use Rattle.endpoint_grammar.specs.Values.{rules, Derived, leaf_of, grouped, product_op, sum_op, product_phrase, comparison_phrase, conjunction_phrase}
use Rattle.endpoint_reader.specs.declared.input.Input.{Input}
use Rattle.endpoint_reader.specs.declared.operand.Opening.{Opening}
use Rattle.endpoint_reader.specs.declared.operand.Opening.TheVariants as opening
use Rattle.endpoint_reader.specs.declared.expression.Level.{Level}
use Rattle.endpoint_reader.specs.declared.expression.Level.TheVariants as lvl
use Rattle.endpoint_reader.specs.declared.expression.Reading.{Reading}
use Rattle.endpoint_reader.specs.Tokens.{from, written}

-- it has read a part of an expression, of which f makes y; of n tokens m are left
pub record TellsIn (g : Part) (f : Derived g → Phrase) (n : ℕ) (ts : List Lexeme) (y : Phrase) (m : ℕ) (us : List Lexeme) : Type 0 where
  pub value : Derived g
  pub reads : ReadsIn rules E4 (Some n) g ts value (Some m) us
  pub is : f value ≡ y

abbrev pub HasRead : Input → (g : Part) → (Derived g → Phrase) → ℕ → ℕ → Reading → Type 0
HasRead input g f n at x = TellsIn g f n (from input at) (written input (term_of x.expr)) x.room (from input x.at)

-- ---- levels

abbrev pub marks_of : Level → List Mark
marks_of lvl.Or = sign.Or ∷ []
marks_of lvl.And = sign.And ∷ []
marks_of lvl.Sum = sign.Plus ∷ sign.Minus ∷ []
marks_of lvl.Product = sign.Star ∷ sign.Slash ∷ []

abbrev pub operand_of : Level → Part
operand_of lvl.Or = conjunction
operand_of lvl.And = comparison
operand_of lvl.Sum = product
operand_of lvl.Product = un

abbrev pub level_of : Level → Part
level_of l = level (marks_of l) (operand_of l)

abbrev pub operand_phrase : (l : Level) → Derived (operand_of l) → Phrase
operand_phrase lvl.Or v = conjunction_phrase v
operand_phrase lvl.And v = comparison_phrase v
operand_phrase lvl.Sum v = product_phrase v
operand_phrase lvl.Product v = leaf_of v

abbrev pub op_of : (l : Level) → Derived (operators (marks_of l)) → BinOp
op_of lvl.Or v = binop.Or
op_of lvl.And v = binop.And
op_of lvl.Sum v = sum_op v
op_of lvl.Product v = product_op v

abbrev pub level_phrase : (l : Level) → Derived (level_of l) → Phrase
level_phrase l v = grouped (op_of l) (operand_phrase l) (operand_phrase l v.0) v.1

-- one of these marks stands there, an operator
pub record IsOperator (ms : List Mark) (f : Derived (operators ms) → BinOp) (op : BinOp) (ts us : List Lexeme) : Type 0 where
  pub value : Derived (operators ms)
  pub reads : (k : ℕ) → 0 < k → ReadsIn rules E4 (Some k) (operators ms) ts value (Some (k - 1)) us
  pub begins : Begins rules (operators ms) ts
  pub is : f value ≡ op

-- ---- operands

-- the tokens that are operands alone
abbrev pub leaf_classes : List Class
leaf_classes = a_number ∷ a_text ∷ a_word (codes "true") ∷ a_word (codes "false") ∷ a_name ∷ []

-- the symbol alone is this phrase
pub data IsLeaf (s : Symbol) (x : Phrase) : Type 0 where
  a_number_is : is_of a_number s ≡ true → x ≡ Leaf s → IsLeaf s x
  a_text_is : is_of a_text s ≡ true → x ≡ Leaf s → IsLeaf s x
  true_is : is_of (a_word (codes "true")) s ≡ true → x ≡ Leaf (a_word_of (codes "true")) → IsLeaf s x
  false_is : is_of (a_word (codes "false")) s ≡ true → x ≡ Leaf (a_word_of (codes "false")) → IsLeaf s x
  a_name_is : is_of a_name s ≡ true → x ≡ Leaf s → IsLeaf s x

-- an operand begins so with a symbol
abbrev pub OpensWith : Input → Opening → Symbol → Type 0
OpensWith input (opening.Unary Neg) s = is_of (a_mark sign.Minus) s ≡ true
OpensWith input (opening.Unary Not) s = is_of (a_mark sign.Not) s ≡ true
OpensWith input opening.Parens s = is_of (a_mark sign.OpenParen) s ≡ true
OpensWith input (opening.Leaf e) s = IsLeaf s (written input (term_of e))

-- an operand begins so there, and these tokens come after
pub record Opens (input : Input) (o : Opening) (ts us : List Lexeme) : Type 0 where
  pub token : Lexeme
  pub parts : ts ≡ token ∷ us
  pub is : OpensWith input o token.symbol
