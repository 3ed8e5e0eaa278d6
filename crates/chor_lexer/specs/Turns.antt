-- What may still come where an expression is read: a list of parts, of which the next token takes the first ones away. The
-- contracts of the readers of parts speak of it, and lemmas join it to the grammar.
use Rattle.std.specs.Prelude.{◌≡◌, ◌≢◌, ◌==◌, ℕ, Bool, true, false, List, [], ◌∷◌, ◌++◌, Option, Some, None, slice_get, bytes_eq, codes, if◌then◌else◌}
use Rattle.std.specs.List.{list_any}
use Rattle.chor_base.specs.declared.names.NameId.{NameId}
use Rattle.chor_base.specs.declared.value.Value.TheVariants as value
use Rattle.chor_base.specs.declared.expr.UnOp.{UnOp}
use Rattle.chor_base.specs.declared.expr.UnOp.TheVariants as unop
use Rattle.chor_base.specs.declared.expr.BinOp.{BinOp}
use Rattle.chor_base.specs.declared.expr.BinOp.TheVariants as binop
use Rattle.chor_base.specs.Expr.{Term, Constant, Variable, Unary, Binary}
use Rattle.chor_lexer.specs.declared.mark.Mark.TheVariants.{OpenParen, CloseParen, Plus, Minus, Star, Slash, Equal, NotEqual, Less, LessEqual, And, Or, Not}
use Rattle.chor_lexer.specs.declared.token.Kind.{Kind}
use Rattle.chor_lexer.specs.declared.token.Kind.TheVariants.{Word, Number, Text, Mark, Last}
use Rattle.chor_lexer.specs.declared.token.Token.{Token}
use Rattle.chor_lexer.specs.declared.level.Level.{Level}
use Rattle.chor_lexer.specs.declared.level.Level.TheVariants as level
use Rattle.chor_lexer.specs.Keywords.{keywords}
use Rattle.chor_lexer.specs.Canonical.{strength}
use Rattle.chor_lexer.specs.Grammar.{OrIs, OrGoes, AndIs, AndGoes, CmpIs, CmpGoes, SumIs, SumGoes, ProdIs, ProdGoes, UnIs}

-- ---- levels

-- the level of the operands
abbrev pub stronger : Level → Level
stronger level.Or = level.And
stronger level.And = level.Cmp
stronger level.Cmp = level.Sum
stronger level.Sum = level.Prod
stronger level.Prod = level.Un
stronger level.Un = level.Un

-- operators of two operands stand at the level l, and their operands are of level m
pub record IsOperandOf (l m : Level) : Type 0 where
  pub is : m ≡ stronger l
  pub some : l ≢ level.Un

abbrev pub strength_at : Level → ℕ
strength_at level.Or = 1
strength_at level.And = 2
strength_at level.Cmp = 3
strength_at level.Sum = 4
strength_at level.Prod = 5
strength_at level.Un = 6

-- more operators of the level may follow one
abbrev pub repeats : Level → Bool
repeats level.Or = true
repeats level.And = true
repeats level.Cmp = false
repeats level.Sum = true
repeats level.Prod = true
repeats level.Un = false

-- the nonterminal of a level
abbrev pub LevelIs : List (List ℕ) → Level → List Token → Term → List Token → Type 0
LevelIs names level.Or ts x rest = OrIs names ts x rest
LevelIs names level.And ts x rest = AndIs names ts x rest
LevelIs names level.Cmp ts x rest = CmpIs names ts x rest
LevelIs names level.Sum ts x rest = SumIs names ts x rest
LevelIs names level.Prod ts x rest = ProdIs names ts x rest
LevelIs names level.Un ts x rest = UnIs names ts x rest

-- what follows its first operand
abbrev pub LevelGoes : List (List ℕ) → Level → Term → List Token → Term → List Token → Type 0
LevelGoes names level.Or a ts x rest = OrGoes names a ts x rest
LevelGoes names level.And a ts x rest = AndGoes names a ts x rest
LevelGoes names level.Cmp a ts x rest = CmpGoes names a ts x rest
LevelGoes names level.Sum a ts x rest = SumGoes names a ts x rest
LevelGoes names level.Prod a ts x rest = ProdGoes names a ts x rest
LevelGoes names level.Un a ts x rest = (a ≡ x) × (ts ≡ rest)

-- ---- tokens

-- the first token's kind, or that of the end where there is none
abbrev pub front : List Token → Kind
front [] = Last
front (t ∷ ts) = t.kind

abbrev pub tail : List Token → List Token
tail [] = []
tail (t ∷ ts) = ts

-- the operand that a word is
abbrev pub word_operand : NameId → List ℕ → Option Term
word_operand x w =
    if bytes_eq w (codes "true") then Some (Constant (value.Bool true))
    else (if bytes_eq w (codes "false") then Some (Constant (value.Bool false))
    else (if list_any (bytes_eq w) keywords then None else Some (Variable x)))

abbrev pub named_operand : NameId → Option (List ℕ) → Option Term
named_operand x None = None
named_operand x (Some w) = word_operand x w

-- the operand that a token alone is
abbrev pub operand_of : List (List ℕ) → Kind → Option Term
operand_of names (Word x) = named_operand x (slice_get names x.0)
operand_of names (Number z) = Some (Constant (value.Int z))
operand_of names (Text t) = Some (Constant (value.Text t))
operand_of names (Mark m) = None
operand_of names Last = None

abbrev pub unary_of : Kind → Option UnOp
unary_of (Mark Minus) = Some unop.Neg
unary_of (Mark Not) = Some unop.Not
unary_of _ = None

abbrev pub binary_of : Kind → Option BinOp
binary_of (Mark Plus) = Some binop.Add
binary_of (Mark Minus) = Some binop.Sub
binary_of (Mark Star) = Some binop.Mul
binary_of (Mark Slash) = Some binop.Div
binary_of (Mark Equal) = Some binop.Eq
binary_of (Mark NotEqual) = Some binop.Ne
binary_of (Mark Less) = Some binop.Lt
binary_of (Mark LessEqual) = Some binop.Le
binary_of (Mark And) = Some binop.And
binary_of (Mark Or) = Some binop.Or
binary_of _ = None

abbrev pub of_level : Level → Option BinOp → Option BinOp
of_level l None = None
of_level l (Some op) = if strength op == strength_at l then Some op else None

-- the operator of this level that the token is
abbrev pub operator_at : Level → Kind → Option BinOp
operator_at l k = of_level l (binary_of k)

abbrev pub is_open : Kind → Bool
is_open (Mark OpenParen) = true
is_open _ = false

abbrev pub is_close : Kind → Bool
is_close (Mark CloseParen) = true
is_close _ = false

-- ---- parts

-- what is made of the terms that were made last: one more, or one of the last one or two
pub data Act : Type 0 where
  give : Term → Act
  wrap : UnOp → Act
  join : BinOp → Act

abbrev pub effect : Act → List Term → List Term
effect (give x) vs = x ∷ vs
effect (wrap op) (x ∷ vs) = Unary op x ∷ vs
effect (wrap op) [] = []
effect (join op) (y ∷ x ∷ vs) = Binary op x y ∷ vs
effect (join op) _ = []

-- a part that is due: an operand of a level; operators of a level with their right operands, or none; a closing
-- parenthesis; nothing, where something is made
pub data Due : Type 0 where
  operand : Level → Due
  more : Level → Due
  close : Due
  act : Act → Due

-- what follows an operand without operators, for an operand of a level
abbrev pub more_of : Level → List Due
more_of level.Un = []
more_of level.Prod = more level.Prod ∷ []
more_of level.Sum = more level.Prod ∷ more level.Sum ∷ []
more_of level.Cmp = more level.Prod ∷ more level.Sum ∷ more level.Cmp ∷ []
more_of level.And = more level.Prod ∷ more level.Sum ∷ more level.Cmp ∷ more level.And ∷ []
more_of level.Or = more level.Prod ∷ more level.Sum ∷ more level.Cmp ∷ more level.And ∷ more level.Or ∷ []

abbrev pub again : Level → Bool → List Due
again l true = more l ∷ []
again l false = []

-- what an operand without operators leaves due after its first token, or none where none begins so
abbrev pub begun : Option Term → Option UnOp → Bool → Option (List Due)
begun (Some x) op open_paren = Some (act (give x) ∷ [])
begun None (Some op) open_paren = Some (operand level.Un ∷ act (wrap op) ∷ [])
begun None None true = Some (operand level.Or ∷ close ∷ [])
begun None None false = None

abbrev pub begins : List (List ℕ) → Kind → Option (List Due)
begins names k = begun (operand_of names k) (unary_of k) (is_open k)

-- ---- turns

-- what is due, and the terms that are made, the last one first
pub record State : Type 0 where
  pub due : List Due
  pub made : List Term

abbrev pub state : List Due → List Term → State
state ss vs = record { due = ss; made = vs }

abbrev pub began : Option (List Due) → Level → List Due → List Term → Option State
began None l ss vs = None
began (Some left) l ss vs = Some (state (left ++ (more_of l ++ ss)) vs)

abbrev pub went : Option BinOp → Level → List Due → List Term → Option State → Option State
went None l ss vs skipped = skipped
went (Some op) l ss vs skipped = Some (state (operand (stronger l) ∷ act (join op) ∷ (again l (repeats l) ++ ss)) vs)

abbrev pub taken : Bool → List Due → List Term → Option State
taken true ss vs = Some (state ss vs)
taken false ss vs = None

-- the state after the next token, or none where it may not come; beyond the last part any token may come, if so wanted
abbrev pub after : List (List ℕ) → Bool → List Due → List Term → Token → Option State
after names beyond [] vs t = taken beyond [] vs
after names beyond (operand l ∷ ss) vs t = began (begins names t.kind) l ss vs
after names beyond (more l ∷ ss) vs t = went (operator_at l t.kind) l ss vs (after names beyond ss vs t)
after names beyond (close ∷ ss) vs t = taken (is_close t.kind) ss vs
after names beyond (act e ∷ ss) vs t = after names beyond ss (effect e vs) t

-- what comes of a list of tokens: terms, or it stops before these tokens, also at the end where more is due
pub data Outcome : Type 0 where
  Ends : List Term → Outcome
  Stops : List Token → Outcome

abbrev pub finish : List Due → List Term → Outcome
finish [] vs = Ends vs
finish (operand l ∷ ss) vs = Stops []
finish (more l ∷ ss) vs = finish ss vs
finish (close ∷ ss) vs = Stops []
finish (act e ∷ ss) vs = finish ss (effect e vs)

unfoldable pub run : List (List ℕ) → Bool → List Due → List Term → List Token → Outcome
run names beyond ss vs [] = finish ss vs
run names beyond ss vs (t ∷ ts) = elim (after names beyond ss vs t) [ None ↦ Stops (t ∷ ts) | Some s ↦ run names beyond s.due s.made ts ]
