-- What is read of a list of tokens.
use Rattle.std.specs.Prelude.{◌≡◌, ◌+◌, ◌<◌, ◌≤◌, ℕ, Bool, List, [], ◌∷◌, ◌++◌, length, Some, None, slice_get}
use Rattle.chor_base.specs.declared.rule.Place.{Place}
use Rattle.chor_base.specs.declared.rule.Rule.{Rule}
use Rattle.chor_base.specs.declared.rule.Rule.TheVariants.{P1, P2}
use Rattle.chor_base.specs.declared.rule.Denied.{Denied}
use Rattle.chor_base.specs.declared.rule.Denied.TheVariants.{Refused, Memory as NoMemory}
use Rattle.chor_base.specs.Expr.{Term}
use Rattle.chor_lexer.specs.declared.token.Token.{Token}
use Rattle.chor_lexer.specs.declared.level.Level.{Level}
use Rattle.chor_lexer.specs.declared.expression.Stop.{Stop}
use Rattle.chor_lexer.specs.declared.expression.Stop.TheVariants.{Memory, Wrong}
use Rattle.chor_lexer.specs.Grammar.{IsExpr, IsExprFront, IsLongestFront}
use Rattle.chor_lexer.specs.Turns.{LevelIs, Due, operand, Stops, run}

-- the longest list of tokens with which some expression begins, where ts begins, is this expression, has at most 255
-- tokens, and `next` is the number of the token after it, if that of the first is `at`
pub record IsRead (names : List (List ℕ)) (ts : List Token) (x : Term) (at next : ℕ) : Type 0 where
  pub written : List Token
  pub rest : List Token
  pub front : IsLongestFront names written rest ts
  pub is : IsExpr names written x
  pub few : length written ≤ 255
  pub counted : next ≡ at + length written

-- why the tokens ts are refused: the longest list with which some expression begins has more than 255 tokens, and the place
-- is that of the 256th; or it is no expression, and the place is that of the token after it
pub data IsWrong (names : List (List ℕ)) (ts : List Token) : Rule → Place → Type 0 where
  too_long : {written rest : List Token} {t : Token}
      → IsLongestFront names written rest ts → 255 < length written → slice_get written 255 ≡ Some t
      → IsWrong names ts P2 t.place
  no_expr : {written rest : List Token} {t : Token}
      → IsLongestFront names written (t ∷ rest) ts → length written ≤ 255 → ((x : Term) → IsExpr names written x → ⊥)
      → IsWrong names ts P1 t.place

-- a refusal is right; want of memory tells nothing
abbrev pub IsRefusal : List (List ℕ) → List Token → Denied → Type 0
IsRefusal names ts (Refused r) = IsWrong names ts r.rule r.place × (r.who ≡ None)
IsRefusal names ts NoMemory = Unit {0}

-- ---- the readers of parts

-- what a reader of a level answers: an expression, and the tokens after it
pub record Reads (names : List (List ℕ)) (l : Level) (ts : List Token) (x : Term) (rest : List Token) : Type 0 where
  pub read : LevelIs names l ts x rest
  pub shorter : length rest < length ts
  pub goes_on : (b : Bool) (ss : List Due) (vs : List Term) → run names b (operand l ∷ ss) vs ts ≡ run names b ss (x ∷ vs) rest

-- it stops where the tokens do, whatever may come after its part
abbrev pub StopsAt : List (List ℕ) → Level → List Token → Stop → Type 0
StopsAt names l ts Memory = Unit {0}
StopsAt names l ts (Wrong at) = (b : Bool) (ss : List Due) (vs : List Term) → run names b (operand l ∷ ss) vs ts ≡ Stops at.now

-- ---- an expression at the front of a list of tokens

-- no expression has the first of the tokens `at` there; those before are a front of one
pub record IsHalt (names : List (List ℕ)) (ts at : List Token) : Type 0 where
  pub written : List Token
  pub parts : ts ≡ written ++ at
  pub begins : IsExprFront names written
  pub halts : (t : Token) (rest : List Token) → at ≡ t ∷ rest → IsExprFront names (written ++ t ∷ []) → ⊥

-- the tokens before are the expression x, and there is one after it
pub record IsFound (names : List (List ℕ)) (ts : List Token) (x : Term) (at : List Token) : Type 0 where
  pub halt : IsHalt names ts at
  pub is : IsExpr names halt.written x
  pub some : 1 ≤ length at

-- the tokens before are no expression, or none is after them
pub record IsMissed (names : List (List ℕ)) (ts at : List Token) : Type 0 where
  pub halt : IsHalt names ts at
  pub incomplete : 1 ≤ length at → (x : Term) → IsExpr names halt.written x → ⊥

abbrev pub Misses : List (List ℕ) → List Token → Stop → Type 0
Misses names ts Memory = Unit {0}
Misses names ts (Wrong at) = IsMissed names ts at.now

-- where none of the first tokens are left, there is a 256th
abbrev pub HasPlace : List Token → Stop → Type 0
HasPlace ts Memory = Unit {0}
HasPlace ts (Wrong at) = length at.now ≡ 0 → 255 < length ts

abbrev pub WrongAt : List Token → List Token → Denied → Type 0
WrongAt ts (t ∷ rest) d = d ≡ Refused (record { rule = P1; place = t.place; who = None })
WrongAt ts [] d = (t : Token) × (slice_get ts 255 ≡ Some t) × (d ≡ Refused (record { rule = P2; place = t.place; who = None }))

-- the refusal at the first token that is left of the first 256, or at the 256th where none is left
abbrev pub IsRefusalAt : List Token → Stop → Denied → Type 0
IsRefusalAt ts Memory d = d ≡ NoMemory
IsRefusalAt ts (Wrong at) d = WrongAt ts at.now d
