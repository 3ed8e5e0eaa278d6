-- What readers of bodies answer.
use Rattle.std.specs.Prelude.{◌≡◌, ◌-◌, ◌<◌, ℕ, List, [], ◌∷◌, ◌++◌, Some, None, length, map, codes}
use Rattle.chor_base.specs.declared.rule.Place.{Place}
use Rattle.chor_base.specs.declared.rule.Rule.TheVariants.{E4}
use Rattle.chor_lexer.specs.Lexeme.{Lexeme}
use Rattle.chor_lexer.specs.declared.mark.Mark.TheVariants.{OpenBrace, CloseBrace}
use Rattle.grammar.specs.Grammars.{row, many, within}
use Rattle.grammar.specs.Readers.{Reads, Misses, Tells}
use Rattle.endpoint_grammar.specs.Written.{Body, Offers, Tests, Calls, Ends}
use Rattle.endpoint_grammar.specs.Grammar.{Part, mark, node, two_names, arm, body, tail, branch, conditional, signature}
use Rattle.endpoint_grammar.specs.Values.{rules, Derived, phrase, arms_of, session_list, last_node}
use Rattle.endpoint_reader.specs.declared.input.Input.{Input}
use Rattle.endpoint_reader.specs.declared.node.Action.{Action}
use Rattle.endpoint_reader.specs.declared.lists.Two.{Two}
use Rattle.endpoint_reader.specs.declared.lines.LineId.{LineId}
use Rattle.endpoint_reader.specs.declared.lines.Arm.{Arm}
use Rattle.endpoint_reader.specs.declared.lines.Line.{Line}
use Rattle.endpoint_reader.specs.Tokens.{from, named}
use Rattle.endpoint_reader.specs.Nodes.{deed_of}
use Rattle.endpoint_reader.specs.Lines.{body_in, arms_in, bodies_of, body_at, does_all, Going}
use Rattle.endpoint_reader.specs.Known.{AreLinesThere}
use Rattle.endpoint_reader.specs.Tails.{kept_word}

-- lines were added after those that were there
pub record Grows (old new : List Line) : Type 0 where
  pub more : List Line
  pub is : new ≡ old ++ more

-- what holds of the table and of what was read, and the first line of it is there
pub record Made (P : List Line → LineId × ℕ → Type 0) (i : Input) (old new : List Line) (x : LineId × ℕ) : Type 0 where
  pub reads : P new x
  pub there : x.0.0 < length new
  pub grows : Grows old new
  pub known : AreLinesThere i new

-- a body was read, and it begins with this line of the table
abbrev pub IsBody : Input → ℕ → ℕ → List Line → LineId × ℕ → Type 0
IsBody i room at ls x = Reads rules (body room) (from i at) (body_at i ls x.0, tt) (from i x.1)

-- so was a tail, for which there has to be room
abbrev pub IsTail : Input → ℕ → ℕ → List Line → LineId × ℕ → Type 0
IsTail i room at ls x = Tells rules (within E4 (Some room) (tail (room - 1))) (last_node (room - 1)) (from i at) (body_at i ls x.0) (from i x.1)

-- the brace before a body and these actions were read; its tail comes, and its path has room for so many more nodes
pub record BodyOpens (i : Input) (room : ℕ) (ts : List Lexeme) (xs : List Action) (left : ℕ) (us : List Lexeme) : Type 0 where
  pub start : List Lexeme
  pub opens : Reads rules (mark OpenBrace) ts tt start
  pub going : Going i room start xs left us
  pub all : Misses rules node us
  pub shorter : length us < length ts

-- actions, and then the body that begins with a line
abbrev pub body_before : Input → List Action → List Line → LineId → Body
body_before i xs ls last = does_all (map (deed_of i) xs) (body_at i ls last)

-- a brace was read, and the line is that of this body
pub record BodyCloses (i : Input) (at : ℕ) (b : Input → Body) (ls : List Line) (x : LineId × ℕ) : Type 0 where
  pub closes : Reads rules (mark CloseBrace) (from i at) tt (from i x.1)
  pub body : (j : Input) → body_at j ls x.0 ≡ b j

-- the line is that of the end, and nothing was read
pub record IsEndLine (at : ℕ) (ls : List Line) (x : LineId × ℕ) : Type 0 where
  pub after : x.1 ≡ at
  pub body : (j : Input) → body_at j ls x.0 ≡ Ends

-- ---- what comes after the first word of a tail

-- both names of a branch and the brace before its arms were read
pub record BranchOpens (ts : List Lexeme) (x : Lexeme × Lexeme) (us : List Lexeme) : Type 0 where
  pub start : List Lexeme
  pub names : Reads rules two_names ts x start
  pub opens : Reads rules (mark OpenBrace) start tt us

-- the arms of a branch, after the brace before them
abbrev pub arms : ℕ → Part
arms p = row (arm p ∷ many E4 None (arm p) ∷ mark CloseBrace ∷ [])

abbrev pub OneArm : Type 0
OneArm = Lexeme × (Body × Unit {0})

abbrev pub arm_list : (p : ℕ) → Derived (arms p) → List OneArm
arm_list p (x, (xs, c)) = x ∷ xs

-- an arm, as it is written
abbrev pub arm_of : Input → List Body → Arm → OneArm
arm_of i bs a = (named i a.label, (body_in bs a.body, tt))

-- a branch with these names and arms
abbrev pub offered : Input → Two → List Arm → List Line → Body
offered i x arms ls = Offers (named i x.first) (named i x.second) (arms_in i (bodies_of i ls) arms)

abbrev pub branch_body : (p : ℕ) → Derived (branch p) → Body
branch_body p ((k, a), (o, (x, (xs, c)))) = Offers k a (arms_of (x ∷ xs))

abbrev pub IsBranch : Input → ℕ → ℕ → List Line → LineId × ℕ → Type 0
IsBranch i room at ls x = Tells rules (branch room) (branch_body room) (from i at) (body_at i ls x.0) (from i x.1)

abbrev pub conditional_body : (p : ℕ) → Derived (conditional p) → Body
conditional_body p (e, ((x, m), (v, (y, k)))) = Tests (phrase e) x y

abbrev pub IsConditional : Input → ℕ → ℕ → List Line → LineId × ℕ → Type 0
IsConditional i room at ls x = Tells rules (conditional room) (conditional_body room) (from i at) (body_at i ls x.0) (from i x.1)

abbrev pub call_body : Lexeme → Derived signature → Body
call_body w ((f, x), (o, (ss, c))) = Calls w f x (session_list ss)

-- the word `call` stands at the place
abbrev pub IsCall : Input → Place → ℕ → List Line → LineId × ℕ → Type 0
IsCall i p at ls x = Tells rules signature (call_body (kept_word (codes "call") p)) (from i at) (body_at i ls x.0) (from i x.1)
