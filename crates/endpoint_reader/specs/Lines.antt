-- Lines of bodies, as they are written, and what readers of bodies answer.
use Rattle.std.specs.Prelude.{◌≡◌, ◌<◌, ℕ, List, [], ◌∷◌, map, All, Some, slice_get, slice_index_or, codes}
use Rattle.node_table.specs.Tables.{trees_of}
use Rattle.chor_base.specs.Expr.{term_of}
use Rattle.chor_lexer.specs.Lexeme.{word, Lexeme}
use Rattle.grammar.specs.Readers.{Leads}
use Rattle.endpoint_grammar.specs.Written.{Deed, Body, Does, Offers, Tests, Calls, Ends, Arms, NoArms, Arm}
use Rattle.endpoint_grammar.specs.Grammar.{lines_of}
use Rattle.endpoint_grammar.specs.Values.{rules, Derived, body_of}
use Rattle.endpoint_reader.specs.declared.input.Input.{Input}
use Rattle.endpoint_reader.specs.declared.node.Action.{Action}
use Rattle.endpoint_reader.specs.declared.lines.LineId.{LineId}
use Rattle.endpoint_reader.specs.declared.lines.Arm.{Arm as OneArm}
use Rattle.endpoint_reader.specs.declared.lines.Line.{Line}
use Rattle.endpoint_reader.specs.declared.lines.Line.TheVariants as line
use Rattle.endpoint_reader.specs.Tokens.{named, all_named, written}
use Rattle.endpoint_reader.specs.Nodes.{deed_of}

-- the lines that follow a line
abbrev pub nexts_of : Line → List LineId
nexts_of (line.Act a next) = next ∷ []
nexts_of (line.Branch k a arms) = map (λ arm. arm.body) arms
nexts_of (line.If e first second) = first ∷ second ∷ []
nexts_of (line.Call p s) = []
nexts_of line.End = []

-- each line comes after those that follow it
abbrev pub IsClosed : List Line → Type 0
IsClosed ls = (i : ℕ) (l : Line) → slice_get ls i ≡ Some l → All (λ next. next.0 < i) (nexts_of l)

-- the body that stands at a number
abbrev pub body_in : List Body → LineId → Body
body_in bs id = slice_index_or bs id.0 Ends

-- the arms of a branch as their tokens write them, where these are the bodies of the lines before
abbrev pub arms_in : Input → List Body → List OneArm → Arms
arms_in i bs [] = NoArms
arms_in i bs (a ∷ others) = Arm (named i a.label) (body_in bs a.body) (arms_in i bs others)

-- the body that begins with a line, where the bodies of those before it in the table are known
abbrev pub line_body : Input → List Body → Line → Body
line_body i bs (line.Act a next) = Does (deed_of i a) (body_in bs next)
line_body i bs (line.Branch k a arms) = Offers (named i k) (named i a) (arms_in i bs arms)
line_body i bs (line.If e first second) = Tests (written i (term_of e)) (body_in bs first) (body_in bs second)
line_body i bs (line.Call p s) = Calls (record { symbol = word (codes "call"); place = p }) (named i s.name) (named i s.param) (all_named i s.sessions)
line_body i bs line.End = Ends

-- the body that begins at each line of a table
abbrev pub bodies_of : Input → List Line → List Body
bodies_of i ls = trees_of (line_body i) ls

-- The body that begins at a number of a table
abbrev pub body_at : Input → List Line → LineId → Body
body_at i ls id = body_in (bodies_of i ls) id

-- deeds one after another, and then a body
abbrev pub does_all : List Deed → Body → Body
does_all [] b = b
does_all (d ∷ ds) b = Does d (does_all ds b)

-- of a body these actions were read, and its path has room for so many more nodes
pub record Going (i : Input) (room : ℕ) (ts : List Lexeme) (xs : List Action) (left : ℕ) (us : List Lexeme) : Type 0 where
  pub whole : Derived (lines_of left) → Derived (lines_of room)
  pub leads : Leads rules (lines_of room) ts (lines_of left) us whole
  pub is : (v : Derived (lines_of left)) → body_of room (whole v) ≡ does_all (map (deed_of i) xs) (body_of left v)
