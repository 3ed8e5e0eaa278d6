-- What the trees that are judged say, as it is written (this project's own).
use Rattle.std.specs.Prelude.{ℕ, ◌≡◌, ◌==◌, ◌<◌, List, length, bytes_eq, codes}
use Rattle.chor_base.specs.declared.names.NameId.{NameId}
use Rattle.chor_base.specs.Expr.{term_of}
use Rattle.chor_base.specs.Words.{AllDistinct}
use Rattle.chor_base.specs.Writing.{name_in}
use Rattle.chor_lexer.specs.Lexeme.{word}
use Rattle.endpoint_grammar.specs.Written as lexemes
use Rattle.endpoint_reader.specs.declared.input.Input.{Input}
use Rattle.endpoint_reader.specs.declared.lines.LineId.{LineId}
use Rattle.endpoint_reader.specs.declared.lines.Line.{Line}
use Rattle.endpoint_reader.specs.Tokens.{named, all_named, written}
use Rattle.endpoint_reader.specs.Nodes.{deed_of}
use Rattle.endpoint_reader.specs.Lines as lines
use Rattle.endpoint_names.specs.Bodies.{Body, Does, Offers, Tests, Calls, Ends, Arms, NoArms, Arm, body_at}

abbrev mutual
  pub written_body : Input → Body → lexemes.Body
  written_body i (Does a rest) = lexemes.Does (deed_of i a) (written_body i rest)
  written_body i (Offers k a arms) = lexemes.Offers (named i k) (named i a) (written_arms i arms)
  written_body i (Tests e first second) = lexemes.Tests (written i (term_of e)) (written_body i first) (written_body i second)
  written_body i (Calls p s) = lexemes.Calls (record { symbol = word (codes "call"); place = p }) (named i s.name) (named i s.param) (all_named i s.sessions)
  written_body i Ends = lexemes.Ends

  pub written_arms : Input → Arms → lexemes.Arms
  written_arms i NoArms = lexemes.NoArms
  written_arms i (Arm l b others) = lexemes.Arm (named i l) (written_body i b) (written_arms i others)

-- the body that is judged is the one that is written, name by name and place by place
abbrev pub BodiesAreWritten : Type 0
BodiesAreWritten = (i : Input) (ls : List Line) (id : LineId) → written_body i (body_at ls id) ≡ lines.body_at i ls id

-- names of a table are the same where they are written with the same bytes
abbrev pub NamesAreWords : Type 0
NamesAreWords =
    (names : List (List ℕ)) (x y : NameId) → AllDistinct names → x.0 < length names → y.0 < length names
    → (x.0 == y.0) ≡ bytes_eq (name_in names x) (name_in names y)
