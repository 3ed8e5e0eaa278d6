-- What the text of endpoint programs spells (this project's own). Each definition gives the symbols of its construct before those
-- that follow it.
use Rattle.std.specs.Prelude.{List, [], ◌∷◌, codes}
use Rattle.chor_base.specs.declared.names.NameId.{NameId}
use Rattle.chor_base.specs.Expr.{Term}
use Rattle.chor_lexer.specs.declared.mark.Mark.TheVariants.{OpenBrace, CloseBrace, OpenParen, CloseParen, OpenBracket, CloseBracket, Comma, Semicolon, Bar}
use Rattle.chor_lexer.specs.Lexeme.{Symbol, word, number, mark, last}
use Rattle.canonical_laws.specs.Symbols.{id_symbols, term_symbols, each, listed, listed_after}
use Rattle.endpoint_code.specs.declared.code.CodeId.{CodeId}
use Rattle.endpoint_code.specs.declared.endpoints.Channel.{Channel}
use Rattle.endpoint_code.specs.declared.endpoints.Procedure.{Procedure}
use Rattle.endpoint_code.specs.declared.endpoints.ServiceCode.{ServiceCode}
use Rattle.endpoint_code.specs.declared.endpoints.Process.{Process}
use Rattle.endpoint_code.specs.declared.endpoints.Endpoints.{Endpoints}
use Rattle.endpoint_code.specs.Trees.{Action, Joins, Sends, Receives, Selects, Gives, Gains, Sets, Shows, Asks, CodeTree, Does, Offers, Tests, Calls, Ends, Arms, NoArms, Arm, code_at}
use Rattle.endpoint_laws.specs.Ordered.{in_order}

-- ---- names and expressions, by the tables of the endpoints e

abbrev pub name : Endpoints → NameId → List Symbol → List Symbol
name e x more = id_symbols e.names x more

-- names, one after the other
abbrev pub names : Endpoints → List NameId → List Symbol → List Symbol
names e xs more = each (name e) xs more

abbrev pub expression : Endpoints → Term → List Symbol → List Symbol
expression e t more = term_symbols e.names e.texts t more

-- ---- code

abbrev pub action_symbols : Endpoints → Action → List Symbol → List Symbol
action_symbols e (Joins c r k) more = word (codes "join") ∷ name e c (mark OpenBracket ∷ name e r (mark CloseBracket ∷ mark OpenParen ∷ name e k (mark CloseParen ∷ more)))
action_symbols e (Sends k b t) more = word (codes "send") ∷ names e (k ∷ b ∷ []) (expression e t more)
action_symbols e (Receives k a x) more = word (codes "recv") ∷ names e (k ∷ a ∷ x ∷ []) more
action_symbols e (Selects k b l) more = word (codes "pick") ∷ names e (k ∷ b ∷ l ∷ []) more
action_symbols e (Gives k b h) more = word (codes "give") ∷ names e (k ∷ b ∷ h ∷ []) more
action_symbols e (Gains k a h) more = word (codes "gain") ∷ names e (k ∷ a ∷ h ∷ []) more
action_symbols e (Sets x t) more = word (codes "set") ∷ name e x (expression e t more)
action_symbols e (Shows t) more = word (codes "show") ∷ expression e t more
action_symbols e (Asks x f l r) more =
    word (codes "host") ∷ names e (x ∷ f ∷ []) (mark OpenParen ∷ expression e l (mark Comma ∷ expression e r (mark CloseParen ∷ more)))

-- The symbols of code, whose arms are in the order in which they are printed
abbrev mutual
  pub code_symbols : Endpoints → CodeTree → List Symbol → List Symbol
  code_symbols e (Does a rest) more = action_symbols e a (mark Semicolon ∷ code_symbols e rest more)
  code_symbols e (Offers k a arms) more = word (codes "branch") ∷ names e (k ∷ a ∷ []) (mark OpenBrace ∷ arms_symbols e arms (mark CloseBrace ∷ more))
  code_symbols e (Tests t first second) more =
      word (codes "if") ∷ expression e t (mark OpenBrace ∷ code_symbols e first (mark CloseBrace
      ∷ word (codes "else") ∷ mark OpenBrace ∷ code_symbols e second (mark CloseBrace ∷ more)))
  code_symbols e (Calls f p ss) more = word (codes "call") ∷ names e (f ∷ p ∷ []) (mark OpenParen ∷ listed (name e) ss (mark CloseParen ∷ more))
  code_symbols e Ends more = word (codes "end") ∷ more

  pub arms_symbols : Endpoints → Arms → List Symbol → List Symbol
  arms_symbols e NoArms more = more
  arms_symbols e (Arm l c rest) more = name e l (mark OpenBrace ∷ code_symbols e c (mark CloseBrace ∷ arms_symbols e rest more))

-- the body at a number, as it is printed
abbrev pub ordered_at : Endpoints → CodeId → CodeTree
ordered_at e id = in_order e.names (code_at e.code.nodes id)

abbrev pub body_symbols : Endpoints → CodeId → List Symbol → List Symbol
body_symbols e id more = mark OpenBrace ∷ code_symbols e (ordered_at e id) (mark CloseBrace ∷ more)

-- ---- units

abbrev pub channel_symbols : Endpoints → Channel → List Symbol → List Symbol
channel_symbols e c more =
    word (codes "channel") ∷ name e c.name (mark OpenParen ∷ listed (name e) c.active (listed_after (mark Bar) (name e) c.serve (mark CloseParen ∷ mark Semicolon ∷ more)))

abbrev pub procedure_symbols : Endpoints → Procedure → List Symbol → List Symbol
procedure_symbols e p more =
    word (codes "procedure") ∷ names e (p.name ∷ p.param ∷ []) (mark OpenParen ∷ listed (name e) p.sessions (mark CloseParen ∷ body_symbols e p.body more))

abbrev pub service_symbols : Endpoints → ServiceCode → List Symbol → List Symbol
service_symbols e s more = word (codes "service") ∷ name e s.channel (mark OpenBracket ∷ name e s.role (mark CloseBracket ∷ body_symbols e s.body more))

abbrev pub process_symbols : Endpoints → Process → List Symbol → List Symbol
process_symbols e p more = word (codes "process") ∷ name e p.name (body_symbols e p.body more)

-- the units, up to the end of the file
abbrev pub units_symbols : Endpoints → List Symbol
units_symbols e =
    each (channel_symbols e) e.channels (each (procedure_symbols e) e.procedures (each (service_symbols e) e.services
    (each (process_symbols e) e.processes (last ∷ []))))

-- The symbols of the text of endpoint programs, up to the end of the file
abbrev pub endpoints_symbols : Endpoints → List Symbol
endpoints_symbols e = word (codes "endpoints") ∷ number 1 ∷ mark Semicolon ∷ units_symbols e
