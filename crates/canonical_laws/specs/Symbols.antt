-- What the canonical text of a source spells, in the tables of names and texts (this project's own). Each definition gives the
-- symbols of its construct before those that follow it.
use Rattle.std.specs.Prelude.{◌==◌, ℕ, Bool, true, false, Option, Some, None, List, [], ◌∷◌, ◌++◌, codes}
use Rattle.chor_base.specs.declared.value.Sort.{Sort}
use Rattle.chor_base.specs.declared.names.NameId.{NameId}
use Rattle.chor_base.specs.Expr.{Term}
use Rattle.chor_base.specs.Writing.{name_in}
use Rattle.chor_lexer.specs.declared.mark.Mark.TheVariants.{OpenBrace, CloseBrace, OpenParen, CloseParen, OpenBracket, CloseBracket, Comma, Semicolon, Colon, Dot, Assign, Becomes, Arrow, Bar, At}
use Rattle.chor_lexer.specs.Lexeme.{Symbol, word, number, mark, last}
use Rattle.chor_lexer.specs.Spelling.{expr_symbols}
use Rattle.chor_tree.specs.declared.header.Header.{Header}
use Rattle.chor_tree.specs.declared.file.Named.{Named}
use Rattle.chor_tree.specs.declared.file.Service.{Service}
use Rattle.chor_tree.specs.declared.file.ProcParam.{ProcParam}
use Rattle.chor_tree.specs.declared.file.SessionParam.{SessionParam}
use Rattle.chor_tree.specs.Protocols.{Protocol}
use Rattle.chor_tree.specs.declared.protocol.State.{State}
use Rattle.chor_tree.specs.declared.protocol.ProtoStep.{ProtoStep}
use Rattle.chor_tree.specs.declared.protocol.ProtoStep.TheVariants as step
use Rattle.chor_tree.specs.declared.protocol.ProtoArm.{ProtoArm}
use Rattle.chor_tree.specs.declared.protocol.Payload.{Payload}
use Rattle.chor_tree.specs.declared.protocol.Payload.TheVariants as payload
use Rattle.chor_tree.specs.declared.tree.Part.{Part}
use Rattle.chor_tree.specs.Source.{Statement, Starts, Sends, Selects, Gives, Sets, Asks, Shows, Block, Then, Either, Calls, Ends, Procedure, Source}
use Rattle.chor_print.specs.Pieces.{sort_text}

-- ---- names, expressions and lists

abbrev pub id_symbols : List (List ℕ) → NameId → List Symbol → List Symbol
id_symbols names x more = word (name_in names x) ∷ more

abbrev pub name_symbols : List (List ℕ) → Named → List Symbol → List Symbol
name_symbols names n more = id_symbols names n.name more

abbrev pub term_symbols : List (List ℕ) → List (List ℕ) → Term → List Symbol → List Symbol
term_symbols names texts e more = expr_symbols names texts e ++ more

-- items, one after the other
abbrev pub each : {A : Type 0} → (A → List Symbol → List Symbol) → List A → List Symbol → List Symbol
each item [] more = more
each item (x ∷ xs) more = item x (each item xs more)

-- items with a comma before each
abbrev pub after_commas : {A : Type 0} → (A → List Symbol → List Symbol) → List A → List Symbol → List Symbol
after_commas item xs more = each (λ x rest. mark Comma ∷ item x rest) xs more

-- items with commas between them
abbrev pub listed : {A : Type 0} → (A → List Symbol → List Symbol) → List A → List Symbol → List Symbol
listed item [] more = more
listed item (x ∷ xs) more = item x (after_commas item xs more)

-- items with commas between them after a symbol, where there are any
abbrev pub listed_after : {A : Type 0} → Symbol → (A → List Symbol → List Symbol) → List A → List Symbol → List Symbol
listed_after s item [] more = more
listed_after s item (x ∷ xs) more = s ∷ listed item (x ∷ xs) more

abbrev pub part_symbols : List (List ℕ) → Part → List Symbol → List Symbol
part_symbols names p more = name_symbols names p.process (mark OpenBracket ∷ name_symbols names p.role (mark CloseBracket ∷ more))

-- ---- headers

abbrev pub capacity_symbols : Option ℕ → List Symbol → List Symbol
capacity_symbols (Some c) more = word (codes "capacity") ∷ number c ∷ mark Semicolon ∷ more
capacity_symbols None more = more

abbrev pub version_symbols : (is_second : Bool) → Option ℕ → List Symbol → List Symbol
version_symbols true c more = word (codes "chor") ∷ number 2 ∷ mark Semicolon ∷ capacity_symbols c more
version_symbols false c more = more

abbrev pub header_symbols : Header → List Symbol → List Symbol
header_symbols h more = version_symbols (h.version == 2) h.capacity more

-- ---- protocols and services

abbrev pub sort_symbols : Sort → List Symbol → List Symbol
sort_symbols s more = word (sort_text s) ∷ more

abbrev pub payload_symbols : List (List ℕ) → Payload → List Symbol → List Symbol
payload_symbols names (payload.Plain s) more = sort_symbols s more
payload_symbols names (payload.Endpoint p s r) more = name_symbols names p (mark Dot ∷ name_symbols names s (mark At ∷ name_symbols names r more))

abbrev pub arm_symbols : List (List ℕ) → ProtoArm → List Symbol → List Symbol
arm_symbols names a more = name_symbols names a.label (word (codes "then") ∷ name_symbols names a.next more)

abbrev pub step_symbols : List (List ℕ) → ProtoStep → List Symbol → List Symbol
step_symbols names step.End more = word (codes "end") ∷ more
step_symbols names (step.Value a b p n) more =
    name_symbols names a (mark Arrow ∷ name_symbols names b (mark Colon ∷ payload_symbols names p (word (codes "then") ∷ name_symbols names n more)))
step_symbols names (step.Choice a b arms) more =
    name_symbols names a (mark Arrow ∷ name_symbols names b (mark OpenBrace ∷ listed (arm_symbols names) arms (mark CloseBrace ∷ more)))

abbrev pub state_symbols : List (List ℕ) → State → List Symbol → List Symbol
state_symbols names s more = name_symbols names s.name (mark Assign ∷ step_symbols names s.step (mark Semicolon ∷ more))

abbrev pub protocol_symbols : List (List ℕ) → Protocol → List Symbol → List Symbol
protocol_symbols names p more =
    word (codes "protocol") ∷ name_symbols names p.name (mark OpenParen ∷ listed (name_symbols names) p.roles (mark CloseParen
    ∷ mark OpenBrace ∷ each (state_symbols names) p.states (mark CloseBrace ∷ more)))

abbrev pub service_symbols : List (List ℕ) → Service → List Symbol → List Symbol
service_symbols names s more =
    word (codes "service") ∷ name_symbols names s.name (mark Colon ∷ name_symbols names s.protocol (mark OpenParen
    ∷ listed (name_symbols names) s.active (listed_after (mark Bar) (name_symbols names) s.serve (mark CloseParen ∷ mark Semicolon ∷ more))))

-- ---- parameters

abbrev pub variable_symbols : List (List ℕ) → Named × Sort → List Symbol → List Symbol
variable_symbols names v more = name_symbols names v.0 (mark Colon ∷ sort_symbols v.1 more)

abbrev pub variables_symbols : List (List ℕ) → List (Named × Sort) → List Symbol → List Symbol
variables_symbols names [] more = more
variables_symbols names (v ∷ vs) more = mark OpenParen ∷ listed (variable_symbols names) (v ∷ vs) (mark CloseParen ∷ more)

abbrev pub process_param_symbols : List (List ℕ) → ProcParam → List Symbol → List Symbol
process_param_symbols names p more = name_symbols names p.name (variables_symbols names p.vars more)

abbrev pub holder_symbols : List (List ℕ) → Named × Named → List Symbol → List Symbol
holder_symbols names h more = name_symbols names h.0 (mark Assign ∷ name_symbols names h.1 more)

abbrev pub session_param_symbols : List (List ℕ) → SessionParam → List Symbol → List Symbol
session_param_symbols names k more =
    name_symbols names k.name (mark Colon ∷ name_symbols names k.protocol (mark Dot ∷ name_symbols names k.state (mark OpenBrace
    ∷ listed (holder_symbols names) k.holders (mark CloseBrace ∷ more))))

-- ---- statements, blocks and sources

abbrev pub statement_symbols : List (List ℕ) → List (List ℕ) → Statement → List Symbol → List Symbol
statement_symbols names texts (Starts c k active serve) more =
    word (codes "start") ∷ name_symbols names c (mark OpenParen ∷ name_symbols names k (mark CloseParen ∷ mark Colon
    ∷ listed (part_symbols names) active (listed_after (word (codes "new")) (part_symbols names) serve more)))
statement_symbols names texts (Sends a e b x k) more =
    part_symbols names a (mark Dot ∷ term_symbols names texts e (mark Arrow
    ∷ part_symbols names b (mark Dot ∷ id_symbols names x (mark Colon ∷ name_symbols names k more))))
statement_symbols names texts (Selects a b k l) more =
    part_symbols names a (mark Arrow ∷ part_symbols names b (mark Colon ∷ name_symbols names k (mark Dot ∷ id_symbols names l more)))
statement_symbols names texts (Gives a b k h) more =
    part_symbols names a (mark Arrow ∷ part_symbols names b (mark Colon ∷ name_symbols names k (mark OpenParen ∷ part_symbols names h (mark CloseParen ∷ more))))
statement_symbols names texts (Sets p x e) more =
    name_symbols names p (mark Dot ∷ id_symbols names x (mark Becomes ∷ term_symbols names texts e more))
statement_symbols names texts (Asks p x f a b) more =
    name_symbols names p (mark Dot ∷ id_symbols names x (mark Becomes ∷ word (codes "host") ∷ name_symbols names f (mark OpenParen
    ∷ term_symbols names texts a (mark Comma ∷ term_symbols names texts b (mark CloseParen ∷ more)))))
statement_symbols names texts (Shows p e) more = name_symbols names p (word (codes "show") ∷ term_symbols names texts e more)

-- what stands between the braces of a block
abbrev pub lines_symbols : List (List ℕ) → List (List ℕ) → Block → List Symbol → List Symbol
lines_symbols names texts (Then p s b) more = statement_symbols names texts s (mark Semicolon ∷ lines_symbols names texts b more)
lines_symbols names texts (Either p q e a b) more =
    word (codes "if") ∷ name_symbols names q (mark Dot ∷ term_symbols names texts e (mark OpenBrace ∷ lines_symbols names texts a (mark CloseBrace
    ∷ word (codes "else") ∷ mark OpenBrace ∷ lines_symbols names texts b (mark CloseBrace ∷ more))))
lines_symbols names texts (Calls p f ps ks) more =
    word (codes "call") ∷ name_symbols names f (mark OpenParen ∷ listed (name_symbols names) ps (listed_after (mark Semicolon) (name_symbols names) ks (mark CloseParen ∷ more)))
lines_symbols names texts (Ends p) more = word (codes "end") ∷ more

abbrev pub block_symbols : List (List ℕ) → List (List ℕ) → Block → List Symbol → List Symbol
block_symbols names texts b more = mark OpenBrace ∷ lines_symbols names texts b (mark CloseBrace ∷ more)

abbrev pub procedure_symbols : List (List ℕ) → List (List ℕ) → Procedure → List Symbol → List Symbol
procedure_symbols names texts p more =
    word (codes "proc") ∷ name_symbols names p.name (mark OpenParen ∷ listed (process_param_symbols names) p.params
    (listed_after (mark Semicolon) (session_param_symbols names) p.sessions (mark CloseParen ∷ block_symbols names texts p.body more)))

abbrev pub main_symbols : List (List ℕ) → List (List ℕ) → List Named → Block → List Symbol → List Symbol
main_symbols names texts ps b more =
    word (codes "main") ∷ mark OpenParen ∷ listed (name_symbols names) ps (mark CloseParen ∷ block_symbols names texts b more)

-- The symbols of the canonical text of a source, up to the end of the file
abbrev pub source_symbols : List (List ℕ) → List (List ℕ) → Source → List Symbol
source_symbols names texts s =
    header_symbols s.header (each (protocol_symbols names) s.items.protocols (each (service_symbols names) s.items.services
    (each (procedure_symbols names texts) s.items.procedures (main_symbols names texts s.processes s.body (last ∷ [])))))
