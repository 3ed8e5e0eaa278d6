-- What the tokens of a source derive, where its words and texts have these numbers (this project's own).
use Rattle.std.specs.Prelude.{◌-◌, ℕ, pos, true, false, List, [], ◌∷◌, Option, Some, None, map, bytes_eq}
use Rattle.std.specs.List.{position_or_len}
use Rattle.std.proofs.Common.{inl, inr}
use Rattle.chor_base.specs.declared.names.NameId.{NameId}
use Rattle.chor_base.specs.declared.rule.Place.{Place}
use Rattle.chor_base.specs.declared.rule.Rule.TheVariants.{P1}
use Rattle.chor_base.specs.declared.value.Value.TheVariants as value
use Rattle.chor_base.specs.declared.value.Sort.{Sort}
use Rattle.chor_base.specs.declared.value.Sort.TheVariants as sort
use Rattle.chor_base.specs.declared.expr.UnOp.TheVariants as unop
use Rattle.chor_base.specs.declared.expr.BinOp.{BinOp}
use Rattle.chor_base.specs.declared.expr.BinOp.TheVariants as binop
use Rattle.chor_base.specs.Expr.{Term, Constant, Variable, Unary, Binary}
use Rattle.chor_lexer.specs.Lexeme.{Symbol, word as a_word, number as a_number, text as a_text, Lexeme}
use Rattle.chor_lexer.specs.declared.mark.Mark.TheVariants.{Plus, Minus, Star, Slash}
use Rattle.chor_tree.specs.declared.header.Header.{Header}
use Rattle.chor_tree.specs.Headers.{first_place, no_header}
use Rattle.chor_tree.specs.declared.file.Named.{Named}
use Rattle.chor_tree.specs.declared.file.Service.{Service}
use Rattle.chor_tree.specs.declared.file.ProcParam.{ProcParam}
use Rattle.chor_tree.specs.declared.file.SessionParam.{SessionParam}
use Rattle.chor_tree.specs.Protocols.{Protocol}
use Rattle.chor_tree.specs.declared.protocol.State.{State}
use Rattle.chor_tree.specs.declared.protocol.ProtoStep.{ProtoStep}
use Rattle.chor_tree.specs.declared.protocol.ProtoStep.TheVariants as step
use Rattle.chor_tree.specs.declared.protocol.ProtoArm.{ProtoArm}
use Rattle.chor_tree.specs.declared.protocol.Payload.{Payload}
use Rattle.chor_tree.specs.declared.protocol.Payload.TheVariants as payload_is
use Rattle.chor_tree.specs.declared.tree.Part.{Part}
use Rattle.chor_tree.specs.Source.{Statement, Starts, Sends, Selects, Gives, Sets, Asks, Shows, Block, Then, Either, Calls, Ends, Procedure, Items, Source as Tree}
use Rattle.grammar.specs.Grammars.{Value, Rules, Room, optional}
use Rattle.source_rows.specs.Sources.{Nonterminal, lines, roles, served, operand, parens, Source, rule_of, operators, comparisons, un, product, sum, comparison, conjunction, disjunction, commas, names, sort as sort_rows, payload, arm, step as step_rows, state, protocol, service, roles_of, served_of, part, value as value_rows, to_one, sending, setting, start, choice_of, statement, passed, tail, lines_of, variable, parameter, session, parameters, procedure, item, processes, declared, header, file}

-- the words and the texts by their numbers
pub record Tables : Type 0 where
  pub words : List (List ℕ)
  pub texts : List (List ℕ)

-- the active and the service roles of a service
pub record Roles : Type 0 where
  pub active : List Named
  pub serve : List Named

-- what a nonterminal derives
abbrev pub Meaning : Nonterminal → Type 0
Meaning (lines b p) = Block
Meaning (roles n) = Roles
Meaning (served n) = List Named
Meaning operand = Term
Meaning parens = Term

-- what a grammar of sources derives
abbrev pub Derived : Source → Type 0
Derived g = Value Meaning g

-- the number of a word, or of a text
abbrev pub number_of : Tables → Symbol → ℕ
number_of i (a_word w) = position_or_len (bytes_eq w) i.words
number_of i (a_text t) = position_or_len (bytes_eq t) i.texts
number_of i (a_number n) = n
number_of i _ = 0

-- the word of this number
abbrev pub id_of : Tables → Lexeme → NameId
id_of i l = record { 0 = number_of i l.symbol }

-- a name with its place
abbrev pub name : Tables → Lexeme → Named
name i l = record { name = id_of i l; place = l.place }

-- ---- expressions

-- an operand
abbrev pub leaf_of : Tables → Derived un → Term
leaf_of i (inl x) = Unary unop.Neg x
leaf_of i (inr (inl x)) = Unary unop.Not x
leaf_of i (inr (inr (inl x))) = x
leaf_of i (inr (inr (inr (inl l)))) = Constant (value.Int (pos (number_of i l.symbol)))
leaf_of i (inr (inr (inr (inr (inl l))))) = Constant (value.Text (number_of i l.symbol))
leaf_of i (inr (inr (inr (inr (inr (inl v)))))) = Constant (value.Bool true)
leaf_of i (inr (inr (inr (inr (inr (inr (inl v))))))) = Constant (value.Bool false)
leaf_of i (inr (inr (inr (inr (inr (inr (inr l))))))) = Variable (id_of i l)

-- operators group to the left
abbrev pub grouped : {A B : Type 0} → (A → BinOp) → (B → Term) → Term → List (A × B) → Term
grouped op term x [] = x
grouped op term x (y ∷ ys) = grouped op term (Binary (op y.0) x (term y.1)) ys

-- the operators of products
abbrev pub product_op : Derived (operators (Star ∷ Slash ∷ [])) → BinOp
product_op (inl v) = binop.Mul
product_op (inr v) = binop.Div

-- those of sums
abbrev pub sum_op : Derived (operators (Plus ∷ Minus ∷ [])) → BinOp
sum_op (inl v) = binop.Add
sum_op (inr v) = binop.Sub

-- those of comparisons
abbrev pub comparison_op : Derived (operators comparisons) → BinOp
comparison_op (inl v) = binop.Eq
comparison_op (inr (inl v)) = binop.Ne
comparison_op (inr (inr (inl v))) = binop.Lt
comparison_op (inr (inr (inr v))) = binop.Le

-- a product
abbrev pub product_term : Tables → Derived product → Term
product_term i v = grouped product_op (leaf_of i) (leaf_of i v.0) v.1

-- a sum
abbrev pub sum_term : Tables → Derived sum → Term
sum_term i v = grouped sum_op (product_term i) (product_term i v.0) v.1

-- a comparison, or a sum alone
abbrev pub comparison_term : Tables → Derived comparison → Term
comparison_term i (x, inl (op, y)) = Binary (comparison_op op) (sum_term i x) (sum_term i y)
comparison_term i (x, inr v) = sum_term i x

-- a conjunction
abbrev pub conjunction_term : Tables → Derived conjunction → Term
conjunction_term i v = grouped (λ op. binop.And) (comparison_term i) (comparison_term i v.0) v.1

-- an expression
abbrev pub term : Tables → Derived disjunction → Term
term i v = grouped (λ op. binop.Or) (conjunction_term i) (conjunction_term i v.0) v.1

-- ---- lists

-- the first, and the others
abbrev pub listing : {A B : Type 0} → (A → B) → A × List A → List B
listing f v = f v.0 ∷ map f v.1

-- a list of names
abbrev pub name_list : Tables → (n : Room) → Derived (names n) → List Named
name_list i n v = listing (name i) v

-- ---- statements

-- a process in its role
abbrev pub role_of : Tables → Derived part → Part
role_of i (p, (o, (r, c))) = record { process = name i p; role = name i r }

-- a list of processes in their roles
abbrev pub role_list : Tables → Derived (commas None part) → List Part
role_list i v = listing (role_of i) v

-- a label to one part, or a role that is handed over to it
abbrev pub path_of : Tables → Part → Part → Derived to_one → Statement
path_of i a b (c, (k, inl (d, l))) = Selects a b (name i k) (id_of i l)
path_of i a b (c, (k, inr (o, (h, e)))) = Gives a b (name i k) (role_of i h)

-- a value that is sent
abbrev pub value_of : Tables → Part → Derived value_rows → Statement
value_of i a (d, (e, (w, (b, (f, (x, (c, k))))))) = Sends a (term i e) (role_of i b) (id_of i x) (name i k)

-- a communication of this process
abbrev pub sending_of : Tables → Named → Derived sending → Statement
sending_of i p (o, (r, (c, inl x))) = value_of i (record { process = p; role = name i r }) x
sending_of i p (o, (r, (c, inr (w, (b, x))))) = path_of i (record { process = p; role = name i r }) (role_of i b) x

-- what this process sets a variable to
abbrev pub setting_of : Tables → Named → Derived setting → Statement
setting_of i p (d, (x, (b, inl (w, (f, (o, (l, (m, (r, c))))))))) = Asks p (id_of i x) (name i f) (term i l) (term i r)
setting_of i p (d, (x, (b, inr e))) = Sets p (id_of i x) (term i e)

-- a start; without new processes the second list is empty
abbrev pub start_of : Tables → Derived start → Statement
start_of i (w, (c, (o, (k, (e, (m, (active, inl (n, serve)))))))) = Starts (name i c) (name i k) (role_list i active) (role_list i serve)
start_of i (w, (c, (o, (k, (e, (m, (active, inr n))))))) = Starts (name i c) (name i k) (role_list i active) []

-- a statement of this process
abbrev pub named_of : Tables → Named → Derived choice_of → Statement
named_of i p (inl x) = sending_of i p x
named_of i p (inr (inl x)) = setting_of i p x
named_of i p (inr (inr (w, e))) = Shows p (term i e)

-- a statement
abbrev pub statement_of : Tables → Derived statement → Statement
statement_of i (inl x) = start_of i x
statement_of i (inr (p, x)) = named_of i (name i p) x

-- where a statement begins
abbrev pub begins_at : Derived statement → Place
begins_at (inl x) = x.0.place
begins_at (inr x) = x.0.place

-- ---- blocks

-- the processes and the sessions of a call
abbrev pub passed_of : Tables → Derived passed → List Named × List Named
passed_of i (inl (ps, inl (m, ss))) = (name_list i None ps, name_list i None ss)
passed_of i (inl (ps, inr n)) = (name_list i None ps, [])
passed_of i (inr n) = ([], [])

-- the end of a block, with the place of its first word
abbrev pub tail_of : Tables → (b p : ℕ) → Derived (tail b p) → Block
tail_of i b p (inl w) = Ends w.place
tail_of i b p (inr (inl (w, (f, (o, (x, c)))))) = Calls w.place (name i f) (passed_of i x).0 (passed_of i x).1
tail_of i b p (inr (inr (w, (q, (d, (e, ((first, c), (u, (second, k))))))))) = Either w.place (name i q) (term i e) first second

-- what is left of a block
abbrev pub block_of : Tables → (b p : ℕ) → Derived (lines_of b p) → Block
block_of i b p (inl (s, rest)) = Then (begins_at s) (statement_of i s) rest
block_of i b p (inr t) = tail_of i b (p - 1) t

-- ---- protocols and services

-- a sort
abbrev pub sort_of : Derived sort_rows → Sort
sort_of (inl w) = sort.Int
sort_of (inr (inl w)) = sort.Bool
sort_of (inr (inr w)) = sort.Text

-- what a step sends
abbrev pub payload_of : Tables → Derived payload → Payload
payload_of i (inl s) = payload_is.Plain (sort_of s)
payload_of i (inr (p, (d, (s, (a, r))))) = payload_is.Endpoint (name i p) (name i s) (name i r)

-- an arm of a choice
abbrev pub arm_of : Tables → Derived arm → ProtoArm
arm_of i (l, (w, n)) = record { label = name i l; next = name i n }

-- a step
abbrev pub step_of : Tables → Derived step_rows → ProtoStep
step_of i (inl w) = step.End
step_of i (inr (a, (w, (b, inl (c, (p, (t, n))))))) = step.Value (name i a) (name i b) (payload_of i p) (name i n)
step_of i (inr (a, (w, (b, inr (o, (xs, c)))))) = step.Choice (name i a) (name i b) (listing (arm_of i) xs)

-- a state
abbrev pub state_of : Tables → Derived state → State
state_of i (n, (e, (s, m))) = record { name = name i n; step = step_of i s }

-- a protocol
abbrev pub protocol_of : Tables → Derived protocol → Protocol
protocol_of i (w, (n, (o, (rs, (c, (b, (s, (ss, e)))))))) = record { name = name i n; roles = name_list i None rs; states = state_of i s ∷ map (state_of i) ss }

-- what is left of the roles that are served
abbrev pub served_list : Tables → (n : ℕ) → Derived (served_of n) → List Named
served_list i n (x, inl xs) = name i x ∷ xs
served_list i n (x, inr v) = name i x ∷ []

-- what is left of both lists of roles
abbrev pub role_lists : Tables → (n : ℕ) → Derived (roles_of n) → Roles
role_lists i n (x, inl rs) = record { active = name i x ∷ rs.active; serve = rs.serve }
role_lists i n (x, inr (inl ys)) = record { active = name i x ∷ []; serve = ys }
role_lists i n (x, inr (inr v)) = record { active = name i x ∷ []; serve = [] }

-- a service
abbrev pub service_of : Tables → Derived service → Service
service_of i (w, (n, (c, (p, (rs, m))))) = record { name = name i n; protocol = name i p; active = rs.active; serve = rs.serve }

-- ---- files

-- a variable with its sort
abbrev pub variable_of : Tables → Derived variable → Named × Sort
variable_of i (n, (c, s)) = (name i n, sort_of s)

-- a process parameter; without variables its list is empty
abbrev pub parameter_of : Tables → Derived parameter → ProcParam
parameter_of i (n, inl (o, (vs, c))) = record { name = name i n; vars = listing (variable_of i) vs }
parameter_of i (n, inr v) = record { name = name i n; vars = [] }

-- a session parameter, with the role and the process of each holder
abbrev pub session_of : Tables → Derived session → SessionParam
session_of i (n, (c, (p, (d, (s, (o, (hs, e))))))) = record { name = name i n; protocol = name i p; state = name i s; holders = listing (λ h. (name i h.0, name i h.1.1)) hs }

-- both lists of parameters
abbrev pub parameters_of : Tables → Derived parameters → List ProcParam × List SessionParam
parameters_of i (inl (ps, inl (m, ss))) = (listing (parameter_of i) ps, listing (session_of i) ss)
parameters_of i (inl (ps, inr n)) = (listing (parameter_of i) ps, [])
parameters_of i (inr n) = ([], [])

-- a procedure
abbrev pub procedure_of : Tables → Derived procedure → Procedure
procedure_of i (w, (n, (o, (x, (c, (b, k)))))) = record { name = name i n; params = (parameters_of i x).0; sessions = (parameters_of i x).1; body = b }

-- the items with one more before them
abbrev pub with_item : Tables → Derived item → Items → Items
with_item i (inl p) is = record is { protocols = protocol_of i p ∷ is.protocols }
with_item i (inr (inl s)) is = record is { services = service_of i s ∷ is.services }
with_item i (inr (inr p)) is = record is { procedures = procedure_of i p ∷ is.procedures }

-- what stands before main
abbrev pub items_of : Tables → List (Derived item) → Items
items_of i [] = record { protocols = []; services = []; procedures = [] }
items_of i (x ∷ xs) = with_item i x (items_of i xs)

-- the processes of main
abbrev pub processes_of : Tables → Derived processes → List Named
processes_of i (inl ns) = name_list i None ns
processes_of i (inr n) = []

-- the capacity that a header declares, and where its word stands
abbrev pub capacity_of : Tables → Derived declared → Option ℕ × Place
capacity_of i (inl (w, (inl l, m))) = (Some (number_of i l.symbol), w.place)
capacity_of i (inl (w, (inr l, m))) = (Some (number_of i l.symbol), w.place)
capacity_of i (inr n) = (None, first_place)

-- the header, or that of a file without one
abbrev pub header_of : Tables → Derived (optional header) → Header
header_of i (inl (w, (n, (m, c)))) = record { version = 2; capacity = (capacity_of i c).0; place = (capacity_of i c).1 }
header_of i (inr n) = no_header

-- a file
abbrev pub source_of : Tables → Derived file → Tree
source_of i (h, (xs, ((w, (o, (ps, (c, (b, k))))), e))) = record { header = header_of i h; items = items_of i xs; processes = processes_of i ps; body = b }

-- what is made of what a nonterminal's rule derives
abbrev pub make : Tables → (n : Nonterminal) → Derived (rule_of n) → Meaning n
make i (lines b p) x = block_of i b p x
make i (roles n) x = role_lists i n x
make i (served n) x = served_list i n x
make i operand x = leaf_of i x
make i parens x = term i x.0

-- the rules of sources
abbrev pub rules : Tables → Rules Nonterminal
rules i = record { V = Meaning; rule = rule_of; make = make i; wrong = P1 }
