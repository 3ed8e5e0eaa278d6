-- When two files say the same: they differ in nothing but places and the numbers of their words and texts (this project's own).
-- `n` tells which names are the same words, and `t` which texts are the same bytes.
use Rattle.std.specs.Prelude.{ℕ, Bool, true, false, ◌==◌, ◌&&◌, List, [], ◌∷◌, Option, Some, None, slice_get, bytes_eq}
use Rattle.chor_base.specs.declared.names.NameId.{NameId}
use Rattle.chor_base.specs.declared.value.Sort.{Sort}
use Rattle.chor_base.specs.declared.value.Sort.TheVariants as sort
use Rattle.chor_base.specs.declared.value.Value.{Value}
use Rattle.chor_base.specs.declared.value.Value.TheVariants.{Int, Bool as Truth, Text, Part as Endpoint}
use Rattle.chor_base.specs.declared.expr.UnOp.{UnOp}
use Rattle.chor_base.specs.declared.expr.UnOp.TheVariants.{Neg, Not}
use Rattle.chor_base.specs.declared.expr.BinOp.{BinOp}
use Rattle.chor_base.specs.declared.expr.BinOp.TheVariants.{Add, Sub, Mul, Div, Eq, Ne, Lt, Le, And, Or}
use Rattle.chor_base.specs.Expr.{Term, Constant, Variable, Unary, Binary, int_same, bool_same}
use Rattle.chor_base.specs.Writing.{name_in}
use Rattle.chor_tree.specs.declared.file.Named.{Named}
use Rattle.chor_tree.specs.declared.file.Service.{Service}
use Rattle.chor_tree.specs.declared.file.ProcParam.{ProcParam}
use Rattle.chor_tree.specs.declared.file.SessionParam.{SessionParam}
use Rattle.chor_tree.specs.declared.file.File.{File}
use Rattle.chor_tree.specs.declared.header.Header.{Header}
use Rattle.chor_tree.specs.declared.protocol.Payload.{Payload}
use Rattle.chor_tree.specs.declared.protocol.Payload.TheVariants as payload
use Rattle.chor_tree.specs.declared.protocol.ProtoArm.{ProtoArm}
use Rattle.chor_tree.specs.declared.protocol.ProtoStep.{ProtoStep}
use Rattle.chor_tree.specs.declared.protocol.ProtoStep.TheVariants as step
use Rattle.chor_tree.specs.declared.protocol.State.{State}
use Rattle.chor_tree.specs.Protocols.{Protocol}
use Rattle.chor_tree.specs.declared.tree.Part.{Part}
use Rattle.chor_tree.specs.Source.{Statement, Starts, Sends, Selects, Gives, Sets, Asks, Shows, Block, Then, Either, Calls, Ends, Procedure, Source, source_of}

-- two things, each of one file
abbrev pub Same : Type 0 → Type 0
Same A = A → A → Bool

-- lists of the same length with the same items in the same order
abbrev pub all_same : {A : Type 0} → Same A → Same (List A)
all_same p [] [] = true
all_same p (x ∷ xs) (y ∷ ys) = p x y && all_same p xs ys
all_same p [] (y ∷ ys) = false
all_same p (x ∷ xs) [] = false

-- ---- headers: the same version, and the same capacity or none

abbrev pub same_capacity : Same (Option ℕ)
same_capacity (Some c) (Some d) = c == d
same_capacity None None = true
same_capacity _ _ = false

abbrev pub same_header : Same Header
same_header h k = h.version == k.version && same_capacity h.capacity k.capacity

-- ---- names and texts

abbrev pub same_named : Same NameId → Same Named
same_named n x y = n x.name y.name

abbrev pub same_part : Same NameId → Same Part
same_part n p q = same_named n p.process q.process && same_named n p.role q.role

-- ---- protocols and services

abbrev pub same_sort : Same Sort
same_sort sort.Int sort.Int = true
same_sort sort.Bool sort.Bool = true
same_sort sort.Text sort.Text = true
same_sort _ _ = false

abbrev pub same_payload : Same NameId → Same Payload
same_payload n (payload.Plain s) (payload.Plain r) = same_sort s r
same_payload n (payload.Endpoint p s r) (payload.Endpoint q u v) = same_named n p q && same_named n s u && same_named n r v
same_payload n _ _ = false

abbrev pub same_arm : Same NameId → Same ProtoArm
same_arm n a b = same_named n a.label b.label && same_named n a.next b.next

abbrev pub same_step : Same NameId → Same ProtoStep
same_step n step.End step.End = true
same_step n (step.Value a b p next) (step.Value c d q next') =
    same_named n a c && same_named n b d && same_payload n p q && same_named n next next'
same_step n (step.Choice a b arms) (step.Choice c d arms') = same_named n a c && same_named n b d && all_same (same_arm n) arms arms'
same_step n _ _ = false

abbrev pub same_state : Same NameId → Same State
same_state n s r = same_named n s.name r.name && same_step n s.step r.step

abbrev pub same_protocol : Same NameId → Same Protocol
same_protocol n p q = same_named n p.name q.name && all_same (same_named n) p.roles q.roles && all_same (same_state n) p.states q.states

abbrev pub same_service : Same NameId → Same Service
same_service n s r =
    same_named n s.name r.name && same_named n s.protocol r.protocol && all_same (same_named n) s.active r.active && all_same (same_named n) s.serve r.serve

-- ---- parameters

abbrev pub same_variable : Same NameId → Same (Named × Sort)
same_variable n v w = same_named n v.0 w.0 && same_sort v.1 w.1

abbrev pub same_process_param : Same NameId → Same ProcParam
same_process_param n p q = same_named n p.name q.name && all_same (same_variable n) p.vars q.vars

abbrev pub same_holder : Same NameId → Same (Named × Named)
same_holder n h g = same_named n h.0 g.0 && same_named n h.1 g.1

abbrev pub same_session_param : Same NameId → Same SessionParam
same_session_param n k l =
    same_named n k.name l.name && same_named n k.protocol l.protocol && same_named n k.state l.state && all_same (same_holder n) k.holders l.holders

-- ---- expressions

abbrev pub same_value : Same NameId → Same ℕ → Same Value
same_value n t (Int y) (Int z) = int_same y z
same_value n t (Truth a) (Truth b) = bool_same a b
same_value n t (Text x) (Text y) = t x y
same_value n t (Endpoint s r) (Endpoint u q) = (s == u) && n r q
same_value n t _ _ = false

abbrev pub same_unary : Same UnOp
same_unary Neg Neg = true
same_unary Not Not = true
same_unary _ _ = false

-- the operators of two operands, in the order of their declaration
abbrev pub number_of_binary : BinOp → ℕ
number_of_binary Add = 0
number_of_binary Sub = 1
number_of_binary Mul = 2
number_of_binary Div = 3
number_of_binary Eq = 4
number_of_binary Ne = 5
number_of_binary Lt = 6
number_of_binary Le = 7
number_of_binary And = 8
number_of_binary Or = 9

abbrev pub same_binary : Same BinOp
same_binary o p = number_of_binary o == number_of_binary p

abbrev pub same_term : Same NameId → Same ℕ → Same Term
same_term n t (Constant v) (Constant w) = same_value n t v w
same_term n t (Variable x) (Variable y) = n x y
same_term n t (Unary o e) (Unary p f) = same_unary o p && same_term n t e f
same_term n t (Binary o e f) (Binary p g h) = same_binary o p && same_term n t e g && same_term n t f h
same_term n t _ _ = false

-- ---- statements, blocks and sources

abbrev pub same_statement : Same NameId → Same ℕ → Same Statement
same_statement n t (Starts c k active serve) (Starts d l active' serve') =
    same_named n c d && same_named n k l && all_same (same_part n) active active' && all_same (same_part n) serve serve'
same_statement n t (Sends a e b x k) (Sends c f d y l) =
    same_part n a c && same_term n t e f && same_part n b d && n x y && same_named n k l
same_statement n t (Selects a b k x) (Selects c d l y) = same_part n a c && same_part n b d && same_named n k l && n x y
same_statement n t (Gives a b k h) (Gives c d l g) = same_part n a c && same_part n b d && same_named n k l && same_part n h g
same_statement n t (Sets p x e) (Sets q y f) = same_named n p q && n x y && same_term n t e f
same_statement n t (Asks p x h a b) (Asks q y g c d) =
    same_named n p q && n x y && same_named n h g && same_term n t a c && same_term n t b d
same_statement n t (Shows p e) (Shows q f) = same_named n p q && same_term n t e f
same_statement n t _ _ = false

abbrev pub same_block : Same NameId → Same ℕ → Same Block
same_block n t (Then p s b) (Then q r c) = same_statement n t s r && same_block n t b c
same_block n t (Either p x e a b) (Either q y f c d) = same_named n x y && same_term n t e f && same_block n t a c && same_block n t b d
same_block n t (Calls p g ps ks) (Calls q h rs ls) = same_named n g h && all_same (same_named n) ps rs && all_same (same_named n) ks ls
same_block n t (Ends p) (Ends q) = true
same_block n t _ _ = false

abbrev pub same_procedure : Same NameId → Same ℕ → Same Procedure
same_procedure n t p q =
    same_named n p.name q.name && all_same (same_process_param n) p.params q.params
    && all_same (same_session_param n) p.sessions q.sessions && same_block n t p.body q.body

abbrev pub same_source : Same NameId → Same ℕ → Same Source
same_source n t s r =
    same_header s.header r.header
    && all_same (same_protocol n) s.items.protocols r.items.protocols && all_same (same_service n) s.items.services r.items.services
    && all_same (same_procedure n t) s.items.procedures r.items.procedures
    && all_same (same_named n) s.processes r.processes && same_block n t s.body r.body

-- ---- files

-- names of two tables are the same where their words are; a name that isn't in its table has no bytes
abbrev pub same_words : List (List ℕ) → List (List ℕ) → Same NameId
same_words names names' x y = bytes_eq (name_in names x) (name_in names' y)

abbrev pub same_found : Option (List ℕ) → Option (List ℕ) → Bool
same_found (Some x) (Some y) = bytes_eq x y
same_found None None = true
same_found _ _ = false

-- texts of two tables are the same where their bytes are, or where neither is in its table
abbrev pub same_texts : List (List ℕ) → List (List ℕ) → Same ℕ
same_texts texts texts' x y = same_found (slice_get texts x) (slice_get texts' y)

-- Two files say the same
abbrev pub same_files : Same File
same_files f g = same_source (same_words f.names g.names) (same_texts f.texts g.texts) (source_of f) (source_of g)
