-- Parts of the canonical text, as they are printed.
use Rattle.std.specs.Prelude.{ℕ, zero, suc, List, [], ◌++◌, map, Option, Some, None, codes}
use Rattle.std.specs.List.{flat_map}
use Rattle.chor_base.specs.declared.names.NameId.{NameId}
use Rattle.chor_base.specs.Expr.{Term, term_of}
use Rattle.chor_base.specs.Writing.{name_in}
use Rattle.chor_tree.specs.declared.file.File.{File}
use Rattle.chor_tree.specs.declared.header.Header.{Header}
use Rattle.chor_tree.specs.declared.file.Named.{Named}
use Rattle.chor_tree.specs.declared.file.Proc.{Proc}
use Rattle.chor_tree.specs.declared.file.Service.{Service}
use Rattle.chor_tree.specs.Protocols.{Protocol}
use Rattle.chor_tree.specs.declared.tree.NodeId.{NodeId}
use Rattle.chor_tree.specs.declared.tree.Part.{Part}
use Rattle.chor_tree.specs.declared.tree.Form.{Form}
use Rattle.chor_tree.specs.declared.tree.Form.TheVariants.{Start, Value, Label, Give, Set, Host, Show, If, Call, End}
use Rattle.chor_print.specs.Pieces.{named_text, part_text}
use Rattle.chor_print.specs.Statements.{term_text, start_text, value_text, label_text, give_text, set_text, host_text, show_text}
use Rattle.chor_print.specs.Lines.{block_lines}
use Rattle.chor_print.specs.Text.{ended, capacity_lines, header_lines, state_line, protocol_head, service_line, proc_head, main_head}

-- two spaces for each open brace
abbrev pub indentation : ℕ → List ℕ
indentation zero = []
indentation (suc depth) = indentation depth ++ codes "  "

-- a line within so many braces, and lines there
abbrev pub line_at : ℕ → List ℕ → List ℕ
line_at depth line = ended (indentation depth ++ line)

abbrev pub lines_at : ℕ → List (List ℕ) → List ℕ
lines_at depth lines = flat_map (line_at depth) lines

-- items, each after a comma and a space
abbrev pub after_commas : {A : Type 0} → (A → List ℕ) → List A → List ℕ
after_commas text xs = flat_map (λ x. codes ", " ++ text x) xs

-- a start; another node adds no bytes
abbrev pub starting_text : File → Form → List ℕ
starting_text f (Start c k active serve next) = start_text f c k active serve
starting_text f _ = []

-- a value, a label or an endpoint that is sent
abbrev pub message_text : File → Form → List ℕ
message_text f (Value from e to x k next) = value_text f from (term_of e) to x k
message_text f (Label from to k l next) = label_text f from to k l
message_text f (Give from to k given next) = give_text f from to k given
message_text f _ = []

-- who receives a value, in which variable and session
abbrev pub receiver_text : List (List ℕ) → Part → NameId → Named → List ℕ
receiver_text names to x k = part_text names to ++ codes "." ++ name_in names x ++ codes " : " ++ named_text names k

-- between whom a message goes, in which session
abbrev pub between_text : List (List ℕ) → Part → Part → Named → List ℕ
between_text names from to k = part_text names from ++ codes " -> " ++ part_text names to ++ codes " : " ++ named_text names k

-- the host function that is asked, with its arguments
abbrev pub asked_text : File → Named → Term → Term → List ℕ
asked_text f g left right = codes "host " ++ named_text f.names g ++ codes "(" ++ term_text f left ++ codes ", " ++ term_text f right ++ codes ")"

-- what one process does by itself
abbrev pub action_text : File → Form → List ℕ
action_text f (Set p x e next) = set_text f p x (term_of e)
action_text f (Host p x g left right next) = host_text f p x g (term_of left) (term_of right)
action_text f (Show p e next) = show_text f p (term_of e)
action_text f _ = []

-- a statement; a node that ends its block is none
abbrev pub statement_text : File → Form → List ℕ
statement_text f (Start c k active serve next) = start_text f c k active serve
statement_text f (Value from e to x k next) = value_text f from (term_of e) to x k
statement_text f (Label from to k l next) = label_text f from to k l
statement_text f (Give from to k given next) = give_text f from to k given
statement_text f (Set p x e next) = set_text f p x (term_of e)
statement_text f (Host p x g left right next) = host_text f p x g (term_of left) (term_of right)
statement_text f (Show p e next) = show_text f p (term_of e)
statement_text f (If p e first second) = []
statement_text f (Call g ps ks) = []
statement_text f End = []

-- the node after a statement
abbrev pub next_of : Form → Option NodeId
next_of (Start c k active serve next) = Some next
next_of (Value from e to x k next) = Some next
next_of (Label from to k l next) = Some next
next_of (Give from to k given next) = Some next
next_of (Set p x e next) = Some next
next_of (Host p x g left right next) = Some next
next_of (Show p e next) = Some next
next_of (If p e first second) = None
next_of (Call g ps ks) = None
next_of End = None

-- the lines of a body, and the line that closes it
abbrev pub body_text : List (List ℕ) → List ℕ
body_text lines = lines_at 1 lines ++ line_at 0 (codes "}")

-- what a header says of the capacity, and the whole header
abbrev pub capacity_text : Option ℕ → List ℕ
capacity_text c = lines_at 0 (capacity_lines c)

abbrev pub header_text : Header → List ℕ
header_text h = lines_at 0 (header_lines h)

abbrev pub protocol_text : List (List ℕ) → Protocol → List ℕ
protocol_text names p = line_at 0 (protocol_head names p) ++ body_text (map (state_line names) p.states)

abbrev pub service_text : List (List ℕ) → Service → List ℕ
service_text names s = line_at 0 (service_line names s)

abbrev pub proc_text : File → Proc → List ℕ
proc_text f p = line_at 0 (proc_head f.names p) ++ body_text (block_lines f p.body)

abbrev pub main_text : File → List ℕ
main_text f = line_at 0 (main_head f) ++ body_text (block_lines f f.body)
