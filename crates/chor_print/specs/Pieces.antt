-- What stands within the lines of a file, by a table of names (this project's own). A name that isn't in the table adds no bytes.
use Rattle.std.specs.Prelude.{ℕ, List, [], ◌∷◌, ◌++◌, codes}
use Rattle.std.specs.List.{join_by}
use Rattle.chor_base.specs.declared.value.Sort.{Sort}
use Rattle.chor_base.specs.declared.value.Sort.TheVariants as sort
use Rattle.chor_base.specs.Writing.{name_in}
use Rattle.chor_tree.specs.declared.file.Named.{Named}
use Rattle.chor_tree.specs.declared.file.ProcParam.{ProcParam}
use Rattle.chor_tree.specs.declared.file.SessionParam.{SessionParam}
use Rattle.chor_tree.specs.declared.protocol.Payload.{Payload}
use Rattle.chor_tree.specs.declared.protocol.Payload.TheVariants as payload
use Rattle.chor_tree.specs.declared.protocol.ProtoArm.{ProtoArm}
use Rattle.chor_tree.specs.declared.tree.Part.{Part}

-- the bytes of a name
abbrev pub named_text : List (List ℕ) → Named → List ℕ
named_text names n = name_in names n.name

-- items with a comma and a space between them
abbrev pub listed : {A : Type 0} → (A → List ℕ) → List A → List ℕ
listed text xs = join_by text (codes ", ") xs

-- items after a word, where there are any
abbrev pub listed_after : {A : Type 0} → List ℕ → (A → List ℕ) → List A → List ℕ
listed_after word text [] = []
listed_after word text (x ∷ xs) = word ++ listed text (x ∷ xs)

-- a process and a role, as `p[A]`
abbrev pub part_text : List (List ℕ) → Part → List ℕ
part_text names p = named_text names p.process ++ codes "[" ++ named_text names p.role ++ codes "]"

-- the word of a sort
abbrev pub sort_text : Sort → List ℕ
sort_text sort.Int = codes "int"
sort_text sort.Bool = codes "bool"
sort_text sort.Text = codes "text"

-- a sort, or an endpoint as `P.s@A`
abbrev pub payload_text : List (List ℕ) → Payload → List ℕ
payload_text names (payload.Plain s) = sort_text s
payload_text names (payload.Endpoint p s r) = named_text names p ++ codes "." ++ named_text names s ++ codes "@" ++ named_text names r

-- a label and the state after it, as `ok then u`
abbrev pub arm_text : List (List ℕ) → ProtoArm → List ℕ
arm_text names a = named_text names a.label ++ codes " then " ++ named_text names a.next

-- a variable and its sort, as `x : int`
abbrev pub variable_text : List (List ℕ) → Named × Sort → List ℕ
variable_text names v = named_text names v.0 ++ codes " : " ++ sort_text v.1

-- the variables of a process parameter in parentheses, where there are any
abbrev pub variables_text : List (List ℕ) → List (Named × Sort) → List ℕ
variables_text names [] = []
variables_text names (v ∷ vs) = codes "(" ++ listed (variable_text names) (v ∷ vs) ++ codes ")"

-- a process parameter, as `p(x : int, y : bool)`, or `p` where it has no variables
abbrev pub process_param_text : List (List ℕ) → ProcParam → List ℕ
process_param_text names p = named_text names p.name ++ variables_text names p.vars

-- a role and its holder, as `A = p`
abbrev pub holder_text : List (List ℕ) → Named × Named → List ℕ
holder_text names h = named_text names h.0 ++ codes " = " ++ named_text names h.1

-- a session parameter, as `k : P.s {A = p, B = q}`
abbrev pub session_param_text : List (List ℕ) → SessionParam → List ℕ
session_param_text names k =
    named_text names k.name ++ codes " : " ++ named_text names k.protocol ++ codes "." ++ named_text names k.state
    ++ codes " {" ++ listed (holder_text names) k.holders ++ codes "}"
