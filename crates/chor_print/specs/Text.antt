-- The canonical text of a file (this project's own).
use Rattle.std.specs.Prelude.{◌==◌, ℕ, Bool, true, false, Option, Some, None, List, [], ◌∷◌, ◌++◌, map, codes}
use Rattle.std.specs.List.{flat_map}
use Rattle.std.specs.Fmt.{decimal}
use Rattle.chor_tree.specs.declared.header.Header.{Header}
use Rattle.chor_tree.specs.declared.file.File.{File}
use Rattle.chor_tree.specs.declared.file.Named.{Named}
use Rattle.chor_tree.specs.declared.file.Service.{Service}
use Rattle.chor_tree.specs.declared.file.Proc.{Proc}
use Rattle.chor_tree.specs.Protocols.{Protocol}
use Rattle.chor_tree.specs.declared.protocol.State.{State}
use Rattle.chor_tree.specs.declared.protocol.ProtoStep.{ProtoStep}
use Rattle.chor_tree.specs.declared.protocol.ProtoStep.TheVariants as step
use Rattle.chor_print.specs.Pieces.{named_text, payload_text, arm_text, process_param_text, session_param_text, listed, listed_after}
use Rattle.chor_print.specs.Lines.{braced, block_lines}

-- `capacity 8;`, or no line
abbrev pub capacity_lines : Option ℕ → List (List ℕ)
capacity_lines (Some c) = (codes "capacity " ++ decimal c ++ codes ";") ∷ []
capacity_lines None = []

-- `chor 2;` and the capacity, or no lines in a file of the first version
abbrev pub version_lines : (is_second : Bool) → Option ℕ → List (List ℕ)
version_lines true c = codes "chor 2;" ∷ capacity_lines c
version_lines false c = []

-- the lines of a header: none for version 1
abbrev pub header_lines : Header → List (List ℕ)
header_lines h = version_lines (h.version == 2) h.capacity

-- `end`, `A -> B : int then t`, or `A -> B {ok then u, ko then u}`
abbrev pub step_text : List (List ℕ) → ProtoStep → List ℕ
step_text names step.End = codes "end"
step_text names (step.Value from to payload next) =
    named_text names from ++ codes " -> " ++ named_text names to ++ codes " : " ++ payload_text names payload ++ codes " then " ++ named_text names next
step_text names (step.Choice from to arms) =
    named_text names from ++ codes " -> " ++ named_text names to ++ codes " {" ++ listed (arm_text names) arms ++ codes "}"

-- the line of a state
abbrev pub state_line : List (List ℕ) → State → List ℕ
state_line names s = named_text names s.name ++ codes " = " ++ step_text names s.step ++ codes ";"

-- `protocol P (A, B) {`
abbrev pub protocol_head : List (List ℕ) → Protocol → List ℕ
protocol_head names p = codes "protocol " ++ named_text names p.name ++ codes " (" ++ listed (named_text names) p.roles ++ codes ") {"

-- a protocol, with a line for each state
abbrev pub protocol_lines : List (List ℕ) → Protocol → List (List ℕ)
protocol_lines names p = braced (protocol_head names p) (map (state_line names) p.states)

-- active roles and service roles, as `(A, B | C)`
abbrev pub roles_text : List (List ℕ) → List Named → List Named → List ℕ
roles_text names active serve = codes "(" ++ listed (named_text names) active ++ listed_after (codes " | ") (named_text names) serve ++ codes ")"

-- `service a : P (A, B | C);`
abbrev pub service_line : List (List ℕ) → Service → List ℕ
service_line names s =
    codes "service " ++ named_text names s.name ++ codes " : " ++ named_text names s.protocol ++ codes " " ++ roles_text names s.active s.serve ++ codes ";"

-- `proc F (p(x : int), q; k : P.s {A = p, B = q}) {`
abbrev pub proc_head : List (List ℕ) → Proc → List ℕ
proc_head names p =
    codes "proc " ++ named_text names p.name ++ codes " (" ++ listed (process_param_text names) p.params
    ++ listed_after (codes "; ") (session_param_text names) p.sessions ++ codes ") {"

-- a procedure with its body
abbrev pub proc_lines : File → Proc → List (List ℕ)
proc_lines f p = braced (proc_head f.names p) (block_lines f p.body)

-- `main (p, q) {`
abbrev pub main_head : File → List ℕ
main_head f = codes "main (" ++ listed (named_text f.names) f.processes ++ codes ") {"

-- main with its body
abbrev pub main_lines : File → List (List ℕ)
main_lines f = braced (main_head f) (block_lines f f.body)

-- all lines: the header, the protocols, the services, the procedures and main
abbrev pub file_lines : File → List (List ℕ)
file_lines f =
    header_lines f.header ++ flat_map (protocol_lines f.names) f.protocols ++ map (service_line f.names) f.services ++ flat_map (proc_lines f) f.procs ++ main_lines f

-- a line with its end, a line feed
abbrev pub ended : List ℕ → List ℕ
ended line = line ++ 10 ∷ []

-- The canonical text of a file: its lines, each with its end
abbrev pub canonical_text : File → List ℕ
canonical_text f = flat_map ended (file_lines f)
