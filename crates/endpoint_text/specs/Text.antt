-- The text of endpoint programs (this project's own): a header, and a line for each channel, procedure, service and process.
use Rattle.std.specs.Prelude.{ℕ, List, [], ◌∷◌, ◌++◌, codes}
use Rattle.std.specs.List.{flat_map, join_by}
use Rattle.chor_base.specs.declared.names.NameId.{NameId}
use Rattle.chor_base.specs.Expr.{Term}
use Rattle.chor_base.specs.Writing.{name_in}
use Rattle.chor_lexer.specs.Canonical.{expr_text}
use Rattle.endpoint_code.specs.declared.code.CodeId.{CodeId}
use Rattle.endpoint_code.specs.declared.endpoints.Channel.{Channel}
use Rattle.endpoint_code.specs.declared.endpoints.Procedure.{Procedure}
use Rattle.endpoint_code.specs.declared.endpoints.ServiceCode.{ServiceCode}
use Rattle.endpoint_code.specs.declared.endpoints.Process.{Process}
use Rattle.endpoint_code.specs.declared.endpoints.Endpoints.{Endpoints}
use Rattle.endpoint_code.specs.Trees.{Action, Joins, Sends, Receives, Selects, Gives, Gains, Sets, Shows, Asks, CodeTree, Does, Offers, Tests, Calls, Ends, Arms, NoArms, Arm, code_at}
use Rattle.endpoint_text.specs.Ascending.{ascending}

-- ---- names and expressions, by the tables of the endpoints e

-- a name that isn't in the table adds no bytes
abbrev pub name_text : Endpoints → NameId → List ℕ
name_text e x = name_in e.names x

-- names, each with a space before it
abbrev pub spaced : Endpoints → List NameId → List ℕ
spaced e xs = flat_map (λ x. codes " " ++ name_text e x) xs

-- names with a comma and a space between them
abbrev pub listed : Endpoints → List NameId → List ℕ
listed e xs = join_by (name_text e) (codes ", ") xs

-- an expression as it is written
abbrev pub term_text : Endpoints → Term → List ℕ
term_text e t = expr_text e.names e.texts t

-- ---- code

-- an action as it is written
abbrev pub action_text : Endpoints → Action → List ℕ
action_text e (Joins c r k) = codes "join" ++ spaced e (c ∷ []) ++ codes "[" ++ name_text e r ++ codes "](" ++ name_text e k ++ codes ")"
action_text e (Sends k b t) = codes "send" ++ spaced e (k ∷ b ∷ []) ++ codes " " ++ term_text e t
action_text e (Receives k a x) = codes "recv" ++ spaced e (k ∷ a ∷ x ∷ [])
action_text e (Selects k b l) = codes "pick" ++ spaced e (k ∷ b ∷ l ∷ [])
action_text e (Gives k b h) = codes "give" ++ spaced e (k ∷ b ∷ h ∷ [])
action_text e (Gains k a h) = codes "gain" ++ spaced e (k ∷ a ∷ h ∷ [])
action_text e (Sets x t) = codes "set" ++ spaced e (x ∷ []) ++ codes " " ++ term_text e t
action_text e (Shows t) = codes "show " ++ term_text e t
action_text e (Asks x f l r) = codes "host" ++ spaced e (x ∷ f ∷ []) ++ codes "(" ++ term_text e l ++ codes ", " ++ term_text e r ++ codes ")"

-- the nodes of a body, between braces
abbrev pub braced : List ℕ → List ℕ
braced text = codes "{ " ++ text ++ codes " }"

-- an arm of a branch: a label, and the text of the code that follows
abbrev pub arm_text : List ℕ × List ℕ → List ℕ
arm_text arm = arm.0 ++ codes " " ++ braced arm.1 ++ codes " "

-- The nodes of a code with a semicolon after each but the last. The arms of a branch stand in ascending order of their labels
abbrev mutual
  pub code_text : Endpoints → CodeTree → List ℕ
  code_text e (Does a rest) = action_text e a ++ codes "; " ++ code_text e rest
  code_text e (Offers k a arms) = codes "branch" ++ spaced e (k ∷ a ∷ []) ++ codes " { " ++ flat_map arm_text (ascending (λ arm. arm.0) (arms_of e arms)) ++ codes "}"
  code_text e (Tests t first second) = codes "if " ++ term_text e t ++ codes " " ++ braced (code_text e first) ++ codes " else " ++ braced (code_text e second)
  code_text e (Calls f p ss) = codes "call" ++ spaced e (f ∷ p ∷ []) ++ codes " (" ++ listed e ss ++ codes ")"
  code_text e Ends = codes "end"

  -- the labels of a branch, each with the text of its code
  pub arms_of : Endpoints → Arms → List (List ℕ × List ℕ)
  arms_of e NoArms = []
  arms_of e (Arm l c rest) = (name_text e l, code_text e c) ∷ arms_of e rest

-- the body at a number, to the end of its line (10 is a line feed)
abbrev pub body_text : Endpoints → CodeId → List ℕ
body_text e id = codes " " ++ braced (code_text e (code_at e.code.nodes id)) ++ 10 ∷ []

-- ---- units

-- the service roles of a channel, which stand after a bar where there are any
abbrev pub serving : Endpoints → List NameId → List ℕ
serving e [] = []
serving e (r ∷ rs) = codes " | " ++ listed e (r ∷ rs)

-- the line of a channel
abbrev pub channel_line : Endpoints → Channel → List ℕ
channel_line e c = codes "channel" ++ spaced e (c.name ∷ []) ++ codes " (" ++ listed e c.active ++ serving e c.serve ++ codes ");" ++ 10 ∷ []

-- the line of a procedure
abbrev pub procedure_line : Endpoints → Procedure → List ℕ
procedure_line e p = codes "procedure" ++ spaced e (p.name ∷ p.param ∷ []) ++ codes " (" ++ listed e p.sessions ++ codes ")" ++ body_text e p.body

-- the line of a service
abbrev pub service_line : Endpoints → ServiceCode → List ℕ
service_line e s = codes "service" ++ spaced e (s.channel ∷ []) ++ codes "[" ++ name_text e s.role ++ codes "]" ++ body_text e s.body

-- the line of a process
abbrev pub process_line : Endpoints → Process → List ℕ
process_line e p = codes "process" ++ spaced e (p.name ∷ []) ++ body_text e p.body

-- the first line of an endpoint file
abbrev pub header : List ℕ
header = codes "endpoints 1;" ++ 10 ∷ []

-- The text of endpoint programs: the header, the channels, the procedures, the services and the processes, each a line
abbrev pub endpoints_text : Endpoints → List ℕ
endpoints_text e =
    header ++ flat_map (channel_line e) e.channels ++ flat_map (procedure_line e) e.procedures ++ flat_map (service_line e) e.services
    ++ flat_map (process_line e) e.processes
