-- Parts of the text of endpoint programs.
use Rattle.std.specs.Prelude.{ℕ, List, [], ◌++◌, codes}
use Rattle.std.specs.List.{flat_map}
use Rattle.chor_base.specs.declared.names.NameId.{NameId}
use Rattle.chor_base.specs.Expr.{Term}
use Rattle.endpoint_code.specs.declared.code.CodeId.{CodeId}
use Rattle.endpoint_code.specs.declared.code.CodeNode.{CodeNode}
use Rattle.endpoint_code.specs.declared.endpoints.Endpoints.{Endpoints}
use Rattle.endpoint_code.specs.Heads.{Head, Acts, Branches, Decides, GoesTo, Stops}
use Rattle.endpoint_code.specs.Trees.{code_at, node_tree, trees_of}
use Rattle.endpoint_text.specs.Text.{name_text, term_text, action_text, arm_text, code_text}

-- the text of a node that goes on in one way; another node begins with nothing
abbrev pub head_text : Endpoints → Head → List ℕ
head_text e (Acts a) = action_text e a
head_text e (Branches k a) = []
head_text e (Decides t) = []
head_text e (GoesTo f p ss) = []
head_text e Stops = []

-- the text of an arm whose code stands at a number
abbrev pub node_arm : Endpoints → NameId × CodeId → List ℕ
node_arm e arm = arm_text (name_text e arm.0, code_text e (code_at e.code.nodes arm.1))

-- names, each with a comma and a space before it
abbrev pub after_commas : Endpoints → List NameId → List ℕ
after_commas e xs = flat_map (λ x. codes ", " ++ name_text e x) xs

-- the text of the code that begins with this node
abbrev pub node_text : Endpoints → CodeNode → List ℕ
node_text e node = code_text e (node_tree (trees_of e.code.nodes) node)

-- the arguments of a host call
abbrev pub operands_text : Endpoints → Term → Term → List ℕ
operands_text e left right = codes "(" ++ term_text e left ++ codes ", " ++ term_text e right ++ codes ")"
