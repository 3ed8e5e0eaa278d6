-- Bodies as trees, with their names and where these stand (this project's own).
use Rattle.std.specs.Prelude.{List, [], ◌∷◌, slice_index_or}
use Rattle.node_table.specs.Tables.{trees_of}
use Rattle.chor_base.specs.declared.rule.Place.{Place}
use Rattle.chor_base.specs.declared.expr.Expr.{Expr}
use Rattle.endpoint_reader.specs.declared.input.Named.{Named}
use Rattle.endpoint_reader.specs.declared.node.Action.{Action}
use Rattle.endpoint_reader.specs.declared.lists.Signature.{Signature}
use Rattle.endpoint_reader.specs.declared.lines.LineId.{LineId}
use Rattle.endpoint_reader.specs.declared.lines.Arm.{Arm as OneArm}
use Rattle.endpoint_reader.specs.declared.lines.Line.{Line}
use Rattle.endpoint_reader.specs.declared.lines.Line.TheVariants as line

-- a body: an action and the rest; a branch with its arms; a conditional; a call, with the place of its first word; the end
mutual
  pub data Body : Type 0 where
    Does : (action : Action) (rest : Body) → Body
    Offers : (session from : Named) (arms : Arms) → Body
    Tests : (e : Expr) (first second : Body) → Body
    Calls : (call : Place) (signature : Signature) → Body
    Ends : Body

  -- the labels that a branch offers, each with the body that follows
  pub data Arms : Type 0 where
    NoArms : Arms
    Arm : (label : Named) (body : Body) (rest : Arms) → Arms

-- the labels of a branch
abbrev pub labels_of : Arms → List Named
labels_of NoArms = []
labels_of (Arm l b others) = l ∷ labels_of others

-- ---- tables of lines

-- the body that stands at a number
abbrev pub body_in : List Body → LineId → Body
body_in bs id = slice_index_or bs id.0 Ends

-- the arms of a branch, where these are the bodies of the lines before
abbrev pub arms_in : List Body → List OneArm → Arms
arms_in bs [] = NoArms
arms_in bs (a ∷ others) = Arm a.label (body_in bs a.body) (arms_in bs others)

-- the body that begins with a line, where the bodies of those before it in the table are known
abbrev pub line_body : List Body → Line → Body
line_body bs (line.Act a next) = Does a (body_in bs next)
line_body bs (line.Branch k a arms) = Offers k a (arms_in bs arms)
line_body bs (line.If e first second) = Tests e (body_in bs first) (body_in bs second)
line_body bs (line.Call p s) = Calls p s
line_body bs line.End = Ends

-- the body that begins at each line of a table
abbrev pub bodies_of : List Line → List Body
bodies_of ls = trees_of line_body ls

-- The body that begins at a number of a table
abbrev pub body_at : List Line → LineId → Body
body_at ls id = body_in (bodies_of ls) id
