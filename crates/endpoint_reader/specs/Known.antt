-- What was read has its names and texts in the tables, and is what was written: no literal is negative or an endpoint, and no keyword is a
-- variable (this project's own).
use Rattle.std.specs.Prelude.{◌<◌, ◌≡◌, true, List, All, length}
use Rattle.chor_base.specs.declared.value.Value.TheVariants.{Int, Bool as Truth, Text, Part}
use Rattle.chor_base.specs.declared.expr.Expr.{Expr}
use Rattle.chor_base.specs.Expr.{Term, Constant, Variable, Unary, Binary, term_of}
use Rattle.chor_base.specs.Writing.{name_in}
use Rattle.chor_lexer.specs.Keywords.{IsName}
use Rattle.endpoint_reader.specs.declared.input.Input.{Input}
use Rattle.endpoint_reader.specs.declared.input.Named.{Named}
use Rattle.endpoint_reader.specs.declared.lists.Two.{Two}
use Rattle.endpoint_reader.specs.declared.lists.Three.{Three}
use Rattle.endpoint_reader.specs.declared.lists.Signature.{Signature}
use Rattle.endpoint_reader.specs.declared.roles.Roles.{Roles}
use Rattle.endpoint_reader.specs.declared.operand.Opening.{Opening}
use Rattle.endpoint_reader.specs.declared.operand.Opening.TheVariants as opening
use Rattle.endpoint_reader.specs.declared.node.Action.{Action}
use Rattle.endpoint_reader.specs.declared.node.Action.TheVariants as action
use Rattle.endpoint_reader.specs.declared.lines.Arm.{Arm}
use Rattle.endpoint_reader.specs.declared.lines.Line.{Line}
use Rattle.endpoint_reader.specs.declared.lines.Line.TheVariants as line
use Rattle.endpoint_reader.specs.declared.written.Channel.{Channel}
use Rattle.endpoint_reader.specs.declared.written.Procedure.{Procedure}
use Rattle.endpoint_reader.specs.declared.written.Service.{Service}
use Rattle.endpoint_reader.specs.declared.written.Process.{Process}
use Rattle.endpoint_reader.specs.declared.written.Written.{Written}
use Rattle.endpoint_reader.specs.There.{is_natural}

-- a name's number is in the table
abbrev pub IsThere : Input → Named → Type 0
IsThere i n = n.name.0 < length i.names.now

-- these names are in the table
abbrev pub AreThere : Input → List Named → Type 0
AreThere i ns = All (IsThere i) ns

abbrev pub AreTwoThere : Input → Two → Type 0
AreTwoThere i x = IsThere i x.first × IsThere i x.second

abbrev pub AreThreeThere : Input → Three → Type 0
AreThreeThere i x = IsThere i x.first × IsThere i x.second × IsThere i x.third

-- the names in the head of a procedure, or of a call, are in the table
abbrev pub IsSignatureThere : Input → Signature → Type 0
IsSignatureThere i s = IsThere i s.name × IsThere i s.param × AreThere i s.sessions

-- the roles of a channel are in the table of names
abbrev pub AreRolesThere : Input → Roles → Type 0
AreRolesThere i r = AreThere i r.active × AreThere i r.serve

-- the names and texts of an expression are in the tables, and no literal is negative or an endpoint
abbrev pub IsTermThere : Input → Term → Type 0
IsTermThere i (Constant (Int z)) = is_natural z ≡ true
IsTermThere i (Constant (Truth b)) = Unit {0}
IsTermThere i (Constant (Text t)) = t < length i.texts.now
IsTermThere i (Constant (Part s r)) = ⊥
IsTermThere i (Variable x) = (x.0 < length i.names.now) × IsName (name_in i.names.now x)
IsTermThere i (Unary op e) = IsTermThere i e
IsTermThere i (Binary op e f) = IsTermThere i e × IsTermThere i f

-- the names and texts of an expression are in the tables
abbrev pub IsExprThere : Input → Expr → Type 0
IsExprThere i e = IsTermThere i (term_of e)

abbrev pub IsOpeningThere : Input → Opening → Type 0
IsOpeningThere i (opening.Unary op) = Unit {0}
IsOpeningThere i opening.Parens = Unit {0}
IsOpeningThere i (opening.Leaf e) = IsExprThere i e

-- the names and texts of an action are in the tables
abbrev pub IsActionThere : Input → Action → Type 0
IsActionThere i (action.Join c r k) = IsThere i c × IsThere i r × IsThere i k
IsActionThere i (action.Send k b e) = IsThere i k × IsThere i b × IsExprThere i e
IsActionThere i (action.Recv k a x) = IsThere i k × IsThere i a × IsThere i x
IsActionThere i (action.Pick k b l) = IsThere i k × IsThere i b × IsThere i l
IsActionThere i (action.Give k b h) = IsThere i k × IsThere i b × IsThere i h
IsActionThere i (action.Gain k a h) = IsThere i k × IsThere i a × IsThere i h
IsActionThere i (action.Set x e) = IsThere i x × IsExprThere i e
IsActionThere i (action.Show e) = IsExprThere i e
IsActionThere i (action.Host x f a b) = IsThere i x × IsThere i f × IsExprThere i a × IsExprThere i b

abbrev pub AreActionsThere : Input → List Action → Type 0
AreActionsThere i xs = All (IsActionThere i) xs

-- the labels of a branch are in the table of names
abbrev pub AreLabelsThere : Input → List Arm → Type 0
AreLabelsThere i arms = All (λ arm. IsThere i arm.label) arms

-- the names and texts of a line are in the tables
abbrev pub IsLineThere : Input → Line → Type 0
IsLineThere i (line.Act a next) = IsActionThere i a
IsLineThere i (line.Branch k a arms) = IsThere i k × IsThere i a × AreLabelsThere i arms
IsLineThere i (line.If e first second) = IsExprThere i e
IsLineThere i (line.Call p s) = IsSignatureThere i s
IsLineThere i line.End = Unit {0}

-- all names and texts of these lines are in the tables
abbrev pub AreLinesThere : Input → List Line → Type 0
AreLinesThere i ls = All (IsLineThere i) ls

-- ---- units

-- all names and texts of these lines and units are in the tables
pub record AreUnitsThere (i : Input) (ls : List Line) (cs : List Channel) (ps : List Procedure) (ss : List Service) (qs : List Process) : Type 0 where
  pub lines : AreLinesThere i ls
  pub channels : All (λ c. IsThere i c.name × AreRolesThere i c.roles) cs
  pub procedures : All (λ p. IsSignatureThere i p.signature) ps
  pub services : All (λ s. IsThere i s.channel × IsThere i s.role) ss
  pub processes : All (λ p. IsThere i p.name) qs

-- all names and texts of a file are in the tables
abbrev pub IsWrittenThere : Input → Written → Type 0
IsWrittenThere i w = AreUnitsThere i w.lines.items w.channels w.procedures w.services w.processes
