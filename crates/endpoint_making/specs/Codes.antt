-- The code that a written body is (this project's own).
use Rattle.std.specs.Prelude.{ℕ, ◌&&◌, Bool, true, List, map}
use Rattle.std.specs.List.{list_all}
use Rattle.chor_base.specs.declared.names.NameId.{NameId}
use Rattle.chor_base.specs.Expr.{term_of}
use Rattle.endpoint_reader.specs.declared.node.Action.{Action as Deed}
use Rattle.endpoint_reader.specs.declared.node.Action.TheVariants as deed
use Rattle.endpoint_reader.specs.declared.lines.LineId.{LineId}
use Rattle.endpoint_reader.specs.declared.lines.Arm.{Arm as OneArm}
use Rattle.endpoint_reader.specs.declared.lines.Line.{Line}
use Rattle.endpoint_reader.specs.declared.lines.Line.TheVariants as line
use Rattle.endpoint_code.specs.declared.code.CodeId.{CodeId}
use Rattle.endpoint_code.specs.Kept.{term_there}
use Rattle.endpoint_code.specs.Trees as tree
use Rattle.endpoint_names.specs.Bodies.{Body, Does, Offers, Tests, Calls, Ends, Arms, NoArms, Arm}
use Rattle.endpoint_names.specs.Faults.{names_in}

-- the node that is made of a line has the line's number
abbrev pub code_id : LineId → CodeId
code_id x = record { 0 = x.0 }

-- the action that is made of one that was read
abbrev pub action_of : Deed → tree.Action
action_of (deed.Join c r k) = tree.Joins c.name r.name k.name
action_of (deed.Send k b e) = tree.Sends k.name b.name (term_of e)
action_of (deed.Recv k a x) = tree.Receives k.name a.name x.name
action_of (deed.Pick k b l) = tree.Selects k.name b.name l.name
action_of (deed.Give k b h) = tree.Gives k.name b.name h.name
action_of (deed.Gain k a h) = tree.Gains k.name a.name h.name
action_of (deed.Set x e) = tree.Sets x.name (term_of e)
action_of (deed.Show e) = tree.Shows (term_of e)
action_of (deed.Host x f a b) = tree.Asks x.name f.name (term_of a) (term_of b)

abbrev mutual
  -- the code that is made of a body that was read
  pub code_of : Body → tree.CodeTree
  code_of (Does a rest) = tree.Does (action_of a) (code_of rest)
  code_of (Offers k a arms) = tree.Offers k.name a.name (arms_of arms)
  code_of (Tests e first second) = tree.Tests (term_of e) (code_of first) (code_of second)
  code_of (Calls p s) = tree.Calls s.name.name s.param.name (names_in s.sessions)
  code_of Ends = tree.Ends

  -- the arms that are made of those that were read
  pub arms_of : Arms → tree.Arms
  arms_of NoArms = tree.NoArms
  arms_of (Arm l b others) = tree.Arm l.name (code_of b) (arms_of others)

-- arms as pairs of a label and a number
abbrev pub pairs_of : List OneArm → List (NameId × CodeId)
pairs_of arms = map (λ arm. (arm.label.name, code_id arm.body)) arms

-- ---- the names and texts of these are there: n tells which names are, and t which texts

abbrev pub action_there : (NameId → Bool) → (ℕ → Bool) → Deed → Bool
action_there n t (deed.Join c r k) = n c.name && n r.name && n k.name
action_there n t (deed.Send k b e) = n k.name && n b.name && term_there n t (term_of e)
action_there n t (deed.Recv k a x) = n k.name && n a.name && n x.name
action_there n t (deed.Pick k b l) = n k.name && n b.name && n l.name
action_there n t (deed.Give k b h) = n k.name && n b.name && n h.name
action_there n t (deed.Gain k a h) = n k.name && n a.name && n h.name
action_there n t (deed.Set x e) = n x.name && term_there n t (term_of e)
action_there n t (deed.Show e) = term_there n t (term_of e)
action_there n t (deed.Host x f a b) = n x.name && n f.name && term_there n t (term_of a) && term_there n t (term_of b)

abbrev pub line_there : (NameId → Bool) → (ℕ → Bool) → Line → Bool
line_there n t (line.Act a next) = action_there n t a
line_there n t (line.Branch k a arms) = n k.name && n a.name && list_all (λ arm. n arm.0) (pairs_of arms)
line_there n t (line.If e first second) = term_there n t (term_of e)
line_there n t (line.Call p s) = n s.name.name && n s.param.name && list_all n (names_in s.sessions)
line_there n t line.End = true
