-- What a node of code does, without what follows it.
use Rattle.std.specs.Prelude.{List, Option, Some, None}
use Rattle.chor_base.specs.declared.names.NameId.{NameId}
use Rattle.chor_base.specs.Expr.{Term, term_of}
use Rattle.endpoint_code.specs.declared.code.CodeId.{CodeId}
use Rattle.endpoint_code.specs.declared.code.CodeNode.{CodeNode}
use Rattle.endpoint_code.specs.declared.code.CodeNode.TheVariants.{Join, Send, Recv, Pick, Branch, Throw, Catch, Set, Show, Host, If, Call, End}
use Rattle.endpoint_code.specs.Trees.{Action, Joins, Sends, Receives, Selects, Gives, Gains, Sets, Shows, Asks}

-- an action, a branch's session and sender, a conditional's expression, a call, or the end
pub data Head : Type 0 where
  Acts : (a : Action) → Head
  Branches : (session from : NameId) → Head
  Decides : (e : Term) → Head
  GoesTo : (procedure param : NameId) (sessions : List NameId) → Head
  Stops : Head

abbrev pub head_of : CodeNode → Head
head_of (Join c r k next) = Acts (Joins c r k)
head_of (Send k b e next) = Acts (Sends k b (term_of e))
head_of (Recv k a x next) = Acts (Receives k a x)
head_of (Pick k b l next) = Acts (Selects k b l)
head_of (Branch k a arms) = Branches k a
head_of (Throw k b h next) = Acts (Gives k b h)
head_of (Catch k a h next) = Acts (Gains k a h)
head_of (Set x e next) = Acts (Sets x (term_of e))
head_of (Show e next) = Acts (Shows (term_of e))
head_of (Host x f a b next) = Acts (Asks x f (term_of a) (term_of b))
head_of (If e first second) = Decides (term_of e)
head_of (Call f p ss) = GoesTo f p ss
head_of End = Stops

-- the node after an action
abbrev pub next_of : CodeNode → Option CodeId
next_of (Join c r k next) = Some next
next_of (Send k b e next) = Some next
next_of (Recv k a x next) = Some next
next_of (Pick k b l next) = Some next
next_of (Throw k b h next) = Some next
next_of (Catch k a h next) = Some next
next_of (Set x e next) = Some next
next_of (Show e next) = Some next
next_of (Host x f a b next) = Some next
next_of (Branch k a arms) = None
next_of (If e first second) = None
next_of (Call f p ss) = None
next_of End = None
