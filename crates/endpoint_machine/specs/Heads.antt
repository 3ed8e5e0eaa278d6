-- The next action of a process.
use Rattle.std.specs.Prelude.{ℕ, Bool, true, false, Option, Some, None}
use Rattle.std.specs.FinMap as fin
use Rattle.chor_base.specs.declared.names.NameId.{NameId}
use Rattle.endpoint_code.specs.declared.code.CodeNode.{CodeNode}
use Rattle.endpoint_code.specs.declared.code.CodeNode.TheVariants.{Join, Send, Recv, Pick, Branch, Throw, Catch, Set, Show, Host, If, Call, End}
use Rattle.endpoint_code.specs.declared.endpoints.Endpoints.{Endpoints}
use Rattle.endpoint_code.specs.Network.{Machine, Sessions, Place, place_of}
use Rattle.endpoint_machine.specs.declared.head.Head.{Head}
use Rattle.endpoint_machine.specs.declared.head.Head.TheVariants as head

-- on a session a process sends from its own role there
abbrev pub sends_on : Option (ℕ × NameId) → NameId → Option Head
sends_on None b = None
sends_on (Some (s, a)) b = Some (head.Out s a b)

-- and takes in its own role
abbrev pub takes_on : Option (ℕ × NameId) → NameId → Option Head
takes_on None a = None
takes_on (Some (s, b)) a = Some (head.Take s a b)

abbrev pub node_head : Sessions → CodeNode → Option Head
node_head m (Join c r k next) = Some (head.Join c r)
node_head m (Send k b e next) = sends_on (fin.get m k.0) b
node_head m (Pick k b l next) = sends_on (fin.get m k.0) b
node_head m (Throw k b h next) = sends_on (fin.get m k.0) b
node_head m (Recv k a x next) = takes_on (fin.get m k.0) a
node_head m (Branch k a arms) = takes_on (fin.get m k.0) a
node_head m (Catch k a h next) = takes_on (fin.get m k.0) a
node_head m (Set x e next) = Some head.Local
node_head m (Show e next) = Some head.Local
node_head m (Host x f a b next) = Some head.Local
node_head m (If e c d) = Some head.Local
node_head m (Call f p ss) = None
node_head m End = Some head.Ended

abbrev pub place_head : Option Place → Option Head
place_head None = None
place_head (Some q) = node_head q.sessions q.node

-- The next action of a process, through at most one call, if its code has one and it knows the session of it
abbrev pub head_of : Endpoints → Machine → Option Head
head_of e m = place_head (place_of e m)

abbrev pub is_out : Option Head → Bool
is_out (Some (head.Out s a b)) = true
is_out _ = false

abbrev pub is_take : Option Head → Bool
is_take (Some (head.Take s a b)) = true
is_take _ = false

abbrev pub is_join : Option Head → Bool
is_join (Some (head.Join c r)) = true
is_join _ = false
