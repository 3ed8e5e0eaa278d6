-- Where a process stands.
use Rattle.std.specs.Prelude.{ℕ, ◌≡◌, false, length, Option, Some, None}
use Rattle.endpoint_code.specs.declared.code.CodeId.{CodeId}
use Rattle.endpoint_code.specs.declared.code.CodeNode.{CodeNode}
use Rattle.endpoint_code.specs.declared.endpoints.Endpoints.{Endpoints}
use Rattle.endpoint_code.specs.Network.{Machine, Sessions, node_at, place_of, passed}
use Rattle.endpoint_machine.specs.declared.machine.Passing.{Passing}
use Rattle.endpoint_machine.specs.Acts.{is_call}
use Rattle.endpoint_machine.specs.Bound.{IsBound}

-- the sessions beyond a call, if there is one
abbrev pub sessions_at : Option Passing → Sessions → Sessions
sessions_at None m = m
sessions_at (Some c) m = passed c.params.now c.names.now m

abbrev pub count_of : Option Passing → ℕ
count_of None = 0
count_of (Some c) = length c.names.now

abbrev pub IsEven : Option Passing → Type 0
IsEven None = Unit {0}
IsEven (Some c) = length c.params.now ≡ length c.names.now

-- through at most one call a process stands at this node with these sessions
pub record StandsAt (e : Endpoints) (m : Machine) (node : CodeNode) (sessions : Sessions) : Type 0 where
  pub id : CodeId
  pub place : place_of e m ≡ Some (record { node = node; sessions = sessions })
  pub found : node_at e id ≡ Some node
  pub bound : IsBound e (record { at = id; vars = m.vars; sessions = sessions })
  pub is_head : is_call node ≡ false
