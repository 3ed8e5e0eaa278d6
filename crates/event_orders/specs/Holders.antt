-- Who holds a role of a session in a network.
use Rattle.std.specs.Prelude.{ℕ, ◌≡◌, ◌≢◌, List, Option, Some, slice_get}
use Rattle.std.specs.FinMap as fin
use Rattle.chor_base.specs.declared.names.NameId.{NameId}
use Rattle.chor_base.specs.declared.event.Event.{Event}
use Rattle.chor_base.specs.Meaning.{Hosts}
use Rattle.endpoint_code.specs.declared.endpoints.Endpoints.{Endpoints}
use Rattle.endpoint_code.specs.Network.{Machine, NetworkState, Place, place_of}
use Rattle.endpoint_code.specs.NetworkRuns.{IsNetworkRun}
use Rattle.endpoint_code.specs.Faults.{HasNoNameFault}

-- process p holds this role of this session: at the node that it has reached, one of its session names is bound to it
pub record IsRoleHolder (e : Endpoints) (n : NetworkState) (p : ℕ) (part : ℕ × NameId) : Type 0 where
  pub machine : Machine
  pub there : slice_get n.machines p ≡ Some machine
  pub place : Place
  pub at_place : place_of e machine ≡ Some place
  pub name : ℕ
  pub bound : fin.get place.sessions name ≡ Some part

-- no two processes hold one role of a session in this state
abbrev pub HasExclusiveRoles : Endpoints → NetworkState → Type 0
HasExclusiveRoles e n = (p q : ℕ) (part : ℕ × NameId) → p ≢ q → IsRoleHolder e n p part → IsRoleHolder e n q part → ⊥

-- no two processes ever hold one role of a session at the same time: it is so after each run
abbrev pub KeepsRolesExclusive : Endpoints → Hosts → Option ℕ → Type 0
KeepsRolesExclusive e hosts capacity = (h : List Event) (n : NetworkState) → IsNetworkRun e hosts capacity h n → HasExclusiveRoles e n

-- Endpoints without a fault of names keep roles exclusive: each role of a session has one holder at most
abbrev pub RolesHaveOneHolder : Type 0
RolesHaveOneHolder = (e : Endpoints) (hosts : Hosts) (capacity : Option ℕ) → HasNoNameFault e → KeepsRolesExclusive e hosts capacity
