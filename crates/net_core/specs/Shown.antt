-- What the processes do next, as it is kept from event to event.
use Rattle.std.specs.Prelude.{ℕ, ◌≡◌, ◌≢◌, length, List, Some, slice_get}
use Rattle.endpoint_code.specs.declared.endpoints.Endpoints.{Endpoints}
use Rattle.endpoint_code.specs.Network.{NetworkState}
use Rattle.endpoint_machine.specs.declared.head.Head.{Head}
use Rattle.waiting_processes.specs.Untouched.{IsAt, IsUnmoved}

-- these are the heads of the processes, in order
pub record ShowsAll (e : Endpoints) (n : NetworkState) (heads : List Head) : Type 0 where
  pub count : length heads ≡ length n.machines
  pub at : (q : ℕ) (h : Head) → slice_get heads q ≡ Some h → IsAt e n q h

-- so they are, but perhaps that of process p
pub record ShowsOthers (e : Endpoints) (n : NetworkState) (p : ℕ) (heads : List Head) : Type 0 where
  pub count : length heads ≡ length n.machines
  pub at : (q : ℕ) (h : Head) → q ≢ p → slice_get heads q ≡ Some h → IsAt e n q h

-- no process but p has moved, and none has come
pub record MovesAlone (n : NetworkState) (p : ℕ) (m : NetworkState) : Type 0 where
  pub count : length m.machines ≡ length n.machines
  pub others : (q : ℕ) → q ≢ p → IsUnmoved n m q
