-- Independent steps of a network commute.
use Rattle.std.specs.Prelude.{ℕ, ◌≡◌, ◌<◌, true, List, [], length, Option, Some}
use Rattle.chor_base.specs.declared.event.Event.{Event}
use Rattle.chor_base.specs.Meaning.{Hosts}
use Rattle.chor_base.specs.Events.{Triple}
use Rattle.endpoint_code.specs.declared.endpoints.Endpoints.{Endpoints}
use Rattle.endpoint_code.specs.Network.{NetworkState, queue_of, NetworkSteps}
use Rattle.endpoint_code.specs.NetworkRuns.{NetworkLeads}
use Rattle.endpoint_code.specs.SameState.{IsSameState}
use Rattle.event_orders.specs.EventKinds.{EventKind, Sends, Receives, Starts, has_kind, ShareNoProcess}
use Rattle.event_orders.specs.Holders.{HasExclusiveRoles}

-- Event x at state n and event y after it are independent: no process participates in both, they aren't both starts, y
-- doesn't receive what x sends, and y doesn't send into the room that x makes by a receipt
pub record AreIndependent (capacity : Option ℕ) (n : NetworkState) (x y : Event) : Type 0 where
  pub apart : ShareNoProcess x y
  pub starts : has_kind Starts x ≡ true → has_kind Starts y ≡ true → ⊥
  pub waits : (t : Triple) → has_kind (Sends t) x ≡ true → has_kind (Receives t) y ≡ true → queue_of n t ≡ [] → ⊥
  pub room : (t : Triple) (c : ℕ) → capacity ≡ Some c → has_kind (Receives t) x ≡ true → has_kind (Sends t) y ≡ true
      → length (queue_of n t) < c

-- y and then x lead from n to a state that is the same as k: the other side of the diamond
pub record Commute (e : Endpoints) (hosts : Hosts) (capacity : Option ℕ) (n : NetworkState) (x y : Event) (k : NetworkState) : Type 0 where
  pub mid : NetworkState
  pub last : NetworkState
  pub first : NetworkSteps e hosts capacity n y mid
  pub second : NetworkSteps e hosts capacity mid x last
  pub same : IsSameState k last

-- Two steps one after the other whose events are independent commute
abbrev pub IndependentStepsCommute : Type 0
IndependentStepsCommute =
    (e : Endpoints) (hosts : Hosts) (capacity : Option ℕ) (n m k : NetworkState) (x y : Event)
    → HasExclusiveRoles e n → AreIndependent capacity n x y
    → NetworkSteps e hosts capacity n x m → NetworkSteps e hosts capacity m y k → Commute e hosts capacity n x y k

-- Each end of a queue has one user: if two events of one kind, other than starts, can come next, a process participates in both
abbrev pub QueueEndsHaveOneUser : Type 0
QueueEndsHaveOneUser =
    (e : Endpoints) (hosts : Hosts) (capacity : Option ℕ) (n m k : NetworkState) (x y : Event) (kind : EventKind)
    → HasExclusiveRoles e n → ShareNoProcess x y
    → NetworkSteps e hosts capacity n x m → NetworkSteps e hosts capacity n y k
    → has_kind kind x ≡ true → has_kind kind y ≡ true → kind ≡ Starts

-- the events lead from n to a state that is the same as m
pub record LeadsToSame (e : Endpoints) (hosts : Hosts) (capacity : Option ℕ) (n : NetworkState) (h : List Event) (m : NetworkState) : Type 0 where
  pub last : NetworkState
  pub leads : NetworkLeads e hosts capacity n h last
  pub same : IsSameState m last

-- From states that are the same, the same events lead to states that are the same
abbrev pub SameStatesHaveSameRuns : Type 0
SameStatesHaveSameRuns =
    (e : Endpoints) (hosts : Hosts) (capacity : Option ℕ) (n n' m : NetworkState) (h : List Event)
    → IsSameState n n' → NetworkLeads e hosts capacity n h m → LeadsToSame e hosts capacity n' h m
