-- Offices that are told the events of a run (this project's own).
use Rattle.std.specs.Prelude.{ℕ, ◌≡◌, ◌<◌, ◌≤◌, List, [], ◌∷◌, length, Option, None, All, nat_lt, slice_set, if◌then◌else◌}
use Rattle.chor_base.specs.declared.names.NameId.{NameId}
use Rattle.chor_base.specs.declared.event.Event.{Event}
use Rattle.chor_base.specs.Meaning.{Hosts}
use Rattle.endpoint_code.specs.declared.endpoints.Endpoints.{Endpoints}
use Rattle.endpoint_code.specs.Network.{NetworkState, NetworkSteps}
use Rattle.endpoint_code.specs.NetworkRuns.{IsNetworkRun}
use Rattle.net_core.specs.Views.{NetworkView}
use Rattle.post_office.specs.declared.desk.Desk.{Desk}
use Rattle.post_office.specs.declared.post.Post.TheVariants.{Busy, Joining}
use Rattle.post_office.specs.Views.{OfficeView, IsAfter, post_at}
use Rattle.post_office.specs.Kept.{CanPost}
use Rattle.post_office.specs.Starts.{FitsStart}

-- an office has the programs, the host functions and the capacity of a network, and its events lead to the network's state
pub record AreAlike (table : Hosts) (v : NetworkView) (w : OfficeView) : Type 0 where
  pub endpoints : w.endpoints ≡ v.endpoints
  pub hosts : w.hosts ≡ table
  pub capacity : w.capacity ≡ v.capacity
  pub after : IsAfter w v.state

-- after the events of an office there are so many processes, this event can be the next, and one start more is numbered
pub record MayCome (w : OfficeView) (count : ℕ) (x : Event) : Type 0 where
  pub state : NetworkState
  pub after : IsAfter w state
  pub processes : count ≡ length state.machines
  pub next : NetworkState
  pub steps : NetworkSteps w.endpoints w.hosts w.capacity state x next
  pub fits : FitsStart w

-- each of these parts whose process is there may be posted as joining the channel in its role
abbrev pub MayPost : OfficeView → ℕ → NameId → List (NameId × ℕ) → Type 0
MayPost w count c parts = All (λ q. q.1 < count → CanPost w q.1 (Joining c q.0)) parts

-- nothing has changed but what is posted of processes
pub record HasPosted (old new : OfficeView) : Type 0 where
  pub same : new ≡ record old { desks = new.desks }
  pub processes : length new.desks ≡ length old.desks

-- the processes of these parts have this number or a greater one
abbrev pub AreOthers : ℕ → List (NameId × ℕ) → Type 0
AreOthers count parts = All (λ q. count ≤ q.1) parts

-- the board once each of these parts whose process is below a number was posted as joining the channel in its role
abbrev pub joined_board : List Desk → NameId → ℕ → List (NameId × ℕ) → List Desk
joined_board ds c count [] = ds
joined_board ds c count (q ∷ qs) = joined_board (if nat_lt q.1 count then slice_set ds q.1 (record { post = Joining c q.0; joined = None }) else ds) c count qs

-- nothing is posted of any process
abbrev pub AllBusy : OfficeView → Type 0
AllBusy w = (p : ℕ) → post_at w.desks p ≡ Busy

-- ---- what is told to no office

-- the event is no step of the network, with queues of the office's capacity, after the office's events
abbrev pub IsNoStep : OfficeView → Event → Type 0
IsNoStep w x = (n m : NetworkState) → IsAfter w n → NetworkSteps w.endpoints w.hosts w.capacity n x m → ⊥

-- the events are no run of the network with queues of this capacity
abbrev pub IsNoRun : Endpoints → Hosts → Option ℕ → List Event → Type 0
IsNoRun e hosts capacity xs = (n : NetworkState) → IsNetworkRun e hosts capacity xs n → ⊥
