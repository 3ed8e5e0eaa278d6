-- What a worker does in its turn (this project's own).
use Rattle.std.specs.Prelude.{ℕ, ◌≡◌, ◌≢◌, ◌+◌, ◌++◌, ◌^◌, ◌<◌, List, [], ◌∷◌, ◌≤◌, ◌⊎◌, Bool, true, false, length, All, Any, Some, slice_get}
use Rattle.chor_base.specs.declared.event.Entry.{Entry}
use Rattle.chor_base.specs.declared.event.Event.{Event}
use Rattle.chor_base.specs.declared.event.Event.TheVariants.{Start}
use Rattle.chor_base.specs.Events.{actors_of}
use Rattle.chor_base.specs.Meaning.{Hosts}
use Rattle.endpoint_code.specs.declared.endpoints.Endpoints.{Endpoints}
use Rattle.endpoint_code.specs.Network.{Machine, NetworkState}
use Rattle.endpoint_machine.specs.declared.head.Head.{Head}
use Rattle.endpoint_machine.specs.declared.head.Head.TheVariants as head
use Rattle.endpoint_machine.specs.Heads.{head_of}
use Rattle.endpoint_machine.specs.Views.{MachineView}
use Rattle.post_office.specs.declared.post.Post.{Post}
use Rattle.post_office.specs.Lanes.{loads_in}
use Rattle.post_office.specs.Posts.{IsPost}
use Rattle.post_office.specs.Views.{OfficeView, IsAfter}
use Rattle.endpoint_code.specs.NetworkRuns.{has_ended, all_ended}
use Rattle.post_office.specs.declared.post.Standing.TheVariants as stands
use Rattle.post_office.specs.Standings.{IsTrueAfter}
use Rattle.crew.specs.declared.turn.Turned.{Turned}
use Rattle.crew.specs.declared.turn.Turned.TheVariants as found
use Rattle.crew.specs.declared.share.Share.{Share}
use Rattle.post_office.specs.Owners.{IsMadeByOwner}
use Rattle.net_core.specs.Steps.{AreFew}
use Rattle.crew.specs.Crews.{CrewView, number_at}
use Rattle.crew.specs.Ahead.{IsAhead}

-- a start, or an event of another worker's process
abbrev pub IsOfOthers : CrewView → Event → Type 0
IsOfOthers c (Start d s parts) = Unit {0}
IsOfOthers c x = (i : ℕ) → actors_of x ≢ number_at c i ∷ []

-- an entry of this worker, which owns a process that makes its event
abbrev pub IsOwnEntry : Share → Endpoints → Entry → Type 0
IsOwnEntry h e x = (x.worker ≡ h.worker + 1) × IsMadeByOwner h.workers e x

-- the history has grown by entries of this worker, if by any
pub record Adds (h : Share) (old new : OfficeView) : Type 0 where
  pub endpoints : new.endpoints ≡ old.endpoints
  pub hosts : new.hosts ≡ old.hosts
  pub capacity : new.capacity ≡ old.capacity
  pub entries : List Entry
  pub history : new.history ≡ old.history ++ entries
  pub own : All (IsOwnEntry h old.endpoints) entries

-- after so many events, one start more leaves the numbers of sessions and processes below 2^32
abbrev pub FitsSteps : Endpoints → ℕ → Type 0
FitsSteps e steps = (steps + 1 < 2 ^ 32) × AreFew e (steps + 1)

-- no session has started
pub record StartsNone (old new : OfficeView) : Type 0 where
  pub sid : new.sid ≡ old.sid
  pub processes : length new.desks ≡ length old.desks

-- whatever state a worker's processes were ahead to, they still are
abbrev pub StaysAhead : Endpoints → Hosts → CrewView → CrewView → Type 0
StaysAhead e hosts old new = (n : NetworkState) → IsAhead e hosts n old → IsAhead e hosts n new

-- they are ahead to some state
abbrev pub IsAheadOfSome : Endpoints → Hosts → CrewView → Type 0
IsAheadOfSome e hosts c = (n : NetworkState) × IsAhead e hosts n c

-- the process at a place is there, and has this head
pub record HasHead (e : Endpoints) (c : CrewView) (i : ℕ) (h : Head) : Type 0 where
  pub process : MachineView
  pub there : slice_get c.machines i ≡ Some process
  pub head : head_of e process.machine ≡ Some h

-- a worker has made at most one event, of its own, and has as many processes as before or more
pub record Acted (old : CrewView) (before : OfficeView) (new : CrewView) (after : OfficeView) : Type 0 where
  pub share : new.share ≡ old.share
  pub notes : new.notes ≡ old.notes
  pub adds : Adds old.share before after
  pub one : length after.history ≤ length before.history + 1

-- nothing has changed but what is posted of processes
pub record HasPosted (old new : OfficeView) : Type 0 where
  pub same : new ≡ record old { desks = new.desks }
  pub processes : length new.desks ≡ length old.desks

-- What is posted of a process is true of it in each state that has the queues of the office
abbrev pub IsPostHere : Endpoints → OfficeView → Machine → Post → Type 0
IsPostHere e v m post = (n : NetworkState) → n.queues ≡ loads_in v.queues.lanes → IsPost e n m post

abbrev pub is_last : Head → Bool
is_last (head.Join c r) = false
is_last (head.Out s a b) = false
is_last (head.Take s a b) = false
is_last head.Local = false
is_last head.Ended = true

-- whether all processes of a worker have ended, and none has an event to note
abbrev pub HaveEnded : Endpoints → CrewView → Bool → Type 0
HaveEnded e c true = (c.notes ≡ []) × All (λ m. has_ended e m.machine ≡ true) c.machines
HaveEnded e c false = (c.notes ≢ []) ⊎ ((c.notes ≡ []) × Any (λ m. has_ended e m.machine ≡ false) c.machines)

-- What a worker finds is true of the state after the history: all processes have ended; none can step; or there are as many
-- events as asked for, and all of the worker's processes have ended or some of them hasn't
abbrev pub FindsOut : ℕ → OfficeView → CrewView → Turned → Type 0
FindsOut steps v c found.Going = Unit {0}
FindsOut steps v c found.Resting = Unit {0}
FindsOut steps v c found.Ended = IsTrueAfter v stands.Ended
FindsOut steps v c (found.Stuck p why) = (length v.history ≢ steps) × IsTrueAfter v (stands.Stuck p why)
FindsOut steps v c (found.Full true) = (length v.history ≡ steps) × ((n : NetworkState) → IsAfter v n → (i : ℕ) (m : Machine) → slice_get n.machines (number_at c i) ≡ Some m → has_ended v.endpoints m ≡ true)
FindsOut steps v c (found.Full false) = (length v.history ≡ steps) × ((n : NetworkState) → IsAfter v n → all_ended v.endpoints n.machines ≡ false)
