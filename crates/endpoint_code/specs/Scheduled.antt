-- The scheduled run: which process makes the next event where there are no workers (this project's own).
use Rattle.std.specs.Prelude.{ℕ, suc, ◌≡◌, ◌≢◌, ◌+◌, ◌%◌, ◌==◌, ◌&&◌, Bool, true, false, List, [], ◌∷◌, Option, Some, None, slice_get, if◌then◌else◌, length, ℤ}
use Rattle.chor_base.specs.declared.names.NameId.{NameId}
use Rattle.chor_base.specs.declared.event.Event.{Event}
use Rattle.chor_base.specs.declared.event.Why.{Why}
use Rattle.chor_base.specs.Meaning.{Hosts}
use Rattle.endpoint_code.specs.declared.code.CodeNode.{CodeNode}
use Rattle.endpoint_code.specs.declared.code.CodeNode.TheVariants.{Join}
use Rattle.endpoint_code.specs.declared.endpoints.Channel.{Channel}
use Rattle.endpoint_code.specs.declared.endpoints.Endpoints.{Endpoints}
use Rattle.endpoint_code.specs.Network.{Machine, NetworkState, Place, Made, Makes, place_of, place_at, channel_of, makes, starts, MachineAnswers}
use Rattle.endpoint_code.specs.NetworkRuns.{has_ended, all_ended, joins_there, waits_for, can_step, none_can_step}

-- ---- partners of a start

-- the least process, from number p on, that joins channel c in role r
abbrev pub least_joiner : Endpoints → ℕ → List Machine → NameId → NameId → Option ℕ
least_joiner e p [] c r = None
least_joiner e p (m ∷ ms) c r = if joins_there (place_of e m) c r then Some p else least_joiner e (suc p) ms c r

-- one partner before the others, if there are all
abbrev pub partner : Option ℕ → Option (List ℕ) → Option (List ℕ)
partner (Some p) (Some ps) = Some (p ∷ ps)
partner (Some p) None = None
partner None o = None

-- for each active role a process: p in its own role, the least that joins in each other
abbrev pub partners : Endpoints → List Machine → NameId → ℕ → NameId → List NameId → Option (List ℕ)
partners e ms c p own [] = Some []
partners e ms c p own (r ∷ rs) = partner (if r.0 == own.0 then Some p else least_joiner e 0 ms c r) (partners e ms c p own rs)

-- the start of a session by these partners, if there are any
abbrev pub started : Endpoints → NetworkState → NameId → Option (List ℕ) → Option Made
started e n c None = None
started e n c (Some ps) = starts e n c ps

-- the start of a session on this channel by process p in role r
abbrev pub started_on : Endpoints → NetworkState → ℕ → NameId → NameId → Option Channel → Option Made
started_on e n p c r None = None
started_on e n p c r (Some k) = started e n c (partners e n.machines c p r k.active)

-- what a process that is at this place makes, with the least partners where it starts a session
abbrev pub chosen_at : Endpoints → Option ℕ → NetworkState → ℕ → ℤ → Option Place → Option Made
chosen_at e cap n p v None = None
chosen_at e cap n p v (Some q) = at_head q.node
  where
    at_head : CodeNode → Option Made
    at_head (Join c r k next) = started_on e n p c r (channel_of e.channels c)
    at_head _ = makes e cap n p v

-- What process p makes, with the least partners where it starts a session; v is a host function's answer
abbrev pub chosen : Endpoints → Option ℕ → NetworkState → ℕ → ℤ → Option Made
chosen e cap n p v = chosen_at e cap n p v (place_at e (slice_get n.machines p))

-- process p makes the event x, with the least partners, and leaves the state m
pub record Chooses (e : Endpoints) (hosts : Hosts) (capacity : Option ℕ) (n : NetworkState) (p : ℕ) (x : Event) (m : NetworkState) : Type 0 where
  pub answer : ℤ
  pub allowed : MachineAnswers hosts e (slice_get n.machines p) answer
  pub made : chosen e capacity n p answer ≡ Some (Makes x m)

-- ---- the pick rule

-- the role is the channel's first active one
abbrev pub first_role : Option Channel → NameId → Bool
first_role None r = false
first_role (Some k) r = is_first k.active
  where
    is_first : List NameId → Bool
    is_first [] = false
    is_first (q ∷ qs) = q.0 == r.0

-- a process that is at this place is listed
abbrev pub listed_at : Endpoints → Option Place → Bool
listed_at e None = false
listed_at e (Some q) = at_head q.node
  where
    at_head : CodeNode → Bool
    at_head (Join c r k next) = first_role (channel_of e.channels c) r
    at_head _ = true

-- a process is listed where it can step; one that joins, only in its channel's first active role
abbrev pub is_listed : Endpoints → Option ℕ → NetworkState → Machine → Bool
is_listed e cap n m = can_step e cap n m && listed_at e (place_of e m)

-- the listed processes in order, from number p on
abbrev pub listed_from : Endpoints → Option ℕ → NetworkState → ℕ → List Machine → List ℕ
listed_from e cap n p [] = []
listed_from e cap n p (m ∷ ms) = if is_listed e cap n m then p ∷ listed_from e cap n (suc p) ms else listed_from e cap n (suc p) ms

-- the listed processes in order
abbrev pub listed : Endpoints → Option ℕ → NetworkState → List ℕ
listed e cap n = listed_from e cap n 0 n.machines

-- the process with number k among the listed ones, counted from 0 and around
abbrev pub picked_of : List ℕ → ℕ → Option ℕ
picked_of [] k = None
picked_of (p ∷ ps) k = slice_get (p ∷ ps) (k % length (p ∷ ps))

-- The process that the seed picks after so many events
abbrev pub picked : Endpoints → Option ℕ → ℕ → ℕ → NetworkState → Option ℕ
picked e cap seed events n = picked_of (listed e cap n) (seed + events)

-- ---- the end of a run

-- the first of these machines that hasn't ended, with its number and why it waits; the first has number p
abbrev pub first_waiting_from : Endpoints → Option ℕ → NetworkState → ℕ → List Machine → Option (ℕ × Option Why)
first_waiting_from e cap n p [] = None
first_waiting_from e cap n p (m ∷ ms) = if has_ended e m then first_waiting_from e cap n (suc p) ms else Some (p, waits_for e cap n m)

-- the first process that hasn't ended, and why it waits
abbrev pub first_waiting : Endpoints → Option ℕ → NetworkState → Option (ℕ × Option Why)
first_waiting e cap n = first_waiting_from e cap n 0 n.machines

-- how a run is closed: all processes have ended; it has as many events as were asked for; or none can step
pub data Close : Type 0 where
  Ended : Close
  Limit : Close
  Stuck : (p : ℕ) (why : Why) → Close

-- a state after so many events closes a run of at most so many steps
pub data Closes (e : Endpoints) (cap : Option ℕ) (steps : ℕ) (n : NetworkState) (events : ℕ) : Close → Type 0 where
  ended : all_ended e n.machines ≡ true → Closes e cap steps n events Ended
  limit : all_ended e n.machines ≡ false → events ≡ steps → Closes e cap steps n events Limit
  stuck : {p : ℕ} {why : Why} → events ≢ steps → none_can_step e cap n n.machines ≡ true → first_waiting e cap n ≡ Some (p, Some why) → Closes e cap steps n events (Stuck p why)

-- The scheduled run: from a state after so many events, these events follow by the pick rule and lead to a state that
-- closes the run
pub data IsScheduled (e : Endpoints) (hosts : Hosts) (cap : Option ℕ) (seed steps : ℕ) : NetworkState → ℕ → List Event → NetworkState → Close → Type 0 where
  closed : {n : NetworkState} {events : ℕ} {close : Close} → Closes e cap steps n events close → IsScheduled e hosts cap seed steps n events [] n close
  goes : {n m last : NetworkState} {events p : ℕ} {x : Event} {xs : List Event} {close : Close}
      → all_ended e n.machines ≡ false
      → events ≢ steps
      → picked e cap seed events n ≡ Some p
      → Chooses e hosts cap n p x m
      → IsScheduled e hosts cap seed steps m (suc events) xs last close
      → IsScheduled e hosts cap seed steps n events (x ∷ xs) last close
