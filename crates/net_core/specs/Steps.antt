-- What a step of a network answers.
use Rattle.std.specs.Prelude.{ℕ, suc, ◌≡◌, ◌+◌, ◌*◌, ◌^◌, ◌<◌, ◌≤◌, ◌++◌, max, true, List, [], ◌∷◌, length, Some}
use Rattle.chor_base.specs.declared.names.NameId.{NameId}
use Rattle.chor_base.specs.declared.event.Event.{Event}
use Rattle.chor_base.specs.declared.event.Event.TheVariants as event
use Rattle.chor_base.specs.Meaning.{Hosts}
use Rattle.endpoint_code.specs.Network.{Machine, NetworkState, served_parts}
use Rattle.endpoint_code.specs.Scheduled.{Chooses}
use Rattle.endpoint_code.specs.declared.endpoints.Channel.{Channel}
use Rattle.endpoint_code.specs.declared.endpoints.Endpoints.{Endpoints}
use Rattle.net_core.specs.declared.answer.Step.{Step}
use Rattle.net_core.specs.declared.answer.Step.TheVariants.{Did, Waits, Ended, Memory}
use Rattle.net_core.specs.Heads.{steps_at, why_at, ended_at, joins_at_all}
use Rattle.net_core.specs.Views.{NetworkView, BecomesBy, IsSame, IsReserved}
use Rattle.session_starts.specs.Starts.{HasStarted}

-- a process has made one event, as one of a worker, with the least partners where it starts a session
pub record HasSteppedBy (worker : ℕ) (hosts : Hosts) (old : NetworkView) (p : ℕ) (new : NetworkView) : Type 0 where
  pub event : Event
  pub state : NetworkState
  pub becomes : BecomesBy worker old new event state
  pub chooses : Chooses old.endpoints hosts old.capacity old.state p event state

-- so it has where there are no workers
abbrev pub HasStepped : Hosts → NetworkView → ℕ → NetworkView → Type 0
HasStepped = HasSteppedBy 0

-- a session has started, as an event of a worker, on a channel with these parts, and with new processes for the service roles
pub record HasBegunBy (worker : ℕ) (old : NetworkView) (k : Channel) (parts : List (NameId × ℕ)) (new : NetworkView) : Type 0 where
  pub machines : List Machine
  pub started : HasStarted old.endpoints k old.state.sid old.state.machines parts machines
  pub becomes : BecomesBy worker old new (event.Start k.name old.state.sid (parts ++ served_parts k.serve (length old.state.machines))) (record old.state { machines = machines; sid = suc old.state.sid })

-- so it has where there are no workers
abbrev pub HasBegun : NetworkView → Channel → List (NameId × ℕ) → NetworkView → Type 0
HasBegun = HasBegunBy 0

-- ---- numbers

abbrev pub most_served : List Channel → ℕ
most_served [] = 0
most_served (k ∷ ks) = max (length k.serve) (most_served ks)

-- the numbers of processes stay below 2^32 by so many events of programs, each of which draws at most as many as a channel has service roles
abbrev pub AreFew : Endpoints → ℕ → Type 0
AreFew e events = length e.processes + events * most_served e.channels < 2 ^ 32

-- by one event a network loses no process, and draws at most one session number and as many process numbers as a channel has service roles
pub record HasGrown (old new : NetworkView) : Type 0 where
  pub sid : new.state.sid ≤ old.state.sid + 1
  pub kept : length old.state.machines ≤ length new.state.machines
  pub machines : length new.state.machines ≤ length old.state.machines + most_served old.endpoints.channels

-- so it is with so many events
pub record HasGrownBy (events : ℕ) (old new : NetworkView) : Type 0 where
  pub sid : new.state.sid ≤ old.state.sid + events
  pub machines : length new.state.machines ≤ length old.state.machines + events * most_served old.endpoints.channels

-- so many events more leave the numbers of sessions and processes below 2^32
pub record FitsMore (v : NetworkView) (events : ℕ) : Type 0 where
  pub sid : v.state.sid + events < 2 ^ 32
  pub machines : length v.state.machines + events * most_served v.endpoints.channels < 2 ^ 32

-- ---- a step

-- What a step of a process answers: it did one event, as one of a worker; or it waits for this cause; or it has ended; or there was no memory,
-- which never comes where there is room for its event and it doesn't join. Other answers than Did change no more than room
abbrev pub AnswersBy : ℕ → Hosts → NetworkView → ℕ → Step → NetworkView → Type 0
AnswersBy worker hosts old p Did new = (steps_at old.endpoints old.capacity old.state p ≡ true) × HasSteppedBy worker hosts old p new × HasGrown old new
AnswersBy worker hosts old p (Waits why) new = (why_at old.endpoints old.capacity old.state p ≡ Some why) × IsSame old new
AnswersBy worker hosts old p Ended new = (ended_at old.endpoints old.state p ≡ true) × IsSame old new
AnswersBy worker hosts old p Memory new = (steps_at old.endpoints old.capacity old.state p ≡ true) × (IsReserved old p → joins_at_all old.endpoints old.state p ≡ true) × IsSame old new

-- so it answers where there are no workers
abbrev pub Answers : Hosts → NetworkView → ℕ → Step → NetworkView → Type 0
Answers = AnswersBy 0
