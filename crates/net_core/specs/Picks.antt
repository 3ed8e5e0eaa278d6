-- Runs by the pick rule.
use Rattle.std.specs.Prelude.{ℕ, suc, ◌≤◌, ◌-◌, ◌≡◌, ◌≢◌, ◌⊎◌, ◌++◌, false, List, [], ◌∷◌, length, map, Option, Some, None}
use Rattle.chor_base.specs.declared.event.Event.{Event}
use Rattle.chor_base.specs.declared.event.Entry.{Entry}
use Rattle.chor_base.specs.declared.event.Why.{Why}
use Rattle.chor_base.specs.Meaning.{Hosts}
use Rattle.endpoint_code.specs.declared.endpoints.Endpoints.{Endpoints}
use Rattle.endpoint_code.specs.Network.{NetworkState}
use Rattle.endpoint_code.specs.NetworkRuns.{all_ended}
use Rattle.endpoint_code.specs.Scheduled.{picked, first_waiting, Chooses, Close, Closes, IsScheduled}
use Rattle.endpoint_code.specs.Scheduled as close
use Rattle.net_core.specs.declared.answer.Picked.{Picked}
use Rattle.net_core.specs.declared.answer.Picked.TheVariants.{Ended, Limit, Stuck, Memory}
use Rattle.net_core.specs.Heads.{why_at}
use Rattle.net_core.specs.Views.{NetworkView, IsSame}
use Rattle.net_core.specs.Steps.{HasStepped, HasGrown, HasGrownBy, FitsMore}

-- a process with the cause by which it waits
abbrev pub waiting_at : Endpoints → Option ℕ → NetworkState → Option ℕ → Option (ℕ × Option Why)
waiting_at e cap n None = None
waiting_at e cap n (Some p) = Some (p, why_at e cap n p)

-- events as entries of a history without workers
abbrev pub entries_of : List Event → List Entry
entries_of xs = map (λ x. record { worker = 0; event = x }) xs

-- From a state after so many events, these events follow by the pick rule and lead to a state, whether or not the run is closed there
pub data GoesOn (e : Endpoints) (hosts : Hosts) (cap : Option ℕ) (seed steps : ℕ) : NetworkState → ℕ → List Event → NetworkState → Type 0 where
  stays : {n : NetworkState} {events : ℕ} → GoesOn e hosts cap seed steps n events [] n
  goes : {n m last : NetworkState} {events p : ℕ} {x : Event} {xs : List Event}
      → all_ended e n.machines ≡ false
      → events ≢ steps
      → picked e cap seed events n ≡ Some p
      → Chooses e hosts cap n p x m
      → GoesOn e hosts cap seed steps m (suc events) xs last
      → GoesOn e hosts cap seed steps n events (x ∷ xs) last

-- the history has grown by the scheduled run that is closed like this
pub record HasRun (hosts : Hosts) (seed steps : ℕ) (old new : NetworkView) (c : Close) : Type 0 where
  pub events : List Event
  pub endpoints : new.endpoints ≡ old.endpoints
  pub capacity : new.capacity ≡ old.capacity
  pub history : new.history ≡ old.history ++ entries_of events
  pub run : IsScheduled old.endpoints hosts old.capacity seed steps old.state (length old.history) events new.state c
  pub grown : HasGrownBy (length events) old new

-- the history has grown by events of the scheduled run
pub record HasGone (hosts : Hosts) (seed steps : ℕ) (old new : NetworkView) : Type 0 where
  pub events : List Event
  pub endpoints : new.endpoints ≡ old.endpoints
  pub capacity : new.capacity ≡ old.capacity
  pub history : new.history ≡ old.history ++ entries_of events
  pub run : GoesOn old.endpoints hosts old.capacity seed steps old.state (length old.history) events new.state
  pub grown : HasGrownBy (length events) old new

-- What a scheduled run answers. Where there was no memory the events made so far stand
abbrev pub Runs : Hosts → ℕ → ℕ → NetworkView → Picked → NetworkView → Type 0
Runs hosts seed steps old Ended new = HasRun hosts seed steps old new close.Ended
Runs hosts seed steps old Limit new = HasRun hosts seed steps old new close.Limit
Runs hosts seed steps old (Stuck p why) new = HasRun hosts seed steps old new (close.Stuck p why)
Runs hosts seed steps old Memory new = HasGone hosts seed steps old new

-- the same, before an event that is still asked for: more events fit
pub record Underway (hosts : Hosts) (seed steps : ℕ) (first now : NetworkView) : Type 0 where
  pub gone : HasGone hosts seed steps first now
  pub before : length now.history ≤ steps
  pub fits : FitsMore now (steps - length now.history)

-- What a part of a scheduled run answers: how the run closed, or nothing where it goes on
abbrev pub RunsOrGoesOn : Hosts → ℕ → ℕ → NetworkView → Option Picked → NetworkView → Type 0
RunsOrGoesOn hosts seed steps old None new = Underway hosts seed steps old new
RunsOrGoesOn hosts seed steps old (Some r) new = Runs hosts seed steps old r new

-- ---- one turn

-- one more event by the pick rule
pub record HasTurned (hosts : Hosts) (seed steps : ℕ) (old new : NetworkView) : Type 0 where
  pub process : ℕ
  pub open_still : all_ended old.endpoints old.state.machines ≡ false
  pub before : length old.history ≢ steps
  pub pick : picked old.endpoints old.capacity seed (length old.history) old.state ≡ Some process
  pub step : HasStepped hosts old process new
  pub grown : HasGrown old new

-- the run is closed, and nothing has changed but room
pub record HasClosed (steps : ℕ) (old new : NetworkView) (c : Close) : Type 0 where
  pub same : IsSame old new
  pub closes : Closes old.endpoints old.capacity steps old.state (length old.history) c

-- What one turn of a scheduled run answers. Where there was no memory, there may be one event more
abbrev pub Turns : Hosts → ℕ → ℕ → NetworkView → Option Picked → NetworkView → Type 0
Turns hosts seed steps old None new = HasTurned hosts seed steps old new
Turns hosts seed steps old (Some Ended) new = HasClosed steps old new close.Ended
Turns hosts seed steps old (Some Limit) new = HasClosed steps old new close.Limit
Turns hosts seed steps old (Some (Stuck p why)) new = HasClosed steps old new (close.Stuck p why)
Turns hosts seed steps old (Some Memory) new = IsSame old new ⊎ HasTurned hosts seed steps old new

-- the first process that hasn't ended waits for this cause
abbrev pub IsStuck : Endpoints → Option ℕ → NetworkState → Picked → Type 0
IsStuck e cap n (Stuck p why) = first_waiting e cap n ≡ Some (p, Some why)
IsStuck e cap n _ = ⊥

-- A state after so many events closes a run of at most so many steps as it is answered; where nothing is answered, it closes none
abbrev pub ClosesSo : Endpoints → Option ℕ → ℕ → NetworkState → ℕ → Option Picked → Type 0
ClosesSo e cap steps n events None = (c : Close) → Closes e cap steps n events c → ⊥
ClosesSo e cap steps n events (Some Ended) = Closes e cap steps n events close.Ended
ClosesSo e cap steps n events (Some Limit) = Closes e cap steps n events close.Limit
ClosesSo e cap steps n events (Some (Stuck p why)) = Closes e cap steps n events (close.Stuck p why)
ClosesSo e cap steps n events (Some Memory) = ⊥
