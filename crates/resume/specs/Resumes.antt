-- Runs that go on after given events (this project's own).
use Rattle.std.specs.Prelude.{ℕ, ◌≡◌, ◌++◌, max, List, length, Result, Ok, Err, Option}
use Rattle.chor_base.specs.declared.event.Event.{Event}
use Rattle.chor_base.specs.Meaning.{Hosts}
use Rattle.endpoint_code.specs.declared.endpoints.Endpoints.{Endpoints}
use Rattle.endpoint_code.specs.Network.{NetworkState}
use Rattle.endpoint_code.specs.NetworkRuns.{IsNetworkRun}
use Rattle.endpoint_code.specs.Scheduled.{IsScheduled}
use Rattle.endpoint_runs.specs.declared.parts.Schedule.{Schedule}
use Rattle.endpoint_runs.specs.declared.run.Ran.{Ran}
use Rattle.endpoint_runs.specs.Runs.{close_of}
use Rattle.net_core.specs.Picks.{entries_of}
use Rattle.net_core.specs.Views.{NetworkView}
use Rattle.replay.specs.Replays.{IsUnmatched}
use Rattle.replay.specs.declared.answer.ReplayFault.{ReplayFault}
use Rattle.replay.specs.declared.answer.ReplayFault.TheVariants.{Unmatched, Memory}
use Rattle.resume.specs.declared.resuming.Plan.{Plan}

-- a run has as many events as asked for at most, or as were given where these are more
abbrev pub most_events : Schedule → ℕ → ℕ
most_events s given = max s.steps given

-- The events are the given ones, which are a run of the network, and those that follow them by the pick rule, up to where the run
-- is closed
pub record IsResumed (e : Endpoints) (hosts : Hosts) (plan : Plan) (given : List Event) (ran : Ran) : Type 0 where
  pub from : NetworkState
  pub given_run : IsNetworkRun e hosts plan.capacity given from
  pub after : List Event
  pub history : ran.history ≡ entries_of (given ++ after)
  pub last : NetworkState
  pub scheduled : IsScheduled e hosts plan.capacity plan.schedule.seed (most_events plan.schedule (length given)) from (length given) after last (close_of ran.closed)

-- What a resume answers: that run, or the number of the first given event that is no step. Want of memory tells nothing
abbrev pub Resumes : Endpoints → Hosts → Plan → List Event → Result Ran ReplayFault → Type 0
Resumes e hosts plan given (Ok ran) = IsResumed e hosts plan given ran
Resumes e hosts plan given (Err (Unmatched i)) = IsUnmatched e hosts plan.capacity given i
Resumes e hosts plan given (Err Memory) = Unit {0}

-- ---- its two parts

-- a network of these programs, under this capacity, has come so far by these events, and keeps them
pub record StandsAfter (e : Endpoints) (hosts : Hosts) (cap : Option ℕ) (given : List Event) (v : NetworkView) : Type 0 where
  pub endpoints : v.endpoints ≡ e
  pub capacity : v.capacity ≡ cap
  pub run : IsNetworkRun e hosts cap given v.state
  pub history : v.history ≡ entries_of given

-- what is answered for the given events
abbrev pub FollowsGiven : Endpoints → Hosts → Option ℕ → List Event → Result NetworkView ReplayFault → Type 0
FollowsGiven e hosts cap given (Ok v) = StandsAfter e hosts cap given v
FollowsGiven e hosts cap given (Err (Unmatched i)) = IsUnmatched e hosts cap given i
FollowsGiven e hosts cap given (Err Memory) = Unit {0}

-- a network goes on by the pick rule after the events that it keeps, up to where the run is closed
pub record HasGoneOn (hosts : Hosts) (s : Schedule) (v : NetworkView) (ran : Ran) : Type 0 where
  pub after : List Event
  pub history : ran.history ≡ v.history ++ entries_of after
  pub last : NetworkState
  pub scheduled : IsScheduled v.endpoints hosts v.capacity s.seed (most_events s (length v.history)) v.state (length v.history) after last (close_of ran.closed)
