-- How a run of a network closes the run of a choreography.
use Rattle.std.specs.Prelude.{ℕ, ◌≡◌, true, false, List, Option, length}
use Rattle.chor_base.specs.declared.event.Event.{Event}
use Rattle.chor_base.specs.Meaning.{Hosts}
use Rattle.chor_tree.specs.declared.file.File.{File}
use Rattle.chor_semantics.specs.Runs.{IsRun, IsEndedRun}
use Rattle.endpoint_code.specs.declared.endpoints.Endpoints.{Endpoints}
use Rattle.endpoint_code.specs.Network.{NetworkState}
use Rattle.endpoint_code.specs.NetworkRuns.{all_ended, none_can_step}
use Rattle.endpoint_code.specs.Scheduled.{Close, Ended, Limit, Stuck}
use Rattle.correspondence.specs.Laws.{CannotStep, HasEndedEmpty}

-- where no process can step, no event can happen
abbrev pub NothingHappens : Type 0
NothingHappens = (e : Endpoints) (hosts : Hosts) (cap : Option ℕ) (n : NetworkState) → none_can_step e cap n n.machines ≡ true → CannotStep e hosts cap n

-- How these events of a network close, under this capacity: they are a run of the choreography after which nothing is left to
-- happen, each process has ended and each queue is empty; or they are a run of as many events as were asked for, after which some
-- process hasn't ended and something is left to happen in the choreography. They never come to a state in which the network is stuck
abbrev pub ClosesWell : File → Endpoints → Hosts → Option ℕ → ℕ → List Event → NetworkState → Close → Type 0
ClosesWell f e hosts cap steps h last Ended = IsEndedRun f hosts cap h × HasEndedEmpty e last
ClosesWell f e hosts cap steps h last Limit = IsRun f hosts cap h × (length h ≡ steps) × (all_ended e last.machines ≡ false) × (IsEndedRun f hosts cap h → ⊥)
ClosesWell f e hosts cap steps h last (Stuck p why) = ⊥
