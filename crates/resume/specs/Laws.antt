-- What holds of all runs that go on.
use Rattle.std.specs.Prelude.{◌≡◌, ◌++◌, List}
use Rattle.chor_base.specs.declared.event.Event.{Event}
use Rattle.chor_base.specs.Meaning.{Hosts}
use Rattle.endpoint_code.specs.declared.endpoints.Endpoints.{Endpoints}
use Rattle.endpoint_runs.specs.declared.run.Ran.{Ran}
use Rattle.endpoint_runs.specs.Runs.{IsRunWithin, close_of}
use Rattle.resume.specs.Resumes.{IsResumed}
use Rattle.resume.specs.declared.resuming.Plan.{Plan}

-- what the pick rule makes from the first state is what it makes after each front of those events
abbrev pub FrontsAreResumed : Type 0
FrontsAreResumed =
    (e : Endpoints) (hosts : Hosts) (plan : Plan) (ran : Ran) (run : IsRunWithin plan.capacity e hosts plan.schedule.seed plan.schedule.steps ran.history (close_of ran.closed))
    → (given after : List Event) → run.history ≡ given ++ after → IsResumed e hosts plan given ran
