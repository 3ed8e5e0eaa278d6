-- A run of the choreography after which nothing is left to happen is one of the network after which each process has ended.
use Rattle.std.proofs.Common.{ℕ, List, Option}
use Rattle.std.specs.Prelude.{◌↔◌}
use Rattle.chor_base.specs.declared.event.Event.{Event}
use Rattle.chor_base.specs.Meaning.{Hosts}
use Rattle.chor_tree.specs.declared.file.File.{File}
use Rattle.chor_semantics.specs.Runs.{IsEndedRun}
use Rattle.endpoint_code.specs.declared.endpoints.Endpoints.{Endpoints}
use Rattle.typed_sources.specs.Lists.{lists_of}
use Rattle.accepted_files.specs.Accepted.{IsChecked}
use Rattle.accepted_files.specs.AboveProjection.{IsAboveProjection}
use Rattle.accepted_files.proofs.AboveProjection.{sets_above, is_realized, is_active}
use Rattle.accepted_files.proofs.Ended.{ended_run, ended_network}
use Rattle.event_files.specs.Networks as network

pub end_together : (f : File) (words : List (List ℕ)) → IsChecked f words → (e : Endpoints) → IsAboveProjection f e → (hosts : Hosts) (cap : Option ℕ) (h : List Event) → network.IsEndedRun e hosts cap h ↔ IsEndedRun f hosts cap h
end_together f words checked e is hosts cap h = (
  λ run. ended_run f e (sets_above f words checked e is) (lists_of f) (is_realized f words checked e is) hosts cap h run.0 (is_active f words checked e is) run.1 run.2,
  λ run. ended_network f e (sets_above f words checked e is) (lists_of f) (is_realized f words checked e is) hosts cap h run,
)
