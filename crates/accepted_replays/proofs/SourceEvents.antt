-- The events of a file that is replayed on a source.
use Rattle.std.proofs.Common.{◌≡◌, ℕ, List, Option, Result, subst}
use Rattle.chor_base.specs.declared.event.Event.{Event}
use Rattle.chor_host.specs.Functions.{Function, hosts_in}
use Rattle.chor_tree.specs.declared.file.File.{File}
use Rattle.chor_semantics.specs.Runs.{IsRun, IsEndedRun}
use Rattle.endpoint_code.specs.declared.endpoints.Endpoints.{Endpoints}
use Rattle.endpoint_code.specs.Network.{NetworkState}
use Rattle.accepted_files.specs.Accepted.{NetworkRunsAreRuns, RunsAreNetworkRuns}
use Rattle.transcript.specs.Text.{Words}
use Rattle.replay.specs.Replays as network
use Rattle.replay.specs.declared.answer.ReplayFault.{ReplayFault}
use Rattle.event_files.specs.Events.{TellsNetworkEvents}
use Rattle.event_files.specs.Networks as ends
use Rattle.event_files.proofs.Along.{tells_too}
use Rattle.program_runs.specs.Books.{book_of}
use Rattle.accepted_replays.specs.Events.{TellsSourceEvents}
use Rattle.accepted_replays.specs.Laws.{RunsEndTogether}
use Rattle.accepted_replays.proofs.Programs.{AreSound}

-- the events of a file that is replayed on the network of a source's programs are its events on the source
pub events_on_source : (words : List (List ℕ)) (f : File) (e : Endpoints) → AreSound words f e → NetworkRunsAreRuns → RunsAreNetworkRuns → RunsEndTogether
    → (functions : List Function) (cap : Option ℕ) (w : Words) → w ≡ book_of f → (bytes : List ℕ) (result : Result (List Event) ReplayFault)
    → TellsNetworkEvents w e (hosts_in e.names functions) cap bytes result → TellsSourceEvents f (hosts_in f.names functions) cap bytes result
events_on_source words f e s to back together functions cap w book bytes result r =
    let own = hosts_in e.names functions in
    let hosts = hosts_in f.names functions in
    let written = subst (λ (v : Words). TellsNetworkEvents v e own cap bytes result) book r in
    let same = λ (h : List Event) (last : NetworkState). s.alike f words s.checked e s.above s.distinct functions cap h last in
    tells_too (book_of f) (network.IsRun e own cap) (IsRun f hosts cap) (ends.IsEndedRun e own cap) (IsEndedRun f hosts cap)
    (λ h. (λ run. to f words s.checked e s.above hosts cap h run.0 ((same h run.0).0 run.1), λ run. let there = back f words s.checked e s.above hosts cap h run in (there.0, (same h there.0).1 there.1)))
    (λ h. (
      λ over. (together f words s.checked e s.above hosts cap h).0 (over.0, (same h over.0).0 over.1, over.2),
      λ over. let there = (together f words s.checked e s.above hosts cap h).1 over in (there.0, (same h there.0).1 there.1, there.2),
    ))
    bytes result written
