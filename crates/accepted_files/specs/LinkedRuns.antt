-- What is proved of an accepted source some of whose endpoint programs were written by hand.
use Rattle.std.specs.Prelude.{ℕ, ◌↔◌, List, Option}
use Rattle.chor_base.specs.declared.event.Event.{Event}
use Rattle.chor_base.specs.Meaning.{Hosts}
use Rattle.chor_tree.specs.declared.file.File.{File}
use Rattle.chor_semantics.specs.Runs.{IsRun}
use Rattle.endpoint_code.specs.declared.endpoints.Endpoints.{Endpoints}
use Rattle.endpoint_code.specs.Faults.{IsFaultless}
use Rattle.endpoint_code.specs.Network.{NetworkState}
use Rattle.endpoint_code.specs.NetworkRuns.{IsNetworkRun}
use Rattle.endpoint_link.specs.Linked.{IsLinked}
use Rattle.same_programs.specs.Words.{HasDistinctWords}
use Rattle.accepted_files.specs.Accepted.{IsChecked}
use Rattle.accepted_files.specs.AboveProjection.{IsAboveProjection}

-- the events lead the network of these programs to some state
abbrev pub IsRunOfNetwork : Endpoints → Hosts → Option ℕ → List Event → Type 0
IsRunOfNetwork e hosts cap h = (last : NetworkState) × IsNetworkRun e hosts cap h last

-- Where the projection of a checked file, or programs above it, were linked with others, the result is above the projection
-- too, and its network has exactly the runs of the choreography, under any capacity
abbrev pub LinkedRunsAreRuns : Type 0
LinkedRunsAreRuns =
    (f : File) (words : List (List ℕ)) → IsChecked f words → (e : Endpoints) → IsAboveProjection f e
    → (g r : Endpoints) → IsLinked e g r → IsFaultless r → HasDistinctWords r
    → IsAboveProjection f r × ((hosts : Hosts) (cap : Option ℕ) (h : List Event) → IsRunOfNetwork r hosts cap h ↔ IsRun f hosts cap h)
