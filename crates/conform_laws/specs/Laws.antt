-- The runs of an accepted source conform by role.
use Rattle.std.specs.Prelude.{ℕ, List, Option}
use Rattle.chor_base.specs.declared.event.Event.{Event}
use Rattle.chor_base.specs.Meaning.{Hosts}
use Rattle.chor_tree.specs.declared.file.File.{File}
use Rattle.chor_tree.specs.Protocols.{Protocol}
use Rattle.chor_semantics.specs.Runs.{IsRun, IsEndedRun}
use Rattle.endpoint_code.specs.declared.endpoints.Endpoints.{Endpoints}
use Rattle.global_types.specs.Moves.{IsIn}
use Rattle.local_types.specs.Reading.{HasFineRoles}
use Rattle.projection.specs.Projects.{Projects}
use Rattle.accepted_files.specs.Accepted.{IsChecked}
use Rattle.conform.specs.ByRole.{ConformsByRole, HasEndedByRole}

-- Each run of a checked file with a projection conforms by role
abbrev pub RunsConformByRole : Type 0
RunsConformByRole =
    (f : File) (words : List (List ℕ)) → IsChecked f words → (e : Endpoints) → Projects f e
    → (hosts : Hosts) (capacity : Option ℕ) (h : List Event) → IsRun f hosts capacity h → ConformsByRole f h

-- A complete run has ended by role, where no role's view has a fault
abbrev pub EndedRunsEndByRole : Type 0
EndedRunsEndByRole =
    (f : File) (words : List (List ℕ)) → IsChecked f words → ((p : Protocol) → IsIn p f.protocols → HasFineRoles p p.roles)
    → (hosts : Hosts) (capacity : Option ℕ) (h : List Event) → IsEndedRun f hosts capacity h → HasEndedByRole f h
