-- The endpoint programs of an accepted file.
use Rattle.std.proofs.Common.{◌≡◌, ℕ, List}
use Rattle.chor_tree.specs.declared.file.File.{File}
use Rattle.endpoint_code.specs.declared.endpoints.Endpoints.{Endpoints}
use Rattle.chor_base.specs.Words.{AllDistinct}
use Rattle.type_check.specs.Typed.{IsFine}
use Rattle.accepted_files.specs.Accepted.{IsChecked}
use Rattle.accepted_files.specs.AboveProjection.{IsAboveProjection}
use Rattle.accepted_files.specs.MoreNames.{RunsAskAlike}
use Rattle.simulation.specs.Accepted.{IsAccepted}
use Rattle.simulation.proofs.Runs.{checked}

-- what is used of them
pub record AreSound (words : List (List ℕ)) (f : File) (e : Endpoints) : Type 0 where
  pub checked : IsChecked f words
  pub above : IsAboveProjection f e
  pub distinct : AllDistinct e.names
  pub alike : RunsAskAlike

pub sound : (words : List (List ℕ)) (f : File) (e : Endpoints) → IsFine words f → IsAccepted words f e → AllDistinct e.names → RunsAskAlike → AreSound words f e
sound words f e fine a distinct alike = record { checked = checked words f e fine a; above = a.above; distinct = distinct; alike = alike }
