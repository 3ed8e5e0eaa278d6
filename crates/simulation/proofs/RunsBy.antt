-- Runs of a network of an accepted file's endpoint programs that workers make.
use Rattle.std.proofs.Common.{◌≡◌, ℕ, List, true, [], length, Option, sym, subst}
use Rattle.std.specs.Prelude.{All}
use Rattle.std.proofs.lemmas.List.{length-map}
use Rattle.chor_base.specs.declared.event.Event.{Event}
use Rattle.chor_base.specs.declared.event.Entry.{Entry}
use Rattle.chor_base.specs.Words.{AllDistinct}
use Rattle.chor_host.specs.Functions.{Function, hosts_in}
use Rattle.chor_tree.specs.declared.file.File.{File}
use Rattle.endpoint_code.specs.declared.endpoints.Endpoints.{Endpoints}
use Rattle.endpoint_code.specs.Network.{NetworkState, has_room}
use Rattle.endpoint_code.specs.NetworkRuns.{IsNetworkRun}
use Rattle.endpoint_code.specs.Scheduled.{Close, Closes}
use Rattle.endpoint_runs.specs.declared.run.Closed.{Closed}
use Rattle.endpoint_runs.specs.Runs.{close_of as closing_of}
use Rattle.post_office.specs.Views.{events_of}
use Rattle.well_formed.specs.Asked.{IsAnswered}
use Rattle.accepted_files.specs.MoreNames.{RunsAskAlike}
use Rattle.accepted_files.specs.Runs.{IsChecked}
use Rattle.accepted_files.specs.ClosedRuns.{IsClosedRunOf, ClosedRunsAreRuns}
use Rattle.post_office.specs.Owners.{IsMadeByOwner}
use Rattle.workers.specs.Runs.{IsRunBy}
use Rattle.simulation.specs.Accepted.{IsAccepted}
use Rattle.simulation.specs.Capacity.{capacity_of}

module _ (f : File) (words : List (List ℕ)) (e : Endpoints) (ok : IsChecked f words) (a : IsAccepted words f e) (distinct : AllDistinct e.names) (functions : List Function)
    (answered : IsAnswered f (hosts_in f.names functions)) (alike : RunsAskAlike) (running : ClosedRunsAreRuns) (cap : Option ℕ) (room : has_room cap [] ≡ true) (declared : cap ≡ capacity_of f) (steps : ℕ) where
  -- a closed run of the programs is one of the file, with its endpoint programs under another name
  pub run_of_file : (h : List Event) (last : NetworkState) (close : Close) → IsNetworkRun e (hosts_in e.names functions) cap h last → Closes e cap steps last (length h) close
      → (programs : Endpoints) → e ≡ programs → IsClosedRunOf f programs (hosts_in f.names functions) (capacity_of f) steps h close
  run_of_file h last close run closes programs e-is =
      let asked = (alike f words ok e a.above distinct functions cap h last).0 run in
      let made = running f words ok e a.above (hosts_in f.names functions) answered cap room steps h last close asked closes in
      subst (λ (x : Endpoints). IsClosedRunOf f x (hosts_in f.names functions) (capacity_of f) steps h close) e-is
      (subst (λ (k : Option ℕ). IsClosedRunOf f e (hosts_in f.names functions) k steps h close) declared made)

module _ (f : File) (words : List (List ℕ)) (e : Endpoints) (ok : IsChecked f words) (a : IsAccepted words f e) (distinct : AllDistinct e.names) (functions : List Function)
    (answered : IsAnswered f (hosts_in f.names functions)) (alike : RunsAskAlike) (running : ClosedRunsAreRuns) (cap : Option ℕ) (room : has_room cap [] ≡ true) (declared : cap ≡ capacity_of f) (workers steps : ℕ) (entries : List Entry) (closed is : Closed)
    (run : IsRunBy workers steps cap e (hosts_in e.names functions) entries (closing_of closed)) (same : closed ≡ is) (programs : Endpoints) (e-is : e ≡ programs) where
  -- it is a run of the file, with its endpoint programs under another name
  pub closed_of : IsClosedRunOf f programs (hosts_in f.names functions) (capacity_of f) steps (events_of entries) (closing_of is)
  closed_of =
      let count : length entries ≡ length (events_of entries) = sym (length-map entries (λ (x : Entry). x.event)) in
      let closes = subst (λ (k : Closed). Closes e cap steps run.last (length (events_of entries)) (closing_of k)) same (subst (λ (n : ℕ). Closes e cap steps run.last n (closing_of closed)) count run.closes) in
      run_of_file f words e ok a distinct functions answered alike running cap room declared steps (events_of entries) run.last (closing_of is) run.run closes programs e-is

  pub owned_of : All (IsMadeByOwner workers programs) entries
  owned_of = subst (λ (x : Endpoints). All (IsMadeByOwner workers x) entries) e-is run.owned
