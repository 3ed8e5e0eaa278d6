-- To the runs of programs above a projection host functions mean the same by the names of the file.
use Rattle.std.proofs.Common.{ℕ, List, [], ◌∷◌, ◌++◌, Option, sym, subst, length}
use Rattle.std.specs.List.{AllByRecursion}
use Rattle.chor_base.specs.declared.event.Event.{Event}
use Rattle.chor_base.specs.Meaning.{Hosts}
use Rattle.chor_base.specs.Words.{AllDistinct}
use Rattle.chor_host.specs.Functions.{Function, hosts_in}
use Rattle.chor_tree.specs.declared.file.File.{File}
use Rattle.chor_semantics.specs.Runs.{IsRun}
use Rattle.endpoint_code.specs.declared.endpoints.Endpoints.{Endpoints}
use Rattle.endpoint_code.specs.Network.{NetworkState, first_state}
use Rattle.endpoint_code.specs.NetworkRuns.{IsNetworkRun}
use Rattle.endpoint_code.specs.Scheduled.{Close, IsScheduled}
use Rattle.endpoint_code.proofs.Chosen.{scheduled_leads}
use Rattle.accepted_files.specs.Accepted.{IsChecked, NetworkRunsAreRuns, RunsAreNetworkRuns}
use Rattle.accepted_files.specs.AboveProjection.{IsAboveProjection}
use Rattle.accepted_files.proofs.AboveItself.{projection_above}
use Rattle.accepted_files.proofs.Closed.{leads_on}
use Rattle.accepted_files.proofs.AskedAlike.{IsAskedThere, AsksAlike, leads_alike, scheduled_alike, leads_there, asks_alike, alike_turned, each}

-- the later events of a list
later : (P : Event → Type 0) (given h : List Event) → AllByRecursion P (given ++ h) → AllByRecursion P h
later P [] h all = all
later P (x ∷ xs) h all = later P xs h all.1

module _ (f : File) (words : List (List ℕ)) (checked : IsChecked f words) (e : Endpoints) (is : IsAboveProjection f e) (differ : AllDistinct e.names) (functions : List Function)
    (to : NetworkRunsAreRuns) (back : RunsAreNetworkRuns) where
  abbrev own : Hosts
  own = hosts_in e.names functions

  abbrev of_file : Hosts
  of_file = hosts_in f.names functions

  -- the events of a run ask functions whose names the file has
  asked : (hosts : Hosts) (capacity : Option ℕ) (h : List Event) → IsRun f hosts capacity h → AllByRecursion (IsAskedThere is.projection) h
  asked hosts capacity h run =
      let w = back f words checked is.projection (projection_above f is.projection is.projects) hosts capacity h run in
      leads_there is.projection hosts capacity h (first_state is.projection) w.0 w.1

  alike : (h : List Event) → AllByRecursion (IsAskedThere is.projection) h → AllByRecursion (AsksAlike own of_file) h
  alike h all = each (IsAskedThere is.projection) (AsksAlike own of_file) one h all
    where
      one : (x : Event) → IsAskedThere is.projection x → AsksAlike own of_file x
      one x w =
          subst (λ (names : List (List ℕ)). AsksAlike (hosts_in names functions) of_file x) (sym is.above.names.1)
          (subst (λ (names : List (List ℕ)). AsksAlike (hosts_in (is.projection.names ++ is.above.names.0) functions) (hosts_in names functions) x) is.projects.names
          (asks_alike is.projection is.above.names.0 functions (subst AllDistinct is.above.names.1 differ) x w))

  pub run_to : (capacity : Option ℕ) (h : List Event) (last : NetworkState) → IsNetworkRun e own capacity h last → IsNetworkRun e of_file capacity h last
  run_to capacity h last run = leads_alike e capacity own of_file h (first_state e) last (alike h (asked own capacity h (to f words checked e is own capacity h last run))) run

  pub run_back : (capacity : Option ℕ) (h : List Event) (last : NetworkState) → IsNetworkRun e of_file capacity h last → IsNetworkRun e own capacity h last
  run_back capacity h last run =
      leads_alike e capacity of_file own h (first_state e) last
      (each (AsksAlike own of_file) (AsksAlike of_file own) (alike_turned own of_file) h (alike h (asked of_file capacity h (to f words checked e is of_file capacity h last run)))) run

  pub scheduled_to : (capacity : Option ℕ) (given : List Event) (n : NetworkState) → IsNetworkRun e own capacity given n → (seed steps : ℕ) (h : List Event) (last : NetworkState) (close : Close)
      → IsScheduled e own capacity seed steps n (length given) h last close → IsScheduled e of_file capacity seed steps n (length given) h last close
  scheduled_to capacity given n run seed steps h last close scheduled =
      let whole : IsNetworkRun e own capacity (given ++ h) last = leads_on e own capacity given h (first_state e) n last run (scheduled_leads e own capacity seed steps h n last (length given) close scheduled) in
      let all = alike (given ++ h) (asked own capacity (given ++ h) (to f words checked e is own capacity (given ++ h) last whole)) in
      scheduled_alike e capacity own of_file seed steps h n last (length given) close (later (AsksAlike own of_file) given h all) scheduled
