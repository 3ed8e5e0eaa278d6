-- Rearrangements of a run of a choreography are those of the run of its network.
use Rattle.std.proofs.Common.{◌≡◌, ◌≢◌, ℕ, ◌<◌, List, length, Option, subst}
use Rattle.std.specs.Prelude.{◌↔◌}
use Rattle.chor_base.specs.declared.event.Event.{Event}
use Rattle.chor_base.specs.Meaning.{Hosts}
use Rattle.chor_tree.specs.declared.file.File.{File}
use Rattle.chor_semantics.specs.Runs.{IsRun}
use Rattle.endpoint_code.specs.declared.endpoints.Endpoints.{Endpoints}
use Rattle.endpoint_code.specs.Network.{NetworkState}
use Rattle.endpoint_code.specs.NetworkRuns.{IsNetworkRun}
use Rattle.endpoint_code.specs.Faults.{HasNoNameFault}
use Rattle.accepted_files.specs.AboveProjection.{IsAboveProjection}
use Rattle.event_orders.specs.Orders.{IsBefore, permuted}
use Rattle.event_orders.specs.HappensBefore.{IsRearrangement, HappensBefore, directly, program_order, IsLinearExtension}
use Rattle.event_orders.specs.CausalPast.{IsCausalPast, CausalPastsAreRuns, CausalPastsBeginExtensions}
use Rattle.event_orders.specs.Laws.{LinearExtensionsAreRuns, RearrangementsShareHappensBefore, UnorderedAreReversed}
use Rattle.event_orders.specs.SameEvents.{HaveSameEvents, SameEventsAreRearranged}
use Rattle.event_orders.specs.SameEvents as network
use Rattle.accepted_orders.specs.Networks.{AreNetworksOfFiles}
use Rattle.accepted_orders.specs.Rearrangements.{IsSourceRearrangement, IsCheckedRun, IsRunOfPast}

-- the run is one of these programs, whose runs are those of the choreography
pub record IsRunOfNetwork (f : File) (hosts : Hosts) (cap : Option ℕ) (h : List Event) : Type 0 where
  pub e : Endpoints
  pub above : IsAboveProjection f e
  pub names : HasNoNameFault e
  pub last : NetworkState
  pub run : IsNetworkRun e hosts cap h last
  pub to : (g : List Event) (state : NetworkState) → IsNetworkRun e hosts cap g state → IsRun f hosts cap g
  pub back : (g : List Event) → IsRun f hosts cap g → (state : NetworkState) × IsNetworkRun e hosts cap g state

pub network_of : AreNetworksOfFiles → (f : File) (hosts : Hosts) (cap : Option ℕ) (h : List Event) → IsCheckedRun f hosts cap h → IsRunOfNetwork f hosts cap h
network_of laws f hosts cap h r =
    let e = r.source.above.projection in
    let projects = r.source.above.projects in
    let above = laws.above f e projects in
    let run = laws.back f r.source.functions r.source.checked e above hosts cap h r.run in
    record {
      e = e;
      above = above;
      names = (laws.faultless f r.source.functions r.source.checked.accepted r.source.checked.guarded e projects).names;
      last = run.0;
      run = run.1;
      to = λ g state it. laws.to f r.source.functions r.source.checked e above hosts cap g state it;
      back = λ g it. laws.back f r.source.functions r.source.checked e above hosts cap g it;
    }

module _ (laws : AreNetworksOfFiles) (f : File) (hosts : Hosts) (cap : Option ℕ) (h : List Event) (r : IsCheckedRun f hosts cap h) where
  abbrev n : IsRunOfNetwork f hosts cap h
  n = network_of laws f hosts cap h r

  to_network : (order : List ℕ) → IsSourceRearrangement f hosts cap h order → IsRearrangement n.e hosts cap h order
  to_network order it = let run = n.back (permuted h order) it.run in record { whole = it.whole; kept = it.kept; last = run.0; run = run.1 }

  from_network : (order : List ℕ) → IsRearrangement n.e hosts cap h order → IsSourceRearrangement f hosts cap h order
  from_network order it = record { whole = it.whole; kept = it.kept; run = n.to (permuted h order) it.last it.run }

  pub shared : RearrangementsShareHappensBefore → (i j : ℕ) → i < length h → j < length h → HappensBefore h cap i j ↔ ((order : List ℕ) → IsSourceRearrangement f hosts cap h order → IsBefore order i j)
  shared law i j one other =
      let both = law n.e hosts cap h n.last n.names n.run i j one other in
      (λ before order it. both.0 before order (to_network order it), λ all. both.1 (λ order it. all order (from_network order it)))

  pub extension : LinearExtensionsAreRuns → (order : List ℕ) → IsLinearExtension h cap order → IsSourceRearrangement f hosts cap h order
  extension law order it =
      let run = law n.e hosts cap h n.last n.names n.run order it in
      record {
        whole = it.whole;
        kept = λ p i j lt a b. it.extends i j (directly (program_order p lt a b));
        run = n.to (permuted h order) run.state run.run;
      }

  pub reversed : LinearExtensionsAreRuns → UnorderedAreReversed → (i j : ℕ) → i < length h → j < length h → i ≢ j → (HappensBefore h cap i j → ⊥) → (order : List ℕ) × IsSourceRearrangement f hosts cap h order × IsBefore order j i
  reversed runs law i j one other differ never =
      let it = law n.e hosts cap h n.last n.names n.run i j one other differ never in
      (it.0, extension runs it.0 it.1, it.2)

  pub same_events : SameEventsAreRearranged → network.RearrangementsHaveSameEvents → (other : List Event) → (IsRun f hosts cap other × HaveSameEvents h other) ↔ ((order : List ℕ) × IsSourceRearrangement f hosts cap h order × (permuted h order ≡ other))
  same_events back to other = (
    λ it. (let run = n.back other it.0 in let by = back n.e hosts cap h other n.last run.0 n.run run.1 it.1 in (by.0, from_network by.0 by.1.kept, by.1.same)),
    λ it. (subst (IsRun f hosts cap) it.2 it.1.run, subst (HaveSameEvents h) it.2 (to n.e hosts cap h it.0 (to_network it.0 it.1))),
  )

  pub past_runs : CausalPastsAreRuns → CausalPastsBeginExtensions → (j : ℕ) → j < length h → (past : List ℕ) → IsCausalPast h cap j past → IsRunOfPast f hosts cap h past
  past_runs runs begins j lt past is =
      let run = runs n.e hosts cap h n.last n.names n.run j lt past is in
      record { run = n.to (permuted h past) run.0 run.1; begins = begins n.e hosts cap h n.last n.names n.run j lt past is }
