-- Rearrangements of a run of a choreography, and what they share.
use Rattle.std.specs.Prelude.{ℕ, ◌≡◌, ◌≢◌, ◌<◌, ◌↔◌, List, length, Option}
use Rattle.chor_base.specs.declared.event.Event.{Event}
use Rattle.chor_base.specs.Meaning.{Hosts}
use Rattle.chor_tree.specs.declared.file.File.{File}
use Rattle.chor_semantics.specs.Runs.{IsRun}
use Rattle.endpoint_code.specs.declared.endpoints.Endpoints.{Endpoints}
use Rattle.event_orders.specs.Orders.{IsPermutationBelow, IsBefore, permuted}
use Rattle.event_orders.specs.HappensBefore.{IsEventOf, HappensBefore, IsLinearExtension}
use Rattle.event_orders.specs.CausalPast.{IsCausalPast, BeginsExtension}
use Rattle.event_orders.specs.SameEvents.{HaveSameEvents}
use Rattle.accepted_files.specs.Accepted.{IsChecked}
use Rattle.accepted_files.specs.AboveProjection.{IsAboveProjection}

-- A rearrangement: a permutation of the events that is a run of the choreography and keeps each process's events in order
pub record IsSourceRearrangement (f : File) (hosts : Hosts) (capacity : Option ℕ) (h : List Event) (order : List ℕ) : Type 0 where
  pub whole : IsPermutationBelow (length h) order
  pub kept : (p i j : ℕ) → i < j → IsEventOf h p i → IsEventOf h p j → IsBefore order i j
  pub run : IsRun f hosts capacity (permuted h order)

-- a checked file that has a projection, with endpoint programs that are above it
pub record IsCheckedSource (f : File) : Type 0 where
  pub functions : List (List ℕ)
  pub checked : IsChecked f functions
  pub programs : Endpoints
  pub above : IsAboveProjection f programs

-- a run of the choreography of such a file
pub record IsCheckedRun (f : File) (hosts : Hosts) (capacity : Option ℕ) (h : List Event) : Type 0 where
  pub source : IsCheckedSource f
  pub run : IsRun f hosts capacity h

-- An event happens before another exactly if it comes before it in every rearrangement
abbrev pub RearrangementsShareOrder : Type 0
RearrangementsShareOrder =
    (f : File) (hosts : Hosts) (capacity : Option ℕ) (h : List Event) → IsCheckedRun f hosts capacity h
    → (i j : ℕ) → i < length h → j < length h
    → HappensBefore h capacity i j ↔ ((order : List ℕ) → IsSourceRearrangement f hosts capacity h order → IsBefore order i j)

-- Each linear extension of happens-before is a rearrangement
abbrev pub ExtensionsAreRearrangements : Type 0
ExtensionsAreRearrangements =
    (f : File) (hosts : Hosts) (capacity : Option ℕ) (h : List Event) → IsCheckedRun f hosts capacity h
    → (order : List ℕ) → IsLinearExtension h capacity order → IsSourceRearrangement f hosts capacity h order

-- Where an event doesn't happen before another one, some rearrangement has them the other way round
abbrev pub ConcurrentAreReversed : Type 0
ConcurrentAreReversed =
    (f : File) (hosts : Hosts) (capacity : Option ℕ) (h : List Event) → IsCheckedRun f hosts capacity h
    → (i j : ℕ) → i < length h → j < length h → i ≢ j → (HappensBefore h capacity i j → ⊥)
    → (order : List ℕ) × IsSourceRearrangement f hosts capacity h order × IsBefore order j i

-- The rearrangements are the runs of the choreography that have, process by process, the same events
abbrev pub RearrangementsHaveSameEvents : Type 0
RearrangementsHaveSameEvents =
    (f : File) (hosts : Hosts) (capacity : Option ℕ) (h other : List Event) → IsCheckedRun f hosts capacity h
    → (IsRun f hosts capacity other × HaveSameEvents h other)
    ↔ ((order : List ℕ) × IsSourceRearrangement f hosts capacity h order × (permuted h order ≡ other))

-- the events with these numbers are a run of the choreography by themselves, and come first in some linear extension
pub record IsRunOfPast (f : File) (hosts : Hosts) (capacity : Option ℕ) (h : List Event) (past : List ℕ) : Type 0 where
  pub run : IsRun f hosts capacity (permuted h past)
  pub begins : BeginsExtension h capacity past

-- The causal past of an event of a run is so
abbrev pub PastsAreRuns : Type 0
PastsAreRuns =
    (f : File) (hosts : Hosts) (capacity : Option ℕ) (h : List Event) → IsCheckedRun f hosts capacity h
    → (j : ℕ) → j < length h → (past : List ℕ) → IsCausalPast h capacity j past → IsRunOfPast f hosts capacity h past
