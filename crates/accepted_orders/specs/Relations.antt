-- How two events of a run stand to each other.
use Rattle.std.specs.Prelude.{ℕ, ◌≡◌, ◌≢◌, List, Option}
use Rattle.chor_base.specs.declared.event.Event.{Event}
use Rattle.event_orders.specs.HappensBefore.{HappensBefore}
use Rattle.causal_order.specs.Orders.{AreCauses}
use Rattle.accepted_orders.specs.declared.relation.Relation.{Relation}
use Rattle.accepted_orders.specs.declared.relation.Relation.TheVariants.{Before, After, Same, Beside}

-- the events at places i and j are the same; or one of them happens before the other; or neither does: they are concurrent
pub data Stand (h : List Event) (capacity : Option ℕ) (i j : ℕ) : Relation → Type 0 where
  same : i ≡ j → Stand h capacity i j Same
  before : HappensBefore h capacity i j → Stand h capacity i j Before
  after : HappensBefore h capacity j i → Stand h capacity i j After
  beside : i ≢ j → (HappensBefore h capacity i j → ⊥) → (HappensBefore h capacity j i → ⊥) → Stand h capacity i j Beside

-- so they stand in any events with these causes
abbrev pub StandBy : List (List ℕ) → ℕ → ℕ → Relation → Type 0
StandBy causes i j relation = (h : List Event) (capacity : Option ℕ) → AreCauses h capacity causes → Stand h capacity i j relation
