-- An index of the sends, or of the receipts, by triple.
use Rattle.std.specs.Prelude.{ℕ, ◌≡◌, ◌+◌, ◌==◌, ◌&&◌, Bool, true, List, [], length, Option, None, Some, slice_get, if◌then◌else◌}
use Rattle.std.specs.Option.{unwrap_or}
use Rattle.std.specs.Map.{lookup}
use Rattle.chor_base.specs.Events.{Triple}
use Rattle.causal_order.specs.declared.index.Direction.{Direction}
use Rattle.causal_order.specs.declared.index.EventIndex.{EventIndex}

-- the triple of a direction
abbrev pub triple_of : Direction → Triple
triple_of d = (d.sid, d.from, d.to)

-- a direction has this triple
abbrev pub is_direction : Triple → Direction → Bool
is_direction t d = (t.0 == d.sid) && ((t.1.0 == d.from.0) && (t.2.0 == d.to.0))

-- the places of a triple's events
abbrev pub places_on : EventIndex → Triple → List ℕ
places_on s t = unwrap_or (lookup (is_direction t) s.lists.entries) []

-- how many events a triple has
abbrev pub count_on : EventIndex → Triple → ℕ
count_on s t = length (places_on s t)

-- the place of a triple's event of this number
abbrev pub place_on : EventIndex → Triple → ℕ → Option ℕ
place_on s t n = slice_get (places_on s t) n

-- the list of a triple stands at this place
abbrev pub StandsAt : List (Direction × List ℕ) → Triple → ℕ → Type 0
StandsAt entries t i = (d : Direction) × (places : List ℕ) × (slice_get entries i ≡ Some (d, places)) × (is_direction t d ≡ true)

-- the same, or there is no such list
abbrev pub IsListOf : List (Direction × List ℕ) → Triple → Option ℕ → Type 0
IsListOf entries t None = lookup (is_direction t) entries ≡ None
IsListOf entries t (Some i) = StandsAt entries t i

-- each triple that passes the test has one event more, at this place
pub record HasOneMore (old : EventIndex) (test : Triple → Bool) (place : ℕ) (new : EventIndex) : Type 0 where
  pub counts : (t : Triple) → count_on new t ≡ (if test t then count_on old t + 1 else count_on old t)
  pub places : (t : Triple) (n : ℕ) → place_on new t n
      ≡ (if test t then (if count_on old t == n then Some place else place_on old t n) else place_on old t n)
