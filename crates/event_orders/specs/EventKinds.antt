-- Kinds of events, and who participates in an event.
use Rattle.std.specs.Prelude.{ℕ, ◌+◌, ◌≡◌, ◌==◌, ◌||◌, Bool, true, false, List, [], ◌∷◌}
use Rattle.chor_base.specs.declared.event.Event.{Event}
use Rattle.chor_base.specs.declared.event.Event.TheVariants.{Start, Send, Recv}
use Rattle.chor_base.specs.Events.{Triple, triple_eq, actors_of}

-- The kinds of events that are counted: sends on a triple, receipts on a triple, and starts
pub data EventKind : Type 0 where
  Sends : (t : Triple) → EventKind
  Receives : (t : Triple) → EventKind
  Starts : EventKind

-- an event is of a kind
abbrev pub has_kind : EventKind → Event → Bool
has_kind (Sends t) (Send p s a b l) = triple_eq t (s, a, b)
has_kind (Receives t) (Recv p s a b l) = triple_eq t (s, a, b)
has_kind Starts (Start c s parts) = true
has_kind _ _ = false

-- 1 for true, 0 for false
abbrev pub one_if : Bool → ℕ
one_if true = 1
one_if false = 0

-- how many of these events are of a kind
abbrev pub count : EventKind → List Event → ℕ
count k [] = 0
count k (x ∷ xs) = one_if (has_kind k x) + count k xs

-- a number is in a list
abbrev pub is_in : ℕ → List ℕ → Bool
is_in p [] = false
is_in p (q ∷ qs) = (p == q) || is_in p qs

-- process p participates in an event; in a start all its processes do, new ones too
abbrev pub participates : ℕ → Event → Bool
participates p x = is_in p (actors_of x)

-- no process participates in both events
abbrev pub ShareNoProcess : Event → Event → Type 0
ShareNoProcess x y = (p : ℕ) → participates p x ≡ true → participates p y ≡ true → ⊥
