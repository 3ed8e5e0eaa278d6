-- Lists of processes by what they wait for (this project's own).
use Rattle.std.specs.Prelude.{ℕ, ◌==◌, ◌&&◌, ◌≡◌, ◌++◌, ◌∷◌, Bool, true, false, List, [], Option, Some, None, slice_get, if◌then◌else◌}
use Rattle.std.specs.Map.{lookup}
use Rattle.waiting_processes.specs.declared.waits.Awaited.{Awaited}
use Rattle.waiting_processes.specs.declared.waits.Awaited.TheVariants.{Queue, Channel}
use Rattle.waiting_processes.specs.declared.lists.WaitingLists.{WaitingLists}

abbrev pub same_awaited : Awaited → Awaited → Bool
same_awaited (Queue s a b) (Queue t c d) = (s == t) && ((a.0 == c.0) && (b.0 == d.0))
same_awaited (Channel c) (Channel d) = c.0 == d.0
same_awaited (Queue s a b) (Channel d) = false
same_awaited (Channel c) (Queue t a b) = false

abbrev pub list_of : Option (List ℕ) → List ℕ
list_of None = []
list_of (Some ps) = ps

-- the list of those that wait for this
abbrev pub waiting_for : WaitingLists → Awaited → List ℕ
waiting_for l w = list_of (lookup (same_awaited w) l.lists.entries)

-- a list of those that wait for this stands at this place
abbrev pub StandsAt : List (Awaited × List ℕ) → Awaited → ℕ → Type 0
StandsAt entries w i = (v : Awaited) × (ps : List ℕ) × (slice_get entries i ≡ Some (v, ps)) × (same_awaited w v ≡ true)

-- the same, or there is no such list
abbrev pub IsPlaceOf : List (Awaited × List ℕ) → Awaited → Option ℕ → Type 0
IsPlaceOf entries w None = lookup (same_awaited w) entries ≡ None
IsPlaceOf entries w (Some i) = StandsAt entries w i

-- a process has come last in the list of those that wait for this, and the other lists are as they were
abbrev pub HasCome : WaitingLists → Awaited → ℕ → WaitingLists → Type 0
HasCome old w p new = (v : Awaited) → waiting_for new v ≡ (if same_awaited w v then waiting_for old w ++ p ∷ [] else waiting_for old v)
