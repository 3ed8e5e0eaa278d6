-- How many sessions and processes a run has (this project's own).
use Rattle.std.specs.Prelude.{ℕ, suc, List, [], ◌∷◌, map, max}
use Rattle.chor_base.specs.declared.names.NameId.{NameId}
use Rattle.chor_base.specs.declared.event.Event.{Event}
use Rattle.chor_base.specs.declared.event.Event.TheVariants.{Start}
use Rattle.chor_base.specs.declared.event.Entry.{Entry}

abbrev pub events_of : List Entry → List Event
events_of entries = map (λ entry. entry.event) entries

-- each start opens one session
abbrev pub sessions_in : List Event → ℕ
sessions_in [] = 0
sessions_in (Start c s parts ∷ xs) = suc (sessions_in xs)
sessions_in (_ ∷ xs) = sessions_in xs

-- how many processes there are after a start with these parts, of so many before: they are numbered from 0, new ones with the next numbers
abbrev pub grown : ℕ → List (NameId × ℕ) → ℕ
grown n [] = n
grown n (part ∷ parts) = grown (max n (suc part.1)) parts

-- how many processes there are after these events
abbrev pub processes_after : ℕ → List Event → ℕ
processes_after n [] = n
processes_after n (Start c s parts ∷ xs) = processes_after (grown n parts) xs
processes_after n (_ ∷ xs) = processes_after n xs
