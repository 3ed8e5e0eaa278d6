-- The lines of a transcript.
use Rattle.std.specs.Prelude.{◌≡◌, ◌<◌, ◌+◌, ◌^◌, ℕ, suc, List, [], ◌∷◌, ◌++◌, length}
use Rattle.std.specs.List.{AllByRecursion}
use Rattle.chor_base.specs.declared.event.Event.{Event}
use Rattle.transcript.specs.Text.{Words, event_text, transcript}
use Rattle.event_reader.specs.Fields.{IsFree}
use Rattle.event_reader.specs.Known.{HasEvent}
use Rattle.transcript_lines.specs.declared.last.Last.{Last}
use Rattle.transcript_lines.specs.Lines.{lines_of}
use Rattle.transcript_lines.specs.Last.{HasCount, last_text}

-- the texts of events, numbered from i on
abbrev pub event_lines : Words → ℕ → List Event → List (List ℕ)
event_lines w i [] = []
event_lines w i (e ∷ es) = event_text w i e ∷ event_lines w (suc i) es

-- events that the book has, few enough to be numbered
abbrev pub HasHistory : Words → List Event → Type 0
HasHistory w h = AllByRecursion (HasEvent w) h × (length h + 1 < 2 ^ 64)

-- A transcript's lines are the texts of its events and its last line
abbrev pub SplitsIntoEvents : Words → Type 0
SplitsIntoEvents w =
    (h : List Event) (last : List ℕ) → HasHistory w h → IsFree 10 last → lines_of (transcript w h last) ≡ event_lines w 1 h ++ last ∷ []

-- A transcript tells its events: two histories with one text are the same
abbrev pub TellsItsEvents : Words → Type 0
TellsItsEvents w =
    (h g : List Event) (l m : Last) → HasHistory w h → HasHistory w g → HasCount l → HasCount m → transcript w h (last_text l) ≡ transcript w g (last_text m) → h ≡ g
