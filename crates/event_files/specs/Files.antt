-- Files of events that are replayed (this project's own). What a run is, and when one has ended, is told by whoever replays.
use Rattle.std.specs.Prelude.{ℕ, ◌≡◌, ◌+◌, ◌↔◌, IsTrue, List, [], ◌∷◌, ◌++◌, length, Result, Ok, Err}
use Rattle.std.specs.List.{AllByRecursion}
use Rattle.chor_base.specs.declared.event.Event.{Event}
use Rattle.transcript.specs.Text.{Words, event_text}
use Rattle.event_reader.specs.Known.{HasEvent}
use Rattle.replay.specs.declared.answer.Replayed.{Replayed}
use Rattle.replay.specs.declared.answer.ReplayFault.{ReplayFault}
use Rattle.replay.specs.declared.answer.ReplayFault.TheVariants.{Unmatched, Memory}
use Rattle.transcript_lines.specs.declared.last.Last.TheVariants.{End, Limit}
use Rattle.transcript_lines.specs.Lines.{lines_of}
use Rattle.transcript_lines.specs.Last.{last_text}
use Rattle.transcript_lines.specs.Split.{event_lines}

-- the line closes a run of N events: `end N` where it has ended, or `limit N` whether or not it has
pub data Closes (IsEnded : List Event → Type 0) (h : List Event) (line : List ℕ) : Type 0 where
  at_end : line ≡ last_text (End (length h)) → IsEnded h → Closes IsEnded h line
  at_limit : line ≡ last_text (Limit (length h)) → Closes IsEnded h line

-- A line matches after the events of a run, where these lines follow it: it is the text of an event with the next number,
-- and the events with this one are a run; or no line follows it, and it closes the run
pub data Matches (w : Words) (IsRun IsEnded : List Event → Type 0) (h : List Event) (line : List ℕ) (rest : List (List ℕ)) : Type 0 where
  goes_on : (e : Event) → HasEvent w e → line ≡ event_text w (length h + 1) e → IsRun (h ++ e ∷ []) → Matches w IsRun IsEnded h line rest
  closes : rest ≡ [] → Closes IsEnded h line → Matches w IsRun IsEnded h line rest

-- what follows the events of a run: nothing, or one line that closes it
abbrev pub IsClosedBy : (List Event → Type 0) → List Event → List (List ℕ) → Type 0
IsClosedBy IsEnded h [] = Unit {0}
IsClosedBy IsEnded h (line ∷ []) = Closes IsEnded h line
IsClosedBy IsEnded h (line ∷ more ∷ lines) = ⊥

-- Each line matches: first stand the texts of the events of a run, numbered from 1, and then nothing or a line that closes
-- it. Told are how many events there are, and whether their run has ended
pub record IsReplayed (w : Words) (IsRun IsEnded : List Event → Type 0) (lines : List (List ℕ)) (r : Replayed) : Type 0 where
  pub history : List Event
  pub known : AllByRecursion (HasEvent w) history
  pub run : IsRun history
  pub closing : List (List ℕ)
  pub lines_are : lines ≡ event_lines w 1 history ++ closing
  pub closed : IsClosedBy IsEnded history closing
  pub count : r.count ≡ length history
  pub ended : IsTrue r.ended ↔ IsEnded history

-- Line i is the first that doesn't match: the lines before it are the texts of the events of a run, and it doesn't match after them
pub record IsUnmatched (w : Words) (IsRun IsEnded : List Event → Type 0) (lines : List (List ℕ)) (i : ℕ) : Type 0 where
  pub history : List Event
  pub known : AllByRecursion (HasEvent w) history
  pub run : IsRun history
  pub line : List ℕ
  pub rest : List (List ℕ)
  pub lines_are : lines ≡ event_lines w 1 history ++ line ∷ rest
  pub number : i ≡ length history + 1
  pub none : Matches w IsRun IsEnded history line rest → ⊥

-- What a replay of a file with these bytes answers. Want of memory tells nothing
abbrev pub ReplaysFile : Words → (List Event → Type 0) → (List Event → Type 0) → List ℕ → Result Replayed ReplayFault → Type 0
ReplaysFile w IsRun IsEnded bytes (Ok r) = IsReplayed w IsRun IsEnded (lines_of bytes) r
ReplaysFile w IsRun IsEnded bytes (Err (Unmatched i)) = IsUnmatched w IsRun IsEnded (lines_of bytes) i
ReplaysFile w IsRun IsEnded bytes (Err Memory) = Unit {0}
