-- How many lines a file of events has (this project's own).
use Rattle.std.specs.Prelude.{ℕ, ◌≡◌, ◌≤◌, ◌++◌, true, List, length}
use Rattle.transcript_lines.specs.Lines.{lines_of}
use Rattle.transcript_lines.specs.Whole.{whole_lines}
use Rattle.event_files.specs.Fronts.{AreClosing}

-- the lines are at most so many, beside a last one that closes a run of so many events
pub record AreFewLines (most : ℕ) (lines : List (List ℕ)) : Type 0 where
  pub counted : List (List ℕ)
  pub closing : List (List ℕ)
  pub lines_are : lines ≡ counted ++ closing
  pub few : length counted ≤ most
  pub closed : AreClosing (record { count = most; ended = true }) closing

-- so are the whole lines of a file
abbrev pub HasFewLines : ℕ → List ℕ → Type 0
HasFewLines most bytes = AreFewLines most (lines_of (whole_lines bytes))
