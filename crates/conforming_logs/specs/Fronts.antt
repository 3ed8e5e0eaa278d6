-- What the parts of a judgement answer.
use Rattle.std.specs.Borrow.{Bor}
use Rattle.std.specs.Prelude.{ℕ, ◌≡◌, ◌↔◌, IsTrue, List, length, Result, Ok, Err}
use Rattle.chor_base.specs.declared.event.Event.{Event}
use Rattle.chor_tree.specs.declared.file.File.{File}
use Rattle.transcript.specs.Text.{Words}
use Rattle.replay.specs.declared.answer.Replayed.{Replayed}
use Rattle.replay.specs.declared.answer.ReplayFault.{ReplayFault}
use Rattle.event_files.specs.Fronts.{IsFront}
use Rattle.conform.specs.ByRole.{ConformsByRole, HasEndedByRole}
use Rattle.conforming_logs.specs.Logs.{ConformsFile}

-- As many events were read as stand there, and they conform; told is how many they are, and whether they have ended
pub record IsFollowed (w : Words) (f : File) (bytes : List ℕ) (r : Replayed) (left : List ℕ) : Type 0 where
  pub history : List Event
  pub front : IsFront w bytes history left
  pub conforms : ConformsByRole f history
  pub count : r.count ≡ length history
  pub ended : IsTrue r.ended ↔ HasEndedByRole f history

-- what is answered for the lines of events, with the bytes that are left; a fault is that of the whole file
abbrev pub IsAnswered : Words → File → List ℕ → Result (Replayed × Bor (List ℕ)) ReplayFault → Type 0
IsAnswered w f bytes (Ok r) = IsFollowed w f bytes r.0 r.1.now
IsAnswered w f bytes (Err e) = ConformsFile w f bytes (Err e)
