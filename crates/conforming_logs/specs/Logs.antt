-- Files of events that are judged by the protocols of a source, role by role (this project's own).
use Rattle.std.specs.Prelude.{ℕ, List, Result}
use Rattle.chor_tree.specs.declared.file.File.{File}
use Rattle.transcript.specs.Text.{Words}
use Rattle.program_runs.specs.Books.{book_of}
use Rattle.replay.specs.declared.answer.Replayed.{Replayed}
use Rattle.replay.specs.declared.answer.ReplayFault.{ReplayFault}
use Rattle.event_files.specs.Files.{ReplaysFile}
use Rattle.source_check.specs.Classes.{classes_of, IsFaultless}
use Rattle.source_check.specs.declared.rules.Rules.TheVariants.{Views}
use Rattle.conform.specs.ByRole.{ConformsByRole, HasEndedByRole}

-- the file violates no rule of names, protocols and views, whichever host functions there are
abbrev pub IsJudgeable : File → Type 0
IsJudgeable f = (hosts : List (List ℕ)) × IsFaultless hosts f (classes_of Views)

-- A line matches where the events so far conform by role; the last may be `limit N`, and `end N` where they have ended by role
abbrev pub ConformsFile : Words → File → List ℕ → Result Replayed ReplayFault → Type 0
ConformsFile w f bytes result = ReplaysFile w (ConformsByRole f) (HasEndedByRole f) bytes result

-- What is answered of a file of events with the names and texts of a source
abbrev pub ConformsSource : File → List ℕ → Result Replayed ReplayFault → Type 0
ConformsSource f bytes result = ConformsFile (book_of f) f bytes result
