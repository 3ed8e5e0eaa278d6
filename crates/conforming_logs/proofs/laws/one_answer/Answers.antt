use Rattle.conform.specs.ByRole.{ConformsByRole, HasEndedByRole}
use Rattle.event_files.proofs.OneAnswer.{one_answer}
use Rattle.program_runs.specs.Books.{book_of}
use Rattle.conforming_logs.proofs.Transcripts.{goes_on}
use Rattle.conforming_logs.proofs.laws.one_answer.Goals as goal

pub returns : goal.returns
returns c f bytes a b book few x y m n = one_answer (book_of f) (ConformsByRole f) (HasEndedByRole f) book (goes_on f) bytes few a b x y m n
