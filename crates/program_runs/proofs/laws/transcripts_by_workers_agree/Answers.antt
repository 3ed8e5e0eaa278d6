use Rattle.program_runs.proofs.SameTranscriptsBy.{transcript_same}
use Rattle.program_runs.proofs.laws.transcripts_by_workers_agree.Goals as goal

pub returns : goal.returns
returns c functions e e' cap steps text stuck copy t = transcript_same functions e e' cap steps text stuck copy t
