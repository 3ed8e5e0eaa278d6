use Rattle.program_runs.proofs.SameTranscripts.{transcript_same}
use Rattle.program_runs.proofs.laws.transcripts_agree.Goals as goal

pub returns : goal.returns
returns g functions e e' cap seed steps text stuck c t = transcript_same functions e e' cap seed steps text stuck c t
