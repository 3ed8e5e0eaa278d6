use Rattle.projected_programs.proofs.Transcripts.{transcript_agrees}
use Rattle.projected_programs.proofs.same_bytes.transcripts_of_bytes_agree.Goals as goal

pub returns : goal.returns
returns g functions bytes e f cap seed steps text stuck p q t = transcript_agrees functions bytes e f cap seed steps text stuck p q t
