use Rattle.transcript_lines.proofs.FeedFree.{transcript_splits}
use Rattle.transcript_lines.proofs.laws.transcript_splits.Goals as goal

pub returns : goal.returns
returns c = λ w words h last has free. transcript_splits w h last words has.0 has.1 free
