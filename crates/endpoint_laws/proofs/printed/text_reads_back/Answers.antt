use Rattle.endpoint_laws.proofs.Programs.{are_same, are_copies}
use Rattle.endpoint_laws.proofs.printed.text_reads_back.Goals as goal

pub returns-clause-same : goal.returns-clause-same
returns-clause-same c = are_same

pub returns-clause-copies : goal.returns-clause-copies
returns-clause-copies c = are_copies
