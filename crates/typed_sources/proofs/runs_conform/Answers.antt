use Rattle.typed_sources.proofs.Laws.{conform, end}
use Rattle.typed_sources.proofs.runs_conform.Goals as goal

pub returns-clause-conform : goal.returns-clause-conform
returns-clause-conform c = conform

pub returns-clause-end : goal.returns-clause-end
returns-clause-end c = end
