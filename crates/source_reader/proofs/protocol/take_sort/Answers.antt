use Rattle.source_reader.proofs.Readers.{sort_halts}
use Rattle.source_reader.proofs.protocol.take_sort.Goals as goal

pub returns-in-None-clause-halts : goal.returns-in-None-clause-halts
returns-in-None-clause-halts c = sort_halts c.in-None.ensures.none c.refused.ensures
