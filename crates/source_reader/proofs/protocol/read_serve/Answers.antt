use Rattle.std.proofs.Common.{◌-◌}
use Rattle.source_reader.proofs.Readers.{served_leads, none_served_read, hands_on, hands_back}
use Rattle.source_reader.proofs.protocol.read_serve.Goals as goal

pub returns-in-Some-clause-reads : goal.returns-in-Some-clause-reads
returns-in-Some-clause-reads c = hands_on c.read_names.result c.args.input.now.tokens.now.items (served_leads (16 - c.args.active) c.in-Some.ensures.found) (rw c.saturating_sub.ensures at c.read_names.ensures.reads)

pub returns-in-Some-clause-halts : goal.returns-in-Some-clause-halts
returns-in-Some-clause-halts c = hands_back c.read_names.result (served_leads (16 - c.args.active) c.in-Some.ensures.found) (rw c.saturating_sub.ensures at c.read_names.ensures.halts)

pub returns-in-None-clause-reads : goal.returns-in-None-clause-reads
returns-in-None-clause-reads c = rw c.new.ensures (none_served_read _ c.in-None.ensures.none)
