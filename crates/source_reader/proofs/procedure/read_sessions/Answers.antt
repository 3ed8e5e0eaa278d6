use Rattle.source_reader.proofs.Readers.{sessions_lead, no_sessions_read, hands_on, hands_back}
use Rattle.source_reader.proofs.procedure.read_sessions.Goals as goal

pub returns-in-Some-clause-reads : goal.returns-in-Some-clause-reads
returns-in-Some-clause-reads c = hands_on c.read_session_params.result c.args.input.now.tokens.now.items (sessions_lead c.in-Some.ensures.found) c.read_session_params.ensures.reads

pub returns-in-Some-clause-halts : goal.returns-in-Some-clause-halts
returns-in-Some-clause-halts c = hands_back c.read_session_params.result (sessions_lead c.in-Some.ensures.found) c.read_session_params.ensures.halts

pub returns-in-None-clause-reads : goal.returns-in-None-clause-reads
returns-in-None-clause-reads c = rw c.new.ensures (no_sessions_read c.in-None.ensures.none)
