use Rattle.grammar.proofs.Passing.{passes}
use Rattle.endpoint_reader.proofs.NameLists.{some_sessions, sessions_halt, no_sessions}
use Rattle.endpoint_reader.proofs.Known.{none_there}
use Rattle.endpoint_reader.proofs.lists.read_sessions.Goals as goal

pub returns-in_default-clause-reads : goal.returns-in_default-clause-reads
returns-in_default-clause-reads c = rw c.new.ensures (no_sessions c.in_default.ensures.none)

pub returns-in_err-names-clause-halts : goal.returns-in_err-names-clause-halts
returns-in_err-names-clause-halts c = passes _ _ c.from_residual.ensures.1 (sessions_halt c.in-Some.ensures.found c.in_err-names.ensures.halts)

pub returns-clause-reads : goal.returns-clause-reads
returns-clause-reads c = some_sessions _ c.in-Some.ensures.found c.in_ok-names.ensures.reads

pub returns-in_default-clause-known : goal.returns-in_default-clause-known
returns-in_default-clause-known c = none_there c.args.input.now _ c.new.ensures
