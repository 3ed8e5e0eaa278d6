use Rattle.grammar.proofs.Passing.{passes}
use Rattle.endpoint_reader.proofs.RoleLists.{some_served, some_served_halts, none_served, none_served_halts}
use Rattle.endpoint_reader.proofs.Known.{none_there}
use Rattle.endpoint_reader.proofs.roles.read_serving.Goals as goal

pub returns-in_err-end-clause-halts : goal.returns-in_err-end-clause-halts
returns-in_err-end-clause-halts c = passes _ _ c.from_residual.ensures.1 (none_served_halts c.in_default.ensures.none c.in_err-end.ensures.halts)

pub returns-in_default-clause-reads : goal.returns-in_default-clause-reads
returns-in_default-clause-reads c = rw c.new.ensures (none_served c.in_default.ensures.none c.in_ok-end.ensures.reads)

pub returns-in_err-serve-clause-halts : goal.returns-in_err-serve-clause-halts
returns-in_err-serve-clause-halts c = passes _ _ c.from_residual-in_err-serve.ensures.1 (some_served_halts c.in-Some.ensures.found c.in_err-serve.ensures.halts)

pub returns-clause-reads : goal.returns-clause-reads
returns-clause-reads c = some_served c.in-Some.ensures.found c.in_ok-serve.ensures.reads

pub returns-in_default-clause-known : goal.returns-in_default-clause-known
returns-in_default-clause-known c = none_there c.args.input.now _ c.new.ensures
