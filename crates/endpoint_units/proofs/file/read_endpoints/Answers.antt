use Rattle.endpoint_units.proofs.Wholes.{written_by, refused_by}
use Rattle.endpoint_units.proofs.file.read_endpoints.Goals as goal

pub returns-in-Ok-clause-found : goal.returns-in-Ok-clause-found
returns-in-Ok-clause-found c = written_by c.args.input.now c.in-Ok.ensures.reads

pub returns-in-Err-clause-denied : goal.returns-in-Err-clause-denied
returns-in-Err-clause-denied c = refused_by c.args.input.now _ _ c.in-Err.ensures.halts c.nameless.ensures
