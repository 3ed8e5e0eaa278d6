use Rattle.endpoint_check.proofs.Numbered.{numbered}
use Rattle.endpoint_check.proofs.programs.written_of.Goals as goal

pub returns-clause-numbered : goal.returns-clause-numbered
returns-clause-numbered g c = numbered c.args.input.now c.in_ok-written.written c.in_ok-written.ensures.known
