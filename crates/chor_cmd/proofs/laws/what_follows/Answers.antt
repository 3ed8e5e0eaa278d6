use Rattle.chor_cmd.proofs.Follows.{writes_canonical, keeps_canonical, executes_these}
use Rattle.chor_cmd.proofs.NoWorkers.{writes_nothing}
use Rattle.chor_cmd.proofs.laws.what_follows.Goals as goal

pub returns-clause-canonical : goal.returns-clause-canonical
returns-clause-canonical c = writes_canonical

pub returns-clause-same : goal.returns-clause-same
returns-clause-same c = keeps_canonical

pub returns-clause-executed : goal.returns-clause-executed
returns-clause-executed c = executes_these

pub returns-clause-nothing : goal.returns-clause-nothing
returns-clause-nothing c = writes_nothing
