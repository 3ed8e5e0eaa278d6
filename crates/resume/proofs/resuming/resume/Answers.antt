use Rattle.chor_host.specs.Tables.{functions_of}
use Rattle.resume.proofs.Onward.{resumed}
use Rattle.resume.proofs.resuming.resume.Goals as goal

pub returns : goal.returns
returns g c = resumed (functions_of c.args.hosts.now) c.args.endpoints.now c.args.plan c.args.given.now c.in_ok-network.network c.in_ok-ran.ran c.in_ok-network.ensures.follows c.in_ok-ran.ensures
