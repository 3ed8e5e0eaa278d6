use Rattle.chor_host.specs.Functions.{hosts_in}
use Rattle.chor_host.specs.Tables.{functions_of}
use Rattle.resume.proofs.Along.{Along}
use Rattle.resume.proofs.following.follow_given.Given as goal

abbrev pub invariant-loop-place : goal.invariant-loop-place
invariant-loop-place g l = Along l.endpoints (hosts_in l.endpoints.names (functions_of l.hosts)) l.fn.plan.capacity l.given l.most l.place l.network
