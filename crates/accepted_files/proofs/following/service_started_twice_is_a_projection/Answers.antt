use Rattle.accepted_files.proofs.ServiceTwice.{no_sets, no_lists, is_projection, is_unhindered}
use Rattle.accepted_files.proofs.following.service_started_twice_is_a_projection.Goals as goal

pub returns-clause-whole : goal.returns-clause-whole
returns-clause-whole c tree kept code inside numbered = (no_sets, no_lists, is_projection tree kept code inside numbered (c.service_started_twice.ensures.whole tree kept code inside numbered))

pub returns-clause-unhindered : goal.returns-clause-unhindered
returns-clause-unhindered c tree kept code inside numbered hosts cap room = is_unhindered tree kept code inside numbered hosts cap room
