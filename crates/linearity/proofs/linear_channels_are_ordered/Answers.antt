use Rattle.linearity.proofs.Orders.{linear_procedures, linear_main}
use Rattle.linearity.proofs.linear_channels_are_ordered.Goals as goal

pub returns-clause-procedures : goal.returns-clause-procedures
returns-clause-procedures c procs main a l = linear_procedures a procs main l

pub returns-clause-main : goal.returns-clause-main
returns-clause-main c procs main a l = linear_main a procs main l
