use Rattle.block_codes.proofs.Nodes.{statement_as, last_as, start_is, value_is, label_is, give_is, set_is, host_is, show_is, call_is, end_is}
use Rattle.block_codes.proofs.node.turn_of.Goals as goal

pub returns-in-Start : goal.returns-in-Start
returns-in-Start c = statement_as c.in-Start.is (start_is _ _ _ _ _)

pub returns-in-Value : goal.returns-in-Value
returns-in-Value c = statement_as c.in-Value.is (value_is _ _ _ _ _ _)

pub returns-in-Label : goal.returns-in-Label
returns-in-Label c = statement_as c.in-Label.is (label_is _ _ _ _ _)

pub returns-in-Give : goal.returns-in-Give
returns-in-Give c = statement_as c.in-Give.is (give_is _ _ _ _ _)

pub returns-in-Set : goal.returns-in-Set
returns-in-Set c = statement_as c.in-Set.is (set_is _ _ _ _)

pub returns-in-Host : goal.returns-in-Host
returns-in-Host c = statement_as c.in-Host.is (host_is _ _ _ _ _ _)

pub returns-in-Show : goal.returns-in-Show
returns-in-Show c = statement_as c.in-Show.is (show_is _ _ _)

pub returns-in-Call : goal.returns-in-Call
returns-in-Call c = last_as c.in-Call.is (call_is _ _ _)

pub returns-in-End : goal.returns-in-End
returns-in-End c = last_as c.in-End.is end_is
