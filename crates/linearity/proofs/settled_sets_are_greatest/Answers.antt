use Rattle.linearity.proofs.Greatest.{full_upper, upper_taken, upper_main, settled_greatest}
use Rattle.linearity.proofs.settled_sets_are_greatest.Goals as goal

pub returns-clause-full : goal.returns-clause-full
returns-clause-full c = full_upper

pub returns-clause-procedure : goal.returns-clause-procedure
returns-clause-procedure c = upper_taken

pub returns-clause-main : goal.returns-clause-main
returns-clause-main c = upper_main

pub returns-clause-settled : goal.returns-clause-settled
returns-clause-settled c = settled_greatest
