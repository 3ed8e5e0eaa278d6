use Rattle.std.proofs.Common.{subst}
use Rattle.chor_base.specs.Faults.{IsFirst}
use Rattle.chor_base.proofs.Faults.{first_denied}
use Rattle.linearity.specs.OrderFaults.{IsOrderFault}
use Rattle.linear_check.proofs.checking.check_linear.Goals as goal

pub returns-in-Some-clause-refused : goal.returns-in-Some-clause-refused
returns-in-Some-clause-refused c =
    first_denied (IsOrderFault c.args.file.now) c.in-Some.fault c.denied.result
    (subst (λ o. IsFirst (IsOrderFault c.args.file.now) o) c.in-Some.is c.in_ok-first_unordered.ensures.first) c.denied.ensures

pub returns-in-None-clause-ok : goal.returns-in-None-clause-ok
returns-in-None-clause-ok c = c.in_ok-first_unordered.ensures.linear c.in-None.is
