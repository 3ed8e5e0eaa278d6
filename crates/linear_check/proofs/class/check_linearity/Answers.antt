use Rattle.std.proofs.Common.{subst, inl}
use Rattle.chor_base.specs.Faults.{IsFirst}
use Rattle.chor_base.proofs.Faults.{first_denied}
use Rattle.linear_check.specs.Class.{IsLinearityFault}
use Rattle.linear_check.proofs.class.check_linearity.Goals as goal

pub returns-in-Some-clause-refused : goal.returns-in-Some-clause-refused
returns-in-Some-clause-refused c =
    first_denied (IsLinearityFault c.args.file.now) c.in-Some.fault c.denied.result
    (subst (λ o. IsFirst (IsLinearityFault c.args.file.now) o) c.in-Some.is c.in_ok-first_fault.ensures.first) c.denied.ensures

pub returns-in-None-clause-guarded : goal.returns-in-None-clause-guarded
returns-in-None-clause-guarded c = λ x g. subst (λ o. IsFirst (IsLinearityFault c.args.file.now) o) c.in-None.is c.in_ok-first_fault.ensures.first x (inl g)

pub returns-in-None-clause-linear : goal.returns-in-None-clause-linear
returns-in-None-clause-linear c = c.in_ok-first_fault.ensures.linear c.in-None.is
