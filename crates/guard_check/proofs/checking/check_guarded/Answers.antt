use Rattle.std.proofs.Common.{subst}
use Rattle.chor_base.specs.Faults.{IsFirst}
use Rattle.chor_base.proofs.Faults.{first_denied}
use Rattle.typing_rules.specs.Guarded.{IsGuardFault}
use Rattle.guard_check.proofs.checking.check_guarded.Goals as goal

pub returns-in-Some-clause-refused : goal.returns-in-Some-clause-refused
returns-in-Some-clause-refused c =
    first_denied (IsGuardFault c.args.file.now) c.in-Some.fault c.denied.result
    (subst (λ o. IsFirst (IsGuardFault c.args.file.now) o) c.in-Some.is c.in_ok-first_unguarded.ensures) c.denied.ensures

pub returns-in-None-clause-ok : goal.returns-in-None-clause-ok
returns-in-None-clause-ok c = subst (λ o. IsFirst (IsGuardFault c.args.file.now) o) c.in-None.is c.in_ok-first_unguarded.ensures
