use Rattle.std.proofs.Common.{sym, subst}
use Rattle.chor_base.specs.Faults.{IsFirst}
use Rattle.chor_base.proofs.Faults.{first_denied}
use Rattle.chor_host.specs.Functions.{names_of}
use Rattle.chor_host.specs.Tables.{functions_of}
use Rattle.typing_rules.specs.TypeFaults.{IsTypeFault}
use Rattle.type_check.specs.Typed.{HasFineNames}
use Rattle.type_check.proofs.checking.check_types.Goals as goal

pub first_type_fault-requires : goal.first_type_fault-requires
first_type_fault-requires g c = record { hosts = names_of (functions_of c.args.hosts.now); names = c.requires.names }

pub new-requires : goal.new-requires
new-requires g c = record {
  names = subst (λ l. HasFineNames l c.args.file) (sym c.in_ok-names-in-None.ensures) c.requires.names;
  protocols = c.requires.protocols;
  views = c.requires.views;
  types = subst (λ o. IsFirst (IsTypeFault c.args.file) o) c.in-None.is c.in_ok-fault.ensures;
}

pub returns-in-Some-clause-refused : goal.returns-in-Some-clause-refused
returns-in-Some-clause-refused g c =
    first_denied (IsTypeFault c.args.file) c.in-Some.fault c.denied.result
    (subst (λ o. IsFirst (IsTypeFault c.args.file) o) c.in-Some.is c.in_ok-fault.ensures) c.denied.ensures

pub returns-in_ok-names-in-None-clause-typed : goal.returns-in_ok-names-in-None-clause-typed
returns-in_ok-names-in-None-clause-typed g c = subst (λ o. IsFirst (IsTypeFault c.args.file) o) c.in-None.is c.in_ok-fault.ensures
