use Rattle.std.proofs.Common.{subst}
use Rattle.chor_host.specs.Functions.{names_of}
use Rattle.chor_host.specs.Tables.{functions_of}
use Rattle.chor_base.specs.Faults.{IsFirst}
use Rattle.chor_base.proofs.Faults.{first_denied}
use Rattle.chor_tree.specs.Names.{IsNameFault}
use Rattle.name_resolution.proofs.resolving.resolve.Goals as goal

pub returns-in-Some-clause-refused : goal.returns-in-Some-clause-refused
returns-in-Some-clause-refused g c =
    let hosts = names_of (functions_of c.args.hosts.now) in
    first_denied (IsNameFault c.args.file.now hosts) c.in-Some.fault c.denied.result
    (subst (λ o. IsFirst (IsNameFault c.args.file.now hosts) o) c.in-Some.is c.in_ok-first_fault.ensures) c.denied.ensures
