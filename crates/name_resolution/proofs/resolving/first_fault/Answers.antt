use Rattle.std.proofs.Common.{sym, ap, ◌∙◌, subst}
use Rattle.chor_host.specs.Functions.{names_of}
use Rattle.chor_host.specs.Tables.{functions_of}
use Rattle.chor_tree.specs.Names.{IsNameFault}
use Rattle.chor_base.specs.Faults.{earlier, IsFirst}
use Rattle.name_resolution.proofs.Walks.{file_first}
use Rattle.name_resolution.proofs.resolving.first_fault.Goals as goal

pub returns : goal.returns
returns g c =
    let hosts = names_of (functions_of c.args.hosts.now) in
    let first = file_first c.in_ok-declared.declared.file.now hosts _ _ _ c.in_ok-declarations.ensures c.in_ok-main.ensures c.in_ok-procedures.ensures in
    let found = subst (λ o. IsFirst (IsNameFault c.in_ok-declared.declared.file.now hosts) o) (ap (λ o. earlier c.in_ok-declarations.declarations o) (sym c.earlier-bodies.ensures) ∙ sym c.earlier.ensures) first in
    subst (λ f. IsFirst (IsNameFault f hosts) c.earlier.result) c.in_ok-declared.ensures found
