use Rattle.chor_host.specs.Functions.{names_of}
use Rattle.chor_host.specs.Tables.{functions_of}
use Rattle.chor_tree.specs.Names.{scope_of_procedure}
use Rattle.name_resolution.proofs.Walks.{ok_same}
use Rattle.name_resolution.proofs.declared.Declared.first_in_procedure_body.Goals as goal

pub returns : goal.returns
returns g c =
    let p = c.args.procedure.now in
    ok_same c.args.self.now.file.now (names_of (functions_of c.args.hosts.now)) c.in_ok-bound.bound (scope_of_procedure p) p.body c.first_in_body.result c.in_ok-bound.ensures c.first_in_body.ensures.first
