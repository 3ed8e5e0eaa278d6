use Rattle.chor_host.specs.Functions.{names_of}
use Rattle.chor_host.specs.Tables.{functions_of}
use Rattle.name_resolution.specs.InProcedures.{IsFaultInProcedures}
use Rattle.name_resolution.proofs.Walks.{procedures_turn, procedures_end}
use Rattle.name_resolution.proofs.declared.Declared.first_in_procedure_bodies.Goals as goal

pub loop-procedure-preserved : goal.loop-procedure-preserved
loop-procedure-preserved g c =
    let f = c.args.self.now.file.now in
    let hosts = names_of (functions_of c.args.hosts.now) in
    procedures_turn f hosts (IsFaultInProcedures f hosts f.procs) c.loop-procedure.first c.in_ok-found.found _ _ f.procs c.loop-procedure.procedure-index c.procedure-item.result
    c.as_slice-procedure-items.ensures c.loop-procedure-test.true c.procedure-item.is c.in_ok-found.ensures c.earlier-first.ensures c.loop-procedure.invariant

pub returns : goal.returns
returns g c =
    let f = c.args.self.now.file.now in
    let hosts = names_of (functions_of c.args.hosts.now) in
    procedures_end f hosts (IsFaultInProcedures f hosts f.procs) c.loop-procedure.first _ f.procs c.loop-procedure.procedure-index c.as_slice-procedure-items.ensures c.loop-procedure-test.false c.loop-procedure.invariant
