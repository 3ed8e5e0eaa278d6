use Rattle.std.proofs.Common.{◌∙◌, ap, map, refl}
use Rattle.projection.specs.Projects.{names_of}
use Rattle.projection.specs.MergeFaults.{sites_of}
use Rattle.block_codes.specs.Walks.{StopsAt}
use Rattle.block_codes.proofs.Zips.{stops_by}
use Rattle.file_codes.specs.Units.{process_from}
use Rattle.service_codes.proofs.Names.{body_inside}
use Rattle.file_codes.proofs.Bodies.{stops_in_procs, stops_in_main, units_made}
use Rattle.file_codes.proofs.units.units_of.Goals as goal

pub codes_from-requires-clause-inside : goal.codes_from-requires-clause-inside
codes_from-requires-clause-inside c = body_inside c.args.file.now

pub returns-in_err-procedures-clause-stopped : goal.returns-in_err-procedures-clause-stopped
returns-in_err-procedures-clause-stopped c =
    let f = c.args.file.now in
    stops_by (StopsAt f (sites_of f)) c.from_residual.result c.in_err-procedures.field-0.0 c.from_residual.ensures.1 (stops_in_procs f c.in_err-procedures.field-0.0 c.in_err-procedures.ensures.stopped)

pub returns-in_err-list-clause-stopped : goal.returns-in_err-list-clause-stopped
returns-in_err-list-clause-stopped c =
    let f = c.args.file.now in
    stops_by (StopsAt f (sites_of f)) c.from_residual-in_err-list.result c.in_err-list.field-0.0 c.from_residual-in_err-list.ensures.1
    (stops_in_main f c.in_ok-procedures.procedures c.in_ok-procedures.ensures.procedures c.as_slice-2.result.now (c.as_slice-2.ensures ∙ c.in_ok-scope.ensures ∙ ap names_of c.as_slice.ensures)
    c.in_err-list.field-0.0 c.in_err-list.ensures.stopped)

pub returns-clause-units : goal.returns-clause-units
returns-clause-units c =
    units_made c.args.file.now c.in_ok-procedures.procedures c.in_ok-procedures.ensures.procedures c.as_slice-2.result.now (c.as_slice-2.ensures ∙ c.in_ok-scope.ensures ∙ ap names_of c.as_slice.ensures)
    c.codes_from.new.code c.in_ok-list.list c.in_ok-procedures.procedures c.in_ok-processes_of.field-0 c.in_ok-list.ensures.codes refl
    (c.in_ok-processes_of.ensures ∙ ap (map process_from) c.as_slice-3.ensures)
