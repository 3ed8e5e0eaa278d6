use Rattle.std.proofs.Common.{refl, ◌∙◌}
use Rattle.endpoint_link.specs.InTables.{IsProcedureLinkedIn, IsServiceLinkedIn, IsProcessLinkedIn}
use Rattle.endpoint_link.proofs.Together.{channels_numbered, procedures_inside, procedures_numbered, services_inside, services_numbered, processes_inside, processes_numbered, all_linked, zip_for}
use Rattle.endpoint_link.proofs.linking.linked_programs.Goals as goal

pub invariant_of-result : goal.invariant_of-result
invariant_of-result c =
    let e = c.args.base.now in
    let g = c.args.given.now in
    let j = c.args.joined in
    let p = c.requires.joined in
    let qs = c.in_ok-procedures.procedures in
    let ss = c.in_ok-services.services in
    let ps = c.in_ok-processes.processes in
    let procedures = zip_for (IsProcedureLinkedIn j) _ g.procedures _ e.procedures qs c.as_slice-3.ensures c.as_slice-2.ensures c.in_ok-procedures.ensures in
    let services = zip_for (IsServiceLinkedIn j) _ g.services _ e.services ss c.as_slice-5.ensures c.as_slice-4.ensures c.in_ok-services.ensures in
    let processes = zip_for (IsProcessLinkedIn j) _ g.processes _ e.processes ps c.as_slice-7.ensures c.as_slice-6.ensures c.in_ok-processes.ensures in
    record {
      inside = record {
        in_procedures = procedures_inside e g j p qs procedures;
        in_services = services_inside e g j p ss services;
        in_processes = processes_inside e g j p ps processes;
      };
      numbered = record {
        in_channels = channels_numbered e g j p c.in_ok-channels.channels (c.in_ok-channels.ensures ∙ c.as_slice.ensures);
        in_procedures = procedures_numbered e g j p qs procedures;
        in_services = services_numbered e g j p ss services;
        in_processes = processes_numbered e g j p ps processes;
        in_nodes = p.there;
      };
    }

pub returns-clause-linked : goal.returns-clause-linked
returns-clause-linked c =
    let e = c.args.base.now in
    let g = c.args.given.now in
    let j = c.args.joined in
    let qs = c.in_ok-procedures.procedures in
    let ss = c.in_ok-services.services in
    let ps = c.in_ok-processes.processes in
    all_linked e g j c.requires.joined _ refl refl refl c.requires.suit (c.in_ok-channels.ensures ∙ c.as_slice.ensures)
    (zip_for (IsProcedureLinkedIn j) _ g.procedures _ e.procedures qs c.as_slice-3.ensures c.as_slice-2.ensures c.in_ok-procedures.ensures)
    (zip_for (IsServiceLinkedIn j) _ g.services _ e.services ss c.as_slice-5.ensures c.as_slice-4.ensures c.in_ok-services.ensures)
    (zip_for (IsProcessLinkedIn j) _ g.processes _ e.processes ps c.as_slice-7.ensures c.as_slice-6.ensures c.in_ok-processes.ensures)
