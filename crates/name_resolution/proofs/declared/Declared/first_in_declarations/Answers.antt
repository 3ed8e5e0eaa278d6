use Rattle.std.proofs.Common.{[], ◌++◌, map, ap, ◌∙◌}
use Rattle.std.specs.List.{flat_map}
use Rattle.chor_tree.specs.Names.{repeated, protocol_faults, channel_faults, procedure_faults}
use Rattle.chor_base.specs.Faults.{first_of_all}
use Rattle.chor_base.proofs.Faults.{first_of_two}
use Rattle.name_resolution.proofs.Members.{map_itself}
use Rattle.name_resolution.proofs.declared.Declared.first_in_declarations.Goals as goal

pub returns : goal.returns
returns c =
    let f = c.args.self.now.file.now in
    let protocols = repeated [] (map (λ p. p.name) f.protocols) in
    let in_protocols = flat_map (protocol_faults f) f.protocols in
    let channels = repeated [] (map (λ s. s.name) f.services) in
    let in_channels = flat_map (channel_faults f) f.services in
    let procedures = repeated [] (map (λ p. p.name) f.procs) in
    let in_procedures = flat_map (procedure_faults f) f.procs in
    first_of_two (protocols ++ in_protocols ++ channels ++ in_channels ++ procedures ++ in_procedures) (repeated [] f.processes) _ _ _ c.earlier-4.ensures
    (first_of_two (protocols ++ in_protocols ++ channels ++ in_channels ++ procedures) in_procedures _ _ _ c.earlier-3.ensures
    (first_of_two (protocols ++ in_protocols ++ channels ++ in_channels) procedures _ _ _ c.earlier-2.ensures
    (first_of_two (protocols ++ in_protocols ++ channels) in_channels _ _ _ c.earlier-with_channels.ensures
    (first_of_two (protocols ++ in_protocols) channels _ _ _ c.earlier.ensures
    (first_of_two protocols in_protocols _ _ _ c.earlier-protocols.ensures c.in_ok-twice_in.ensures c.in_ok-first_in_protocols.ensures)
    c.in_ok-channels.ensures)
    c.first_in_channels.ensures)
    c.in_ok-names.ensures)
    c.in_ok-heads.ensures)
    (c.in_ok-processes.ensures ∙ ap (λ l. first_of_all (repeated [] l)) (map_itself f.processes))
