use Rattle.std.proofs.Common.{ap, ◌∙◌, map, ◌∷◌, ◌++◌}
use Rattle.std.specs.List.{flat_map}
use Rattle.chor_tree.specs.Names.{unknown, channels_of, channel_of, wrong_parts, unknown_process, named_as_channel, repeated}
use Rattle.chor_base.specs.Faults.{first_of_all}
use Rattle.chor_base.proofs.Faults.{first_of_two}
use Rattle.name_resolution.proofs.declared.Declared.first_in_start.Goals as goal

pub returns-clause-fault : goal.returns-clause-fault
returns-clause-fault c =
    let f = c.args.self.now.file.now in
    let s = c.args.bound.now in
    let channel = c.args.channel.now in
    let active = c.args.active.now in
    let serve = c.args.serve.now in
    let session = c.args.session.now in
    let is_channel = unknown (channels_of f) channel in
    let parts = wrong_parts (channel_of f channel.name) channel active serve in
    let processes = flat_map (λ q. unknown_process s q.process) active in
    let named = named_as_channel f session in
    let twice = repeated (s.processes ++ s.sessions) (session ∷ map (λ q. q.process) serve) in
    first_of_two (is_channel ++ parts ++ processes ++ named) twice _ _ _ c.earlier-3.ensures
    (first_of_two (is_channel ++ parts ++ processes) named _ _ _ c.earlier-2.ensures
    (first_of_two (is_channel ++ parts) processes _ _ _ c.earlier.ensures
    (first_of_two is_channel parts _ _ _ c.earlier-parts.ensures c.unknown_channel.ensures (c.wrong_parts.ensures ∙ ap (λ o. first_of_all (wrong_parts o channel active serve)) c.channel.ensures))
    c.unknown_in_parts-processes.ensures)
    c.named_as_channel-named.ensures)
    c.in_ok-twice.ensures.fault
