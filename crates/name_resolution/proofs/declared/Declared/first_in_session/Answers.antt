use Rattle.std.proofs.Common.{ap, ◌∙◌, map, [], ◌++◌}
use Rattle.std.specs.List.{flat_map}
use Rattle.chor_tree.specs.Names.{repeated, unknown, unknown_role, named_as_channel, protocols_of, protocol_of}
use Rattle.chor_base.specs.Faults.{first_of_all}
use Rattle.chor_base.proofs.Faults.{first_of_two}
use Rattle.name_resolution.proofs.declared.Declared.first_in_session.Goals as goal

pub returns : goal.returns
returns c =
    let f = c.args.self.now.file.now in
    let k = c.args.session.now in
    let ps = map (λ q. q.name.name) c.args.params.now in
    let names = named_as_channel f k.name ++ unknown (protocols_of f) k.protocol in
    let holders = flat_map (λ h. unknown_role (protocol_of f k.protocol.name) h.0 ++ unknown ps h.1) k.holders in
    first_of_two (names ++ holders) (repeated [] (map (λ h. h.0) k.holders)) _ _ _ c.earlier-2.ensures
    (first_of_two names holders _ _ _ c.earlier.ensures
    (first_of_two (named_as_channel f k.name) (unknown (protocols_of f) k.protocol) _ _ _ c.earlier-names.ensures c.named_as_channel.ensures c.unknown_protocol.ensures)
    (c.first_in_holders-unknown.ensures ∙ ap (λ o. first_of_all (flat_map (λ h. unknown_role o h.0 ++ unknown ps h.1) k.holders)) c.protocol-protocol.ensures))
    c.in_ok-roles.ensures
