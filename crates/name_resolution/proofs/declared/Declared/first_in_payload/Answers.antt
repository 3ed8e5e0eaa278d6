use Rattle.std.proofs.Common.{ap, ◌∙◌}
use Rattle.chor_tree.specs.Names.{unknown, unknown_role, protocols_of, protocol_of}
use Rattle.chor_base.specs.Faults.{first_of_all}
use Rattle.chor_base.proofs.Faults.{first_of_two}
use Rattle.name_resolution.proofs.declared.Declared.first_in_payload.Goals as goal

pub returns-in-Endpoint : goal.returns-in-Endpoint
returns-in-Endpoint c =
    let f = c.args.self.now.file.now in
    let p = c.in-Endpoint.protocol in
    let r = c.in-Endpoint.role in
    rw c.in-Endpoint.is (first_of_two (unknown (protocols_of f) p) (unknown_role (protocol_of f p.name) r) _ _ _ c.earlier.ensures
    c.unknown_protocol.ensures (c.unknown_role.ensures ∙ ap (λ o. first_of_all (unknown_role o r)) c.protocol.ensures))
