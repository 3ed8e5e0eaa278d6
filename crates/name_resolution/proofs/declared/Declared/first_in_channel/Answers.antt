use Rattle.std.proofs.Common.{ap, ◌∙◌}
use Rattle.chor_tree.specs.Names.{unknown, protocols_of, protocol_of, wrong_roles}
use Rattle.chor_base.specs.Faults.{first_of_all}
use Rattle.chor_base.proofs.Faults.{first_of_two}
use Rattle.name_resolution.proofs.declared.Declared.first_in_channel.Goals as goal

pub returns : goal.returns
returns c =
    let f = c.args.self.now.file.now in
    let s = c.args.service.now in
    first_of_two (unknown (protocols_of f) s.protocol) (wrong_roles (protocol_of f s.protocol.name) s) _ _ _ c.earlier.ensures
    c.unknown_protocol.ensures (c.wrong_roles.ensures ∙ ap (λ o. first_of_all (wrong_roles o s)) c.protocol.ensures)
