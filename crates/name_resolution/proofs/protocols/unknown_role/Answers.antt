use Rattle.std.proofs.Common.{◌∙◌, ap, sym}
use Rattle.std.specs.Prelude.{option_copied, Some}
use Rattle.chor_tree.specs.Names.{unknown_role}
use Rattle.chor_tree.specs.Protocols.{Protocol}
use Rattle.chor_base.specs.Faults.{first_of_all}
use Rattle.name_resolution.proofs.protocols.unknown_role.Goals as goal

pub returns-in-Some : goal.returns-in-Some
returns-in-Some c = c.unknown_in.ensures ∙ ap (λ (p : Protocol). first_of_all (unknown_role (Some p) c.args.role.now)) c.protocol.view_is ∙ ap (λ o. first_of_all (unknown_role (option_copied o) c.args.role.now)) (sym c.in-Some.is)
