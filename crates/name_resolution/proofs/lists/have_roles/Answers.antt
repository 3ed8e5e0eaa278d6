use Rattle.std.proofs.Common.{sym}
use Rattle.name_resolution.proofs.Members.{lengths_differ}
use Rattle.name_resolution.proofs.lists.have_roles.Goals as goal

pub returns-then-parts-roles : goal.returns-then-parts-roles
returns-then-parts-roles c = sym (lengths_differ c.args.parts.now c.args.roles.now c.if-parts-roles.true)
