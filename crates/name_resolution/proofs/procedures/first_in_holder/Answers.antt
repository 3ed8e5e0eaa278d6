use Rattle.std.proofs.Common.{map}
use Rattle.std.specs.Prelude.{option_copied}
use Rattle.chor_tree.specs.Names.{unknown, unknown_role}
use Rattle.chor_base.proofs.Faults.{first_of_two}
use Rattle.name_resolution.proofs.procedures.first_in_holder.Goals as goal

pub returns : goal.returns
returns c =
    let h = c.args.holder.now in
    first_of_two (unknown_role (option_copied c.args.protocol) h.0) (unknown (map (λ q. q.name.name) c.args.params.now) h.1) _ _ _ c.earlier.ensures c.unknown_role.ensures c.unknown_in.ensures
