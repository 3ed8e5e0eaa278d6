use Rattle.std.proofs.Common.{refl, ap, map, ◌∙◌}
use Rattle.file_codes.specs.Shifted.{shift_arm}
use Rattle.file_codes.proofs.Appended.{branch_shifted}
use Rattle.file_codes.proofs.shifted.shifted_node.Goals as goal

pub returns-in_ok-shifted_arms-in-Branch : goal.returns-in_ok-shifted_arms-in-Branch
returns-in_ok-shifted_arms-in-Branch c = branch_shifted c.args.by c.args.node.now _ c.in-Branch.k c.in-Branch.a c.in-Branch.arms _ c.in-Branch.is refl (c.in_ok-shifted_arms-in-Branch.ensures ∙ ap (map (shift_arm c.args.by)) c.as_slice.ensures)
