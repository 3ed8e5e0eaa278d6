use Rattle.accepted_files.proofs.FromProjects.{has_units}
use Rattle.accepted_files.proofs.Codes.{code_scoped}
use Rattle.accepted_files.proofs.held.codes_are_scoped.Goals as goal

pub returns : goal.returns
returns o f e pr r c x code g bs agrees uses = code_scoped e f.procs f.tree.nodes (has_units f e pr) r c x code g bs agrees uses
