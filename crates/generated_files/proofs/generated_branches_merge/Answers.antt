use Rattle.generated_files.proofs.Branches.{all_merge}
use Rattle.generated_files.proofs.generated_branches_merge.Goals as goal

pub returns : goal.returns
returns c f count g = all_merge f count g
