use Rattle.generated_files.proofs.Resolved.{all_resolved}
use Rattle.generated_files.proofs.generated_names_are_resolved.Goals as goal

pub returns : goal.returns
returns c f count hosts g x = all_resolved f count hosts g x
