use Rattle.generated_files.proofs.Guarded.{all_guarded}
use Rattle.generated_files.proofs.generated_is_guarded.Goals as goal

pub returns : goal.returns
returns c f count g = all_guarded f count g
