use Rattle.generated_files.proofs.Typed.{all_typed}
use Rattle.generated_files.proofs.generated_is_typed.Goals as goal

pub returns : goal.returns
returns c f count g = all_typed f count g
