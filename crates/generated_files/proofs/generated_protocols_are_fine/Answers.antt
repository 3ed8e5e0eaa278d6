use Rattle.generated_files.proofs.Stated.{all_fine}
use Rattle.generated_files.proofs.generated_protocols_are_fine.Goals as goal

pub returns : goal.returns
returns c f count g = all_fine f count g
