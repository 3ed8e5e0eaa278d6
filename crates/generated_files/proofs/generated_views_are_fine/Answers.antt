use Rattle.generated_files.proofs.Views.{all_fine}
use Rattle.generated_files.proofs.generated_views_are_fine.Goals as goal

pub returns : goal.returns
returns c f count g = all_fine f count g
