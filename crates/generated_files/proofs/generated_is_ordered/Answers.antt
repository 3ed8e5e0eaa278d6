use Rattle.generated_files.proofs.Ordered.{all_ordered}
use Rattle.generated_files.proofs.generated_is_ordered.Goals as goal

pub returns : goal.returns
returns c f count g x = all_ordered f count g x
