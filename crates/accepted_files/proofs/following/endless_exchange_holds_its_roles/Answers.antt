use Rattle.accepted_files.proofs.EndlessExchange.{roles_held}
use Rattle.accepted_files.proofs.following.endless_exchange_holds_its_roles.Goals as goal

pub returns : goal.returns
returns c0 x made = roles_held x made
