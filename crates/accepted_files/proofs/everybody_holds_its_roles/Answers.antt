use Rattle.accepted_files.proofs.Begins.{holds_its_roles}
use Rattle.accepted_files.proofs.everybody_holds_its_roles.Goals as goal

pub returns : goal.returns
returns c f words ok = holds_its_roles f words ok
