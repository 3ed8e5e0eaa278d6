use Rattle.waiting_processes.proofs.Left.{others_left}
use Rattle.waiting_processes.proofs.others_stay.Goals as goal

pub returns : goal.returns
returns c e hosts capacity n m p x h at chooses = others_left e hosts capacity n m p x h at chooses
