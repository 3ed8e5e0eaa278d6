use Rattle.correspondence.proofs.NeverStuck.{network_ends}
use Rattle.correspondence.proofs.laws.never_stuck.Goals as goal

pub returns : goal.returns
returns c0 e f sets lists realizes hosts cap unhindered h n run none = network_ends e f sets lists realizes hosts cap unhindered h n run none
