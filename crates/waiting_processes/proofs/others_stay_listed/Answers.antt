use Rattle.waiting_processes.proofs.Listing.{others_listed}
use Rattle.waiting_processes.proofs.others_stay_listed.Goals as goal

pub returns : goal.returns
returns c e capacity n m p h at left q lt other nobody = others_listed e capacity n m p h at left q lt other nobody
