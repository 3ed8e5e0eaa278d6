use Rattle.projected_programs.proofs.Asking.{copy_asks}
use Rattle.projected_programs.proofs.copies.copies_ask_known.Goals as goal

pub returns : goal.returns
returns g words e e' c h = copy_asks words e e' c h
