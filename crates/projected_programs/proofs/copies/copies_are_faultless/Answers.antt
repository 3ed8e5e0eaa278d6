use Rattle.projected_programs.proofs.Faultless.{faultless_kept, copy_back}
use Rattle.projected_programs.proofs.copies.copies_are_faultless.Goals as goal

pub returns-clause-faultless : goal.returns-clause-faultless
returns-clause-faultless g e e' c = faultless_kept e e' c

pub returns-clause-back : goal.returns-clause-back
returns-clause-back g e e' c = copy_back e e' c
