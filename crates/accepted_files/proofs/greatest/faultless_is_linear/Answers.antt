use Rattle.chor_semantics.specs.Sources.{procedures_of}
use Rattle.linearity.specs.OrderFaults.{main_of}
use Rattle.linearity.proofs.Judged.{none_is_linear}
use Rattle.accepted_files.proofs.Exist.{greatest_there}
use Rattle.accepted_files.proofs.greatest.faultless_is_linear.Goals as goal

pub returns : goal.returns
returns c f none = none_is_linear f (λ s m. greatest_there (procedures_of f) (main_of f) s.name.name) none
