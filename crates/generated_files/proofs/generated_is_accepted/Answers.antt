use Rattle.generated_files.proofs.Faultless.{faultless, denied_by_memory}
use Rattle.generated_files.proofs.generated_is_accepted.Goals as goal

pub returns-clause-faultless : goal.returns-clause-faultless
returns-clause-faultless c f count g hosts = faultless f count g hosts

pub returns-clause-denied : goal.returns-clause-denied
returns-clause-denied c f count hosts d g b = denied_by_memory f count hosts d g b
