use Rattle.source_bridge.proofs.Files.{of_data, of_relation}
use Rattle.source_bridge.proofs.laws.same_files.Goals as goal

pub returns-clause-derived : goal.returns-clause-derived
returns-clause-derived c i may ts s k d = of_data k d

pub returns-clause-said : goal.returns-clause-said
returns-clause-said c i may ts s k d = of_relation k d
