use Rattle.source_bridge.proofs.Files.{of_data, of_relation}
use Rattle.source_bridge.proofs.laws.same_sources.Goals as goal

pub returns-clause-derived : goal.returns-clause-derived
returns-clause-derived c i ts s k d = let a = of_data k d in record { is = a.is; keeps = a.keeps }

pub returns-clause-said : goal.returns-clause-said
returns-clause-said c i ts s k d = of_relation k (record { is = d.is; keeps = d.keeps })
