use Rattle.well_formed.proofs.Trees.{body_source, all_sources}
use Rattle.well_formed.proofs.trees_are_sources.Goals as goal

pub returns-clause-main : goal.returns-clause-main
returns-clause-main c0 f = body_source f f.body

pub returns-clause-procedures : goal.returns-clause-procedures
returns-clause-procedures c0 f = all_sources f
