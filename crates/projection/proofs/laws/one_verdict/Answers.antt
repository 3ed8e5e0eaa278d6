use Rattle.projection.proofs.Clashes.{branches_meet, starts_meet}
use Rattle.projection.proofs.laws.one_verdict.Goals as goal

pub returns-clause-branches : goal.returns-clause-branches
returns-clause-branches t f s first second q h g l = branches_meet f s first second q h g l

pub returns-clause-starts : goal.returns-clause-starts
returns-clause-starts t f x codes q h l = starts_meet f x codes q h l
