use Rattle.std.proofs.Common.{refl}
use Rattle.projection.specs.Codes.{acts, calls}
use Rattle.projection.proofs.examples.endless_exchange.Goals as goal

pub returns-clause-body : goal.returns-clause-body
returns-clause-body c e = acts refl (acts refl (calls refl))

pub returns-clause-main : goal.returns-clause-main
returns-clause-main c e = acts refl (calls refl)

pub returns-clause-unlisted : goal.returns-clause-unlisted
returns-clause-unlisted c e = calls refl

pub returns-clause-stranger : goal.returns-clause-stranger
returns-clause-stranger c e = calls refl
