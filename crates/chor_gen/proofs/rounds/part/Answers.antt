use Rattle.chor_gen.proofs.Heads.{two}
use Rattle.chor_gen.proofs.rounds.part.Goals as goal

pub returns-clause-part : goal.returns-clause-part
returns-clause-part c = λ i. record { process = c.at.ensures.named i; role = c.at-2.ensures.named i }

pub returns-clause-there : goal.returns-clause-there
returns-clause-there c = two c.at.ensures.there c.at-2.ensures.there
