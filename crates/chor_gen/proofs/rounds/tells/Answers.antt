use Rattle.chor_gen.proofs.Heads.{says_label}
use Rattle.chor_gen.proofs.rounds.tells.Goals as goal

pub returns : goal.returns
returns c = says_label c.part.ensures.part c.part-2.ensures.part c.at.ensures.named (λ i. (c.at-2.ensures.named i).name) c.part.ensures.there c.part-2.ensures.there c.at.ensures.there c.at-2.ensures.there
