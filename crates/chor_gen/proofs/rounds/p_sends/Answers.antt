use Rattle.chor_gen.proofs.Heads.{says_value, number_there}
use Rattle.chor_gen.proofs.rounds.p_sends.Goals as goal

pub returns : goal.returns
returns c =
    says_value c.part.ensures.part c.literal.ensures c.part-2.ensures.part (λ i. (c.at.ensures.named i).name) c.at-2.ensures.named
    (record { from = c.part.ensures.there; expr = number_there _ _ _ c.literal.ensures; to = c.part-2.ensures.there; var = c.at.ensures.there; session = c.at-2.ensures.there })
