use Rattle.chor_gen.proofs.Heads.{says_value}
use Rattle.chor_gen.proofs.rounds.q_sends.Goals as goal

pub returns : goal.returns
returns c =
    says_value c.part.ensures.part c.in_ok-one_more.ensures.is c.part-2.ensures.part (λ i. (c.at.ensures.named i).name) c.at-2.ensures.named
    (record { from = c.part.ensures.there; expr = c.in_ok-one_more.ensures.there; to = c.part-2.ensures.there; var = c.at.ensures.there; session = c.at-2.ensures.there })
