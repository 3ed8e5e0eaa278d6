use Rattle.chor_base.specs.Expr.{Variable}
use Rattle.chor_gen.proofs.Heads.{says_value}
use Rattle.chor_gen.proofs.rounds.r_sends.Goals as goal

pub returns : goal.returns
returns c =
    says_value c.part.ensures.part (λ i. Variable (c.at.ensures.named i).name) c.part-2.ensures.part (λ i. (c.at-2.ensures.named i).name) c.at-3.ensures.named
    (record { from = c.part.ensures.there; expr = c.at.ensures.there; to = c.part-2.ensures.there; var = c.at-2.ensures.there; session = c.at-3.ensures.there })
