use Rattle.local_types.proofs.Labels.{not_both}
use Rattle.local_types.proofs.apart.same_labels.Goals as goal

pub returns-then-offers_all : goal.returns-then-offers_all
returns-then-offers_all c = (λ t l. (c.offers_all.ensures.0 c.if-offers_all.true l, c.offers_all-then-offers_all.ensures.0 t l), λ all. c.offers_all-then-offers_all.ensures.1 (λ l. (all l).1))

pub returns-else-offers_all : goal.returns-else-offers_all
returns-else-offers_all c = (λ t. absurd (not_both c.offers_all.result t c.if-offers_all.false), λ all. c.offers_all.ensures.1 (λ l. (all l).0))
