use Rattle.std.proofs.lemmas.Result.{IfOk-weaker}
use Rattle.chor_gen.proofs.Nodes.{adds_line, one_there}
use Rattle.chor_gen.proofs.rounds.push_told.Goals as goal

pub push-requires : goal.push-requires
push-requires c = one_there _ c.tells.ensures.follows c.in_ok-next.ensures.there

pub returns : goal.returns
returns c = IfOk-weaker c.push.result _ _ (λ id h. adds_line c.in_ok-next.ensures c.tells.ensures h.1 h.0) c.push.ensures
