use Rattle.std.proofs.lemmas.Result.{IfOk-weaker}
use Rattle.chor_gen.proofs.Nodes.{adds_line, one_there}
use Rattle.chor_gen.proofs.rounds.push_odd.Goals as goal

pub push-requires : goal.push-requires
push-requires c = one_there _ c.r_sends.ensures.follows c.in_ok-next.ensures.there

pub push-requires-2 : goal.push-requires-2
push-requires-2 c = one_there _ c.in_ok-q_sends.ensures.follows (adds_line c.in_ok-next.ensures c.r_sends.ensures c.in_ok-last.ensures.1 c.in_ok-last.ensures.0).there

pub push-requires-3 : goal.push-requires-3
push-requires-3 c =
    let one = adds_line c.in_ok-next.ensures c.r_sends.ensures c.in_ok-last.ensures.1 c.in_ok-last.ensures.0 in
    one_there _ c.p_sends.ensures.follows (adds_line one c.in_ok-q_sends.ensures c.in_ok-middle.ensures.1 c.in_ok-middle.ensures.0).there

pub push-requires-4 : goal.push-requires-4
push-requires-4 c =
    let one = adds_line c.in_ok-next.ensures c.r_sends.ensures c.in_ok-last.ensures.1 c.in_ok-last.ensures.0 in
    let two = adds_line one c.in_ok-q_sends.ensures c.in_ok-middle.ensures.1 c.in_ok-middle.ensures.0 in
    one_there _ c.in_ok-start_round.ensures.follows (adds_line two c.p_sends.ensures c.in_ok-first.ensures.1 c.in_ok-first.ensures.0).there

pub returns : goal.returns
returns c =
    let one = adds_line c.in_ok-next.ensures c.r_sends.ensures c.in_ok-last.ensures.1 c.in_ok-last.ensures.0 in
    let two = adds_line one c.in_ok-q_sends.ensures c.in_ok-middle.ensures.1 c.in_ok-middle.ensures.0 in
    let three = adds_line two c.p_sends.ensures c.in_ok-first.ensures.1 c.in_ok-first.ensures.0 in
    IfOk-weaker c.push-4.result _ _ (λ id h. adds_line three c.in_ok-start_round.ensures h.1 h.0) c.push-4.ensures
