use Rattle.std.proofs.Common.{refl}
use Rattle.std.proofs.lemmas.Result.{IfOk-weaker}
use Rattle.chor_gen.proofs.Nodes.{adds_line, adds_branch, one_there, two_there, still_there}
use Rattle.chor_gen.proofs.Heads.{two}
use Rattle.chor_gen.proofs.rounds.push_even.Goals as goal

pub push-requires : goal.push-requires
push-requires c = two_there (still_there c.in_ok-second.ensures c.in_ok-first.ensures.there) c.in_ok-second.ensures.there

pub push-requires-2 : goal.push-requires-2
push-requires-2 c =
    let one = adds_branch _ c.in_ok-first.ensures c.in_ok-second.ensures c.at.ensures.named c.in_ok-is_less.ensures.is (two (two c.at.ensures.there c.in_ok-is_less.ensures.there) refl) c.in_ok-branch.ensures.1 c.in_ok-branch.ensures.0 in
    one_there _ c.in_ok-start_fork.ensures.follows one.there

pub returns : goal.returns
returns c =
    let one = adds_branch _ c.in_ok-first.ensures c.in_ok-second.ensures c.at.ensures.named c.in_ok-is_less.ensures.is (two (two c.at.ensures.there c.in_ok-is_less.ensures.there) refl) c.in_ok-branch.ensures.1 c.in_ok-branch.ensures.0 in
    IfOk-weaker c.push-2.result _ _ (λ id h. adds_line one c.in_ok-start_fork.ensures h.1 h.0) c.push-2.ensures
