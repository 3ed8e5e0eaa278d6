use Rattle.std.proofs.Common.{refl, ap, sym, ◌≡◌, ◌==◌, ◌+◌, true, false, suc, if◌then◌else◌, subst}
use Rattle.std.proofs.lemmas.Result.{IfOk-weaker}
use Rattle.std.proofs.lemmas.Bool.Decides.{nat_tests}
use Rattle.chor_tree.specs.Source.{Ends, Block}
use Rattle.chor_gen.specs.Words.{beginning, named_in}
use Rattle.chor_gen.specs.Generated.{call, after_round}
use Rattle.chor_gen.specs.Making.{Adds}
use Rattle.chor_gen.proofs.Nodes.{adds_tail}
use Rattle.chor_gen.proofs.rounds.push_next.Goals as goal
use Rattle.std.proofs.Common.{arith, add-one}

pub returns-then-round : goal.returns-then-round
returns-then-round c =
    let last : (c.args.round.number == c.args.round.count) ≡ true = grind (arith, nat_tests) in
    let is = ap (λ b. if b then Ends beginning else call (named_in c.args.words.now.names) (suc c.args.round.number)) (sym last) in
    IfOk-weaker c.push.result _ _ (λ id h. adds_tail _ refl is refl h.1 h.0) c.push.ensures

pub returns-else-round : goal.returns-else-round
returns-else-round c =
    let more : (c.args.round.number == c.args.round.count) ≡ false = grind (arith, nat_tests) in
    let is : call (named_in c.args.words.now.names) (c.args.round.number + 1) ≡ after_round (named_in c.args.words.now.names) c.args.round.count c.args.round.number = rw add-one (ap (λ b. if b then Ends beginning else call (named_in c.args.words.now.names) (suc c.args.round.number)) (sym more)) in
    IfOk-weaker c.push_call.result _ _ (λ id h. subst (λ (b : Block). Adds c.args.words.now.names c.args.tree.now.nodes c.push_call.new.tree.nodes id b) is h) c.push_call.ensures
