use Rattle.std.proofs.Common.{◌≡◌, ◌==◌, ◌%◌, true, false, ap, sym, subst, arith}
use Rattle.std.specs.Prelude.{if◌then◌else◌}
use Rattle.std.proofs.lemmas.Bool.Decides.{nat_tests}
use Rattle.std.proofs.lemmas.Result.{IfOk-weaker}
use Rattle.chor_tree.specs.Source.{Block}
use Rattle.chor_gen.specs.Words.{named_in}
use Rattle.chor_gen.specs.Generated.{odd_round, even_round}
use Rattle.chor_gen.specs.Making.{Adds}
use Rattle.chor_gen.proofs.rounds.push_round.Goals as goal

pub returns-then-round-eq1 : goal.returns-then-round-eq1
returns-then-round-eq1 c =
    let odd : (c.args.round.number % 2 == 1) ≡ true = grind (arith, nat_tests) in
    let is = ap (λ b. if b then odd_round (named_in c.args.words.now.names) c.args.round.count c.args.round.number else even_round (named_in c.args.words.now.names) c.args.round.count c.args.round.number) (sym odd) in
    IfOk-weaker c.push_odd.result _ _ (λ id h. subst (λ (b : Block). Adds c.args.words.now.names c.args.tree.now.nodes c.push_odd.new.tree.nodes id b) is h) c.push_odd.ensures

pub returns-else-round-eq1 : goal.returns-else-round-eq1
returns-else-round-eq1 c =
    let even : (c.args.round.number % 2 == 1) ≡ false = grind (arith, nat_tests) in
    let is = ap (λ b. if b then odd_round (named_in c.args.words.now.names) c.args.round.count c.args.round.number else even_round (named_in c.args.words.now.names) c.args.round.count c.args.round.number) (sym even) in
    IfOk-weaker c.push_even.result _ _ (λ id h. subst (λ (b : Block). Adds c.args.words.now.names c.args.tree.now.nodes c.push_even.new.tree.nodes id b) is h) c.push_even.ensures
