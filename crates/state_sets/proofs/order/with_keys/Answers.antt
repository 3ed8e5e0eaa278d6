use Rattle.std.proofs.Common.{List, ℕ, refl, subst}
use Rattle.state_sets.specs.Order.{IsKeyOf}
use Rattle.state_sets.proofs.Keys.{keyed_more, keyed_whole}
use Rattle.state_sets.proofs.order.with_keys.Goals as goal

pub loop-act-preserved : goal.loop-act-preserved
loop-act-preserved c =
    keyed_more c.args.names.now c.args.acts.now c.loop-act.act-index _ c.loop-act.keyed.items c.push.new.self.items _ c.loop-act-test.true c.loop-act.invariant refl
    (subst (λ (w : List ℕ). IsKeyOf w c.key_of-key.result) c.label_bytes.ensures c.key_of-key.ensures) c.in_ok-push.ensures.items

pub returns : goal.returns
returns c = keyed_whole c.args.names.now c.args.acts.now c.loop-act.act-index c.loop-act.keyed.items c.loop-act-test.false c.loop-act.invariant
