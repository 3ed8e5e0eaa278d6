use Rattle.std.proofs.Common.{◌++◌, ◌∙◌, ap, sym}
use Rattle.std.proofs.lemmas.List.{append-nil, drop_all, drop_more}
use Rattle.state_sets.specs.Order.{keyed_acts}
use Rattle.state_sets.proofs.Lists.{step_on}
use Rattle.state_sets.proofs.order.acts_of.Goals as goal

pub loop-item-preserved : goal.loop-item-preserved
loop-item-preserved c = step_on c.loop-item.acts.items c.push.new.self.items _ _ _ _ c.in_ok-push.ensures.items (ap keyed_acts (drop_more c.args.keyed.now c.loop-item.item-index _ c.loop-item-test.true)) c.loop-item.invariant

pub returns : goal.returns
returns c =
    let acts = c.loop-item.acts.items in
    sym (append-nil acts) ∙ ap (λ l. acts ++ keyed_acts l) (sym (drop_all c.loop-item.item-index c.args.keyed.now c.loop-item-test.false)) ∙ c.loop-item.invariant
