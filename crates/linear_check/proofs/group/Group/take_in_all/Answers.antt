use Rattle.std.proofs.Common.{◌≡◌, ◌≤◌, length, sym, ◌∙◌, subst, arith}
use Rattle.well_formed.specs.Linear.{everyone}
use Rattle.chor_tree.specs.Source.{body_of}
use Rattle.linear_check.specs.Takes.{TakesAway}
use Rattle.linear_check.specs.Greatest.{TakesIn, AreAllGreatest}
use Rattle.linear_check.specs.Weights.{weight_of}
use Rattle.linear_check.proofs.PassedOn.{neither}
use Rattle.linear_check.proofs.Weights.{falls_twice, no_heavier_twice, no_more}
use Rattle.linear_check.proofs.Settled.{upper_turn, upper_end, settled_turn, all_settled, item_at, item_among}
use Rattle.linear_check.proofs.group.Group.take_in_all.Goals as goal

pub loop-procedure-preserved : goal.loop-procedure-preserved
loop-procedure-preserved c =
    let f = c.args.self.now.file.now in
    let cs = c.args.self.now.channels.names.now in
    let h = c.procedure-item.result in
    let old = c.loop-procedure.sets in
    let new = c.take_in_procedure.new.sets in
    let whole = c.args.sets.now in
    record {
      upper = λ u.
          upper_turn f cs h old new (item_among _ f.procs c.loop-procedure.procedure-index h c.as_slice-procedure-items.ensures c.loop-procedure-test.true c.procedure-item.is)
          c.in_ok-taken.ensures.taken (c.loop-procedure.invariant.upper u);
      same = λ e. let both = neither c.loop-procedure.changed c.in_ok-taken.taken e in c.in_ok-taken.ensures.same both.1 ∙ c.loop-procedure.invariant.same both.0;
      lighter = no_heavier_twice whole old new c.loop-procedure.invariant.lighter c.in_ok-taken.ensures.lighter;
      falls =
          let nodes = f.tree.nodes in
          falls_twice c.loop-procedure.changed c.in_ok-taken.taken (weight_of whole nodes) (weight_of old nodes) (weight_of new nodes) c.loop-procedure.invariant.falls c.in_ok-taken.ensures.falls
          (no_more whole old c.loop-procedure.invariant.lighter nodes) (no_more old new c.in_ok-taken.ensures.lighter nodes);
      settled = λ e.
          let both = neither c.loop-procedure.changed c.in_ok-taken.taken e in
          let first : old ≡ whole = c.loop-procedure.invariant.same both.0 in
          let last : new ≡ whole = c.in_ok-taken.ensures.same both.1 ∙ first in
          settled_turn f cs whole c.loop-procedure.procedure-index h (item_at _ f.procs c.loop-procedure.procedure-index h c.as_slice-procedure-items.ensures c.loop-procedure-test.true c.procedure-item.is)
          (subst (λ s. TakesIn f cs h whole s) last (subst (λ s. TakesIn f cs h s new) first c.in_ok-taken.ensures.taken)) (c.loop-procedure.invariant.settled both.0);
    }

pub returns-clause-upper : goal.returns-clause-upper
returns-clause-upper c = λ u.
    let f = c.args.self.now.file.now in
    let cs = c.args.self.now.channels.names.now in
    upper_end f cs c.loop-procedure.sets c.take_from.new.sets
    (c.in_ok-last.ensures.taken (λ n. everyone) (λ n lt x. sym (c.everyone-everyone.ensures n x (let few = c.args.self.now.channels.few in omega arith)))) (c.loop-procedure.invariant.upper u)

pub returns-clause-settled : goal.returns-clause-settled
returns-clause-settled c = λ e u.
    let f = c.args.self.now.file.now in
    let cs = c.args.self.now.channels.names.now in
    let old = c.loop-procedure.sets in
    let new = c.take_from.new.sets in
    let whole = c.args.sets.now in
    let both = neither c.loop-procedure.changed c.in_ok-last.last e in
    let first : old ≡ whole = c.loop-procedure.invariant.same both.0 in
    let last : new ≡ whole = c.in_ok-last.ensures.same both.1 ∙ first in
    let walk : TakesAway cs (λ n. everyone) (body_of f f.body) old new =
    c.in_ok-last.ensures.taken (λ n. everyone) (λ n lt x. sym (c.everyone-everyone.ensures n x (let few = c.args.self.now.channels.few in omega arith))) in
    let le : length f.procs ≤ c.loop-procedure.procedure-index = subst (λ l. length l ≤ c.loop-procedure.procedure-index) c.as_slice-procedure-items.ensures c.loop-procedure-test.false in
    let settled = all_settled f cs whole c.loop-procedure.procedure-index le (c.loop-procedure.invariant.settled both.0)
    (subst (λ s. TakesAway cs (λ n. everyone) (body_of f f.body) whole s) last (subst (λ s. TakesAway cs (λ n. everyone) (body_of f f.body) s new) first walk)) u in
    subst (AreAllGreatest f cs) (sym last) settled

pub returns-clause-falls : goal.returns-clause-falls
returns-clause-falls c =
    let nodes = c.args.self.now.file.now.tree.nodes in
    let whole = c.args.sets.now in
    let old = c.loop-procedure.sets in
    let new = c.take_from.new.sets in
    falls_twice c.loop-procedure.changed c.in_ok-last.last (weight_of whole nodes) (weight_of old nodes) (weight_of new nodes) c.loop-procedure.invariant.falls c.in_ok-last.ensures.falls
    (no_more whole old c.loop-procedure.invariant.lighter nodes) (no_more old new c.in_ok-last.ensures.lighter nodes)
