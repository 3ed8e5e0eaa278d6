use Rattle.std.proofs.Common.{◌≡◌, length, ap, sym, ◌∙◌, arith, None, Some}
use Rattle.std.proofs.lemmas.List.{length_push}
use Rattle.std.specs.Prelude.{slice_get}
use Rattle.causal_order.proofs.Reaching.{each_more, scanned_next, earlier, orders_run}
use Rattle.causal_order.proofs.ordering.order.Goals as goal

pub loop-place-init : goal.loop-place-init
loop-place-init c = record {
  scan = c.empty-scan.ensures c.args.events.now;
  whole = ap length c.new-causes.ensures;
  each = λ j list h. (let f : None ≡ Some list = ap (λ z. slice_get z j) (sym c.new-causes.ensures) ∙ h in absurd cc);
}

pub loop-place-preserved : goal.loop-place-preserved
loop-place-preserved c = record {
  scan = scanned_next c.args.events.now c.args.capacity c.requires c.loop-place.place c.index-events-place.result c.loop-place-test.true c.index-events-place.is c.loop-place.scan c.add.new.scan c.loop-place.invariant.scan c.in_ok-add.ensures;
  whole = (let a = ap length c.in_ok-push.ensures.ok in let b = length_push c.loop-place.causes c.in_ok-causes_of.field-0 in let e = c.loop-place.invariant.whole in omega arith);
  each = each_more c.args.events.now c.args.capacity c.requires c.loop-place.place c.index-events-place.result c.loop-place-test.true c.index-events-place.is c.loop-place.scan c.loop-place.invariant.scan
      c.loop-place.causes c.loop-place.invariant.whole c.loop-place.invariant.each c.in_ok-causes_of.field-0 c.in_ok-causes_of.ensures.ascends c.in_ok-causes_of.ensures.holds c.push.new.self c.in_ok-push.ensures.ok;
}

pub invariant_of-result : goal.invariant_of-result
invariant_of-result c = record { earlier = earlier c.args.events.now c.args.capacity c.requires c.loop-place.causes c.loop-place.invariant.each }

pub returns-clause-runs : goal.returns-clause-runs
returns-clause-runs c =
    orders_run c.args.events.now c.args.capacity c.loop-place.causes
    (record { whole = (let a = c.loop-place.invariant.whole in let b = c.loop-place-test.false in let d = c.loop-place.auto.place-end in omega arith); each = c.loop-place.invariant.each })
