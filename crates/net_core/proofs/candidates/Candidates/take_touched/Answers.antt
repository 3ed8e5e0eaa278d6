use Rattle.std.proofs.Common.{◌≡◌, ◌∙◌, sym, ap, subst, true, false, None, is_some, ◌<◌, ◌≤◌, ℕ, List, arith, Vec, Global}
use Rattle.std.specs.Prelude.{not}
use Rattle.waiting_processes.specs.Waits.{awaited_by}
use Rattle.net_core.specs.Candidates.{HasTouched, AreBelow}
use Rattle.net_core.proofs.Taken.{touched_own, touched_waiting, waiting_below, touched_more, below_more, takes_touched}
use Rattle.std.proofs.lemmas.Bool.{true≢false}
use Rattle.net_core.proofs.candidates.Candidates.take_touched.Goals as goal
use Rattle.net_core.proofs.candidates.Candidates.take_touched.Goals.{then-is_none+in_ok-push, else-is_none}

pub loop-pid-init : goal.loop-pid-init
loop-pid-init c =
    let past = c.args.past in
    let old = c.args.self.now.waiting in
    let taken = c.take_touched-pids.result.items in
    let takes = c.take_touched-pids.ensures in
    let below = waiting_below c.args.capacity past old c.take_touched-pids.new.self taken takes c.args.count c.requires.places.within in
    elim c.if-is_none.branch [
      | then-is_none+in_ok-push w ↦
          (let is = ap (λ (v : Vec ℕ Global). v.items) w.pids-is ∙ w.in_ok-push.ensures.items in
          let lt : past.pid < c.args.count = let a = c.requires.there in let b = c.requires.kept in omega arith in
          record {
            touched = touched_own c.args.capacity past old c.take_touched-pids.new.self taken takes c.if-is_none.pids.items is;
            below = below_more c.args.count taken c.if-is_none.pids.items past.pid below lt is;
          })
      | else-is_none w ↦
          (let is = ap (λ (v : Vec ℕ Global). v.items) w.pids-is in
          let some : awaited_by c.args.capacity past.head ≡ None → ⊥ = λ i.
          (let a : is_some (awaited_by c.args.capacity past.head) ≡ true = sym (ap is_some c.awaited_by.ensures) ∙ c.is_none.ensures ∙ ap not w.if-is_none.false in
          let b : is_some (awaited_by c.args.capacity past.head) ≡ false = ap is_some i in
          true≢false (sym a ∙ b))
          in
          record {
            touched = subst (λ (l : List ℕ). HasTouched c.args.capacity past past.count old l) (sym is) (touched_waiting c.args.capacity past old c.take_touched-pids.new.self taken takes some);
            below = subst (AreBelow c.args.count) (sym is) below;
          })
    ]

pub loop-pid-preserved : goal.loop-pid-preserved
loop-pid-preserved c =
    let lt : c.loop-pid.pid < c.args.count = c.loop-pid-test.true in
    record {
      touched = touched_more c.args.capacity c.args.past c.loop-pid.pid c.args.self.now.waiting c.loop-pid.pids.items c.push-in-loop-pid.new.self.items c.loop-pid.invariant.touched c.in_ok-push-2.ensures.items;
      below = below_more c.args.count c.loop-pid.pids.items c.push-in-loop-pid.new.self.items c.loop-pid.pid c.loop-pid.invariant.below lt c.in_ok-push-2.ensures.items;
    }

pub returns : goal.returns
returns c =
    let past = c.args.past in
    let last : c.loop-pid.pid ≤ c.args.count = c.loop-pid.auto.pid-end c.requires.kept in
    let past_last : c.args.count ≤ c.loop-pid.pid = c.loop-pid-test.false in
    let all : c.loop-pid.pid ≡ c.args.count = omega arith in
    takes_touched c.args.capacity past c.args.count c.args.self.now c.take_touched-pids.new.self c.take_touched-pids.result.items c.loop-pid.pids.items c.requires.places c.take_touched-pids.ensures
    (subst (λ (k : ℕ). HasTouched c.args.capacity past k c.args.self.now.waiting c.loop-pid.pids.items) all c.loop-pid.invariant.touched)
    c.loop-pid.invariant.below
