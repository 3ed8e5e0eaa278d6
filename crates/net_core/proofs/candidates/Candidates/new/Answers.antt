use Rattle.std.proofs.Common.{◌∙◌, sym, ap, subst, refl, length, List, ℕ, Bool}
use Rattle.std.specs.Prelude.{slice_get}
use Rattle.waiting_processes.specs.declared.lists.WaitingLists.{WaitingLists}
use Rattle.waiting_processes.specs.Lists.{waiting_for}
use Rattle.waiting_processes.specs.Taken.{IsIn}
use Rattle.waiting_processes.proofs.Taken.{in_none}
use Rattle.std.proofs.lemmas.Result.{IfOk-from_err}
use Rattle.net_core.proofs.candidates.Candidates.new.Goals as goal

pub grow-requires-clause-places : goal.grow-requires-clause-places
grow-requires-clause-places c = record {
  listed = refl;
  unended = ap length (c.new-2.ensures ∙ sym c.new.ensures);
  within = λ w q i. absurd (in_none q (subst (λ (ps : List ℕ). IsIn ps q) (c.new-3.ensures w) i));
}

pub judge_each-requires-clause-lists : goal.judge_each-requires-clause-lists
judge_each-requires-clause-lists c = record { kept = λ q lt. (c.in_ok-enter_each.ensures.noted q lt).kept; within = c.in_ok-enter_each.ensures.places.within }

pub returns : goal.returns
returns c =
    let places = c.in_ok-enter_each.ensures.places in
    let unended = c.judge_each.ensures.unended in
    let waiting = c.judge_each.ensures.waiting in
    record {
      places = record {
        listed = c.judge_each.ensures.count ∙ places.listed;
        unended = ap length unended ∙ places.unended;
        within = λ w q i. places.within w q (subst (λ (l : WaitingLists). IsIn (waiting_for l w) q) waiting i);
      };
      noted = λ q lt.
          let r = c.in_ok-enter_each.ensures.noted q lt in
          record { unended = ap (λ (bs : List Bool). slice_get bs q) unended ∙ r.unended; kept = λ w a. subst (λ (l : WaitingLists). IsIn (waiting_for l w) q) (sym waiting) (r.kept w a) };
      judged = c.judge_each.ensures.judged;
    }

pub returns-in_err-grow : goal.returns-in_err-grow
returns-in_err-grow c = IfOk-from_err c.from_residual.result _ c.from_residual.ensures.0

pub returns-in_err-enter_each : goal.returns-in_err-enter_each
returns-in_err-enter_each c = IfOk-from_err c.from_residual-in_err-enter_each.result _ c.from_residual-in_err-enter_each.ensures.0
