use Rattle.std.proofs.Common.{◌≡◌, ℕ, ◌↔◌, ◌∙◌, List, Contains}
use Rattle.std.specs.List.Sorted.{IsStrictlyIncreasing}
use Rattle.std.proofs.lemmas.Result.{IfOk-weaker}
use Rattle.causal_order.specs.Marking.{marked_from}
use Rattle.causal_order.specs.Orders.{IsInPast, IsPast, PastIsRun}
use Rattle.causal_order.proofs.Marked.{marked_increases, marked_holds}
use Rattle.causal_order.proofs.Reaching.{all_marks, is_past, past_is_run}
use Rattle.causal_order.proofs.orders.Order.lead.Goals as goal

holds_of : (c : goal.After-drop-marks) (list : List ℕ) → list ≡ marked_from 0 c.as_slice.result.now → (i : ℕ) → Contains list i ↔ IsInPast c.args.self.now.causes c.args.event i
holds_of c list is =
    marked_holds c.as_slice.result.now list is (IsInPast c.args.self.now.causes c.args.event)
    (all_marks c.args.self.now.causes c.args.self.now.earlier c.args.event c.requires c.as_slice.result.now (c.as_slice.ensures.len ∙ c.in_ok-marks.ensures.len)
    (λ i lt. rw c.as_slice.ensures.value (c.in_ok-marks.ensures.marked i lt)))

pub returns-clause-ascends : goal.returns-clause-ascends
returns-clause-ascends c = IfOk-weaker c.marked.result (λ list. list ≡ marked_from 0 c.as_slice.result.now) (λ past. IsStrictlyIncreasing past) (λ list is. marked_increases c.as_slice.result.now list is) c.marked.ensures

pub returns-clause-holds : goal.returns-clause-holds
returns-clause-holds c = IfOk-weaker c.marked.result (λ list. list ≡ marked_from 0 c.as_slice.result.now) (λ past. (i : ℕ) → Contains past i ↔ IsInPast c.args.self.now.causes c.args.event i) (λ list is. holds_of c list is) c.marked.ensures

pub returns-clause-happens : goal.returns-clause-happens
returns-clause-happens c = IfOk-weaker c.marked.result (λ list. list ≡ marked_from 0 c.as_slice.result.now) (λ past. IsPast c.args.self.now.causes c.args.event past) (λ list is. is_past c.args.self.now.causes c.args.event list (marked_increases c.as_slice.result.now list is) (holds_of c list is)) c.marked.ensures

pub returns-clause-runs : goal.returns-clause-runs
returns-clause-runs c = IfOk-weaker c.marked.result (λ list. list ≡ marked_from 0 c.as_slice.result.now) (λ past. PastIsRun c.args.self.now.causes c.args.event past) (λ list is. past_is_run c.args.self.now.causes c.args.event c.requires list (marked_increases c.as_slice.result.now list is) (holds_of c list is)) c.marked.ensures
