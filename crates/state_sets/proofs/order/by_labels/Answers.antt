use Rattle.std.proofs.Common.{◌≡◌, ◌∙◌, ap, rules}
use Rattle.std.proofs.lemmas.List.Sorted.{IsPermutation-sym}
use Rattle.std.proofs.lemmas.Result.{IfOk-weaker}
use Rattle.std.specs.List.Sorted.{IsPermutation}
use Rattle.state_sets.specs.Ascending.{Ascend}
use Rattle.state_sets.specs.declared.order.Keyed.{Keyed}
use Rattle.state_sets.specs.Order.{keyed_acts, keyed_word}
use Rattle.state_sets.specs.Table.{act_words}
use Rattle.state_sets.proofs.Lists.{in_permuted}
use Rattle.state_sets.proofs.Ascents.{ascend_from_sort}
use Rattle.state_sets.proofs.Keys.{acts_ascend, order_kept}
use Rattle.state_sets.proofs.order.by_labels.Goals as goal

pub returns-clause-order : goal.returns-clause-order
returns-clause-order c =
    IfOk-weaker c.acts_of.result (λ v. v.items ≡ keyed_acts c.as_slice.result.now) (λ v. IsPermutation c.args.acts.now v.items)
    (λ v is. order_kept c.args.acts.now v.items c.in_ok-keyed.keyed.items c.sort_by.new.self.items c.in_ok-keyed.ensures.acts c.in_ok-sort_by.ensures.permutation (is ∙ ap keyed_acts c.as_slice.ensures.value))
    c.acts_of.ensures

pub returns-clause-ascend : goal.returns-clause-ascend
returns-clause-ascend c =
    let ks = c.in_ok-keyed.keyed.items in
    let sorted = c.sort_by.new.self.items in
    let names = c.args.names.now in
    IfOk-weaker c.acts_of.result (λ v. v.items ≡ keyed_acts c.as_slice.result.now) (λ v. Ascend (act_words names v.items))
    (λ v is. acts_ascend names sorted v.items
    (λ k m. c.in_ok-keyed.ensures.keys k (in_permuted k sorted ks (IsPermutation-sym ks sorted c.in_ok-sort_by.ensures.permutation) m))
    (ascend_from_sort (λ (k : Keyed). keyed_word names k) _ c.in_ok-sort_by.ensures.sorted (λ a r q k. search rules))
    (is ∙ ap keyed_acts c.as_slice.ensures.value))
    c.acts_of.ensures
