use Rattle.std.proofs.Common.{◌∙◌, ap, List, ℕ, ◌++◌, ◌∷◌, []}
use Rattle.std.proofs.lemmas.Result.{on_ok_weaker}
use Rattle.causal_order.proofs.Indexing.{list_written, one_more, becomes_at}
use Rattle.causal_order.proofs.index.EventIndex.add.Goals as goal

pub returns : goal.returns
returns c =
    let old = c.args.self.now in
    let d = c.args.direction in
    let list = c.in-Some.list in
    let unique = c.get_index_mut.ensures.unique in
    let was = list_written old.lists d list c.in-Some-get_index_mut.places.now unique c.in-Some.ensures c.in-Some-get_index_mut.ensures.value in
    on_ok_weaker c.push.result (λ is.
    one_more old _ d c.args.place c.push.new.self (is ∙ ap (λ (l : List ℕ). l ++ c.args.place ∷ []) was) (becomes_at old.lists d list c.push.new.self unique c.in-Some.ensures)) c.push.ensures.ok
