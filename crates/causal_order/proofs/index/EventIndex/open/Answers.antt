use Rattle.std.proofs.Common.{◌∙◌, ap, sym, List, ℕ, ◌++◌, ◌∷◌, []}
use Rattle.causal_order.proofs.Indexing.{one_more}
use Rattle.causal_order.proofs.index.EventIndex.open.Goals as goal

pub returns : goal.returns
returns c =
    one_more c.args.self.now _ c.args.direction c.args.place c.push.new.self
    (c.in_ok-push.ensures.ok ∙ ap (λ (l : List ℕ). l ++ c.args.place ∷ []) (c.new-places.ensures ∙ sym c.requires)) c.in_ok-insert.ensures.updates.0
