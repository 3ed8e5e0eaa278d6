use Rattle.std.proofs.Common.{sym, ap, ◌∙◌}
use Rattle.std.proofs.lemmas.List.{drop_all}
use Rattle.chor_tree.specs.Names.{is_among}
use Rattle.name_resolution.specs.Places.{names_of}
use Rattle.name_resolution.proofs.Repeats.{found_here, not_here}
use Rattle.name_resolution.proofs.named.has_name.Goals as goal

pub returns-then-eq : goal.returns-then-eq
returns-then-eq g c =
    sym (found_here g.T.HasName.name_of c.args.items.now c.loop-item.item-index c.item-item.result c.named.result c.args.name c.loop-item-test.true c.item-item.is c.named.ensures (sym c.eq.ensures ∙ c.if-eq.true)) ∙ c.loop-item.invariant

pub loop-item-preserved : goal.loop-item-preserved
loop-item-preserved g c =
    not_here g.T.HasName.name_of c.args.items.now c.loop-item.item-index c.item-item.result c.named.result c.args.name c.loop-item-test.true c.item-item.is c.named.ensures (sym c.eq.ensures ∙ c.if-eq.false) ∙ c.loop-item.invariant

pub returns : goal.returns
returns g c = ap (λ l. is_among (names_of g.T.HasName.name_of l) c.args.name) (sym (drop_all c.loop-item.item-index c.args.items.now c.loop-item-test.false)) ∙ c.loop-item.invariant
