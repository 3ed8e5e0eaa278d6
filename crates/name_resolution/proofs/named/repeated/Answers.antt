use Rattle.std.proofs.Common.{sym, subst, ◌∷◌}
use Rattle.name_resolution.specs.Sets.{AreAlike}
use Rattle.name_resolution.proofs.Members.{with_alike}
use Rattle.name_resolution.proofs.Repeats.{repeated_turn, repeated_ends, known_turn, known_ends}
use Rattle.name_resolution.proofs.named.repeated.Goals as goal

pub loop-item-preserved : goal.loop-item-preserved
loop-item-preserved g c =
    let n = c.named.result in
    let alike : AreAlike c.add_once.new.self (n.name ∷ c.loop-item.known) = subst (λ l. AreAlike l (n.name ∷ c.loop-item.known)) (sym c.in_ok-found.ensures.names) (with_alike c.loop-item.known n.name) in
    record {
      fault = repeated_turn g.T.HasName.name_of _ _ _ _ _ _ c.args.items.now c.loop-item.item-index c.item-item.result _ n _ c.as_slice-item-items.ensures c.loop-item-test.true c.item-item.is c.named.ensures alike c.in_ok-found.ensures.fault c.earlier-first.ensures c.loop-item.invariant.fault;
      known = known_turn g.T.HasName.name_of _ _ _ _ c.args.items.now c.loop-item.item-index c.item-item.result _ n c.as_slice-item-items.ensures c.loop-item-test.true c.item-item.is c.named.ensures c.in_ok-found.ensures.names c.loop-item.invariant.known;
    }

pub returns-clause-fault : goal.returns-clause-fault
returns-clause-fault g c = repeated_ends g.T.HasName.name_of c.loop-item.known c.loop-item.first _ _ c.args.items.now c.loop-item.item-index c.as_slice-item-items.ensures c.loop-item-test.false c.loop-item.invariant.fault

pub returns-clause-known : goal.returns-clause-known
returns-clause-known g c = known_ends g.T.HasName.name_of c.loop-item.known _ _ c.args.items.now c.loop-item.item-index c.as_slice-item-items.ensures c.loop-item-test.false c.loop-item.invariant.known
