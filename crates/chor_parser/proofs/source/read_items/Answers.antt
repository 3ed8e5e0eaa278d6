use Rattle.std.proofs.lemmas.Result.{err_from_is_err_and}
use Rattle.chor_parser.proofs.Joined.{none_so_far, one_so_far, item_stops, all_items, item_at, none_at, same_items}
use Rattle.source_grammar.proofs.Tables.{none_there}
use Rattle.source_grammar.proofs.Growth.{adds_nothing}
use Rattle.chor_parser.proofs.Joined.{adds_bodies}
use Rattle.chor_parser.proofs.source.read_items.Goals as goal

pub items-init : goal.items-init
items-init c = record { go = none_so_far c.new-protocols.ensures c.new-services.ensures c.new-procs.ensures; there = none_there _ _ c.new-procs.ensures; adds = adds_nothing _ _ c.new-tree.ensures c.new-procs.ensures }

pub returns-in_err-next-clause-halts : goal.returns-in_err-next-clause-halts
returns-in_err-next-clause-halts c =
    let p = err_from_is_err_and c.from_residual.result c.from_residual.ensures.1 in
    rw (p.1, p.2) (item_stops c.items.invariant.go c.in_err-next.ensures.begun c.in_err-next.ensures.halts)

pub items-preserved : goal.items-preserved
items-preserved c = record { go = one_so_far c.items.invariant.go (item_at _ _ _ _ _ _ _ c.in_ok-next.ensures.some c.in-Some.is); there = c.in_ok-next.ensures.there; adds = adds_bodies c.items.invariant.adds c.in_ok-next.ensures.adds }

pub items-smaller : goal.items-smaller
items-smaller c = (item_at _ _ _ _ _ _ _ c.in_ok-next.ensures.some c.in-Some.is).shorter

pub returns-in_default-clause-reads : goal.returns-in_default-clause-reads
returns-in_default-clause-reads c = all_items (same_items _ c.items.invariant.go (none_at _ c.in_ok-next.ensures.none c.in_default.is)) (none_at _ c.in_ok-next.ensures.over c.in_default.is)

pub returns-in_default-clause-adds : goal.returns-in_default-clause-adds
returns-in_default-clause-adds c = adds_bodies c.items.invariant.adds c.in_ok-next.ensures.adds
