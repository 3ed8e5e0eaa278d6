use Rattle.std.proofs.Common.{ℕ, ◌<◌, sym, subst, length}
use Rattle.std.specs.Prelude.{slice_index_or}
use Rattle.std.proofs.lemmas.Option.{slice_get-get_or}
use Rattle.state_sets.specs.declared.graph.Edge.{Edge}
use Rattle.state_sets.proofs.Lists.{in_of_at}
use Rattle.state_sets.proofs.Allowed.{starts_kept, starts_longer, added_more, added_all}
use Rattle.state_sets.proofs.starts.add_group.Goals as goal

pub loop-edge-init : goal.loop-edge-init
loop-edge-init c = record { more = starts_kept c.args.starts.now.items; added = λ e m. absurd m }

pub add_start-requires : goal.add_start-requires
add_start-requires c =
    let d : Edge = record { from = 0; to = 0 } in
    let e : Edge = slice_index_or c.args.edges.now c.loop-edge.edge-index d in
    let within : e.from < length c.args.starts.now.items = c.requires e (in_of_at e c.args.edges.now c.loop-edge.edge-index (slice_get-get_or c.args.edges.now c.loop-edge.edge-index d c.loop-edge-test.true)) in
    subst (λ (n : ℕ). e.from < n) (sym c.loop-edge.invariant.more.size) within

pub loop-edge-preserved : goal.loop-edge-preserved
loop-edge-preserved c = record {
  more = starts_longer c.args.starts.now.items c.loop-edge.starts.items c.add_start.new.starts.items c.loop-edge.invariant.more c.in_ok-add_start.ensures.more;
  added = added_more c.args.edges.now c.loop-edge.edge-index _ c.args.number c.loop-edge.starts.items c.add_start.new.starts.items c.loop-edge-test.true c.loop-edge.invariant.added c.in_ok-add_start.ensures.more c.in_ok-add_start.ensures.added;
}

pub returns-clause-added : goal.returns-clause-added
returns-clause-added c = added_all c.args.edges.now c.loop-edge.edge-index c.args.number c.loop-edge.starts.items c.loop-edge-test.false c.loop-edge.invariant.added
