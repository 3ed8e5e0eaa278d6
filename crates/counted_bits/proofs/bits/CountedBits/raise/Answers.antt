use Rattle.std.proofs.Common.{false, ◌+◌, ap, refl, ◌∙◌, arith}
use Rattle.std.specs.Prelude.{slice_get}
use Rattle.counted_bits.proofs.Changes.{have_counts, counted_alike, total_room, block_room, group_room, top_room, raised, raised_before, start_room}
use Rattle.counted_bits.proofs.bits.CountedBits.raise.Goals as goal

pub overflow_add-self : goal.overflow_add-self
overflow_add-self c = omega (arith, total_room c.self.invariant.counted c.args.place (ap (λ l. slice_get l c.args.place) c.self.view_is ∙ c.requires))

pub raise-requires-clause-place : goal.raise-requires-clause-place
raise-requires-clause-place c = (have_counts c.self.invariant.counted c.args.place false (ap (λ l. slice_get l c.args.place) c.self.view_is ∙ c.requires)).block

pub raise-requires-clause-room : goal.raise-requires-clause-room
raise-requires-clause-room c = block_room c.self.invariant.counted c.args.place (ap (λ l. slice_get l c.args.place) c.self.view_is ∙ c.requires)

pub raise-requires-2-clause-place : goal.raise-requires-2-clause-place
raise-requires-2-clause-place c = (have_counts c.self.invariant.counted c.args.place false (ap (λ l. slice_get l c.args.place) c.self.view_is ∙ c.requires)).group

pub raise-requires-2-clause-room : goal.raise-requires-2-clause-room
raise-requires-2-clause-room c = group_room c.self.invariant.counted c.args.place (ap (λ l. slice_get l c.args.place) c.self.view_is ∙ c.requires)

pub raise-requires-3-clause-place : goal.raise-requires-3-clause-place
raise-requires-3-clause-place c = (have_counts c.self.invariant.counted c.args.place false (ap (λ l. slice_get l c.args.place) c.self.view_is ∙ c.requires)).top

pub raise-requires-3-clause-room : goal.raise-requires-3-clause-room
raise-requires-3-clause-room c = top_room c.self.invariant.counted c.args.place (ap (λ l. slice_get l c.args.place) c.self.view_is ∙ c.requires)

pub overflow_add-self-2 : goal.overflow_add-self-2
overflow_add-self-2 c =
    let at = ap (λ l. slice_get l c.args.place) c.self.view_is ∙ c.requires in
    omega (arith, start_room c.self.invariant.counted c.args.place at c.self.inside.block c.self.inside.start c.self.invariant.starts, c.one.ensures)

pub invariant_of-self : goal.invariant_of-self
invariant_of-self c =
    let at = ap (λ l. slice_get l c.args.place) c.self.view_is ∙ c.requires in
    record {
      counted = counted_alike (raised c.self.invariant.counted c.args.place at) refl c.raise.ensures c.raise-2.ensures c.raise-3.ensures;
      starts = ap (λ n. c.self.inside.start + n) c.one.ensures ∙ raised_before c.self.invariant.counted c.args.place at c.self.inside.block c.self.inside.start c.self.invariant.starts;
    }
