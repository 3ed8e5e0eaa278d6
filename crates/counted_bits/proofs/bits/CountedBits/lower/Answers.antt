use Rattle.std.proofs.Common.{true, ap, refl, ◌∙◌, arith}
use Rattle.std.specs.Prelude.{slice_get}
use Rattle.counted_bits.proofs.Changes.{have_counts, counted_alike, total_some, block_some, group_some, top_some, lowered, lowered_before}
use Rattle.counted_bits.proofs.bits.CountedBits.lower.Goals as goal

pub overflow_sub-self : goal.overflow_sub-self
overflow_sub-self c = omega (arith, total_some c.self.invariant.counted c.args.place (ap (λ l. slice_get l c.args.place) c.self.view_is ∙ c.requires))

pub lower-requires-clause-place : goal.lower-requires-clause-place
lower-requires-clause-place c = (have_counts c.self.invariant.counted c.args.place true (ap (λ l. slice_get l c.args.place) c.self.view_is ∙ c.requires)).block

pub lower-requires-clause-some : goal.lower-requires-clause-some
lower-requires-clause-some c = block_some c.self.invariant.counted c.args.place (ap (λ l. slice_get l c.args.place) c.self.view_is ∙ c.requires)

pub lower-requires-2-clause-place : goal.lower-requires-2-clause-place
lower-requires-2-clause-place c = (have_counts c.self.invariant.counted c.args.place true (ap (λ l. slice_get l c.args.place) c.self.view_is ∙ c.requires)).group

pub lower-requires-2-clause-some : goal.lower-requires-2-clause-some
lower-requires-2-clause-some c = group_some c.self.invariant.counted c.args.place (ap (λ l. slice_get l c.args.place) c.self.view_is ∙ c.requires)

pub lower-requires-3-clause-place : goal.lower-requires-3-clause-place
lower-requires-3-clause-place c = (have_counts c.self.invariant.counted c.args.place true (ap (λ l. slice_get l c.args.place) c.self.view_is ∙ c.requires)).top

pub lower-requires-3-clause-some : goal.lower-requires-3-clause-some
lower-requires-3-clause-some c = top_some c.self.invariant.counted c.args.place (ap (λ l. slice_get l c.args.place) c.self.view_is ∙ c.requires)

pub overflow_sub-self-2 : goal.overflow_sub-self-2
overflow_sub-self-2 c =
    let at = ap (λ l. slice_get l c.args.place) c.self.view_is ∙ c.requires in
    omega (arith, lowered_before c.self.invariant.counted c.args.place at c.self.inside.block c.self.inside.start c.self.invariant.starts, c.one.ensures)

pub invariant_of-self : goal.invariant_of-self
invariant_of-self c =
    let at = ap (λ l. slice_get l c.args.place) c.self.view_is ∙ c.requires in
    record {
      counted = counted_alike (lowered c.self.invariant.counted c.args.place at) refl c.lower.ensures c.lower-2.ensures c.lower-3.ensures;
      starts = omega (arith, lowered_before c.self.invariant.counted c.args.place at c.self.inside.block c.self.inside.start c.self.invariant.starts, c.one.ensures);
    }
