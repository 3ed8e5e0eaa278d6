use Rattle.std.proofs.Common.{◌∙◌}
use Rattle.std.specs.Map.Iter.{deref_pair}
use Rattle.std.proofs.lemmas.Map.Iter.{rest_more}
use Rattle.typing_steps.specs.Sorts.{sorts_in}
use Rattle.typing_steps.proofs.SortMaps.{copied_init, copied_turn}
use Rattle.typing_steps.proofs.sorts.SortMap.copy.Goals as goal

pub loop-process-init : goal.loop-process-init
loop-process-init c =
    copied_init c.into_iter-process-iterator.result c.args.self.now.processes.entries (sorts_in c.new-sorts.result) (c.into_iter-process-iterator.ensures.into_iter_gives ∙ c.iter-process-items.ensures.rest)
    c.iter-process-items.ensures.unique c.new-sorts.ensures

pub loop-process-preserved : goal.loop-process-preserved
loop-process-preserved c =
    let left = c.loop-process.process-iterator in
    let rest = c.next.new.self in
    copied_turn left rest (sorts_in c.loop-process.sorts) (sorts_in c.put.new.self) (sorts_in c.args.self.now) c.in-Some.process.now c.in-Some.env.now c.in_ok-copy.field-0.map
    (rest_more deref_pair left rest c.next.result (c.in-Some.process, c.in-Some.env) c.in-Some.is c.next.ensures.steps) c.in_ok-copy.ensures c.in_ok-put.ensures c.loop-process.invariant.0 c.loop-process.invariant.1
