use Rattle.typing_rules.specs.Environment.{unset}
use Rattle.typing_steps.specs.Sorts.{sorts_in}
use Rattle.typing_steps.proofs.SortMaps.{names_of, cleared_turn, cleared_all}
use Rattle.typing_steps.proofs.sorts.SortMap.clear.Goals as goal

pub loop-part-preserved : goal.loop-part-preserved
loop-part-preserved c =
    cleared_turn (sorts_in c.loop-part.self) (sorts_in c.put.new.self) (unset (sorts_in c.args.self.now) (names_of c.args.parts.now)) c.args.parts.now c.loop-part.part-index _ c.new.result.map c.loop-part-test.true c.new.ensures c.in_ok-put.ensures c.loop-part.invariant

pub returns : goal.returns
returns c = cleared_all (sorts_in c.loop-part.self) (unset (sorts_in c.args.self.now) (names_of c.args.parts.now)) c.args.parts.now c.loop-part.part-index c.loop-part-test.false c.loop-part.invariant
