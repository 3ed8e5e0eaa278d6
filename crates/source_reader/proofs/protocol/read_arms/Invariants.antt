use Rattle.std.proofs.Common.{◌-◌, length}
use Rattle.source_grammar.specs.Symbols.{Nothing}
use Rattle.source_grammar.specs.Grammar.{ArmIs}
use Rattle.source_grammar.specs.Parts.{ItemPart, Unlimited, ArmsPart}
use Rattle.source_reader.specs.Reading.{names_of, tokens_from}
use Rattle.source_grammar.proofs.ItemLists.{Comes, Roomy}
use Rattle.source_reader.proofs.protocol.read_arms.Given as goal

abbrev pub invariant-loop-after : goal.invariant-loop-after
invariant-loop-after l = Comes (ArmsPart 64) (Roomy (ItemPart ArmIs (Unlimited ArmIs))) Nothing (names_of l.input) (tokens_from l.input l.fn.at) (64 - length l.arms) l.arms (tokens_from l.input l.at)

abbrev pub decreases-loop-after : goal.decreases-loop-after
decreases-loop-after l = length (tokens_from l.input l.at)
