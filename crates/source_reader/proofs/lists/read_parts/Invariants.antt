use Rattle.std.proofs.Common.{◌-◌, length}
use Rattle.source_grammar.specs.Symbols.{Nothing}
use Rattle.source_grammar.specs.Grammar.{PartIs}
use Rattle.source_grammar.specs.Parts.{AnyListPart}
use Rattle.source_reader.specs.Reading.{names_of, tokens_from}
use Rattle.source_grammar.proofs.ItemLists.{Comes, Bare}
use Rattle.source_reader.proofs.lists.read_parts.Given as goal

abbrev pub invariant-loop-after : goal.invariant-loop-after
invariant-loop-after l = Comes (AnyListPart PartIs) (Bare PartIs) Nothing (names_of l.input) (tokens_from l.input l.fn.at) (0 - length l.parts) l.parts (tokens_from l.input l.at)

abbrev pub decreases-loop-after : goal.decreases-loop-after
decreases-loop-after l = length (tokens_from l.input l.at)
