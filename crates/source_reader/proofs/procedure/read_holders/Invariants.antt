use Rattle.std.proofs.Common.{◌-◌, length}
use Rattle.source_grammar.specs.Symbols.{Nothing}
use Rattle.source_grammar.specs.Grammar.{HolderIs}
use Rattle.source_grammar.specs.Parts.{HoldersPart}
use Rattle.source_reader.specs.Reading.{names_of, tokens_from}
use Rattle.source_grammar.proofs.ItemLists.{Comes, Bare}
use Rattle.source_reader.proofs.procedure.read_holders.Given as goal

abbrev pub invariant-loop-after : goal.invariant-loop-after
invariant-loop-after l = Comes HoldersPart (Bare HolderIs) Nothing (names_of l.input) (tokens_from l.input l.fn.at) (0 - length l.holders) l.holders (tokens_from l.input l.at)

abbrev pub decreases-loop-after : goal.decreases-loop-after
decreases-loop-after l = length (tokens_from l.input l.at)
