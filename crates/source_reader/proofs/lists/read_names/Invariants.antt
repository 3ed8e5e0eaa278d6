use Rattle.std.proofs.Common.{◌-◌, length}
use Rattle.source_grammar.specs.Symbols.{Nothing}
use Rattle.source_grammar.specs.Grammar.{NameIs}
use Rattle.source_grammar.specs.Parts.{NamesPart, ItemPart, Unlimited}
use Rattle.source_reader.specs.Reading.{names_of, tokens_from}
use Rattle.source_grammar.proofs.ItemLists.{Comes, Roomy}
use Rattle.source_reader.proofs.lists.read_names.Given as goal

abbrev pub invariant-loop-after : goal.invariant-loop-after
invariant-loop-after l = Comes (NamesPart l.fn.limit) (Roomy (ItemPart NameIs (Unlimited NameIs))) Nothing (names_of l.input) (tokens_from l.input l.fn.at) (l.fn.limit - length l.names) l.names (tokens_from l.input l.at)

abbrev pub decreases-loop-after : goal.decreases-loop-after
decreases-loop-after l = length (tokens_from l.input l.at)
