use Rattle.std.proofs.Common.{length, []}
use Rattle.source_reader.specs.Reading.{names_of, tokens_from}
use Rattle.source_grammar.specs.Growing.{AreThere, Adds, begins_of}
use Rattle.chor_parser.proofs.Joined.{ItemsGo}
use Rattle.chor_parser.proofs.source.read_items.Given as goal

abbrev pub invariant-items : goal.invariant-items
invariant-items l = record { go : ItemsGo (names_of l.input) (tokens_from l.input l.fn.at) l.items (tokens_from l.input l.at); there : AreThere l.items.tree.nodes l.items.procs; adds : Adds [] l.items.tree.nodes (begins_of l.items.procs) }

abbrev pub decreases-items : goal.decreases-items
decreases-items l = length (tokens_from l.input l.at)
