use Rattle.std.proofs.Common.{◌-◌, length}
use Rattle.source_reader.specs.Reading.{names_of, tokens_from}
use Rattle.source_reader.proofs.Readers.{StatesHaveCome}
use Rattle.source_reader.proofs.protocol.read_states.Given as goal

abbrev pub invariant-states : goal.invariant-states
invariant-states l = StatesHaveCome (names_of l.input) (tokens_from l.input l.fn.at) (256 - length l.states) l.states (tokens_from l.input l.at)

abbrev pub decreases-states : goal.decreases-states
decreases-states l = length (tokens_from l.input l.at)
