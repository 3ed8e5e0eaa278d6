use Rattle.std.proofs.Common.{◌≤◌, length}
use Rattle.endpoint_reader.specs.Tokens.{from}
use Rattle.endpoint_reader.specs.Known.{AreActionsThere}
use Rattle.endpoint_reader.specs.Lines.{Going}
use Rattle.endpoint_reader.proofs.body.read_actions.Given as goal

abbrev pub invariant-nodes : goal.invariant-nodes
invariant-nodes l = record { going : Going l.input l.fn.room (from l.input l.fn.at) l.actions.items l.left (from l.input l.at); further : length (from l.input l.at) ≤ length (from l.input l.fn.at); known : AreActionsThere l.input l.actions.items }

abbrev pub decreases-nodes : goal.decreases-nodes
decreases-nodes l = length (from l.input l.at)
