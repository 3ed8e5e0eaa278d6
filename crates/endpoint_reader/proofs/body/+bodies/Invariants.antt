use Rattle.std.proofs.Common.{length}
use Rattle.endpoint_reader.specs.Tokens.{from}
use Rattle.endpoint_reader.specs.Known.{AreLabelsThere, AreLinesThere}
use Rattle.endpoint_reader.specs.Signatures.{two_of}
use Rattle.endpoint_reader.proofs.Arms.{ArmsFrom}
use Rattle.endpoint_reader.proofs.body.+bodies.Given as goal

abbrev pub decreases-read_body : goal.decreases-read_body
decreases-read_body l = length (from l.input.now l.at)

abbrev pub decreases-read_tail : goal.decreases-read_tail
decreases-read_tail l = length (from l.input.now l.at)

abbrev pub decreases-read_branch : goal.decreases-read_branch
decreases-read_branch l = length (from l.input.now l.at)

abbrev pub decreases-read_conditional : goal.decreases-read_conditional
decreases-read_conditional l = length (from l.input.now l.at)

abbrev pub invariant-read_branch-arms : goal.invariant-read_branch-arms
invariant-read_branch-arms l = record { so_far : ArmsFrom l.input l.fn.room (from l.input l.fn.at) (two_of l.input l.names) l.fn.lines.items l.lines.items l.arms (from l.input l.at); lines : AreLinesThere l.input l.lines.items; labels : AreLabelsThere l.input l.arms }

abbrev pub decreases-read_branch-arms : goal.decreases-read_branch-arms
decreases-read_branch-arms l = length (from l.input l.at)
