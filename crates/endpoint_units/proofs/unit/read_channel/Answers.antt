use Rattle.std.proofs.Common.{arith}
use Rattle.grammar.proofs.Passing.{passes}
use Rattle.grammar.proofs.Progress.{read_no_longer}
use Rattle.grammar.proofs.Reading.{past, reads_past, into_rule}
use Rattle.grammar.proofs.Sequences.{then_halts, now_halts}
use Rattle.grammar.proofs.Ways.{one_is, not_entered}
use Rattle.endpoint_grammar.specs.Grammar.{roles, units}
use Rattle.endpoint_units.proofs.Units.{channel_goes}
use Rattle.endpoint_units.proofs.Known.{channel_there}
use Rattle.endpoint_units.proofs.unit.read_channel.Goals as goal

pub returns-in_err-name-clause-halts : goal.returns-in_err-name-clause-halts
returns-in_err-name-clause-halts c = passes _ _ c.from_residual.ensures.1 (now_halts c.in_err-name.ensures.halts)

pub returns-in_err-at-clause-halts : goal.returns-in_err-at-clause-halts
returns-in_err-at-clause-halts c = passes _ _ c.from_residual-in_err-at.ensures.1 (then_halts c.in_ok-name.ensures.reads (now_halts (not_entered _ (roles 16) c.in_err-at.ensures.missed)))

pub returns-in_err-roles-clause-halts : goal.returns-in_err-roles-clause-halts
returns-in_err-roles-clause-halts c = passes _ _ c.from_residual-in_err-roles.ensures.1 (then_halts c.in_ok-name.ensures.reads (now_halts (past _ (into_rule _ (roles 16) (one_is _ c.in_ok-at.ensures.reads.is).stands) c.in_err-roles.ensures.halts)))

pub returns-in_err-at-2-clause-halts : goal.returns-in_err-at-2-clause-halts
returns-in_err-at-2-clause-halts c = passes _ _ c.from_residual-in_err-at-2.ensures.1 (then_halts c.in_ok-name.ensures.reads (then_halts (reads_past _ (into_rule _ (roles 16) (one_is _ c.in_ok-at.ensures.reads.is).stands) c.in_ok-roles.ensures.reads.reads) (not_entered _ (units _) c.in_err-at-2.ensures.missed)))

pub returns-clause-goes : goal.returns-clause-goes
returns-clause-goes c = channel_goes c.args.input.now c.args.parts.now _ _ c.in_ok-name.ensures.reads c.in_ok-at.ensures.reads c.in_ok-roles.ensures.reads c.in_ok-at-2.ensures.reads c.in_ok-push.ensures.ok

pub returns-clause-further : goal.returns-clause-further
returns-clause-further c = omega (arith, read_no_longer c.in_ok-name.ensures.reads, read_no_longer c.in_ok-at.ensures.reads, read_no_longer c.in_ok-roles.ensures.reads.reads, read_no_longer c.in_ok-at-2.ensures.reads)

pub returns-clause-known : goal.returns-clause-known
returns-clause-known c = channel_there c.args.input.now _ _ c.requires.known (c.in_ok-name.ensures.known, c.in_ok-roles.ensures.known) c.in_ok-push.ensures.ok
