use Rattle.std.proofs.Common.{arith}
use Rattle.grammar.proofs.Passing.{passes}
use Rattle.grammar.proofs.Progress.{read_no_longer}
use Rattle.grammar.proofs.Sequences.{then_halts, now_halts}
use Rattle.endpoint_grammar.specs.Grammar.{units}
use Rattle.endpoint_units.proofs.Entering.{through_halts}
use Rattle.endpoint_units.proofs.Units.{process_goes, process_room, process_halts}
use Rattle.endpoint_units.proofs.Insides.{process_inside}
use Rattle.endpoint_units.proofs.Known.{process_there}
use Rattle.endpoint_units.proofs.unit.read_process.Goals as goal

pub returns-in_err-name-clause-halts : goal.returns-in_err-name-clause-halts
returns-in_err-name-clause-halts c = passes _ _ c.from_residual.ensures.1 (process_halts (process_room c.args.parts.now.processes c.saturating_sub-room.ensures c.len.ensures) (now_halts c.in_err-name.ensures.halts))

pub returns-in_err-body-clause-halts : goal.returns-in_err-body-clause-halts
returns-in_err-body-clause-halts c = passes _ _ c.from_residual-in_err-body.ensures.1 (process_halts (process_room c.args.parts.now.processes c.saturating_sub-room.ensures c.len.ensures) (then_halts c.in_ok-name.ensures.reads (through_halts _ (units _) c.in_err-body.ensures.halts)))

pub returns-clause-goes : goal.returns-clause-goes
returns-clause-goes c = process_goes c.args.input.now c.args.parts.now c.read_body.new.lines _ _ (process_room c.args.parts.now.processes c.saturating_sub-room.ensures c.len.ensures) c.in_ok-name.ensures.reads c.in_ok-body.ensures.reads c.requires.inside c.in_ok-body.ensures.grows c.in_ok-push.ensures.ok

pub returns-clause-inside : goal.returns-clause-inside
returns-clause-inside c = process_inside _ c.requires.inside c.in_ok-body.ensures.grows c.in_ok-body.ensures.there c.in_ok-push.ensures.ok

pub returns-clause-further : goal.returns-clause-further
returns-clause-further c = omega (arith, read_no_longer c.in_ok-name.ensures.reads, read_no_longer c.in_ok-body.ensures.reads)

pub returns-clause-known : goal.returns-clause-known
returns-clause-known c = process_there c.args.input.now _ _ c.requires.known c.in_ok-body.ensures.known c.in_ok-name.ensures.known c.in_ok-push.ensures.ok
