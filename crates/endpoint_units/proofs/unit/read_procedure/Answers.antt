use Rattle.std.proofs.Common.{arith}
use Rattle.grammar.proofs.Passing.{passes}
use Rattle.grammar.proofs.Progress.{read_no_longer}
use Rattle.grammar.proofs.Sequences.{then_halts, now_halts}
use Rattle.endpoint_grammar.specs.Grammar.{units}
use Rattle.endpoint_units.proofs.Entering.{through_halts}
use Rattle.endpoint_units.proofs.Units.{procedure_goes}
use Rattle.endpoint_units.proofs.Insides.{procedure_inside}
use Rattle.endpoint_units.proofs.Known.{procedure_there}
use Rattle.endpoint_units.proofs.unit.read_procedure.Goals as goal

pub returns-in_err-signature-clause-halts : goal.returns-in_err-signature-clause-halts
returns-in_err-signature-clause-halts c = passes _ _ c.from_residual.ensures.1 (now_halts c.in_err-signature.ensures.halts)

pub returns-in_err-body-clause-halts : goal.returns-in_err-body-clause-halts
returns-in_err-body-clause-halts c = passes _ _ c.from_residual-in_err-body.ensures.1 (then_halts c.in_ok-signature.ensures.reads.reads (through_halts _ (units _) c.in_err-body.ensures.halts))

pub returns-clause-goes : goal.returns-clause-goes
returns-clause-goes c = procedure_goes c.args.input.now c.args.parts.now c.read_body.new.lines _ _ c.in_ok-signature.ensures.reads c.in_ok-body.ensures.reads c.requires.inside c.in_ok-body.ensures.grows c.in_ok-push.ensures.ok

pub returns-clause-inside : goal.returns-clause-inside
returns-clause-inside c = procedure_inside _ c.requires.inside c.in_ok-body.ensures.grows c.in_ok-body.ensures.there c.in_ok-push.ensures.ok

pub returns-clause-further : goal.returns-clause-further
returns-clause-further c = omega (arith, read_no_longer c.in_ok-signature.ensures.reads.reads, read_no_longer c.in_ok-body.ensures.reads)

pub returns-clause-known : goal.returns-clause-known
returns-clause-known c = procedure_there c.args.input.now _ _ c.requires.known c.in_ok-body.ensures.known c.in_ok-signature.ensures.known c.in_ok-push.ensures.ok
