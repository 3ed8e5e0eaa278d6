use Rattle.std.proofs.Common.{sym, ◌∙◌}
use Rattle.typing_steps.specs.Known.{environment_of}
use Rattle.type_check.proofs.Begins.{sessions_differ, procedure_resolved}
use Rattle.type_check.proofs.Procedures.{head_first, body_first}
use Rattle.type_check.proofs.Turns.{none_is}
use Rattle.type_check.proofs.checking.first_in_procedure.Goals as goal

pub returns-then-is_some : goal.returns-then-is_some
returns-then-is_some c = head_first c.args.file.now c.args.procedure.now c.in_ok-head.head c.in_ok-head.ensures (sym c.is_some.ensures ∙ c.if-is_some.true)

pub at_procedure-requires : goal.at_procedure-requires
at_procedure-requires c = sessions_differ c.args.file.now c.requires.names c.args.procedure.now c.requires.declared

pub first_in_body-requires : goal.first_in_body-requires
first_in_body-requires c = procedure_resolved c.args.file.now c.requires.names c.args.procedure.now (environment_of c.in_ok-known.known) c.requires.declared c.in_ok-known.ensures

pub returns : goal.returns
returns c =
    body_first c.args.file.now c.args.procedure.now c.in_ok-head.head c.in_ok-body.body (environment_of c.in_ok-known.known) c.in_ok-head.ensures
    (none_is c.in_ok-head.head (sym c.is_some.ensures ∙ c.if-is_some.false)) c.in_ok-known.ensures c.in_ok-body.ensures
