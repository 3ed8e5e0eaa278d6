use Rattle.grammar.proofs.Passing.{passes}
use Rattle.endpoint_reader.proofs.Arms.{call_is}
use Rattle.endpoint_reader.proofs.Tables.{grows_by, last_there, body_pushed}
use Rattle.endpoint_reader.proofs.Known.{one_more_line}
use Rattle.endpoint_reader.proofs.body.read_call.Goals as goal

pub returns-in_err-signature-clause-halts : goal.returns-in_err-signature-clause-halts
returns-in_err-signature-clause-halts c = passes _ _ c.from_residual.ensures.1 c.in_err-signature.ensures.halts

pub returns-clause-made : goal.returns-clause-made
returns-clause-made c = record {
  reads = call_is c.in_ok-signature.ensures.reads (body_pushed c.args.input.now _ _ c.in_ok-call.ensures.grows c.in_ok-call.ensures.id);
  there = last_there _ _ c.in_ok-call.ensures.grows c.in_ok-call.ensures.id;
  grows = grows_by _ c.in_ok-call.ensures.grows;
  known = one_more_line c.args.input.now _ _ _ c.requires c.in_ok-signature.ensures.known c.in_ok-call.ensures.grows;
}
