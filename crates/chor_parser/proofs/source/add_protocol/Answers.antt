use Rattle.std.proofs.Common.{refl}
use Rattle.std.proofs.lemmas.Result.{err_from_is_err_and}
use Rattle.source_grammar.proofs.Sequels.{past}
use Rattle.chor_parser.proofs.Joined.{protocol_leads, protocol_goes}
use Rattle.chor_parser.proofs.source.add_protocol.Goals as goal

pub returns-in_err-protocol-clause-halts : goal.returns-in_err-protocol-clause-halts
returns-in_err-protocol-clause-halts c =
    let p = err_from_is_err_and c.from_residual.result c.from_residual.ensures.1 in
    rw (p.1, p.2) (λ t0 w. past (protocol_leads w) (c.in_err-protocol.ensures.halts t0 w))

pub returns-clause-goes : goal.returns-clause-goes
returns-clause-goes c = λ t0 w. protocol_goes w (c.in_ok-protocol.ensures.reads t0 w) c.in_ok-push.ensures.ok refl refl refl
