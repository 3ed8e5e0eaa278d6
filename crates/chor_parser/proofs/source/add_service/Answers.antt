use Rattle.std.proofs.Common.{refl}
use Rattle.std.proofs.lemmas.Result.{err_from_is_err_and}
use Rattle.source_grammar.proofs.Sequels.{past}
use Rattle.chor_parser.proofs.Joined.{service_leads, service_goes}
use Rattle.chor_parser.proofs.source.add_service.Goals as goal

pub returns-in_err-service-clause-halts : goal.returns-in_err-service-clause-halts
returns-in_err-service-clause-halts c =
    let p = err_from_is_err_and c.from_residual.result c.from_residual.ensures.1 in
    rw (p.1, p.2) (λ t0 w. past (service_leads w) (c.in_err-service.ensures.halts t0 w))

pub returns-clause-goes : goal.returns-clause-goes
returns-clause-goes c = λ t0 w. service_goes w (c.in_ok-service.ensures.reads t0 w) refl c.in_ok-push.ensures.ok refl refl
