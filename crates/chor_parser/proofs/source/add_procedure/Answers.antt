use Rattle.std.proofs.Common.{refl}
use Rattle.std.proofs.lemmas.Result.{err_from_is_err_and}
use Rattle.source_grammar.proofs.Sequels.{past}
use Rattle.chor_parser.proofs.Joined.{procedure_leads, procedure_goes}
use Rattle.source_grammar.proofs.Tables.{last_is_there, all_there}
use Rattle.chor_parser.proofs.source.add_procedure.Goals as goal

pub returns-in_err-procedure-clause-halts : goal.returns-in_err-procedure-clause-halts
returns-in_err-procedure-clause-halts c =
    let p = err_from_is_err_and c.from_residual.result c.from_residual.ensures.1 in
    rw (p.1, p.2) (λ t0 w. past (procedure_leads w) (c.in_err-procedure.ensures.halts t0 w))

pub returns-clause-goes : goal.returns-clause-goes
returns-clause-goes c = λ t0 w. procedure_goes _ w (c.in_ok-procedure.ensures.reads t0 w) refl refl c.in_ok-push.ensures.ok c.in_ok-procedure.ensures.grows c.requires

pub returns-clause-there : goal.returns-clause-there
returns-clause-there c = rw c.in_ok-push.ensures.ok (last_is_there _ _ _ (all_there _ _ _ c.in_ok-procedure.ensures.grows c.requires) c.in_ok-procedure.ensures.there)
