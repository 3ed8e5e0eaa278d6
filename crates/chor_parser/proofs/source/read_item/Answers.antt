use Rattle.std.proofs.lemmas.Result.{err_from_is_err_and}
use Rattle.source_grammar.proofs.Terminals.{no_word_head}
use Rattle.source_grammar.proofs.Files.{no_item_head}
use Rattle.chor_parser.proofs.Joined.{begins_protocol, begins_service, begins_procedure}
use Rattle.chor_parser.proofs.source.read_item.Goals as goal

pub returns-in_err-after_protocol-clause-begun : goal.returns-in_err-after_protocol-clause-begun
returns-in_err-after_protocol-clause-begun c =
    let p = err_from_is_err_and c.from_residual.result c.from_residual.ensures.1 in
    rw p.1 (begins_protocol c.in-Some.ensures.found)

pub returns-in_err-after_protocol-clause-halts : goal.returns-in_err-after_protocol-clause-halts
returns-in_err-after_protocol-clause-halts c =
    let p = err_from_is_err_and c.from_residual.result c.from_residual.ensures.1 in
    rw (p.1, p.2) (c.in_err-after_protocol.ensures.halts _ c.in-Some.ensures.found)

pub returns-in_err-after_service-clause-begun : goal.returns-in_err-after_service-clause-begun
returns-in_err-after_service-clause-begun c =
    let p = err_from_is_err_and c.from_residual-in_err-after_service.result c.from_residual-in_err-after_service.ensures.1 in
    rw p.1 (begins_service c.in-Some-after_word.ensures.found)

pub returns-in_err-after_service-clause-halts : goal.returns-in_err-after_service-clause-halts
returns-in_err-after_service-clause-halts c =
    let p = err_from_is_err_and c.from_residual-in_err-after_service.result c.from_residual-in_err-after_service.ensures.1 in
    rw (p.1, p.2) (c.in_err-after_service.ensures.halts _ c.in-Some-after_word.ensures.found)

pub returns-in_err-after_procedure-clause-begun : goal.returns-in_err-after_procedure-clause-begun
returns-in_err-after_procedure-clause-begun c =
    let p = err_from_is_err_and c.from_residual-in_err-after_procedure.result c.from_residual-in_err-after_procedure.ensures.1 in
    rw p.1 (begins_procedure c.in-Some-after_word-2.ensures.found)

pub returns-in_err-after_procedure-clause-halts : goal.returns-in_err-after_procedure-clause-halts
returns-in_err-after_procedure-clause-halts c =
    let p = err_from_is_err_and c.from_residual-in_err-after_procedure.result c.from_residual-in_err-after_procedure.ensures.1 in
    rw (p.1, p.2) (c.in_err-after_procedure.ensures.halts _ c.in-Some-after_word-2.ensures.found)

pub returns-in-Some-clause-some : goal.returns-in-Some-clause-some
returns-in-Some-clause-some c = c.in_ok-after_protocol.ensures.goes _ c.in-Some.ensures.found

pub returns-in-Some-after_word-clause-some : goal.returns-in-Some-after_word-clause-some
returns-in-Some-after_word-clause-some c = c.in_ok-after_service.ensures.goes _ c.in-Some-after_word.ensures.found

pub returns-in-Some-after_word-2-clause-some : goal.returns-in-Some-after_word-2-clause-some
returns-in-Some-after_word-2-clause-some c = c.in_ok-after_procedure.ensures.goes _ c.in-Some-after_word-2.ensures.found

pub returns-clause-over : goal.returns-clause-over
returns-clause-over c = λ h. no_item_head (λ k. no_word_head c.in_default.ensures.none k) (λ k. no_word_head c.in_default-after_word.ensures.none k) (λ k. no_word_head c.in_default-after_word-2.ensures.none k) h
