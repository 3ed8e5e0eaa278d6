use Rattle.std.proofs.Common.{◌<◌, ◌∙◌, length, take, sym, ap, subst, arith}
use Rattle.std.proofs.lemmas.List.{length-take-le}
use Rattle.std.proofs.lemmas.Result.{IfOk-from_err}
use Rattle.std.proofs.lemmas.List.Elements.{All-same, All-take}
use Rattle.chor_tree.specs.declared.file.File.{File}
use Rattle.chor_tree.specs.Source.{body_of}
use Rattle.projection.specs.MergeFaults.{sites_in}
use Rattle.block_codes.specs.declared.coded.Coded.{Coded}
use Rattle.block_codes.specs.Parts.{AreCalled}
use Rattle.block_codes.specs.Joins.{IsSound}
use Rattle.block_codes.specs.Walks.{StopsAt}
use Rattle.block_codes.proofs.Zips.{stops_by, short_of_memory}
use Rattle.block_codes.proofs.Walks.{rest_longer, rest_inside, statement_codes, last_coded, first_stops, second_stops, same_lengths, firsts_sound, seconds_sound, joined_answer, stopped_answer}
use Rattle.block_codes.proofs.walk.+walk.Goals as goal

-- ---- after a statement

pub after_statement-slice_bounds-put_parts-end : goal.after_statement-slice_bounds-put_parts-end
after_statement-slice_bounds-put_parts-end t c =
    let n = rest_longer c.requires.at c.requires.statement c.args.scope.now c.as_slice.result.now c.in_ok-rest.rest (c.as_slice.ensures ∙ c.in_ok-longer.ensures) c.in_ok-rest.ensures.codes in
    let m = ap length c.as_slice-2.ensures in
    sym (length-take-le (length c.args.scope.now) c.as_slice-2.result.now (omega arith))

pub after_statement-put_parts-requires : goal.after_statement-put_parts-requires
after_statement-put_parts-requires t c =
    let P = λ (x : Coded). x.code.0 < length c.codes.new.code.nodes in
    All-take P (length c.args.scope.now) c.as_slice-2.result.now
    (All-same P c.as_slice-2.result.now c.in_ok-rest.rest c.as_slice-2.ensures (rest_inside c.requires.at c.requires.statement c.as_slice.result.now c.in_ok-rest.rest c.in_ok-rest.ensures.codes))

pub after_statement-returns-clause-codes : goal.after_statement-returns-clause-codes
after_statement-returns-clause-codes t c =
    statement_codes c.requires.at c.requires.statement c.codes.new.code.nodes c.put_parts.new.code.nodes c.args.scope.now c.as_slice.result.now c.in_ok-rest.rest
    (take (length c.args.scope.now) c.as_slice-2.result.now) c.in_ok-put_parts.field-0 (c.as_slice.ensures ∙ c.in_ok-longer.ensures) c.in_ok-rest.ensures.codes
    (ap (take (length c.args.scope.now)) c.as_slice-2.ensures) c.in_ok-put_parts.ensures

pub after_statement-returns-in_err-longer-clause-codes : goal.after_statement-returns-in_err-longer-clause-codes
after_statement-returns-in_err-longer-clause-codes t c = IfOk-from_err c.from_residual.result _ c.from_residual.ensures.0

pub after_statement-returns-in_err-longer-clause-stopped : goal.after_statement-returns-in_err-longer-clause-stopped
after_statement-returns-in_err-longer-clause-stopped t c = short_of_memory _ _ c.from_residual.result c.from_residual.ensures.1

pub after_statement-returns-in_err-rest-clause-codes : goal.after_statement-returns-in_err-rest-clause-codes
after_statement-returns-in_err-rest-clause-codes t c = IfOk-from_err c.from_residual-in_err-rest.result _ c.from_residual-in_err-rest.ensures.0

pub after_statement-returns-in_err-put_parts-clause-codes : goal.after_statement-returns-in_err-put_parts-clause-codes
after_statement-returns-in_err-put_parts-clause-codes t c = IfOk-from_err c.from_residual-in_err-put_parts.result _ c.from_residual-in_err-put_parts.ensures.0

pub after_statement-returns-in_err-put_parts-clause-stopped : goal.after_statement-returns-in_err-put_parts-clause-stopped
after_statement-returns-in_err-put_parts-clause-stopped t c = short_of_memory _ _ c.from_residual-in_err-put_parts.result c.from_residual-in_err-put_parts.ensures.1

pub after_statement-returns-clause-stopped : goal.after_statement-returns-clause-stopped
after_statement-returns-clause-stopped t c = tt

-- ---- after a test

pub after_test-returns-in_err-firsts-clause-stopped : goal.after_test-returns-in_err-firsts-clause-stopped
after_test-returns-in_err-firsts-clause-stopped t c =
    let f = c.args.spot.now.file.now in
    stops_by (StopsAt f (sites_in c.args.scope.now (body_of f c.args.spot.now.id))) c.from_residual.result c.in_err-firsts.field-0.0 c.from_residual.ensures.1
    (first_stops c.requires.at c.requires.conditional c.args.scope.now c.in_err-firsts.field-0.0 c.in_err-firsts.ensures.stopped)

pub after_test-returns-in_err-seconds-clause-stopped : goal.after_test-returns-in_err-seconds-clause-stopped
after_test-returns-in_err-seconds-clause-stopped t c =
    let f = c.args.spot.now.file.now in
    stops_by (StopsAt f (sites_in c.args.scope.now (body_of f c.args.spot.now.id))) c.from_residual-in_err-seconds.result c.in_err-seconds.field-0.0 c.from_residual-in_err-seconds.ensures.1
    (second_stops c.requires.at c.requires.conditional c.args.scope.now c.in_ok-firsts.firsts c.in_err-seconds.field-0.0 c.in_ok-firsts.ensures.codes c.in_err-seconds.ensures.stopped)

pub after_test-join-requires-clause-same : goal.after_test-join-requires-clause-same
after_test-join-requires-clause-same t c =
    ap length c.as_slice.ensures
    ∙ same_lengths c.requires.at c.requires.conditional c.args.scope.now c.in_ok-firsts.firsts c.in_ok-seconds.seconds c.in_ok-firsts.ensures.codes c.in_ok-seconds.ensures.codes
    ∙ sym (ap length c.as_slice-2.ensures)

pub after_test-join-requires-clause-firsts : goal.after_test-join-requires-clause-firsts
after_test-join-requires-clause-firsts t c =
    All-same (IsSound c.codes-2.new.code.nodes) c.as_slice.result.now c.in_ok-firsts.firsts c.as_slice.ensures
    (firsts_sound c.requires.at c.requires.conditional c.args.scope.now c.in_ok-firsts.firsts c.in_ok-seconds.seconds c.in_ok-firsts.ensures.codes c.in_ok-seconds.ensures.codes)

pub after_test-join-requires-clause-seconds : goal.after_test-join-requires-clause-seconds
after_test-join-requires-clause-seconds t c =
    All-same (IsSound c.codes-2.new.code.nodes) c.as_slice-2.result.now c.in_ok-seconds.seconds c.as_slice-2.ensures
    (seconds_sound c.requires.at c.requires.conditional c.args.scope.now c.in_ok-firsts.firsts c.in_ok-seconds.seconds c.in_ok-firsts.ensures.codes c.in_ok-seconds.ensures.codes)

pub after_test-returns-clause-codes : goal.after_test-returns-clause-codes
after_test-returns-clause-codes t c =
    joined_answer c.requires.at c.requires.conditional c.args.scope.now c.in_ok-firsts.firsts c.in_ok-seconds.seconds c.in_ok-firsts.ensures.codes c.in_ok-seconds.ensures.codes
    c.join.new.code.nodes c.as_slice.result.now c.as_slice-2.result.now c.as_slice.ensures c.as_slice-2.ensures c.join.result c.join.ensures.joined

pub after_test-returns-clause-stopped : goal.after_test-returns-clause-stopped
after_test-returns-clause-stopped t c =
    stopped_answer c.requires.at c.requires.conditional c.args.scope.now c.in_ok-firsts.firsts c.in_ok-seconds.seconds c.in_ok-firsts.ensures.codes c.in_ok-seconds.ensures.codes
    c.as_slice.result.now c.as_slice-2.result.now c.as_slice.ensures c.as_slice-2.ensures c.join.result c.join.ensures.stopped

pub after_test-returns-in_err-firsts-clause-codes : goal.after_test-returns-in_err-firsts-clause-codes
after_test-returns-in_err-firsts-clause-codes t c = IfOk-from_err c.from_residual.result _ c.from_residual.ensures.0

pub after_test-returns-in_err-seconds-clause-codes : goal.after_test-returns-in_err-seconds-clause-codes
after_test-returns-in_err-seconds-clause-codes t c = IfOk-from_err c.from_residual-in_err-seconds.result _ c.from_residual-in_err-seconds.ensures.0

-- ---- at the last node

pub codes-returns-in_ok-last_codes-in-Last-clause-codes : goal.codes-returns-in_ok-last_codes-in-Last-clause-codes
codes-returns-in_ok-last_codes-in-Last-clause-codes t c =
    let n = c.spot_at-spot.result.node.now in
    last_coded c.args.scope.now c.in_ok-last_codes-in-Last.field-0 c.spot_at-spot.ensures.at c.in-Last.ensures
    (subst (λ (f : File). AreCalled f.procs n.form c.args.code.now.nodes c.last_codes.new.code.nodes c.args.scope.now c.in_ok-last_codes-in-Last.field-0) c.spot_at-spot.ensures.file c.in_ok-last_codes-in-Last.ensures)

pub codes-returns-in_err-last_codes-in-Last-clause-codes : goal.codes-returns-in_err-last_codes-in-Last-clause-codes
codes-returns-in_err-last_codes-in-Last-clause-codes t c = IfOk-from_err c.from_residual.result _ c.from_residual.ensures.0

pub codes-returns-in_err-last_codes-in-Last-clause-stopped : goal.codes-returns-in_err-last_codes-in-Last-clause-stopped
codes-returns-in_err-last_codes-in-Last-clause-stopped t c = short_of_memory _ _ c.from_residual.result c.from_residual.ensures.1

pub codes-returns-in_ok-last_codes-in-Last-clause-stopped : goal.codes-returns-in_ok-last_codes-in-Last-clause-stopped
codes-returns-in_ok-last_codes-in-Last-clause-stopped t c = tt
