use Rattle.std.proofs.Common.{subst}
use Rattle.std.proofs.lemmas.Result.{IfOk-from_err}
use Rattle.chor_tree.specs.declared.file.File.{File}
use Rattle.chor_tree.specs.Source.{body_of}
use Rattle.block_codes.specs.Parts.{IsCallAt}
use Rattle.block_codes.specs.Walks.{StopsAt}
use Rattle.block_codes.specs.Alone.{sites_of}
use Rattle.block_codes.proofs.Zips.{stops_by, short_of_memory}
use Rattle.block_codes.proofs.OneProcess.{put_code, last_code, first_stops, second_stops, first_sound, second_sound, joined_answer, stopped_answer}
use Rattle.block_codes.proofs.alone.+alone.Goals as goal

pub after_statement-returns-clause-code : goal.after_statement-returns-clause-code
after_statement-returns-clause-code t c = put_code c.requires.at c.requires.statement c.in_ok-rest.ensures.code c.in_ok-put_part.ensures

pub after_statement-returns-in_err-rest-clause-code : goal.after_statement-returns-in_err-rest-clause-code
after_statement-returns-in_err-rest-clause-code t c = IfOk-from_err c.from_residual.result _ c.from_residual.ensures.0

pub after_statement-returns-in_err-put_part-clause-code : goal.after_statement-returns-in_err-put_part-clause-code
after_statement-returns-in_err-put_part-clause-code t c = IfOk-from_err c.from_residual-in_err-put_part.result _ c.from_residual-in_err-put_part.ensures.0

pub after_statement-returns-in_err-put_part-clause-stopped : goal.after_statement-returns-in_err-put_part-clause-stopped
after_statement-returns-in_err-put_part-clause-stopped t c = short_of_memory _ _ c.from_residual-in_err-put_part.result c.from_residual-in_err-put_part.ensures.1

pub after_statement-returns-clause-stopped : goal.after_statement-returns-clause-stopped
after_statement-returns-clause-stopped t c = tt

-- ---- after a test

pub after_test-returns-in_err-first-clause-stopped : goal.after_test-returns-in_err-first-clause-stopped
after_test-returns-in_err-first-clause-stopped t c =
    let f = c.args.spot.now.file.now in
    stops_by (StopsAt f (sites_of c.args.process (body_of f c.args.spot.now.id))) c.from_residual.result c.in_err-first.field-0.0 c.from_residual.ensures.1
    (first_stops c.requires.at c.requires.conditional c.args.process c.in_err-first.field-0.0 c.in_err-first.ensures.stopped)

pub after_test-returns-in_err-second-clause-stopped : goal.after_test-returns-in_err-second-clause-stopped
after_test-returns-in_err-second-clause-stopped t c =
    let f = c.args.spot.now.file.now in
    stops_by (StopsAt f (sites_of c.args.process (body_of f c.args.spot.now.id))) c.from_residual-in_err-second.result c.in_err-second.field-0.0 c.from_residual-in_err-second.ensures.1
    (second_stops c.requires.at c.requires.conditional c.args.process c.in_ok-first.ensures.code c.in_err-second.field-0.0 c.in_err-second.ensures.stopped)

pub after_test-join_one-requires-clause-first : goal.after_test-join_one-requires-clause-first
after_test-join_one-requires-clause-first t c = first_sound c.requires.at c.requires.conditional c.args.process c.in_ok-first.ensures.code c.in_ok-second.ensures.code

pub after_test-join_one-requires-clause-second : goal.after_test-join_one-requires-clause-second
after_test-join_one-requires-clause-second t c = second_sound c.requires.at c.requires.conditional c.args.process c.in_ok-first.ensures.code c.in_ok-second.ensures.code

pub after_test-returns-clause-code : goal.after_test-returns-clause-code
after_test-returns-clause-code t c =
    joined_answer c.requires.at c.requires.conditional c.args.process c.in_ok-first.ensures.code c.in_ok-second.ensures.code c.join_one.new.code.nodes c.join_one.result c.join_one.ensures.joined

pub after_test-returns-clause-stopped : goal.after_test-returns-clause-stopped
after_test-returns-clause-stopped t c =
    stopped_answer c.requires.at c.requires.conditional c.args.process c.in_ok-first.ensures.code c.in_ok-second.ensures.code c.join_one.result c.join_one.ensures.stopped

pub after_test-returns-in_err-first-clause-code : goal.after_test-returns-in_err-first-clause-code
after_test-returns-in_err-first-clause-code t c = IfOk-from_err c.from_residual.result _ c.from_residual.ensures.0

pub after_test-returns-in_err-second-clause-code : goal.after_test-returns-in_err-second-clause-code
after_test-returns-in_err-second-clause-code t c = IfOk-from_err c.from_residual-in_err-second.result _ c.from_residual-in_err-second.ensures.0

-- ---- at the last node

pub code_of-returns-in_ok-last_code-in-Last-clause-code : goal.code_of-returns-in_ok-last_code-in-Last-clause-code
code_of-returns-in_ok-last_code-in-Last-clause-code t c =
    let n = c.spot_at-spot.result.node.now in
    last_code c.spot_at-spot.ensures.at c.in-Last.ensures
    (subst (λ (f : File). IsCallAt f.procs n.form c.args.code.now.nodes c.last_code.new.code.nodes c.args.process c.in_ok-last_code-in-Last.field-0) c.spot_at-spot.ensures.file c.in_ok-last_code-in-Last.ensures)

pub code_of-returns-in_err-last_code-in-Last-clause-code : goal.code_of-returns-in_err-last_code-in-Last-clause-code
code_of-returns-in_err-last_code-in-Last-clause-code t c = IfOk-from_err c.from_residual.result _ c.from_residual.ensures.0

pub code_of-returns-in_err-last_code-in-Last-clause-stopped : goal.code_of-returns-in_err-last_code-in-Last-clause-stopped
code_of-returns-in_err-last_code-in-Last-clause-stopped t c = short_of_memory _ _ c.from_residual.result c.from_residual.ensures.1

pub code_of-returns-in_ok-last_code-in-Last-clause-stopped : goal.code_of-returns-in_ok-last_code-in-Last-clause-stopped
code_of-returns-in_ok-last_code-in-Last-clause-stopped t c = tt
