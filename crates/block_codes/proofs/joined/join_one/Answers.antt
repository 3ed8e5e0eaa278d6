use Rattle.std.proofs.Common.{◌∙◌, sym}
use Rattle.std.proofs.lemmas.Result.{IfOk-from_err}
use Rattle.block_codes.specs.declared.stop.Stop.TheVariants.{Memory as NoMemory}
use Rattle.block_codes.specs.Joins.{StopsOne}
use Rattle.block_codes.proofs.Zips.{stops_by}
use Rattle.block_codes.proofs.Joins.{tested, merged_apart}
use Rattle.block_codes.proofs.joined.join_one.Goals as goal

pub returns-then-eq-clause-joined : goal.returns-then-eq-clause-joined
returns-then-eq-clause-joined c =
    tested (c.args.first, c.args.second) _ _ _ _ _ _ c.in-If.is (sym c.eq.ensures ∙ c.if-eq.true) c.in_ok-copy-in-If.ensures c.in_ok-push-in-If.ensures.ok.1 c.in_ok-push-in-If.ensures.ok.0

pub returns-in-Ok-clause-joined : goal.returns-in-Ok-clause-joined
returns-in-Ok-clause-joined c = merged_apart (c.args.first, c.args.second) _ _ _ _ _ c.in-If.is (sym c.eq.ensures ∙ c.if-eq.false) c.merge.ensures.kept c.in-Ok.ensures.merged

pub returns-in_err-copy-in-If-clause-joined : goal.returns-in_err-copy-in-If-clause-joined
returns-in_err-copy-in-If-clause-joined c = IfOk-from_err c.from_residual.result _ c.from_residual.ensures.0

pub returns-in_err-copy-in-If-clause-stopped : goal.returns-in_err-copy-in-If-clause-stopped
returns-in_err-copy-in-If-clause-stopped c = stops_by (StopsOne c.args.code.now.nodes c.args.node.now (c.args.first, c.args.second)) c.from_residual.result NoMemory c.from_residual.ensures.1 tt

pub returns-in_err-push-in-If-clause-joined : goal.returns-in_err-push-in-If-clause-joined
returns-in_err-push-in-If-clause-joined c = IfOk-from_err c.from_residual-in_err-push-in-If.result _ c.from_residual-in_err-push-in-If.ensures.0

pub returns-in_err-push-in-If-clause-stopped : goal.returns-in_err-push-in-If-clause-stopped
returns-in_err-push-in-If-clause-stopped c = stops_by (StopsOne c.args.code.now.nodes c.args.node.now (c.args.first, c.args.second)) c.from_residual-in_err-push-in-If.result NoMemory c.from_residual-in_err-push-in-If.ensures.1 tt

pub merge-requires-clause-a : goal.merge-requires-clause-a
merge-requires-clause-a c = c.requires.first.inside

pub merge-requires-clause-b : goal.merge-requires-clause-b
merge-requires-clause-b c = c.requires.second.inside

pub merge-requires-clause-distinct_a : goal.merge-requires-clause-distinct_a
merge-requires-clause-distinct_a c = c.requires.first.distinct

pub merge-requires-clause-distinct_b : goal.merge-requires-clause-distinct_b
merge-requires-clause-distinct_b c = c.requires.second.distinct

pub returns-then-eq-clause-stopped : goal.returns-then-eq-clause-stopped
returns-then-eq-clause-stopped c = tt

pub returns-in-Ok-clause-stopped : goal.returns-in-Ok-clause-stopped
returns-in-Ok-clause-stopped c = tt

pub returns-in-Err-Clash-clause-joined : goal.returns-in-Err-Clash-clause-joined
returns-in-Err-Clash-clause-joined c = tt

pub returns-in-Err-Memory-clause-joined : goal.returns-in-Err-Memory-clause-joined
returns-in-Err-Memory-clause-joined c = tt

pub returns-in-Err-Memory-clause-stopped : goal.returns-in-Err-Memory-clause-stopped
returns-in-Err-Memory-clause-stopped c = tt
