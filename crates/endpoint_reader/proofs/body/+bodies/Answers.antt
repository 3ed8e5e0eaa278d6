use Rattle.std.proofs.Common.{refl, arith}
use Rattle.grammar.proofs.Passing.{passes, ok_map, err_map}
use Rattle.grammar.proofs.Progress.{read_shorter, read_no_longer}
use Rattle.grammar.proofs.Sequences.{then_halts, now_halts}
use Rattle.endpoint_reader.proofs.Bodies.{tail_halts, body_open, body_told, ok_then}
use Rattle.endpoint_reader.proofs.Tables.{made_by, made_as, grows_by, grows_on, last_there, no_fewer}
use Rattle.endpoint_reader.proofs.Tails.{stands_as, stands_shorter, branch_told, conditional_told, call_told, branch_halts, conditional_halts, call_halts, memory_tail, end_line}
use Rattle.endpoint_reader.proofs.Arms.{arms_begin, label_halts, arm_halts, arms_there, arms_go, arms_end, arms_open, branch_is, branch_shorter, branch_halts_in, test_is, tests_pushed, both_inside}
use Rattle.endpoint_reader.proofs.Known.{no_labels, one_more_label, one_more_line, still_there}
use Rattle.endpoint_reader.proofs.body.+bodies.Goals as goal

pub read_body-returns-in_err-begun-clause-halts : goal.read_body-returns-in_err-begun-clause-halts
read_body-returns-in_err-begun-clause-halts t c = passes _ _ c.from_residual.ensures.1 c.in_err-begun.ensures.halts

pub read_body-read_tail-requires : goal.read_body-read_tail-requires
read_body-read_tail-requires t c = omega (arith, c.decreases, c.in_ok-begun.ensures.opens.shorter)

pub read_body-returns-in_err-last-clause-halts : goal.read_body-returns-in_err-last-clause-halts
read_body-returns-in_err-last-clause-halts t c = let o = c.in_ok-begun.ensures.opens in passes _ _ c.from_residual-in_err-last.ensures.1 (tail_halts o.opens o.going o.all c.in_err-last.ensures.halts)

pub read_body-returns-clause-reads : goal.read_body-returns-clause-reads
read_body-returns-clause-reads t c = let o = c.in_ok-begun.ensures.opens in ok_map _ (λ x b. body_told o.opens o.going o.all c.in_ok-last.ensures.made.reads b.closes (b.body c.args.input.now)) c.close_body.ensures.closes

pub read_body-returns-clause-grows : goal.read_body-returns-clause-grows
read_body-returns-clause-grows t c = ok_then _ c.close_body.ensures.grows (λ g. grows_on c.in_ok-last.ensures.made.grows g)

pub read_body-returns-clause-halts : goal.read_body-returns-clause-halts
read_body-returns-clause-halts t c = let o = c.in_ok-begun.ensures.opens in err_map _ (λ d h. body_open o.opens o.going o.all c.in_ok-last.ensures.made.reads h) c.close_body.ensures.halts

pub read_tail-returns-in_err-word-clause-halts : goal.read_tail-returns-in_err-word-clause-halts
read_tail-returns-in_err-word-clause-halts t c = passes _ _ c.from_residual.ensures.1 c.in_err-word.ensures.halts

pub read_tail-read_branch-requires : goal.read_tail-read_branch-requires
read_tail-read_branch-requires t c = omega (arith, c.decreases, stands_shorter _ _ _ c.in_ok-word.ensures.found)

pub read_tail-read_conditional-requires : goal.read_tail-read_conditional-requires
read_tail-read_conditional-requires t c = omega (arith, c.decreases, stands_shorter _ _ _ c.in_ok-word.ensures.found)

pub read_tail-returns-in-Branch-clause-halts : goal.read_tail-returns-in-Branch-clause-halts
read_tail-returns-in-Branch-clause-halts t c = err_map _ (λ d r. branch_halts c.in_ok-word.ensures.room (stands_as _ _ c.in-Branch.is c.in_ok-word.ensures.found) r) c.read_branch.ensures.halts

pub read_tail-returns-in-If-clause-halts : goal.read_tail-returns-in-If-clause-halts
read_tail-returns-in-If-clause-halts t c = err_map _ (λ d r. conditional_halts c.in_ok-word.ensures.room (stands_as _ _ c.in-If.is c.in_ok-word.ensures.found) r) c.read_conditional.ensures.halts

pub read_tail-returns-in-Call-clause-halts : goal.read_tail-returns-in-Call-clause-halts
read_tail-returns-in-Call-clause-halts t c = err_map _ (λ d r. call_halts c.in_ok-word.ensures.room (stands_as _ _ c.in-Call.is c.in_ok-word.ensures.found) r) c.read_call.ensures.halts

pub read_tail-returns-in-End-clause-halts : goal.read_tail-returns-in-End-clause-halts
read_tail-returns-in-End-clause-halts t c = err_map _ (λ d e. memory_tail e) c.push_end.ensures.memory

pub read_branch-returns-in_err-names-clause-halts : goal.read_branch-returns-in_err-names-clause-halts
read_branch-returns-in_err-names-clause-halts t c = passes _ _ c.from_residual.ensures.1 c.in_err-names.ensures.halts

pub read_branch-arms-init : goal.read_branch-arms-init
read_branch-arms-init t c = record { so_far = record { start = _; opens = c.in_ok-names.ensures.opens; arms = arms_begin c.new-arms.ensures }; lines = c.requires; labels = no_labels c.args.input.now _ c.new-arms.ensures }

pub read_branch-returns-in_err-label-clause-halts : goal.read_branch-returns-in_err-label-clause-halts
read_branch-returns-in_err-label-clause-halts t c = let a = c.arms.invariant.so_far in passes _ _ c.from_residual-in_err-label.ensures.1 (branch_halts_in a.opens (label_halts a.arms c.in_err-label.ensures.halts))

pub read_branch-read_body-requires : goal.read_branch-read_body-requires
read_branch-read_body-requires t c = omega (arith, c.decreases, branch_shorter c.arms.invariant.so_far.opens, c.arms.invariant.so_far.arms.further, read_shorter refl c.in_ok-label.ensures.reads)

pub read_branch-returns-in_err-body-clause-halts : goal.read_branch-returns-in_err-body-clause-halts
read_branch-returns-in_err-body-clause-halts t c = let a = c.arms.invariant.so_far in passes _ _ c.from_residual-in_err-body.ensures.1 (branch_halts_in a.opens (arm_halts a.arms _ c.in_ok-label.ensures.reads c.in_err-body.ensures.halts))

pub read_branch-arms-preserved : goal.read_branch-arms-preserved
read_branch-arms-preserved t c = let a = c.arms.invariant.so_far in record {
  so_far = record { start = _; opens = a.opens; arms = arms_go a.arms _ c.in_ok-label.ensures.reads c.in_ok-body.ensures.reads c.in_ok-body.ensures.there c.in_ok-body.ensures.grows c.in_ok-push.ensures.ok c.in-Some.ensures.found };
  lines = c.in_ok-body.ensures.known;
  labels = one_more_label c.args.input.now _ _ _ c.arms.invariant.labels c.in_ok-label.ensures.known c.in_ok-push.ensures.ok;
}

pub read_branch-arms-smaller : goal.read_branch-arms-smaller
read_branch-arms-smaller t c = omega (arith, read_shorter refl c.in_ok-label.ensures.reads, read_no_longer c.in_ok-body.ensures.reads)

pub read_branch-close_branch-requires-clause-arms : goal.read_branch-close_branch-requires-clause-arms
read_branch-close_branch-requires-clause-arms t c = arms_there c.arms.invariant.so_far.arms _ c.in_ok-label.ensures.reads c.in_ok-body.ensures.reads c.in_ok-body.ensures.there c.in_ok-body.ensures.grows c.in_ok-push.ensures.ok

pub read_branch-returns-in_default-clause-halts : goal.read_branch-returns-in_default-clause-halts
read_branch-returns-in_default-clause-halts t c = let a = c.arms.invariant.so_far in err_map _ (λ d h. branch_halts_in a.opens (arms_open a.arms _ c.in_ok-label.ensures.reads c.in_ok-body.ensures.reads c.in_ok-body.ensures.there c.in_ok-body.ensures.grows c.in_ok-push.ensures.ok c.in_default.ensures.none h)) c.close_branch.ensures.halts

pub read_conditional-returns-in_err-expr-clause-halts : goal.read_conditional-returns-in_err-expr-clause-halts
read_conditional-returns-in_err-expr-clause-halts t c = passes _ _ c.from_residual.ensures.1 (now_halts c.in_err-expr.ensures.halts)

pub read_conditional-read_body-requires : goal.read_conditional-read_body-requires
read_conditional-read_body-requires t c = omega (arith, c.decreases, read_shorter refl c.in_ok-expr.ensures.reads.reads)

pub read_conditional-returns-in_err-first-clause-halts : goal.read_conditional-returns-in_err-first-clause-halts
read_conditional-returns-in_err-first-clause-halts t c = passes _ _ c.from_residual-in_err-first.ensures.1 (then_halts c.in_ok-expr.ensures.reads.reads (now_halts c.in_err-first.ensures.halts))

pub read_conditional-returns-in_err-at-clause-halts : goal.read_conditional-returns-in_err-at-clause-halts
read_conditional-returns-in_err-at-clause-halts t c = passes _ _ c.from_residual-in_err-at.ensures.1 (then_halts c.in_ok-expr.ensures.reads.reads (then_halts c.in_ok-first.ensures.reads (now_halts c.in_err-at.ensures.halts)))

pub read_conditional-read_body-requires-2 : goal.read_conditional-read_body-requires-2
read_conditional-read_body-requires-2 t c = (omega (arith, c.decreases, read_shorter refl c.in_ok-expr.ensures.reads.reads, read_shorter refl c.in_ok-first.ensures.reads, read_shorter refl c.in_ok-at.ensures.reads), c.in_ok-first.ensures.known)

pub read_conditional-returns-in_err-second-clause-halts : goal.read_conditional-returns-in_err-second-clause-halts
read_conditional-returns-in_err-second-clause-halts t c = passes _ _ c.from_residual-in_err-second.ensures.1 (then_halts c.in_ok-expr.ensures.reads.reads (then_halts c.in_ok-first.ensures.reads (then_halts c.in_ok-at.ensures.reads c.in_err-second.ensures.halts)))

pub read_conditional-push-requires : goal.read_conditional-push-requires
read_conditional-push-requires t c = both_inside _ (no_fewer c.in_ok-second.ensures.grows c.in_ok-first.ensures.there) c.in_ok-second.ensures.there

pub read_branch-close_branch-requires-clause-labels : goal.read_branch-close_branch-requires-clause-labels
read_branch-close_branch-requires-clause-labels t c = one_more_label c.args.input.now _ _ _ c.arms.invariant.labels c.in_ok-label.ensures.known c.in_ok-push.ensures.ok

pub read_conditional-returns-clause-made : goal.read_conditional-returns-clause-made
read_conditional-returns-clause-made t c = record {
  reads = test_is c.in_ok-expr.ensures.reads c.in_ok-first.ensures.reads c.in_ok-at.ensures.reads c.in_ok-second.ensures.reads (tests_pushed c.args.input.now _ _ c.in_ok-first.ensures.there c.in_ok-second.ensures.grows c.in_ok-test.ensures.grows c.in_ok-test.ensures.id);
  there = last_there _ _ c.in_ok-test.ensures.grows c.in_ok-test.ensures.id;
  grows = grows_on c.in_ok-first.ensures.grows (grows_on c.in_ok-second.ensures.grows (grows_by _ c.in_ok-test.ensures.grows));
  known = one_more_line c.args.input.now _ _ _ c.in_ok-second.ensures.known c.in_ok-expr.ensures.known c.in_ok-test.ensures.grows;
}

pub read_tail-returns-in-Branch-clause-made : goal.read_tail-returns-in-Branch-clause-made
read_tail-returns-in-Branch-clause-made t c = made_as _ _ _ _ _ _ (λ x r. branch_told c.in_ok-word.ensures.room (stands_as _ _ c.in-Branch.is c.in_ok-word.ensures.found) r) c.read_branch.ensures.made

pub read_tail-returns-in-If-clause-made : goal.read_tail-returns-in-If-clause-made
read_tail-returns-in-If-clause-made t c = made_as _ _ _ _ _ _ (λ x r. conditional_told c.in_ok-word.ensures.room (stands_as _ _ c.in-If.is c.in_ok-word.ensures.found) r) c.read_conditional.ensures.made

pub read_tail-returns-in-Call-clause-made : goal.read_tail-returns-in-Call-clause-made
read_tail-returns-in-Call-clause-made t c = made_as _ _ _ _ _ _ (λ x r. call_told c.in_ok-word.ensures.room (stands_as _ _ c.in-Call.is c.in_ok-word.ensures.found) r) c.read_call.ensures.made

pub read_tail-returns-in-End-clause-made : goal.read_tail-returns-in-End-clause-made
read_tail-returns-in-End-clause-made t c = made_by _ _ _ _ _ (ok_map _ (λ x e. end_line c.args.input.now c.in_ok-word.ensures.room (stands_as _ _ c.in-End.is c.in_ok-word.ensures.found) e) c.push_end.ensures.ends) c.push_end.ensures.there c.push_end.ensures.grows (still_there c.args.input.now _ _ _ c.push_end.ensures.known c.requires)

pub read_branch-returns-in_default-clause-made : goal.read_branch-returns-in_default-clause-made
read_branch-returns-in_default-clause-made t c = made_by _ _ _ _ _ (let a = c.arms.invariant.so_far in ok_map _ (λ x b. branch_is c.args.input.now _ _ a.opens (arms_end a.arms _ c.in_ok-label.ensures.reads c.in_ok-body.ensures.reads c.in_ok-body.ensures.there c.in_ok-body.ensures.grows c.in_ok-push.ensures.ok c.in_default.ensures.none b.closes) (b.body c.args.input.now)) c.close_branch.ensures.closes) c.close_branch.ensures.there (ok_then _ c.close_branch.ensures.grows (λ g. grows_on (grows_on c.arms.invariant.so_far.arms.grows c.in_ok-body.ensures.grows) g)) c.close_branch.ensures.known

pub read_body-close_body-requires-clause-last : goal.read_body-close_body-requires-clause-last
read_body-close_body-requires-clause-last t c = c.in_ok-last.ensures.made.there

pub read_body-close_body-requires-clause-lines : goal.read_body-close_body-requires-clause-lines
read_body-close_body-requires-clause-lines t c = c.in_ok-last.ensures.made.known
