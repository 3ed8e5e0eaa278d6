use Rattle.std.proofs.Math.Nat.{suc-ne-zero}
use Rattle.std.proofs.lemmas.Result.{err_from_is_err_and}
use Rattle.std.proofs.Common.{arith}
use Rattle.source_grammar.proofs.ItemLists.{all_of, roomy_items, first_item_halts, first_comes, more_come, item_halts, list_reads}
use Rattle.source_grammar.proofs.Heads.{variable_item, vars_alike}
use Rattle.source_reader.proofs.Readers.{item_read, item_halts_in, item_full, free_read, free_halts, room_above, room_for, full_for}
use Rattle.source_grammar.proofs.Shorter.{mark_shorter, variable_shorter}
use Rattle.source_reader.proofs.procedure.read_vars.Goals as goal

pub returns-in_err-first-clause-halts : goal.returns-in_err-first-clause-halts
returns-in_err-first-clause-halts c =
    let p = err_from_is_err_and c.from_residual.result c.from_residual.ensures.1 in
    rw (p.1, p.2) (first_item_halts 16 all_of (roomy_items variable_item) vars_alike (item_halts_in variable_item (room_above 16 (suc-ne-zero 15)) (free_halts c.in_err-first.ensures.halts)))

pub loop-after-init : goal.loop-after-init
loop-after-init c = first_comes 16 _ _ (roomy_items variable_item) vars_alike (item_read variable_item (room_above 16 (suc-ne-zero 15)) (free_read c.in_ok-first.ensures.reads)) c.new-vars.ensures c.in_ok-push.ensures.ok

pub returns-in_err-room_for_name-clause-halts : goal.returns-in_err-room_for_name-clause-halts
returns-in_err-room_for_name-clause-halts c =
    let p = err_from_is_err_and c.from_residual-in_err-room_for_name.result c.from_residual-in_err-room_for_name.ensures.1 in
    rw (p.1, p.2) (item_halts _ _ (roomy_items variable_item) c.loop-after.invariant c.in-Some.ensures.found (item_full variable_item (full_for 16 c.len.ensures c.in_err-room_for_name.ensures.full)))

pub returns-in_err-var-clause-halts : goal.returns-in_err-var-clause-halts
returns-in_err-var-clause-halts c =
    let p = err_from_is_err_and c.from_residual-in_err-var.result c.from_residual-in_err-var.ensures.1 in
    rw (p.1, p.2) (item_halts _ _ (roomy_items variable_item) c.loop-after.invariant c.in-Some.ensures.found (item_halts_in variable_item (room_for 16 c.len.ensures c.in_ok-room_for_name.ensures.room) (free_halts c.in_err-var.ensures.halts)))

pub loop-after-preserved : goal.loop-after-preserved
loop-after-preserved c = more_come 16 _ _ (roomy_items variable_item) c.loop-after.invariant c.in-Some.ensures.found (item_read variable_item (room_for 16 c.len.ensures c.in_ok-room_for_name.ensures.room) (free_read c.in_ok-var.ensures.reads)) c.in_ok-push-2.ensures.ok

pub loop-after-smaller : goal.loop-after-smaller
loop-after-smaller c = omega (arith, mark_shorter c.in-Some.ensures.found, variable_shorter c.in_ok-var.ensures.reads.is)

pub returns-clause-reads : goal.returns-clause-reads
returns-clause-reads c = list_reads _ _ (roomy_items variable_item) c.loop-after.invariant c.in_default.ensures.none
