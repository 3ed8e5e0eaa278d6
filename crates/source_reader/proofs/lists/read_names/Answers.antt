use Rattle.std.proofs.lemmas.Result.{err_from_is_err_and}
use Rattle.std.proofs.Common.{arith}
use Rattle.source_grammar.proofs.Terminals.{name_reads}
use Rattle.source_grammar.proofs.ItemLists.{all_of, roomy_items, first_item_halts, first_comes, more_come, item_halts, list_reads}
use Rattle.source_grammar.proofs.ShortParts.{name_item, names_alike}
use Rattle.source_reader.proofs.Readers.{item_read, item_halts_in, item_full, free_read, free_halts, room_first, full_first, room_for, full_for}
use Rattle.source_grammar.proofs.Shorter.{mark_shorter, name_shorter}
use Rattle.source_reader.proofs.lists.read_names.Goals as goal

pub returns-in_err-room_for_name-clause-halts : goal.returns-in_err-room_for_name-clause-halts
returns-in_err-room_for_name-clause-halts c =
    let p = err_from_is_err_and c.from_residual.result c.from_residual.ensures.1 in
    rw (p.1, p.2) (first_item_halts c.args.limit all_of (roomy_items name_item) (names_alike c.args.limit) (item_full name_item (full_first c.in_err-room_for_name.ensures.full)))

pub returns-in_err-first-clause-halts : goal.returns-in_err-first-clause-halts
returns-in_err-first-clause-halts c =
    let p = err_from_is_err_and c.from_residual-in_err-first.result c.from_residual-in_err-first.ensures.1 in
    rw (p.1, p.2) (first_item_halts c.args.limit all_of (roomy_items name_item) (names_alike c.args.limit) (item_halts_in name_item (room_first c.in_ok-room_for_name.ensures.room) (free_halts c.in_err-first.ensures.halts)))

pub loop-after-init : goal.loop-after-init
loop-after-init c = first_comes c.args.limit _ _ (roomy_items name_item) (names_alike c.args.limit) (item_read name_item (room_first c.in_ok-room_for_name.ensures.room) (free_read (name_reads c.in_ok-first.ensures.read))) c.new-names.ensures c.in_ok-push.ensures.ok

pub returns-in_err-room_for_name-2-clause-halts : goal.returns-in_err-room_for_name-2-clause-halts
returns-in_err-room_for_name-2-clause-halts c =
    let p = err_from_is_err_and c.from_residual-in_err-room_for_name-2.result c.from_residual-in_err-room_for_name-2.ensures.1 in
    rw (p.1, p.2) (item_halts _ _ (roomy_items name_item) c.loop-after.invariant c.in-Some.ensures.found (item_full name_item (full_for c.args.limit c.len.ensures c.in_err-room_for_name-2.ensures.full)))

pub returns-in_err-name-clause-halts : goal.returns-in_err-name-clause-halts
returns-in_err-name-clause-halts c =
    let p = err_from_is_err_and c.from_residual-in_err-name.result c.from_residual-in_err-name.ensures.1 in
    rw (p.1, p.2) (item_halts _ _ (roomy_items name_item) c.loop-after.invariant c.in-Some.ensures.found (item_halts_in name_item (room_for c.args.limit c.len.ensures c.in_ok-room_for_name-2.ensures.room) (free_halts c.in_err-name.ensures.halts)))

pub loop-after-preserved : goal.loop-after-preserved
loop-after-preserved c = more_come c.args.limit _ _ (roomy_items name_item) c.loop-after.invariant c.in-Some.ensures.found (item_read name_item (room_for c.args.limit c.len.ensures c.in_ok-room_for_name-2.ensures.room) (free_read (name_reads c.in_ok-name.ensures.read))) c.in_ok-push-2.ensures.ok

pub loop-after-smaller : goal.loop-after-smaller
loop-after-smaller c = omega (arith, mark_shorter c.in-Some.ensures.found, name_shorter c.in_ok-name.ensures.read)

pub returns-clause-reads : goal.returns-clause-reads
returns-clause-reads c = list_reads _ _ (roomy_items name_item) c.loop-after.invariant c.in_default.ensures.none
