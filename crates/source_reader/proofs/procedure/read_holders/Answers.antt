use Rattle.std.proofs.lemmas.Result.{err_from_is_err_and}
use Rattle.std.proofs.Common.{arith}
use Rattle.source_grammar.proofs.ItemLists.{all_of, first_item_halts, first_comes, more_come, item_halts, list_reads}
use Rattle.source_grammar.proofs.Heads.{holder_items, holders_alike}
use Rattle.source_grammar.proofs.Shorter.{mark_shorter, holder_shorter}
use Rattle.source_reader.proofs.procedure.read_holders.Goals as goal

pub returns-in_err-first-clause-halts : goal.returns-in_err-first-clause-halts
returns-in_err-first-clause-halts c =
    let p = err_from_is_err_and c.from_residual.result c.from_residual.ensures.1 in
    rw (p.1, p.2) (first_item_halts 0 all_of holder_items holders_alike c.in_err-first.ensures.halts)

pub loop-after-init : goal.loop-after-init
loop-after-init c = first_comes 0 _ _ holder_items holders_alike c.in_ok-first.ensures.reads c.new-holders.ensures c.in_ok-push.ensures.ok

pub returns-in_err-holder-clause-halts : goal.returns-in_err-holder-clause-halts
returns-in_err-holder-clause-halts c =
    let p = err_from_is_err_and c.from_residual-in_err-holder.result c.from_residual-in_err-holder.ensures.1 in
    rw (p.1, p.2) (item_halts _ _ holder_items c.loop-after.invariant c.in-Some.ensures.found c.in_err-holder.ensures.halts)

pub loop-after-preserved : goal.loop-after-preserved
loop-after-preserved c = more_come 0 _ _ holder_items c.loop-after.invariant c.in-Some.ensures.found c.in_ok-holder.ensures.reads c.in_ok-push-2.ensures.ok

pub loop-after-smaller : goal.loop-after-smaller
loop-after-smaller c = omega (arith, mark_shorter c.in-Some.ensures.found, holder_shorter c.in_ok-holder.ensures.reads.is)

pub returns-clause-reads : goal.returns-clause-reads
returns-clause-reads c = list_reads _ _ holder_items c.loop-after.invariant c.in_default.ensures.none
