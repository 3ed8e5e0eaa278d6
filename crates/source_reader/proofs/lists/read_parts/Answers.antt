use Rattle.std.proofs.lemmas.Result.{err_from_is_err_and}
use Rattle.std.proofs.Common.{arith}
use Rattle.source_grammar.specs.Grammar.{PartIs}
use Rattle.source_grammar.proofs.ItemLists.{all_of, first_item_halts, first_comes, more_come, item_halts, list_reads, any_list_alike}
use Rattle.source_grammar.proofs.ShortParts.{part_items}
use Rattle.source_grammar.proofs.Shorter.{mark_shorter, part_shorter}
use Rattle.source_reader.proofs.lists.read_parts.Goals as goal

pub returns-in_err-first-clause-halts : goal.returns-in_err-first-clause-halts
returns-in_err-first-clause-halts c =
    let p = err_from_is_err_and c.from_residual.result c.from_residual.ensures.1 in
    rw (p.1, p.2) (first_item_halts 0 all_of part_items (any_list_alike PartIs 0) c.in_err-first.ensures.halts)

pub loop-after-init : goal.loop-after-init
loop-after-init c = first_comes 0 _ _ part_items (any_list_alike PartIs 0) c.in_ok-first.ensures.reads c.new-parts.ensures c.in_ok-push.ensures.ok

pub returns-in_err-part-clause-halts : goal.returns-in_err-part-clause-halts
returns-in_err-part-clause-halts c =
    let p = err_from_is_err_and c.from_residual-in_err-part.result c.from_residual-in_err-part.ensures.1 in
    rw (p.1, p.2) (item_halts _ _ part_items c.loop-after.invariant c.in-Some.ensures.found c.in_err-part.ensures.halts)

pub loop-after-preserved : goal.loop-after-preserved
loop-after-preserved c = more_come 0 _ _ part_items c.loop-after.invariant c.in-Some.ensures.found c.in_ok-part.ensures.reads c.in_ok-push-2.ensures.ok

pub loop-after-smaller : goal.loop-after-smaller
loop-after-smaller c = omega (arith, mark_shorter c.in-Some.ensures.found, part_shorter c.in_ok-part.ensures.reads.is)

pub returns-clause-reads : goal.returns-clause-reads
returns-clause-reads c = list_reads _ _ part_items c.loop-after.invariant c.in_default.ensures.none
