use Rattle.std.proofs.Common.{refl, arith}
use Rattle.grammar.proofs.Progress.{token_shorter, read_shorter}
use Rattle.grammar.proofs.Lists.{list_begins, list_goes, list_halts, list_ends}
use Rattle.grammar.proofs.Sequences.{now_halts}
use Rattle.grammar.proofs.Passing.{passes}
use Rattle.endpoint_reader.proofs.NameLists.{splits, first_less, one_less, room_reads, room_halts}
use Rattle.endpoint_reader.proofs.Known.{none_there, pushed_there}
use Rattle.endpoint_reader.proofs.lists.read_names.Goals as goal

pub returns-in_err-first-clause-halts : goal.returns-in_err-first-clause-halts
returns-in_err-first-clause-halts c = passes _ _ c.from_residual.ensures.1 (now_halts c.in_err-first.ensures.halts)

pub loop-after-init : goal.loop-after-init
loop-after-init c = record {
  listing = list_begins _ _ _ _ splits c.in_ok-first.ensures.reads c.new-names.ensures c.in_ok-push.ensures.ok (first_less c.args.limit _ _ _ c.new-names.ensures c.in_ok-push.ensures.ok);
  known = pushed_there c.args.input.now _ _ _ (none_there c.args.input.now _ c.new-names.ensures) c.in_ok-first.ensures.known c.in_ok-push.ensures.ok;
}

pub returns-in_err-name-clause-halts : goal.returns-in_err-name-clause-halts
returns-in_err-name-clause-halts c = passes _ _ c.from_residual-in_err-name.ensures.1 (list_halts _ _ _ _ splits c.loop-after.invariant.listing c.in-Some.ensures.found (room_halts c.args.limit c.saturating_sub.ensures c.len.ensures c.in_err-name.ensures.halts))

pub loop-after-preserved : goal.loop-after-preserved
loop-after-preserved c = record {
  listing = list_goes _ _ _ _ splits c.loop-after.invariant.listing c.in-Some.ensures.found (room_reads c.args.limit c.saturating_sub.ensures c.len.ensures c.in_ok-name.ensures.reads) c.in_ok-push-2.ensures.ok (one_less c.args.limit _ _ _ c.in_ok-push-2.ensures.ok);
  known = pushed_there c.args.input.now _ _ _ c.loop-after.invariant.known c.in_ok-name.ensures.known c.in_ok-push-2.ensures.ok;
}

pub loop-after-smaller : goal.loop-after-smaller
loop-after-smaller c = omega (arith, token_shorter c.in-Some.ensures.found, read_shorter refl c.in_ok-name.ensures.reads)

pub returns-clause-reads : goal.returns-clause-reads
returns-clause-reads c = list_ends _ _ _ _ splits c.loop-after.invariant.listing c.in_default.ensures.none

pub returns-clause-known : goal.returns-clause-known
returns-clause-known c = c.loop-after.invariant.known
