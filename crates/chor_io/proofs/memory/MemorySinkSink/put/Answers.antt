use Rattle.std.proofs.Common.{refl, sym, take, drop, take-append-drop, arith}
use Rattle.std.proofs.lemmas.Grind.{common_steps}
use Rattle.chor_io.proofs.memory.MemorySinkSink.put.Goals as goal

pub returns-then-is_some-clause-told : goal.returns-then-is_some-clause-told
returns-then-is_some-clause-told c =
    let taken = c.min-taken.result in
    let piece = c.args.piece.now in
    (c.extend_from_slice.new.self.items, refl, (take taken piece, drop taken piece, sym (take-append-drop taken piece), grind (arith, common_steps)))
