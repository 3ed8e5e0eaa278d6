use Rattle.std.proofs.Common.{length, refl, arith, length-append, ap}
use Rattle.transcript.specs.Books.{words}
use Rattle.chor_stream.specs.declared.finish.Finished.TheVariants.{Failed, Memory}
use Rattle.chor_stream.proofs.Entries.{cut_whole, lines_split}
use Rattle.chor_stream.proofs.Growth.{part_failed, part_memory, part_written}
use Rattle.chor_stream.proofs.finish.write_parts.Goals as goal

pub returns-in-Failed-clause-lines : goal.returns-in-Failed-clause-lines
returns-in-Failed-clause-lines g c =
    let whole = cut_whole c.loop-rest.rest.now _ _ _ c.split_at.ensures.front c.split_at.ensures.back in
    c.loop-rest.invariant.lines Failed _ (part_failed _ _ _ _ _ (lines_split (words c.args.book.now) c.loop-rest.next _ c.loop-rest.rest.now _ _ whole refl) c.in-Failed.ensures.lines)

pub returns-in-Memory-clause-lines : goal.returns-in-Memory-clause-lines
returns-in-Memory-clause-lines g c =
    let whole = cut_whole c.loop-rest.rest.now _ _ _ c.split_at.ensures.front c.split_at.ensures.back in
    let at = g.K.Sink.state c.loop-rest.out in
    let after = g.K.Sink.state c.write_lines.new.out in
    let split = lines_split (words c.args.book.now) c.loop-rest.next _ c.loop-rest.rest.now _ c.split_at.result.1.now whole refl in
    c.loop-rest.invariant.lines Memory after (part_memory at after _ _ _ split c.in-Memory.ensures.lines)

pub loop-rest-preserved : goal.loop-rest-preserved
loop-rest-preserved g c =
    let whole = cut_whole c.loop-rest.rest.now _ _ _ c.split_at.ensures.front c.split_at.ensures.back in
    let split = lines_split (words c.args.book.now) c.loop-rest.next _ c.loop-rest.rest.now _ _ whole refl in
    record {
      count = omega (arith, c.loop-rest.invariant.count, ap length whole, length-append c.split_at.result.0.now c.split_at.result.1.now);
      lines = λ answer last more. c.loop-rest.invariant.lines answer last (part_written _ _ _ _ _ split answer last c.in-Written.ensures.lines c.in-Written.ensures.rises more);
      rises = omega (arith, c.loop-rest.invariant.rises, c.in-Written.ensures.rises);
    }
