use Rattle.std.proofs.Common.{arith}
use Rattle.transcript.specs.Books.{words}
use Rattle.transcript_lines.specs.Lines.{lines_of}
use Rattle.event_files.proofs.EventLines.{few_events}
use Rattle.event_files.proofs.ReadEvents.{event_read}
use Rattle.event_files.proofs.events.read_events.Goals as goal

pub overflow_add-len : goal.overflow_add-len
overflow_add-len c =
    let few = few_events (words c.args.book.now) c.loop-line.events c.args.bytes.now (lines_of c.loop-line.rest.now) c.loop-line.invariant.lines in
    let fits = c.requires.few in
    let count = c.len.ensures in
    omega (arith, few, fits, count)

pub loop-line-preserved : goal.loop-line-preserved
loop-line-preserved c =
    event_read (words c.args.book.now) c.args.bytes.now c.loop-line.rest.now c.in-Some.after.now c.in-Some.line.now c.loop-line.events c.push.new.self c.len.result c.in-Ok.event
    c.loop-line.invariant c.in-Some.ensures.lines c.in-Ok.ensures.0 c.in-Ok.ensures.1 c.len.ensures c.in_ok-push-in-Ok.ensures.ok
