use Rattle.std.proofs.Common.{arith, subst, Err, ◌+◌}
use Rattle.event_reader.specs.declared.fault.LineFault.{LineFault}
use Rattle.event_reader.specs.Known.{HasEvent}
use Rattle.event_reader.specs.Readings.{IsAnswer}
use Rattle.transcript.specs.Text.{event_text}
use Rattle.transcript.specs.Books.{words}
use Rattle.conforming_logs.proofs.Along.{few_lines, along_more, unmatched, followed_front}
use Rattle.conforming_logs.proofs.reading.follow_lines.Goals as goal

pub overflow_add-count : goal.overflow_add-count
overflow_add-count c =
    let few = few_lines (words c.args.book.now) c.args.file.now c.args.bytes.now c.loop-line.rest.now c.loop-line.count c.loop-line.progress c.loop-line.invariant c.requires.few in
    omega (arith, few)

pub returns-in-Err-BadLine : goal.returns-in-Err-BadLine
returns-in-Err-BadLine c =
    followed_front (words c.args.book.now) c.args.file.now c.args.bytes.now c.loop-line.rest.now c.loop-line.count c.loop-line.progress c.replayed.result c.loop-line.invariant c.replayed.ensures.count c.replayed.ensures.ended c.in-Some.after.now c.in-Some.line.now c.in-Some.ensures.lines
    (subst (λ (e : LineFault). IsAnswer (HasEvent (words c.args.book.now)) (event_text (words c.args.book.now) (c.loop-line.count + 1)) c.in-Some.line.now (Err e)) c.in-Err-BadLine.field-0-is c.in-Err-BadLine.ensures)

pub overflow_add-result : goal.overflow_add-result
overflow_add-result c =
    let few = few_lines (words c.args.book.now) c.args.file.now c.args.bytes.now c.loop-line.rest.now c.loop-line.count c.loop-line.progress c.loop-line.invariant c.requires.few in
    omega (arith, few)

pub returns-then-not-branch : goal.returns-then-not-branch
returns-then-not-branch c =
    unmatched (words c.args.book.now) c.args.file.now c.args.bytes.now c.loop-line.rest.now c.in-Some.after.now c.in-Some.line.now c.loop-line.count c.in-Ok.event c.loop-line.progress c.follow.new.self c.loop-line.invariant c.in-Some.ensures.lines c.in-Ok.ensures.0 c.in-Ok.ensures.1
    c.follow.result c.in_ok-follow.field-0 c.follow.ensures c.in_ok-follow.was c.requires.book c.requires.few c.if-not-branch.true

pub overflow_add-count-in-Some : goal.overflow_add-count-in-Some
overflow_add-count-in-Some c =
    let few = few_lines (words c.args.book.now) c.args.file.now c.args.bytes.now c.loop-line.rest.now c.loop-line.count c.loop-line.progress c.loop-line.invariant c.requires.few in
    omega (arith, few)

pub loop-line-preserved-else-not-branch : goal.loop-line-preserved-else-not-branch
loop-line-preserved-else-not-branch c =
    along_more (words c.args.book.now) c.args.file.now c.args.bytes.now c.loop-line.rest.now c.in-Some.after.now c.in-Some.line.now c.loop-line.count c.in-Ok.event c.loop-line.progress c.follow.new.self c.loop-line.invariant c.in-Some.ensures.lines c.in-Ok.ensures.0 c.in-Ok.ensures.1
    c.follow.result c.in_ok-follow.field-0 c.follow.ensures c.in_ok-follow.was c.if-not-branch.false

pub loop-line-preserved : goal.loop-line-preserved
loop-line-preserved c =
    along_more (words c.args.book.now) c.args.file.now c.args.bytes.now c.loop-line.rest.now c.in-Some.after.now c.in-Some.line.now c.loop-line.count c.in-Ok.event c.loop-line.progress c.follow.new.self c.loop-line.invariant c.in-Some.ensures.lines c.in-Ok.ensures.0 c.in-Ok.ensures.1
    c.follow.result c.in_ok-follow.field-0 c.follow.ensures c.in_ok-follow.was c.if-not-branch.false
