use Rattle.std.proofs.Common.{◌++◌, ◌∷◌, ◌∙◌}
use Rattle.std.specs.Fmt.{decimal}
use Rattle.transcript.specs.Books.{words}
use Rattle.event_reader.specs.Bodies.{kind_of, kind_text, body}
use Rattle.event_reader.proofs.Cuts.{uncut}
use Rattle.event_reader.proofs.EventBodies.{event_parts, line_cut, word_cut, event_answer}
use Rattle.event_reader.proofs.reader.read_event.Goals as goal

pub returns-in_default : goal.returns-in_default
returns-in_default c = λ e h q. uncut 32 c.args.line.now (decimal c.args.number) (kind_text (kind_of e) ++ 32 ∷ body (words c.args.book.now) e) c.in_default.ensures.none (q ∙ event_parts (words c.args.book.now) c.args.number e)

pub returns-then-not-is_written : goal.returns-then-not-is_written
returns-then-not-is_written c = λ e h q.
    let m = line_cut (words c.args.book.now) c.args.number c.args.line.now c.in-Some.digits.now c.in-Some.rest.now e c.ranges.number.fits c.in-Some.ensures.some.0 c.in-Some.ensures.some.1 q in
    let written = c.is_written.ensures.1 m.front in
    let not_written = c.if-not-is_written.true in
    absurd cc

pub returns-in_default-split : goal.returns-in_default-split
returns-in_default-split c = λ e h q.
    let m = line_cut (words c.args.book.now) c.args.number c.args.line.now c.in-Some.digits.now c.in-Some.rest.now e c.ranges.number.fits c.in-Some.ensures.some.0 c.in-Some.ensures.some.1 q in
    uncut 32 c.in-Some.rest.now (kind_text (kind_of e)) (body (words c.args.book.now) e) c.in_default-split.ensures.none m.rest

pub returns-in_default-kind_of : goal.returns-in_default-kind_of
returns-in_default-kind_of c = λ e h q.
    let m = line_cut (words c.args.book.now) c.args.number c.args.line.now c.in-Some.digits.now c.in-Some.rest.now e c.ranges.number.fits c.in-Some.ensures.some.0 c.in-Some.ensures.some.1 q in
    let n = word_cut (words c.args.book.now) c.in-Some.rest.now c.in-Some-split.word.now c.in-Some-split.rest.now e c.in-Some-split.ensures.some.0 c.in-Some-split.ensures.some.1 m.rest in
    c.in_default-kind_of.ensures (kind_of e) tt n.front

pub returns : goal.returns
returns c = event_answer (words c.args.book.now) c.args.number c.args.line.now c.in-Some.digits.now c.in-Some.rest.now c.in-Some-split.word.now c.in-Some-split.rest.now _ c.event_of.result c.ranges.number.fits c.in-Some.ensures.some.0 c.in-Some.ensures.some.1 (c.is_written.ensures.0 c.if-not-is_written.false) c.in-Some-split.ensures.some.0 c.in-Some-split.ensures.some.1 c.in-Some-kind_of.ensures.1 c.event_of.ensures
