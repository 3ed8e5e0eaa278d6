use Rattle.std.proofs.Common.{◌≡◌}
use Rattle.std.proofs.lemmas.Result.{err_from_is_err_and}
use Rattle.std.specs.List.{AllByRecursion}
use Rattle.transcript.specs.Books.{words}
use Rattle.transcript.specs.Text.{parts_text}
use Rattle.event_reader.specs.Known.{HasPart, HasEvent}
use Rattle.event_reader.specs.Bodies.{kind_of, body}
use Rattle.event_reader.specs.declared.kind.Kind.TheVariants as kind
use Rattle.event_reader.proofs.Answers.{hand_on}
use Rattle.event_reader.proofs.EventBodies.{only_start, session_cut}
use Rattle.event_reader.proofs.bodies.start_of.Goals as goal

pub returns-in_default-session_of : goal.returns-in_default-session_of
returns-in_default-session_of c = only_start (words c.args.book.now) c.args.bytes.now (λ x s parts named small has q.
    let rest = c.in-Some.ensures.all x _ named q in
    let m = session_cut (words c.args.book.now) c.in-Some.rest.now c.field.result.0.now c.field.result.1.now s parts small c.field.ensures.parts c.field.ensures.free c.field.ensures.rest rest in
    c.in_default-session_of.ensures s small m.front)

pub returns-in_err-parts : goal.returns-in_err-parts
returns-in_err-parts c =
    let p = err_from_is_err_and c.from_residual.result c.from_residual.ensures.1 in
    rw (p.1, p.2) (hand_on (AllByRecursion (HasPart (words c.args.book.now))) (parts_text (words c.args.book.now)) c.field.result.1.now (λ e. (kind_of e ≡ kind.Start) × HasEvent (words c.args.book.now) e) (body (words c.args.book.now)) c.args.bytes.now c.in_err-parts.field-0.0 c.in_err-parts.ensures (λ none. only_start (words c.args.book.now) c.args.bytes.now (λ x s parts named small has q.
    let rest = c.in-Some.ensures.all x _ named q in
    let m = session_cut (words c.args.book.now) c.in-Some.rest.now c.field.result.0.now c.field.result.1.now s parts small c.field.ensures.parts c.field.ensures.free c.field.ensures.rest rest in
    none parts has m.rest)))
