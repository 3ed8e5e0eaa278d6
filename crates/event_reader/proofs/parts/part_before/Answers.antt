use Rattle.transcript.specs.Books.{words}
use Rattle.event_reader.proofs.PartTexts.{one_part}
use Rattle.event_reader.proofs.parts.part_before.Goals as goal

pub returns-in_err-part_of-clause-all : goal.returns-in_err-part_of-clause-all
returns-in_err-part_of-clause-all c = λ q rest has begins e.
    let m = one_part (words c.args.book.now) c.args.bytes.now c.in_ok-after.field-0.now c.field.result.0.now c.field.result.1.now rest q c.requires has c.field.ensures.rest begins c.field.ensures.free c.in_ok-after.ensures c.field.ensures.parts e in
    absurd (c.in_err-part_of.ensures q has m.front)

pub returns-clause-all : goal.returns-clause-all
returns-clause-all c = λ q rest has begins e.
    let m = one_part (words c.args.book.now) c.args.bytes.now c.in_ok-after.field-0.now c.field.result.0.now c.field.result.1.now rest q c.requires has c.field.ensures.rest begins c.field.ensures.free c.in_ok-after.ensures c.field.ensures.parts e in
    m.rest
