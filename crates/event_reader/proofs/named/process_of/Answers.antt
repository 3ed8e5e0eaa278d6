use Rattle.transcript.specs.Books.{words}
use Rattle.event_reader.proofs.Answers.{no_reading}
use Rattle.event_reader.proofs.NamedTexts.{no_number, later, no_name, first}
use Rattle.event_reader.proofs.named.process_of.Goals as goal

pub returns-in_err-small_of-in-Some : goal.returns-in_err-small_of-in-Some
returns-in_err-small_of-in-Some c = no_reading _ _ _ _ c.from_residual.ensures (no_number (words c.args.book.now) c.args.field.now c.in-Some.digits.now c.requires c.in-Some.ensures c.in_err-small_of-in-Some.ensures)

pub returns-in_ok-small_of-in-Some : goal.returns-in_ok-small_of-in-Some
returns-in_ok-small_of-in-Some c = later (words c.args.book.now) c.args.field.now c.in-Some.digits.now _ c.later_process.result c.requires c.in-Some.ensures c.in_ok-small_of-in-Some.ensures.0 c.in_ok-small_of-in-Some.ensures.1 c.later_process.ensures.some c.later_process.ensures.none

pub returns-in_err-name_of-in-None : goal.returns-in_err-name_of-in-None
returns-in_err-name_of-in-None c = no_reading _ _ _ _ c.from_residual-in_err-name_of-in-None.ensures (no_name (words c.args.book.now) c.args.field.now c.in-None.ensures c.in_err-name_of-in-None.ensures.reading)

pub returns-in_ok-name_of-in-None : goal.returns-in_ok-name_of-in-None
returns-in_ok-name_of-in-None c = first (words c.args.book.now) c.args.field.now _ c.first_process.result c.in-None.ensures c.in_ok-name_of-in-None.ensures.reading.0 c.in_ok-name_of-in-None.ensures.reading.1 c.in_ok-name_of-in-None.ensures.only c.first_process.ensures.some c.first_process.ensures.none
