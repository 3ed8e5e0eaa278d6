use Rattle.transcript.specs.Books.{words}
use Rattle.event_reader.proofs.ValueTexts.{value_answer}
use Rattle.event_reader.proofs.values.value_of.Goals as goal

pub returns-in-None : goal.returns-in-None
returns-in-None c = value_answer (words c.args.book.now) c.args.field.now c.plain_of.result c.in-None.ensures c.plain_of.ensures
