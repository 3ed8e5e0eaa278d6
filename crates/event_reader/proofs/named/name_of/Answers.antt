use Rattle.transcript.specs.Books.{words}
use Rattle.event_reader.proofs.NamedTexts.{name_reading, name_only}
use Rattle.event_reader.proofs.named.name_of.Goals as goal

pub returns-clause-reading : goal.returns-clause-reading
returns-clause-reading c = name_reading (words c.args.book.now) c.args.field.now c.find.result c.find.ensures.found c.find.ensures.absent

pub returns-clause-only : goal.returns-clause-only
returns-clause-only c = name_only (words c.args.book.now) c.args.field.now c.find.result c.len-count.ensures.distinct c.find.ensures.found
