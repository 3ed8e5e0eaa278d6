use Rattle.std.proofs.Common.{◌∙◌}
use Rattle.transcript.specs.Books.{words}
use Rattle.event_reader.proofs.ValueTexts.{only_endpoint}
use Rattle.event_reader.proofs.values.load_of.Goals as goal

pub returns-in-None-endpoint_of : goal.returns-in-None-endpoint_of
returns-in-None-endpoint_of c = λ l h e. only_endpoint (words c.args.book.now) c.args.field.now c.in-None-endpoint_of.ensures l (h.0 ∙ c.in-Endpoint.is, h.1) e
