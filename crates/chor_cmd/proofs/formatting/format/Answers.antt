use Rattle.source_check.specs.declared.rules.Rules.TheVariants.{Grammar}
use Rattle.std.specs.Prelude.{◌≡◌}
use Rattle.chor_print.specs.Text.{canonical_text}
use Rattle.chor_cmd.proofs.Exits.{one_stops_reading, one_is_done}
use Rattle.chor_cmd.proofs.formatting.format.Goals as goal

pub returns-in_err-file-clause-answers : goal.returns-in_err-file-clause-answers
returns-in_err-file-clause-answers g c = λ functions.
    one_stops_reading functions (g.F.Shelf.state c.args.shelf.now) (g.F.Shelf.state c.fetch_source.new.shelf) c.args.name.now Grammar _ c.from_residual.result c.in_err-file.field-0.0 c.from_residual.ensures.1 c.in_err-file.ensures.unread

pub returns-clause-answers : goal.returns-clause-answers
returns-clause-answers g c = λ functions.
    let before = g.F.Shelf.state c.args.shelf.now in
    let read = c.in_ok-file.ensures.file in
    one_is_done functions before before c.args.name.now Grammar (λ f text. text ≡ canonical_text f) c.in_ok-file.file c.in_ok-text.text.items (read.0, read.1, record { file = read.2; faultless = tt }) c.in_ok-text.ensures
