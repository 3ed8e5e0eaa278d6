use Rattle.std.proofs.Common.{sym, ◌∙◌}
use Rattle.transcript.specs.Books.{words}
use Rattle.transcript.specs.Text.{name_text}
use Rattle.event_reader.proofs.Cuts.{uncut, one_cut}
use Rattle.event_reader.proofs.Frees.{name_free}
use Rattle.event_reader.proofs.fronts.name_before.Goals as goal

pub returns-in_err-field-clause-all : goal.returns-in_err-field-clause-all
returns-in_err-field-clause-all c = λ x rest h e. absurd (uncut c.args.end c.args.bytes.now (name_text (words c.args.book.now) x) rest c.in_err-field.ensures.none e)

pub returns-in_err-name_of-clause-all : goal.returns-in_err-name_of-clause-all
returns-in_err-name_of-clause-all c = λ x rest h e.
    let m = one_cut c.args.end c.in_ok-field.field.now (name_text (words c.args.book.now) x) c.in_ok-field.rest.now rest c.in_ok-field.ensures.some.1 (name_free (words c.args.book.now) c.args.end x c.requires.words c.requires.end h) (sym c.in_ok-field.ensures.some.0 ∙ e) in
    absurd (c.in_err-name_of.ensures.reading x h m.front)

pub returns-clause-all : goal.returns-clause-all
returns-clause-all c = λ x rest h e.
    let m = one_cut c.args.end c.in_ok-field.field.now (name_text (words c.args.book.now) x) c.in_ok-field.rest.now rest c.in_ok-field.ensures.some.1 (name_free (words c.args.book.now) c.args.end x c.requires.words c.requires.end h) (sym c.in_ok-field.ensures.some.0 ∙ e) in
    m.rest
