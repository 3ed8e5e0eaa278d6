use Rattle.std.proofs.Common.{refl, sym, ◌∙◌}
use Rattle.transcript.specs.Books.{words}
use Rattle.transcript.specs.Text.{process_text}
use Rattle.event_reader.proofs.Cuts.{uncut, one_cut}
use Rattle.event_reader.proofs.Frees.{process_free}
use Rattle.event_reader.proofs.fronts.process_before.Goals as goal

pub returns-in_err-field-clause-all : goal.returns-in_err-field-clause-all
returns-in_err-field-clause-all c = λ x rest h e. absurd (uncut 32 c.args.bytes.now (process_text (words c.args.book.now) x) rest c.in_err-field.ensures.none e)

pub returns-in_err-process_of-clause-all : goal.returns-in_err-process_of-clause-all
returns-in_err-process_of-clause-all c = λ x rest h e.
    let m = one_cut 32 c.in_ok-field.field.now (process_text (words c.args.book.now) x) c.in_ok-field.rest.now rest c.in_ok-field.ensures.some.1 (process_free (words c.args.book.now) 32 x c.requires refl refl refl h) (sym c.in_ok-field.ensures.some.0 ∙ e) in
    absurd (c.in_err-process_of.ensures x h m.front)

pub returns-clause-all : goal.returns-clause-all
returns-clause-all c = λ x rest h e.
    let m = one_cut 32 c.in_ok-field.field.now (process_text (words c.args.book.now) x) c.in_ok-field.rest.now rest c.in_ok-field.ensures.some.1 (process_free (words c.args.book.now) 32 x c.requires refl refl refl h) (sym c.in_ok-field.ensures.some.0 ∙ e) in
    m.rest
