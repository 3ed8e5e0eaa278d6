use Rattle.std.proofs.Common.{refl, sym, ◌∙◌}
use Rattle.transcript.specs.Books.{words}
use Rattle.transcript.specs.Text.{name_text}
use Rattle.event_reader.specs.Bodies.{session_text}
use Rattle.event_reader.proofs.Answers.{no_reading}
use Rattle.event_reader.proofs.Cuts.{uncut, one_cut}
use Rattle.event_reader.proofs.Frees.{session_free}
use Rattle.event_reader.proofs.named.endpoint_of.Goals as goal

pub returns-in_err-session : goal.returns-in_err-session
returns-in_err-session c = no_reading _ _ _ _ c.from_residual.ensures (λ q h e. uncut 46 c.args.field.now (session_text q.0) (name_text (words c.args.book.now) q.1) c.in_err-session.ensures.none e)

pub returns-in_err-session_of : goal.returns-in_err-session_of
returns-in_err-session_of c = no_reading _ _ _ _ c.from_residual-in_err-session_of.ensures (λ q h e.
    let m = one_cut 46 c.in_ok-session.session.now (session_text q.0) c.in_ok-session.role.now (name_text (words c.args.book.now) q.1) c.in_ok-session.ensures.some.1 (session_free 46 q.0 refl refl h.0) (sym c.in_ok-session.ensures.some.0 ∙ e) in
    c.in_err-session_of.ensures q.0 h.0 m.front)

pub returns-in_err-name_of : goal.returns-in_err-name_of
returns-in_err-name_of c = no_reading _ _ _ _ c.from_residual-in_err-name_of.ensures (λ q h e.
    let m = one_cut 46 c.in_ok-session.session.now (session_text q.0) c.in_ok-session.role.now (name_text (words c.args.book.now) q.1) c.in_ok-session.ensures.some.1 (session_free 46 q.0 refl refl h.0) (sym c.in_ok-session.ensures.some.0 ∙ e) in
    c.in_err-name_of.ensures.reading q.1 h.1 m.rest)
