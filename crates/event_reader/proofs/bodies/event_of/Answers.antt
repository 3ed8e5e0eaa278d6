use Rattle.std.proofs.Common.{◌≡◌, ◌∙◌}
use Rattle.std.proofs.lemmas.Result.{err_from_is_err_and}
use Rattle.transcript.specs.Books.{words}
use Rattle.event_reader.specs.Known.{HasEvent}
use Rattle.event_reader.specs.Bodies.{kind_of, body}
use Rattle.event_reader.specs.Fronts.{HasMessage, message_text}
use Rattle.event_reader.proofs.Answers.{hand_on}
use Rattle.event_reader.proofs.EventBodies.{only_sent, only_received}
use Rattle.event_reader.proofs.bodies.event_of.Goals as goal

pub returns-in_err-message-in-Send : goal.returns-in_err-message-in-Send
returns-in_err-message-in-Send c =
    let p = err_from_is_err_and c.from_residual.result c.from_residual.ensures.1 in
    rw (p.1, p.2) (hand_on (HasMessage (words c.args.book.now) c.in-Send.content) (message_text (words c.args.book.now)) c.args.bytes.now (λ e. (kind_of e ≡ c.args.kind) × HasEvent (words c.args.book.now) e) (body (words c.args.book.now)) c.args.bytes.now c.in_err-message-in-Send.field-0.0 c.in_err-message-in-Send.ensures (λ none e h q. only_sent (words c.args.book.now) c.args.bytes.now c.in-Send.content none e (h.0 ∙ c.in-Send.is, h.1) q))

pub returns-in_err-message-in-Recv : goal.returns-in_err-message-in-Recv
returns-in_err-message-in-Recv c =
    let p = err_from_is_err_and c.from_residual-in_err-message-in-Recv.result c.from_residual-in_err-message-in-Recv.ensures.1 in
    rw (p.1, p.2) (hand_on (HasMessage (words c.args.book.now) c.in-Recv.content) (message_text (words c.args.book.now)) c.args.bytes.now (λ e. (kind_of e ≡ c.args.kind) × HasEvent (words c.args.book.now) e) (body (words c.args.book.now)) c.args.bytes.now c.in_err-message-in-Recv.field-0.0 c.in_err-message-in-Recv.ensures (λ none e h q. only_received (words c.args.book.now) c.args.bytes.now c.in-Recv.content none e (h.0 ∙ c.in-Recv.is, h.1) q))
