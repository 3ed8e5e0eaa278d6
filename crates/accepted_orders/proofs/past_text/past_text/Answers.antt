use Rattle.std.proofs.Common.{ℕ, List, length, ap, ◌∙◌}
use Rattle.event_orders.specs.Orders.{permuted}
use Rattle.program_runs.specs.Books.{book_of}
use Rattle.transcript.specs.Text.{transcript}
use Rattle.transcript_lines.specs.declared.last.Last.TheVariants.{Limit}
use Rattle.transcript_lines.specs.Last.{last_text}
use Rattle.accepted_orders.proofs.Telling.{past_there}
use Rattle.accepted_orders.proofs.past_text.past_text.Goals as goal

pub transcript_of-requires : goal.transcript_of-requires
transcript_of-requires c =
    past_there c.args.order.now.causes c.args.order.now.earlier c.in_ok-place.place (length c.args.events.now) c.in_ok-place.ensures.place.within c.in_ok-past.past c.as_slice.result.now c.as_slice.ensures c.in_ok-past.ensures.holds

pub returns-clause-text : goal.returns-clause-text
returns-clause-text c = λ capacity are. record {
  j = c.in_ok-place.place;
  number_is = c.in_ok-place.ensures.place;
  past = c.in_ok-past.past;
  is_past = c.in_ok-past.ensures.happens c.args.events.now capacity are;
  text_is = c.in_ok-text.ensures ∙ ap (λ (past : List ℕ). transcript (book_of c.args.file.now) (permuted c.args.events.now past) (last_text (Limit (length past)))) c.as_slice.ensures;
}
