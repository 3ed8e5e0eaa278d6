use Rattle.std.proofs.Common.{◌≡◌, ◌+◌, ◌++◌, drop}
use Rattle.event_orders.specs.Orders.{permuted}
use Rattle.transcript.specs.Books.{words}
use Rattle.transcript.specs.Text.{lines_from}
use Rattle.transcript.specs.Written.{AreReady}
use Rattle.accepted_orders.proofs.past_text.events_text.Given as goal

abbrev pub invariant-loop-place : goal.invariant-loop-place
invariant-loop-place l = record {
  ready : AreReady (words l.book) l.lines;
  count : l.lines.count ≡ l.place-index;
  text : l.lines.text.items ++ lines_from (words l.book) (l.place-index + 1) (permuted l.events (drop l.place-index l.past)) ≡ lines_from (words l.book) 1 (permuted l.events l.past);
}
