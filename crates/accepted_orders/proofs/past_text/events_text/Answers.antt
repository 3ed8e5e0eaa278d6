use Rattle.std.proofs.Common.{◌+◌, ◌++◌, [], ◌∷◌, ap, ◌∙◌, List, ℕ}
use Rattle.event_orders.specs.Orders.{permuted}
use Rattle.transcript.specs.Books.{words}
use Rattle.transcript.specs.Text.{event_text, lines_from}
use Rattle.accepted_orders.proofs.Telling.{line_more}
use Rattle.accepted_orders.proofs.past_text.events_text.Goals as goal

pub loop-place-init : goal.loop-place-init
loop-place-init c =
    let w = words c.args.book.now in
    let new = c.in_ok-lines.ensures in
    record {
      ready = new.ready w;
      count = new.count;
      text = ap (λ (t : List ℕ). t ++ lines_from w 1 (permuted c.args.events.now c.args.past.now)) new.text;
    }

pub loop-place-preserved : goal.loop-place-preserved
loop-place-preserved c =
    let w = words c.args.book.now in
    let i = c.loop-place.place-index in
    let kept_so = c.loop-place.invariant in
    let x = c.index-events-place.result in
    let old = c.loop-place.lines.text.items in
    let put = c.in_ok-put_event.ensures in
    record {
      ready = put.ready;
      count = put.count ∙ ap (λ n. n + 1) kept_so.count;
      text = line_more w c.args.events.now c.args.past.now i x old c.put_event.new.lines.text.items _
          c.loop-place-test.true (c.requires i 0 c.loop-place-test.true) c.index-events-place.is kept_so.text
          (put.text ∙ ap (λ (n : ℕ). old ++ event_text w (n + 1) x ++ 10 ∷ []) kept_so.count);
    }
