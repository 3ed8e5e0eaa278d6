use Rattle.std.proofs.Common.{◌≡◌, ◌+◌, ◌++◌, drop}
use Rattle.accepted_orders.specs.Texts.{causes_lines}
use Rattle.accepted_orders.proofs.causes_text.order_text.Given as goal

abbrev pub invariant-loop-place : goal.invariant-loop-place
invariant-loop-place l = l.text.items ++ causes_lines (l.place + 1) (drop l.place l.order.causes) ≡ causes_lines 1 l.order.causes
