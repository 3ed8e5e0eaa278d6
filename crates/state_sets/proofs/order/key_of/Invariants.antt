use Rattle.std.proofs.Common.{◌≡◌, ◌-◌, ◌<◌, drop}
use Rattle.state_sets.specs.Order.{word_key}
use Rattle.state_sets.proofs.Keys.{top}
use Rattle.state_sets.proofs.order.key_of.Given as goal

abbrev pub invariant-loop-place : goal.invariant-loop-place
invariant-loop-place l = record {
  made : word_key (8 - l.place) l.key (drop l.place l.word) ≡ word_key 8 0 l.word;
  below : l.key < top l.place;
}
