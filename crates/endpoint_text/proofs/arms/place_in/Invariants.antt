use Rattle.std.proofs.Common.{◌≡◌, ◌+◌, drop}
use Rattle.endpoint_text.specs.Places.{place_in, label_in}
use Rattle.endpoint_text.proofs.arms.place_in.Given as goal

abbrev pub invariant-loop-place : goal.invariant-loop-place
invariant-loop-place l =
    l.place + place_in (label_in l.names) l.word (drop l.place l.arms) ≡ place_in (label_in l.names) l.word l.arms
