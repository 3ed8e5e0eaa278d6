use Rattle.std.proofs.Common.{List, ◌++◌, ap}
use Rattle.chor_base.specs.declared.event.Entry.{Entry}
use Rattle.running_tests.proofs.rings.a_ring_of_three_takes_three.Goals as goal

pub push-requires : goal.push-requires
push-requires g c = (c.as_slice-list.result.now, ap (λ (l : List Entry). l ++ c.as_slice-list.result.now) c.in_ok-feed.ensures.fresh.0)
