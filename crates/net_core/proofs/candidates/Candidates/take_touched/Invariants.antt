use Rattle.net_core.specs.Candidates.{HasTouched, AreBelow}
use Rattle.net_core.proofs.candidates.Candidates.take_touched.Given as goal

abbrev pub invariant-loop-pid : goal.invariant-loop-pid
invariant-loop-pid l = record {
  touched : HasTouched l.fn.capacity l.fn.past l.pid l.fn.self.waiting l.pids.items;
  below : AreBelow l.count l.pids.items;
}
