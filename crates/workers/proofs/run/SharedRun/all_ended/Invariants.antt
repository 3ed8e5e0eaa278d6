use Rattle.std.proofs.Common.{◌≡◌, true, take}
use Rattle.std.specs.Prelude.{All}
use Rattle.workers.proofs.run.SharedRun.all_ended.Given as goal

abbrev pub invariant-loop-ended : goal.invariant-loop-ended
invariant-loop-ended l = All (λ b. b ≡ true) (take l.ended-index l.self.ended)
