use Rattle.std.proofs.Common.{◌≤◌}
use Rattle.net_core.specs.Candidates.{HasGrownTo}
use Rattle.net_core.proofs.candidates.Candidates.grow.Given as goal

abbrev pub invariant-loop : goal.invariant-loop
invariant-loop l = record {
  grown : HasGrownTo l.counter l.fn.self l.self;
  within : l.counter ≤ l.count;
}
