use Rattle.std.proofs.Common.{◌≡◌, ◌<◌, length}
use Rattle.chor_base.specs.Words.{AllDistinct}
use Rattle.chor_gen.specs.Words.{generated_names}
use Rattle.chor_gen.proofs.words.Words.new.Given as goal

abbrev pub invariant-loop-number : goal.invariant-loop-number
invariant-loop-number l = record {
  table : l.names ≡ generated_names l.number;
  distinct : AllDistinct l.names;
  some : 0 < length l.names;
}
