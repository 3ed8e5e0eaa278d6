use Rattle.std.proofs.Common.{◌≡◌, take}
use Rattle.chor_base.specs.Words.{words_of, AllDistinct}
use Rattle.chor_base.proofs.table.Table.copy.Given as goal

abbrev pub invariant-loop-word : goal.invariant-loop-word
invariant-loop-word l = record {
  so_far : l.table ≡ take l.word-index (words_of l.source);
  distinct : AllDistinct (words_of l.source);
}
