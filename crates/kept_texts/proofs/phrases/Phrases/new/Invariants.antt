use Rattle.std.proofs.Common.{◌≡◌, length}
use Rattle.kept_texts.specs.Kept.{Spelling, AreTextsOf}
use Rattle.kept_texts.proofs.phrases.Phrases.new.Given as goal

abbrev pub invariant-loop : goal.invariant-loop
invariant-loop l = record {
  size : length l.slots.items ≡ l.counter;
  kept : (s : Spelling) → AreTextsOf s l.slots.items;
}
