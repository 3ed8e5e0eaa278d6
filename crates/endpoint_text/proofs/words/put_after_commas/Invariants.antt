use Rattle.std.proofs.Common.{◌≡◌, ◌++◌, drop}
use Rattle.endpoint_text.specs.Parts.{after_commas}
use Rattle.endpoint_text.proofs.words.put_after_commas.Given as goal

abbrev pub invariant-loop-name : goal.invariant-loop-name
invariant-loop-name l = l.out.items ++ after_commas l.e (drop l.name-index l.names) ≡ l.fn.out.items ++ after_commas l.e l.names
