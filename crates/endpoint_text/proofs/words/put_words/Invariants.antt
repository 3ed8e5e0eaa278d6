use Rattle.std.proofs.Common.{◌≡◌, ◌++◌, drop}
use Rattle.endpoint_text.specs.Text.{spaced}
use Rattle.endpoint_text.proofs.words.put_words.Given as goal

abbrev pub invariant-loop-name : goal.invariant-loop-name
invariant-loop-name l = l.out.items ++ spaced l.e (drop l.name-index l.names) ≡ l.fn.out.items ++ (l.word ++ spaced l.e l.names)
