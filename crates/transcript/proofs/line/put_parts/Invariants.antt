use Rattle.std.proofs.Common.{◌≡◌, ◌++◌, drop}
use Rattle.transcript.specs.Text.{parts_text}
use Rattle.transcript.specs.Books.{words}
use Rattle.transcript.proofs.line.put_parts.Given as goal

abbrev pub invariant-loop-part : goal.invariant-loop-part
invariant-loop-part l = l.line.items ++ parts_text (words l.book) (drop l.part-index l.parts) ≡ l.fn.line.items ++ parts_text (words l.book) l.parts
