use Rattle.std.proofs.Common.{◌≡◌, ◌++◌, ◌+◌, drop, map}
use Rattle.transcript.specs.Text.{lines_from}
use Rattle.transcript.specs.Books.{words}
use Rattle.transcript.specs.Written.{AreReady}
use Rattle.transcript.proofs.lines.Lines.put.Given as goal

abbrev pub invariant-loop-entry : goal.invariant-loop-entry
invariant-loop-entry l = record {
  ready : AreReady (words l.book) l.self;
  count : l.self.count ≡ l.fn.self.count + l.entry-index;
  text : l.self.text.items ++ lines_from (words l.book) (l.self.count + 1) (map (λ entry. entry.event) (drop l.entry-index l.events)) ≡ l.fn.self.text.items ++ lines_from (words l.book) (l.fn.self.count + 1) (map (λ entry. entry.event) l.events);
}
