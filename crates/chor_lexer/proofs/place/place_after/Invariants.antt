use Rattle.std.proofs.Common.{◌≡◌, ◌+◌, ◌≤◌, length, drop}
use Rattle.chor_lexer.specs.Cut.{place_after}
use Rattle.chor_lexer.proofs.place.place_after.Given as goal

abbrev pub invariant-loop-byte : goal.invariant-loop-byte
invariant-loop-byte l = record {
  line : l.now.line + length (drop l.byte-index l.bytes) ≤ l.fn.place.line + length l.bytes;
  col : l.now.col + length (drop l.byte-index l.bytes) ≤ l.fn.place.col + length l.bytes;
  so_far : place_after l.now (drop l.byte-index l.bytes) ≡ place_after l.fn.place l.bytes;
}
