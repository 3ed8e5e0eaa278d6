use Rattle.std.proofs.Common.{◌≡◌, ◌<◌, ℕ, List, Some}
use Rattle.std.specs.Prelude.{slice_get}
use Rattle.chor_lexer.specs.Lexeme.{IsLexeme, word}
use Rattle.event_reader.proofs.words.are_words.Given as goal

abbrev pub invariant-loop-number : goal.invariant-loop-number
invariant-loop-number l = (k : ℕ) (w : List ℕ) → k < l.number → slice_get l.names k ≡ Some w → IsLexeme (word w) w
