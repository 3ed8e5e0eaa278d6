-- What a book has names, texts and numbers for.
use Rattle.std.specs.Prelude.{◌≡◌, ℕ, ◌<◌, ◌^◌, ℤ, pos, negsuc, List, length, Option, Some, None, slice_get}
use Rattle.std.specs.List.{AllByRecursion}
use Rattle.chor_base.specs.declared.names.NameId.{NameId}
use Rattle.chor_base.specs.declared.value.Value.{Value}
use Rattle.chor_base.specs.declared.value.Value.TheVariants.{Int, Bool as Truth, Text, Part as Endpoint}
use Rattle.chor_base.specs.declared.value.Load.{Load}
use Rattle.chor_base.specs.declared.value.Load.TheVariants.{Value as Carries, Label as Picks}
use Rattle.chor_base.specs.declared.event.Event.{Event}
use Rattle.chor_base.specs.declared.event.Event.TheVariants.{Start, Send, Recv, Test, Set, Show, Host}
use Rattle.chor_base.specs.Words.{AllDistinct}
use Rattle.chor_lexer.specs.Lexeme.{IsLexeme, word}
use Rattle.transcript.specs.Text.{Words}

-- all names are words of a source
abbrev pub AreWords : List (List ℕ) → Type 0
AreWords names = (n : ℕ) (w : List ℕ) → slice_get names n ≡ Some w → IsLexeme (word w) w

-- no process stands at two places
abbrev pub ProcessesDiffer : List NameId → Type 0
ProcessesDiffer ps = (p q : ℕ) (x : NameId) → slice_get ps p ≡ Some x → slice_get ps q ≡ Some x → p ≡ q

-- a book that tells things apart
pub record IsBook (w : Words) : Type 0 where
  pub words : AreWords w.names
  pub names : AllDistinct w.names
  pub texts : AllDistinct w.texts
  pub processes : ProcessesDiffer w.processes

-- a number of 32 bits
abbrev pub IsSmall : ℕ → Type 0
IsSmall n = n < 2 ^ 32

-- a number of 64 bits with sign
abbrev pub IsInt : ℤ → Type 0
IsInt (pos n) = n < 2 ^ 63
IsInt (negsuc n) = n < 2 ^ 63

-- the name is in the table
abbrev pub HasName : Words → NameId → Type 0
HasName w x = x.0 < length w.names

-- the name, if there is one, is in the table
abbrev pub HasNameOf : Words → Option NameId → Type 0
HasNameOf w (Some x) = HasName w x
HasNameOf w None = Unit {0}

-- a process of the beginning has its name there
abbrev pub HasProcess : Words → ℕ → Type 0
HasProcess w p = IsSmall p × HasNameOf w (slice_get w.processes p)

abbrev pub HasEndpoint : Words → ℕ × NameId → Type 0
HasEndpoint w q = IsSmall q.0 × HasName w q.1

-- the role is in the table of names, and the process has a number of 32 bits and, if it is one of the beginning, a name there
abbrev pub HasPart : Words → NameId × ℕ → Type 0
HasPart w q = HasName w q.0 × HasProcess w q.1

-- the number has 64 bits, the text is in the table, and so on for each kind of value
abbrev pub HasValue : Words → Value → Type 0
HasValue w (Int z) = IsInt z
HasValue w (Truth b) = Unit {0}
HasValue w (Text t) = t < length w.texts
HasValue w (Endpoint s r) = IsSmall s × HasName w r

-- the value or the label can be written and read
abbrev pub HasLoad : Words → Load → Type 0
HasLoad w (Carries v) = HasValue w v
HasLoad w (Picks l) = HasName w l

-- who acts in which session, and from which role to which
abbrev pub HasHead : Words → ℕ → ℕ → NameId → NameId → Type 0
HasHead w p s a b = HasProcess w p × IsSmall s × HasName w a × HasName w b

-- An event whose names and texts the book has, and whose numbers are of their sizes
abbrev pub HasEvent : Words → Event → Type 0
HasEvent w (Start c s parts) = HasName w c × IsSmall s × AllByRecursion (HasPart w) parts
HasEvent w (Send p s a b l) = HasHead w p s a b × HasLoad w l
HasEvent w (Recv p s a b l) = HasHead w p s a b × HasLoad w l
HasEvent w (Test p b) = HasProcess w p
HasEvent w (Set p x v) = HasProcess w p × HasName w x × HasValue w v
HasEvent w (Show p v) = HasProcess w p × HasValue w v
HasEvent w (Host p x f a b v) = HasProcess w p × HasName w x × HasName w f × IsInt a × IsInt b × IsInt v
