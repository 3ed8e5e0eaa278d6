-- What stands at the front of a line: heads of messages, parts of a start, bytes between quotes.
use Rattle.std.specs.Borrow.{Bor}
use Rattle.std.specs.Prelude.{◌≡◌, ℕ, List, ◌∷◌, ◌++◌, Option, MatchOption}
use Rattle.chor_base.specs.Writing.{escaped_byte}
use Rattle.chor_base.specs.declared.names.NameId.{NameId}
use Rattle.transcript.specs.Text.{Words, load_text}
use Rattle.event_reader.specs.declared.kind.Content.{Content}
use Rattle.event_reader.specs.declared.bodies.Head.{Head}
use Rattle.event_reader.specs.declared.bodies.Message.{Message}
use Rattle.event_reader.specs.Fields.{BeginsWith}
use Rattle.event_reader.specs.Known.{HasHead, HasLoad, HasPart}
use Rattle.event_reader.specs.Bodies.{content_of, head_then, part_text}

abbrev pub HasHeadOf : Words → Head → Type 0
HasHeadOf w h = HasHead w h.pid h.sid h.from h.to

-- a message's head and what follows it
abbrev pub head_text : Words → Head → List ℕ → List ℕ
head_text w h rest = head_then w h.pid h.sid h.from h.to rest

-- the head stands first, and these bytes follow it
abbrev pub IsHeadFront : Words → List ℕ → Head × Bor (List ℕ) → Type 0
IsHeadFront w bs r = HasHeadOf w r.0 × (bs ≡ head_text w r.0 r.1.now)

-- wherever a head stands first, what follows it is answered
abbrev pub FindsHeads : Words → List ℕ → Option (Head × Bor (List ℕ)) → Type 0
FindsHeads w bs result = (h : Head) (rest : List ℕ) → HasHeadOf w h → bs ≡ head_text w h rest → MatchOption result ⊥ (λ r. r.1.now ≡ rest)

-- a message that the book has names and texts for, with such a load
abbrev pub HasMessage : Words → Content → Message → Type 0
HasMessage w k m = (content_of m.load ≡ k) × HasHeadOf w m.head × HasLoad w m.load

abbrev pub message_text : Words → Message → List ℕ
message_text w m = head_text w m.head (load_text w m.load)

-- the part stands first after a space, and these bytes follow it: nothing, or another space
abbrev pub IsPartFront : Words → List ℕ → (NameId × ℕ) × Bor (List ℕ) → Type 0
IsPartFront w bs r = HasPart w r.0 × (bs ≡ 32 ∷ (part_text w r.0 ++ r.1.now)) × BeginsWith 32 r.1.now

-- wherever a part stands first after a space, what follows it is answered
abbrev pub FindsParts : Words → List ℕ → Option ((NameId × ℕ) × Bor (List ℕ)) → Type 0
FindsParts w bs result =
    (q : NameId × ℕ) (rest : List ℕ) → HasPart w q → BeginsWith 32 rest → bs ≡ 32 ∷ (part_text w q ++ rest) → MatchOption result ⊥ (λ r. r.1.now ≡ rest)

-- a byte of a text as it stands between quotes, and the bytes that follow it; or no byte stands there so
abbrev pub IsByteFront : List ℕ → Option (ℕ × Bor (List ℕ)) → Type 0
IsByteFront bs result = MatchOption result ((b : ℕ) (rest : List ℕ) → bs ≡ escaped_byte b ++ rest → ⊥) (λ r. bs ≡ escaped_byte r.0 ++ r.1.now)
