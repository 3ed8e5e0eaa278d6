-- The text of an event in parts, each before what follows it. A space is 32, `#` 35, `.` 46, `=` 61, `>` 62.
use Rattle.std.specs.Prelude.{ℕ, List, ◌∷◌, ◌++◌, codes}
use Rattle.std.specs.Fmt.{decimal, signed_decimal}
use Rattle.chor_base.specs.Writing.{truth_text}
use Rattle.chor_base.specs.declared.names.NameId.{NameId}
use Rattle.chor_base.specs.declared.value.Value.{Value}
use Rattle.chor_base.specs.declared.value.Value.TheVariants.{Int, Bool as Truth, Text, Part as Endpoint}
use Rattle.chor_base.specs.declared.value.Load.{Load}
use Rattle.chor_base.specs.declared.value.Load.TheVariants.{Value as Carries, Label as Picks}
use Rattle.chor_base.specs.declared.event.Event.{Event}
use Rattle.chor_base.specs.declared.event.Event.TheVariants.{Start, Send, Recv, Test, Set, Show, Host}
use Rattle.transcript.specs.Text.{Words, name_text, process_text, value_text, load_text, parts_text}
use Rattle.event_reader.specs.declared.kind.Content.{Content}
use Rattle.event_reader.specs.declared.kind.Content.TheVariants as content
use Rattle.event_reader.specs.declared.kind.Kind.{Kind}
use Rattle.event_reader.specs.declared.kind.Kind.TheVariants as kind
use Rattle.event_reader.specs.Known.{HasValue}

-- what a message carries
abbrev pub content_of : Load → Content
content_of (Carries (Int z)) = content.Value
content_of (Carries (Truth b)) = content.Value
content_of (Carries (Text t)) = content.Value
content_of (Carries (Endpoint s r)) = content.Endpoint
content_of (Picks l) = content.Label

-- what happens
abbrev pub kind_of : Event → Kind
kind_of (Start c s parts) = kind.Start
kind_of (Send p s a b l) = kind.Send (content_of l)
kind_of (Recv p s a b l) = kind.Recv (content_of l)
kind_of (Test p b) = kind.Test
kind_of (Set p x v) = kind.Set
kind_of (Show p v) = kind.Show
kind_of (Host p x f a b v) = kind.Host

-- the word for it
abbrev pub kind_text : Kind → List ℕ
kind_text kind.Start = codes "start"
kind_text (kind.Send content.Value) = codes "send"
kind_text (kind.Send content.Label) = codes "pick"
kind_text (kind.Send content.Endpoint) = codes "give"
kind_text (kind.Recv content.Value) = codes "recv"
kind_text (kind.Recv content.Label) = codes "branch"
kind_text (kind.Recv content.Endpoint) = codes "gain"
kind_text kind.Test = codes "test"
kind_text kind.Set = codes "set"
kind_text kind.Show = codes "show"
kind_text kind.Host = codes "host"

-- a value that is no endpoint
abbrev pub HasPlain : Words → Value → Type 0
HasPlain w (Endpoint s r) = ⊥
HasPlain w v = HasValue w v

abbrev pub session_text : ℕ → List ℕ
session_text s = 35 ∷ decimal s

abbrev pub endpoint_text : Words → ℕ × NameId → List ℕ
endpoint_text w q = session_text q.0 ++ 46 ∷ name_text w q.1

abbrev pub part_text : Words → NameId × ℕ → List ℕ
part_text w q = name_text w q.0 ++ 61 ∷ process_text w q.1

-- who acts in which session, from which role to which, and what follows
abbrev pub head_then : Words → ℕ → ℕ → NameId → NameId → List ℕ → List ℕ
head_then w p s a b rest = process_text w p ++ 32 ∷ (session_text s ++ 32 ∷ (name_text w a ++ 62 ∷ (name_text w b ++ 32 ∷ rest)))

-- what follows the word
abbrev pub body : Words → Event → List ℕ
body w (Start c s parts) = name_text w c ++ 32 ∷ (session_text s ++ parts_text w parts)
body w (Send p s a b l) = head_then w p s a b (load_text w l)
body w (Recv p s a b l) = head_then w p s a b (load_text w l)
body w (Test p b) = process_text w p ++ 32 ∷ truth_text b
body w (Set p x v) = process_text w p ++ 32 ∷ (name_text w x ++ 32 ∷ value_text w v)
body w (Show p v) = process_text w p ++ 32 ∷ value_text w v
body w (Host p x f a b v) =
    process_text w p ++ 32 ∷ (name_text w x ++ 32 ∷ (name_text w f ++ 32 ∷ (signed_decimal a ++ 32 ∷ (signed_decimal b ++ 32 ∷ signed_decimal v))))
