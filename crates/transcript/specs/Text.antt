-- The text of an event, and of a whole run (this project's own).
use Rattle.std.specs.Prelude.{ℕ, suc, List, [], ◌∷◌, ◌++◌, Option, Some, None, slice_get, codes, ℤ}
use Rattle.std.specs.Fmt.{decimal, signed_decimal}
use Rattle.chor_base.specs.Writing.{name_in, literal_in, truth_text}
use Rattle.chor_base.specs.declared.names.NameId.{NameId}
use Rattle.chor_base.specs.declared.value.Value.{Value}
use Rattle.chor_base.specs.declared.value.Value.TheVariants.{Int, Bool as Truth, Text, Part as Endpoint}
use Rattle.chor_base.specs.declared.value.Load.{Load}
use Rattle.chor_base.specs.declared.value.Load.TheVariants.{Value as Carries, Label as Picks}
use Rattle.chor_base.specs.declared.event.Event.{Event}
use Rattle.chor_base.specs.declared.event.Event.TheVariants.{Start, Send, Recv, Test, Set, Show, Host}

-- what a transcript is written with: names, literal texts, and the processes that exist from the beginning
pub record Words : Type 0 where
  pub names : List (List ℕ)
  pub texts : List (List ℕ)
  pub processes : List NameId

-- a name or a text that isn't there adds no bytes
abbrev pub name_text : Words → NameId → List ℕ
name_text w x = name_in w.names x

-- a process by its name, or by `%` and its number
abbrev pub process_named : Words → ℕ → Option NameId → List ℕ
process_named w p (Some x) = name_text w x
process_named w p None = 37 ∷ decimal p

-- a process of the beginning by its name, another as `%` and its number
abbrev pub process_text : Words → ℕ → List ℕ
process_text w p = process_named w p (slice_get w.processes p)

-- a number with its sign, `true` or `false`, a text literal, or an endpoint as `#1.R`
abbrev pub value_text : Words → Value → List ℕ
value_text w (Int z) = signed_decimal z
value_text w (Truth b) = truth_text b
value_text w (Text t) = literal_in w.texts t
value_text w (Endpoint s r) = 35 ∷ decimal s ++ 46 ∷ [] ++ name_text w r

-- a value or a label as it is written
abbrev pub load_text : Words → Load → List ℕ
load_text w (Carries v) = value_text w v
load_text w (Picks l) = name_text w l

-- the parts of a start, each as ` A=p`
abbrev pub parts_text : Words → List (NameId × ℕ) → List ℕ
parts_text w [] = []
parts_text w (q ∷ qs) = (32 ∷ name_text w q.0 ++ 61 ∷ [] ++ process_text w q.1) ++ parts_text w qs

-- the words for a message that is sent, and for one that is received: of a value, of a label, of an endpoint
abbrev pub sending : Load → List ℕ
sending (Carries (Int z)) = codes " send "
sending (Carries (Truth b)) = codes " send "
sending (Carries (Text t)) = codes " send "
sending (Carries (Endpoint s r)) = codes " give "
sending (Picks l) = codes " pick "

-- the word of a receipt: `recv`, `gain` or `branch`
abbrev pub receiving : Load → List ℕ
receiving (Carries (Int z)) = codes " recv "
receiving (Carries (Truth b)) = codes " recv "
receiving (Carries (Text t)) = codes " recv "
receiving (Carries (Endpoint s r)) = codes " gain "
receiving (Picks l) = codes " branch "

-- `p #0 A>B 3`
abbrev pub message_text : Words → ℕ → ℕ → NameId → NameId → Load → List ℕ
message_text w p s a b l = process_text w p ++ codes " #" ++ decimal s ++ codes " " ++ name_text w a ++ codes ">" ++ name_text w b ++ codes " " ++ load_text w l

-- a number with a space before it
abbrev pub spaced : ℤ → List ℕ
spaced z = codes " " ++ signed_decimal z

-- the arguments and the answer of a host call
abbrev pub numbers_text : ℤ → ℤ → ℤ → List ℕ
numbers_text a b v = spaced a ++ spaced b ++ spaced v

-- an event without its number
abbrev pub said : Words → Event → List ℕ
said w (Start c s parts) = codes " start " ++ name_text w c ++ codes " #" ++ decimal s ++ parts_text w parts
said w (Send p s a b l) = sending l ++ message_text w p s a b l
said w (Recv p s a b l) = receiving l ++ message_text w p s a b l
said w (Test p b) = codes " test " ++ process_text w p ++ codes " " ++ truth_text b
said w (Set p x v) = codes " set " ++ process_text w p ++ codes " " ++ name_text w x ++ codes " " ++ value_text w v
said w (Show p v) = codes " show " ++ process_text w p ++ codes " " ++ value_text w v
said w (Host p x f a b v) =
    codes " host " ++ process_text w p ++ codes " " ++ name_text w x ++ codes " " ++ name_text w f ++ numbers_text a b v

-- The text of event number i: the number, a space and the event
abbrev pub event_text : Words → ℕ → Event → List ℕ
event_text w i e = decimal i ++ said w e

-- the texts of events, numbered from i on, each ended by a line feed
abbrev pub lines_from : Words → ℕ → List Event → List ℕ
lines_from w i [] = []
lines_from w i (e ∷ es) = (event_text w i e ++ 10 ∷ []) ++ lines_from w (suc i) es

-- A transcript: the texts of the events numbered from 1, and a last line, each ended by a line feed
abbrev pub transcript : Words → List Event → List ℕ → List ℕ
transcript w h last = lines_from w 1 h ++ last ++ 10 ∷ []
