-- The texts of messages, in two parts (this project's own).
use Rattle.std.specs.Prelude.{ℕ, List, [], ◌++◌, codes}
use Rattle.std.specs.Fmt.{decimal}
use Rattle.chor_base.specs.declared.value.Value.TheVariants.{Int, Bool as Truth, Text, Part as Endpoint}
use Rattle.chor_base.specs.declared.value.Load.{Load}
use Rattle.chor_base.specs.declared.value.Load.TheVariants.{Value as Carries, Label as Picks}
use Rattle.chor_base.specs.declared.event.Event.{Event}
use Rattle.chor_base.specs.declared.event.Event.TheVariants.{Start, Send, Recv, Test, Set, Show, Host}
use Rattle.kept_texts.specs.declared.phrase.Verb.{Verb}
use Rattle.kept_texts.specs.declared.phrase.Verb.TheVariants.{Send as Sends, Pick, Give, Recv as Receives, Branch, Gain}
use Rattle.kept_texts.specs.declared.phrase.Phrase.{Phrase}
use Rattle.transcript.specs.Text.{Words, name_text, process_text, said}

-- what stands for a message that is sent, and for one that is received: of a value, of a label, of an endpoint
abbrev pub sending_verb : Load → Verb
sending_verb (Carries (Int z)) = Sends
sending_verb (Carries (Truth b)) = Sends
sending_verb (Carries (Text t)) = Sends
sending_verb (Carries (Endpoint s r)) = Give
sending_verb (Picks l) = Pick

abbrev pub receiving_verb : Load → Verb
receiving_verb (Carries (Int z)) = Receives
receiving_verb (Carries (Truth b)) = Receives
receiving_verb (Carries (Text t)) = Receives
receiving_verb (Carries (Endpoint s r)) = Gain
receiving_verb (Picks l) = Branch

-- the word of a message
abbrev pub verb_text : Verb → List ℕ
verb_text Sends = codes " send "
verb_text Pick = codes " pick "
verb_text Give = codes " give "
verb_text Receives = codes " recv "
verb_text Branch = codes " branch "
verb_text Gain = codes " gain "

-- who does it, in which session, from which role to which, as `p #0 A>B `
abbrev pub route_text : Words → Phrase → List ℕ
route_text w m = process_text w m.pid ++ codes " #" ++ decimal m.sid ++ codes " " ++ name_text w m.from ++ codes ">" ++ name_text w m.to ++ codes " "

-- the text of a message before its load, as ` send p #0 A>B `
abbrev pub phrase_text : Words → Phrase → List ℕ
phrase_text w m = verb_text m.verb ++ route_text w m

-- an event without its number, and of a message nothing
abbrev pub deed_text : Words → Event → List ℕ
deed_text w (Start c s parts) = said w (Start c s parts)
deed_text w (Send p s a b l) = []
deed_text w (Recv p s a b l) = []
deed_text w (Test p b) = said w (Test p b)
deed_text w (Set p x v) = said w (Set p x v)
deed_text w (Show p v) = said w (Show p v)
deed_text w (Host p x f a b v) = said w (Host p x f a b v)
