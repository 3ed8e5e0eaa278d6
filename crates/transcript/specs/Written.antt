-- Lines that are written in parts.
use Rattle.std.specs.Prelude.{◌≡◌, ℕ, List, ◌++◌, codes}
use Rattle.std.specs.Fmt.{decimal}
use Rattle.chor_base.specs.declared.names.NameId.{NameId}
use Rattle.chor_base.specs.declared.event.Event.{Event}
use Rattle.chor_base.specs.declared.event.Event.TheVariants.{Host}
use Rattle.kept_texts.specs.Kept.{AreTextsOf}
use Rattle.transcript.specs.declared.line.Asked.{Asked}
use Rattle.transcript.specs.declared.lines.Lines.{Lines}
use Rattle.transcript.specs.Text.{Words, name_text, process_text}
use Rattle.transcript.specs.Phrases.{phrase_text}

-- more lines can be written: the number of the last one is known, and the texts that are kept are right with these words
pub record AreReady (w : Words) (lines : Lines) : Type 0 where
  pub digits : lines.digits.items ≡ decimal lines.count
  pub kept : AreTextsOf (phrase_text w) lines.phrases.slots.items

-- a name after a space
abbrev pub spaced_name : Words → NameId → List ℕ
spaced_name w x = codes " " ++ name_text w x

-- what a process does, the process and a space, as ` test p `
abbrev pub doing_text : Words → List ℕ → ℕ → List ℕ
doing_text w deed p = deed ++ process_text w p ++ codes " "

-- the event of a host call
abbrev pub host_event : Asked → Event
host_event asked = Host asked.pid asked.var asked.name asked.left asked.right asked.value
