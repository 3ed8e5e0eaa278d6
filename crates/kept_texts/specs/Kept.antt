-- Texts that are kept (this project's own).
use Rattle.std.specs.Prelude.{◌≡◌, ℕ, List, Option, Some, None, All}
use Rattle.kept_texts.specs.declared.phrase.Phrase.{Phrase}
use Rattle.kept_texts.specs.declared.phrases.Slot.{Slot}

-- how each phrase is written
abbrev pub Spelling : Type 0
Spelling = Phrase → List ℕ

-- this is the text of the phrase that is kept, if one is
abbrev pub IsKept : Spelling → Option Phrase → List ℕ → Type 0
IsKept s None text = Unit {0}
IsKept s (Some m) text = text ≡ s m

-- a slot has the text of its phrase, if it keeps one
abbrev pub IsTextOf : Spelling → Slot → Type 0
IsTextOf s slot = IsKept s slot.phrase slot.text.items

-- each slot has the text of its phrase, if it keeps one
abbrev pub AreTextsOf : Spelling → List Slot → Type 0
AreTextsOf s slots = All (IsTextOf s) slots
