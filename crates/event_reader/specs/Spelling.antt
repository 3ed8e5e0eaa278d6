-- Each event has one spelling.
use Rattle.std.specs.Prelude.{◌≡◌, ℕ, ◌<◌, ◌^◌}
use Rattle.chor_base.specs.declared.event.Event.{Event}
use Rattle.transcript.specs.Text.{Words, event_text}
use Rattle.event_reader.specs.Known.{HasEvent}

-- Two events of the book under two numbers have one text only where both are the same
abbrev pub HasOneSpelling : Words → Type 0
HasOneSpelling w = (i j : ℕ) (e f : Event) → i < 2 ^ 64 → j < 2 ^ 64 → HasEvent w e → HasEvent w f → event_text w i e ≡ event_text w j f → (i ≡ j) × (e ≡ f)
