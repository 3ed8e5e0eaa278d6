-- Events that are read, line by line.
use Rattle.std.proofs.Common.{◌≡◌, ◌+◌, ℕ, List, [], ◌∷◌, ◌++◌, length, refl, sym, ap, ◌∙◌, subst, append_assoc}
use Rattle.chor_base.specs.declared.event.Event.{Event}
use Rattle.chor_lexer.proofs.Each.{each_append}
use Rattle.transcript.specs.Text.{Words, event_text}
use Rattle.event_reader.specs.Known.{HasEvent}
use Rattle.transcript_lines.specs.Lines.{lines_of}
use Rattle.transcript_lines.specs.Split.{event_lines}
use Rattle.event_files.specs.Fronts.{IsRead, StopsAt, IsFront}
use Rattle.event_files.proofs.EventLines.{lines_append}

pub none_read : (w : Words) (bytes : List ℕ) → IsRead w bytes [] bytes
none_read w bytes = record { known = tt; lines = refl }

-- one event more
pub one_read : (w : Words) (bytes left after line : List ℕ) (events : List Event) (e : Event) → IsRead w bytes events left → lines_of left ≡ line ∷ lines_of after → HasEvent w e → line ≡ event_text w (length events + 1) e → IsRead w bytes (events ++ e ∷ []) after
one_read w bytes left after line events e read first has text = record {
  known = each_append (HasEvent w) events (e ∷ []) read.known (has, tt);
  lines =
      read.lines
      ∙ ap (λ (ls : List (List ℕ)). event_lines w 1 events ++ ls) (first ∙ ap (λ (l : List ℕ). l ∷ lines_of after) text)
      ∙ sym (append_assoc (event_lines w 1 events) (event_text w (length events + 1) e ∷ []) (lines_of after))
      ∙ ap (λ (ls : List (List ℕ)). ls ++ lines_of after) (sym (lines_append w 1 events (e ∷ [])));
}

-- no line is left
pub all_read : (w : Words) (bytes left : List ℕ) (events : List Event) → IsRead w bytes events left → lines_of left ≡ [] → IsFront w bytes events left
all_read w bytes left events read none = record { read = read; stops = subst (StopsAt w (length events + 1)) (sym none) tt }

-- the next line is no event
pub front_read : (w : Words) (bytes left after line : List ℕ) (events : List Event) → IsRead w bytes events left → lines_of left ≡ line ∷ lines_of after → ((e : Event) → HasEvent w e → line ≡ event_text w (length events + 1) e → ⊥) → IsFront w bytes events left
front_read w bytes left after line events read first never = record { read = read; stops = subst (StopsAt w (length events + 1)) (sym first) never }
