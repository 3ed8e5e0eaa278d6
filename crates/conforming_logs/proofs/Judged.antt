-- The lines of a file, judged after the events at its front.
use Rattle.std.proofs.Common.{◌≡◌, ◌≤◌, ◌<◌, ◌+◌, ◌^◌, ℕ, List, [], ◌∷◌, ◌++◌, length, Result, Ok, Err, refl, sym, ap, ◌∙◌, subst, arith}
use Rattle.chor_base.specs.declared.event.Event.{Event}
use Rattle.chor_tree.specs.declared.file.File.{File}
use Rattle.transcript.specs.Text.{Words, event_text}
use Rattle.event_reader.specs.Known.{IsBook, HasEvent}
use Rattle.event_reader.proofs.Spellings.{one_spelling}
use Rattle.replay.specs.declared.answer.Replayed.{Replayed}
use Rattle.replay.specs.declared.answer.ReplayFault.{ReplayFault}
use Rattle.replay.specs.declared.answer.ReplayFault.TheVariants.{Unmatched, Memory}
use Rattle.transcript_lines.specs.declared.last.Last.TheVariants.{End, Limit}
use Rattle.transcript_lines.specs.Lines.{lines_of}
use Rattle.transcript_lines.specs.Last.{last_text}
use Rattle.transcript_lines.specs.Split.{event_lines}
use Rattle.event_files.specs.Files.{Closes, at_end, at_limit, Matches, goes_on, closes, IsClosedBy, IsReplayed, IsUnmatched}
use Rattle.event_files.specs.Fronts.{StopsAt, IsClosing, AreClosing, Judges}
use Rattle.event_files.specs.Fronts as judged
use Rattle.event_files.proofs.EventLines.{few_events}
use Rattle.event_files.proofs.OneAnswer.{not_closing}
use Rattle.conform.specs.ByRole.{ConformsByRole, HasEndedByRole}
use Rattle.conforming_logs.specs.Logs.{ConformsFile}
use Rattle.conforming_logs.specs.Fronts.{IsFollowed}

-- an event that may not follow is in the first line that doesn't match
pub no_match : (w : Words) (f : File) → IsBook w → (h : List Event) (x : Event) → HasEvent w x → length h + 1 < 2 ^ 64 → (ConformsByRole f (h ++ x ∷ []) → ⊥) → {rest : List (List ℕ)} → Matches w (ConformsByRole f) (HasEndedByRole f) h (event_text w (length h + 1) x) rest → ⊥
no_match w f book h x has small never (goes_on y have q conforms) =
    let same : x ≡ y = (one_spelling w (length h + 1) (length h + 1) x y book small small has have q).1 in
    never (subst (λ (z : Event). ConformsByRole f (h ++ z ∷ [])) (sym same) conforms)
no_match w f book h x has small never (closes none c) = not_closing w (HasEndedByRole f) h (length h + 1) x small c

module _ (w : Words) (f : File) (bytes left : List ℕ) (r : Replayed) (a : IsFollowed w f bytes r left) where
  -- what closes events by their count closes them as they are
  closing_too : (line : List ℕ) → IsClosing r line → Closes (HasEndedByRole f) a.history line
  closing_too line (judged.at_end q over) = at_end (q ∙ ap (λ (n : ℕ). last_text (End n)) a.count) (a.ended.0 over)
  closing_too line (judged.at_limit q) = at_limit (q ∙ ap (λ (n : ℕ). last_text (Limit n)) a.count)

  closed_too : (ls : List (List ℕ)) → AreClosing r ls → IsClosedBy (HasEndedByRole f) a.history ls
  closed_too [] c = tt
  closed_too (l ∷ []) c = closing_too l c
  closed_too (l ∷ m ∷ ls) c = c

  closing_back : (line : List ℕ) → Closes (HasEndedByRole f) a.history line → IsClosing r line
  closing_back line (at_end q over) = judged.at_end (q ∙ ap (λ (n : ℕ). last_text (End n)) (sym a.count)) (a.ended.1 over)
  closing_back line (at_limit q) = judged.at_limit (q ∙ ap (λ (n : ℕ). last_text (Limit n)) (sym a.count))

  whole : (s : Replayed) → s ≡ r → AreClosing r (lines_of left) → IsReplayed w (ConformsByRole f) (HasEndedByRole f) (lines_of bytes) s
  whole s same c = subst (IsReplayed w (ConformsByRole f) (HasEndedByRole f) (lines_of bytes)) (sym same) (record {
    history = a.history;
    known = a.front.read.known;
    run = a.conforms;
    closing = lines_of left;
    lines_are = a.front.read.lines;
    closed = closed_too (lines_of left) c;
    count = a.count;
    ended = a.ended;
  })

  -- the first line after the events, which doesn't close them
  unclosed : (i : ℕ) → i ≡ r.count + 1 → (ls : List (List ℕ)) → lines_of left ≡ ls → (AreClosing r ls → ⊥) → IsUnmatched w (ConformsByRole f) (HasEndedByRole f) (lines_of bytes) i
  unclosed i number [] is never = absurd (never tt)
  unclosed i number (line ∷ rest) is never = record {
    history = a.history;
    known = a.front.read.known;
    run = a.conforms;
    line = line;
    rest = rest;
    lines_are = a.front.read.lines ∙ ap (λ (ls : List (List ℕ)). event_lines w 1 a.history ++ ls) is;
    number = number ∙ ap (λ (n : ℕ). n + 1) a.count;
    none = none_there (subst (StopsAt w (length a.history + 1)) is a.front.stops);
  }
    where
      none_there : StopsAt w (length a.history + 1) (line ∷ rest) → Matches w (ConformsByRole f) (HasEndedByRole f) a.history line rest → ⊥
      none_there stops (goes_on x has q conforms) = stops x has q
      none_there stops (closes none c) = never (subst (λ (ls : List (List ℕ)). AreClosing r (line ∷ ls)) (sym none) (closing_back line c))

  -- what is judged of the lines that are left is answered for the file
  pub judged_so : (result : Result Replayed ReplayFault) → Judges r (lines_of left) result → ConformsFile w f bytes result
  judged_so (Ok s) j = whole s j.0 j.1
  judged_so (Err (Unmatched i)) j = unclosed i j.0 (lines_of left) refl j.1
  judged_so (Err Memory) j = tt

  -- the count fits where there are few bytes
  pub count_few : length bytes ≤ 2 ^ 26 → r.count ≤ 2 ^ 26
  count_few few = let all = few_events w a.history bytes (lines_of left) a.front.read.lines in omega (arith, all, few, a.count)
