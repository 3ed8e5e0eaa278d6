-- Transcripts of runs conform.
use Rattle.std.proofs.Common.{◌≡◌, ◌<◌, ◌^◌, ℕ, Bool, true, false, List, [], ◌∷◌, ◌++◌, length, refl, sym, subst, inl, inr, append_assoc}
use Rattle.std.specs.Prelude.{◌↔◌, IsTrue}
use Rattle.chor_base.specs.declared.event.Event.{Event}
use Rattle.chor_tree.specs.declared.file.File.{File}
use Rattle.transcript.specs.Text.{Words, transcript}
use Rattle.event_reader.specs.Known.{IsBook}
use Rattle.transcript_lines.specs.declared.last.Last.{Last}
use Rattle.transcript_lines.specs.Lines.{lines_of}
use Rattle.transcript_lines.specs.Last.{HasCount, last_text}
use Rattle.transcript_lines.specs.Split.{HasHistory}
use Rattle.transcript_lines.proofs.FeedFree.{transcript_splits}
use Rattle.transcript_lines.proofs.Histories.{last_free}
use Rattle.event_files.specs.Files.{Closes, IsReplayed, IsUnmatched}
use Rattle.event_files.proofs.OneAnswer.{GoesOnByRuns, not_both}
use Rattle.conform.specs.ByRole.{ConformsByRole, HasEndedByRole}
use Rattle.conform.proofs.Once.{front_conforms}
use Rattle.accepted_files.specs.Accepted.{IsChecked}
use Rattle.source_check.specs.Source.{IsAccepted}
use Rattle.source_check.specs.declared.rules.Rules.TheVariants.{All}

-- events that conform go on so
pub goes_on : (f : File) → GoesOnByRuns (ConformsByRole f)
goes_on f h x rest c = front_conforms f (h ++ x ∷ []) rest (subst (ConformsByRole f) (sym (append_assoc h (x ∷ []) rest)) c)

-- an accepted file is checked
pub checked : (words : List (List ℕ)) (bytes : List ℕ) (f : File) → IsAccepted All words bytes f → IsChecked f words
checked words bytes f a = record {
  accepted = record { names = a.faultless.0; protocols = a.faultless.1.0; types = a.faultless.1.1.1.0 };
  guarded = λ x h. a.faultless.1.1.1.1.0 x (inl h);
  ordered = λ x h. a.faultless.1.1.1.1.0 x (inr h);
}

module _ (f : File) (w : Words) (book : IsBook w) (h : List Event) (has : HasHistory w h) (conforms : ConformsByRole f h) (last : Last) (counts : HasCount last) (closes : Closes (HasEndedByRole f) h (last_text last))
    (few : length (transcript w h (last_text last)) < 2 ^ 64) where
  -- its lines, with what is told of whether it has ended
  told : (b : Bool) → IsTrue b ↔ HasEndedByRole f h → IsReplayed w (ConformsByRole f) (HasEndedByRole f) (lines_of (transcript w h (last_text last))) (record { count = length h; ended = b })
  told b ended = record {
    history = h;
    known = has.0;
    run = conforms;
    closing = last_text last ∷ [];
    lines_are = transcript_splits w h (last_text last) book.words has.0 has.1 (last_free last counts);
    closed = closes;
    count = refl;
    ended = ended;
  }

  never : (b : Bool) → IsTrue b ↔ HasEndedByRole f h → (i : ℕ) → IsUnmatched w (ConformsByRole f) (HasEndedByRole f) (lines_of (transcript w h (last_text last))) i → ⊥
  never b ended i u = not_both w (ConformsByRole f) (HasEndedByRole f) book (goes_on f) (transcript w h (last_text last)) few (record { count = length h; ended = b }) i (told b ended) u

  -- whether it has ended or not, no line is unmatched
  pub none_unmatched : (i : ℕ) → IsUnmatched w (ConformsByRole f) (HasEndedByRole f) (lines_of (transcript w h (last_text last))) i → ⊥
  none_unmatched i u =
      let open_still : HasEndedByRole f h → ⊥ = λ over. never true (λ e. over, λ e. refl) i u in
      never false (λ e. absurd (let c : false ≡ true = e in cc), λ over. absurd (open_still over)) i u
