-- Events that are read and judged, line by line.
use Rattle.std.proofs.Common.{◌≡◌, ◌≤◌, ◌<◌, ◌+◌, ◌^◌, ℕ, Bool, true, false, List, [], ◌∷◌, ◌++◌, length, length-append, Result, Ok, Err, refl, sym, ap, ◌∙◌, subst, arith}
use Rattle.std.specs.Prelude.{◌↔◌, IsTrue}
use Rattle.chor_base.specs.declared.event.Event.{Event}
use Rattle.chor_base.specs.declared.memory.Memory.{Memory as NoMemory}
use Rattle.chor_tree.specs.declared.file.File.{File}
use Rattle.transcript.specs.Text.{Words, event_text}
use Rattle.event_reader.specs.Known.{IsBook, HasEvent}
use Rattle.replay.specs.declared.answer.Replayed.{Replayed}
use Rattle.replay.specs.declared.answer.ReplayFault.TheVariants.{Unmatched}
use Rattle.transcript_lines.specs.Lines.{lines_of}
use Rattle.transcript_lines.specs.Split.{event_lines}
use Rattle.event_files.specs.Files.{Matches}
use Rattle.event_files.specs.Fronts.{IsRead, IsFront}
use Rattle.event_files.proofs.EventLines.{few_events}
use Rattle.event_files.proofs.ReadLines.{none_read, one_read, all_read, front_read}
use Rattle.conform.specs.declared.progress.Progress.{Progress}
use Rattle.conform.specs.ByRole.{ConformsByRole, HasEndedByRole}
use Rattle.conform.specs.Progress.{IsAfter}
use Rattle.conform.specs.Steps.{Follows}
use Rattle.conforming_logs.specs.Logs.{ConformsFile}
use Rattle.conforming_logs.specs.Fronts.{IsFollowed}
use Rattle.conforming_logs.proofs.Judged.{no_match}

-- what holds after so many lines
pub record Along (w : Words) (f : File) (bytes rest : List ℕ) (count : ℕ) (p : Progress) : Type 0 where
  pub history : List Event
  pub read : IsRead w bytes history rest
  pub counted : count ≡ length history
  pub kept : IsAfter f history p

module _ (w : Words) (f : File) (bytes : List ℕ) where
  pub begun : (p : Progress) → IsAfter f [] p → Along w f bytes bytes 0 p
  begun p a = record { history = []; read = none_read w bytes; counted = refl; kept = a }

  -- there are no more lines than bytes
  pub few_lines : (rest : List ℕ) (count : ℕ) (p : Progress) → Along w f bytes rest count p → length bytes ≤ 2 ^ 26 → count ≤ 2 ^ 26
  few_lines rest count p a few = let all = few_events w a.history bytes (lines_of rest) a.read.lines in omega (arith, all, few, a.counted)

  text_there : (count : ℕ) (h : List Event) (line : List ℕ) (x : Event) → count ≡ length h → line ≡ event_text w (count + 1) x → line ≡ event_text w (length h + 1) x
  text_there count h line x same text = text ∙ ap (λ (n : ℕ). event_text w (n + 1) x) same

  module _ (rest after line : List ℕ) (count : ℕ) (x : Event) (p q : Progress) (a : Along w f bytes rest count p) (first : lines_of rest ≡ line ∷ lines_of after) (has : HasEvent w x) (text : line ≡ event_text w (count + 1) x)
      (r : Result Bool NoMemory) (b : Bool) (follows : (h : List Event) → IsAfter f h p → Follows f h x r q) (ok : r ≡ Ok b) where
    told : (c : Bool) → b ≡ c → Follows f a.history x (Ok c) q
    told c is = subst (λ (o : Result Bool NoMemory). Follows f a.history x o q) (ok ∙ ap (λ (d : Bool). Ok d) is) (follows a.history a.kept)

    -- the next line is followed
    pub along_more : b ≡ true → Along w f bytes after (count + 1) q
    along_more on = record {
      history = a.history ++ x ∷ [];
      read = one_read w bytes rest after line a.history x a.read first has (text_there count a.history line x a.counted text);
      counted = ap (λ (n : ℕ). n + 1) a.counted ∙ sym (length-append a.history (x ∷ []));
      kept = (told true on).1;
    }

    -- the next line is that of an event that goes astray
    pub unmatched : IsBook w → length bytes ≤ 2 ^ 26 → b ≡ false → ConformsFile w f bytes (Err (Unmatched (count + 1)))
    unmatched book few off =
        let there = text_there count a.history line x a.counted text in
        let small : length a.history + 1 < 2 ^ 64 = (let n = few_lines rest count p a few in omega (arith, n, a.counted)) in
        record {
          history = a.history;
          known = a.read.known;
          run = a.kept.conforms;
          line = line;
          rest = lines_of after;
          lines_are = a.read.lines ∙ ap (λ (ls : List (List ℕ)). event_lines w 1 a.history ++ ls) first;
          number = ap (λ (n : ℕ). n + 1) a.counted;
          none = λ m. no_match w f book a.history x has small (λ c. (told false off) (c a.history x [] refl)) (subst (λ (l : List ℕ). Matches w (ConformsByRole f) (HasEndedByRole f) a.history l (lines_of after)) there m);
        }

  module _ (rest : List ℕ) (count : ℕ) (p : Progress) (r : Replayed) (a : Along w f bytes rest count p) (same : r.count ≡ count) (over : (h : List Event) → IsAfter f h p → IsTrue r.ended ↔ HasEndedByRole f h) where
    followed : IsFront w bytes a.history rest → IsFollowed w f bytes r rest
    followed front = record { history = a.history; front = front; conforms = a.kept.conforms; count = same ∙ a.counted; ended = over a.history a.kept }

    -- no line is left
    pub followed_all : lines_of rest ≡ [] → IsFollowed w f bytes r rest
    followed_all none = followed (all_read w bytes rest a.history a.read none)

    -- the next line is that of no event
    pub followed_front : (after line : List ℕ) → lines_of rest ≡ line ∷ lines_of after → ((x : Event) → HasEvent w x → line ≡ event_text w (count + 1) x → ⊥) → IsFollowed w f bytes r rest
    followed_front after line first never = followed (front_read w bytes rest after line a.history a.read first (λ x has text. never x has (text ∙ ap (λ (n : ℕ). event_text w (n + 1) x) (sym a.counted))))
