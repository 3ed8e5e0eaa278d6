-- What is printed of a run is its transcript.
use Rattle.std.proofs.Common.{◌≡◌, ◌∙◌, ℕ, suc, Bool, List, [], ◌∷◌, length, refl, ap, Option}
use Rattle.chor_base.specs.declared.event.Event.{Event}
use Rattle.chor_base.specs.declared.event.Entry.{Entry}
use Rattle.chor_host.specs.Functions.{Function, hosts_in}
use Rattle.endpoint_code.specs.declared.endpoints.Endpoints.{Endpoints}
use Rattle.endpoint_code.specs.Scheduled.{Close}
use Rattle.net_core.specs.Picks.{entries_of}
use Rattle.endpoint_runs.specs.Runs.{IsRunWithin}
use Rattle.transcript.specs.Text.{transcript}
use Rattle.program_runs.specs.Transcripts.{book_of, events_of, closing_text, is_stuck, IsTranscriptOf}

pub events_back : (h : List Event) → events_of (entries_of h) ≡ h
events_back [] = refl
events_back (x ∷ xs) = ap (λ ys. x ∷ ys) (events_back xs)

pub as_long : (h : List Event) → length (entries_of h) ≡ length h
as_long [] = refl
as_long (x ∷ xs) = ap suc (as_long xs)

pub told : (functions : List Function) (e : Endpoints) (cap : Option ℕ) (seed steps : ℕ) (entries : List Entry) (c : Close) (text : List ℕ) (stuck : Bool) → IsRunWithin cap e (hosts_in e.names functions) seed steps entries c
    → text ≡ transcript (book_of e) (events_of entries) (closing_text (book_of e) (length entries) c) → stuck ≡ is_stuck c → IsTranscriptOf functions e cap seed steps text stuck
told functions e cap seed steps entries c text stuck r is s = record {
  history = r.history;
  close = c;
  last = r.last;
  scheduled = r.scheduled;
  text_is = is
      ∙ ap (λ (es : List Entry). transcript (book_of e) (events_of es) (closing_text (book_of e) (length es) c)) r.entries_are
      ∙ (λ i. transcript (book_of e) (events_back r.history i) (closing_text (book_of e) (as_long r.history i) c));
  stuck_is = s;
}
