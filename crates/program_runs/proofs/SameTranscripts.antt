-- Transcripts of programs that are the same.
use Rattle.std.proofs.Common.{ℕ, Bool, List, length, ap, ◌∙◌, Option}
use Rattle.chor_host.specs.Functions.{Function, hosts_in}
use Rattle.endpoint_code.specs.declared.endpoints.Endpoints.{Endpoints}
use Rattle.program_runs.specs.Transcripts.{book_of, closing_text, IsTranscriptOf}
use Rattle.same_programs.specs.Programs.{IsCopy}
use Rattle.same_programs.specs.Laws.{Agrees, IsScheduledAlike}
use Rattle.same_programs.proofs.Hosts.{hosts_same}
use Rattle.same_programs.proofs.Scheduling.{scheduled_same}
use Rattle.same_programs.proofs.Zips.{zip_length}
use Rattle.program_runs.proofs.SameTexts.{written_alike, close_kept}
use Rattle.transcript.specs.Text.{transcript}

pub transcript_same : (functions : List Function) (e e' : Endpoints) (cap : Option ℕ) (seed steps : ℕ) (text : List ℕ) (stuck : Bool) → IsCopy e e' → IsTranscriptOf functions e cap seed steps text stuck
    → IsTranscriptOf functions e' cap seed steps text stuck
transcript_same functions e e' cap seed steps text stuck c t =
    let r : IsScheduledAlike e e' (hosts_in e'.names functions) cap seed steps t.history t.last t.close =
    scheduled_same e e' c (hosts_in e.names functions) (hosts_in e'.names functions) (hosts_same e e' functions c.words c.copied_words) cap seed steps t.history t.last t.close t.scheduled in
    record {
      history = r.events;
      close = r.closed;
      last = r.state;
      scheduled = r.scheduled;
      text_is = t.text_is ∙ written_alike e e' c.same t.history r.events (length t.history) t.close r.closed r.same_events r.same_close
          ∙ ap (λ n. transcript (book_of e') r.events (closing_text (book_of e') n r.closed)) (zip_length (Agrees e e') t.history r.events r.same_events);
      stuck_is = t.stuck_is ∙ close_kept e e' c.same r.same_close;
    }
