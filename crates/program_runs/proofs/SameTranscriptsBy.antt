-- Transcripts, of runs that workers made, of programs that are the same.
use Rattle.std.proofs.Common.{◌≡◌, ℕ, Bool, List, length, ap, ◌∙◌, Option, subst}
use Rattle.chor_host.specs.Functions.{Function, hosts_in}
use Rattle.endpoint_code.specs.declared.endpoints.Endpoints.{Endpoints}
use Rattle.endpoint_code.specs.Scheduled.{Closes}
use Rattle.program_runs.specs.Transcripts.{book_of, closing_text}
use Rattle.program_runs.proofs.SameTexts.{written_alike, close_kept}
use Rattle.same_programs.specs.Programs.{IsCopy}
use Rattle.same_programs.specs.Laws.{Agrees, RunsAlike}
use Rattle.same_programs.proofs.Hosts.{hosts_same}
use Rattle.same_programs.proofs.Scheduling.{ClosesToo, closes_same}
use Rattle.same_programs.proofs.Steps.{run_same}
use Rattle.same_programs.proofs.Zips.{zip_length}
use Rattle.transcript.specs.Text.{transcript}
use Rattle.program_runs.specs.ByWorkers.{IsTranscriptBy}

pub transcript_same : (functions : List Function) (e e' : Endpoints) (cap : Option ℕ) (steps : ℕ) (text : List ℕ) (stuck : Bool) → IsCopy e e' → IsTranscriptBy functions e cap steps text stuck
    → IsTranscriptBy functions e' cap steps text stuck
transcript_same functions e e' cap steps text stuck c t =
    let hosts = hosts_in e.names functions in
    let hosts' = hosts_in e'.names functions in
    let r : RunsAlike e e' hosts' cap t.history t.last = run_same e e' c hosts hosts' (hosts_same e e' functions c.words c.copied_words) cap t.history t.last t.run in
    let k : ClosesToo e e' c cap steps r.state (length t.history) t.close = closes_same e e' c cap steps t.last r.state r.same_state (length t.history) t.close t.closes in
    let count : length t.history ≡ length r.events = zip_length (Agrees e e') t.history r.events r.same_events in
    record {
      history = r.events;
      close = k.closed;
      last = r.state;
      run = r.run;
      closes = subst (λ (n : ℕ). Closes e' cap steps r.state n k.closed) count k.closes;
      text_is = t.text_is ∙ written_alike e e' c.same t.history r.events (length t.history) t.close k.closed r.same_events k.same_close
          ∙ ap (λ n. transcript (book_of e') r.events (closing_text (book_of e') n k.closed)) count;
      stuck_is = t.stuck_is ∙ close_kept e e' c.same k.same_close;
    }
