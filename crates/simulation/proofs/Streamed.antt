-- What was written while workers made a run of an accepted file.
use Rattle.std.proofs.Common.{◌≡◌, ◌≤◌, ◌+◌, ◌∙◌, ℕ, Bool, true, false, List, [], ◌∷◌, ◌++◌, length, refl, sym, ap, Option, arith, append_assoc}
use Rattle.std.proofs.lemmas.List.{length-map}
use Rattle.chor_base.specs.declared.event.Event.{Event}
use Rattle.chor_base.specs.declared.event.Entry.{Entry}
use Rattle.chor_host.specs.Functions.{Function, hosts_in}
use Rattle.chor_io.specs.Outside.{SinkState, Risen, Wrote, WroteFront}
use Rattle.endpoint_code.specs.declared.endpoints.Endpoints.{Endpoints}
use Rattle.endpoint_code.specs.Network.{has_room}
use Rattle.endpoint_code.specs.Scheduled.{Close, Ended, Limit, Stuck}
use Rattle.well_formed.specs.Asked.{IsAnswered}
use Rattle.accepted_files.specs.MoreNames.{RunsAskAlike}
use Rattle.accepted_files.specs.Runs.{IsChecked}
use Rattle.accepted_files.specs.ClosedRuns.{IsClosedRunOf, ClosedRunsAreRuns}
use Rattle.unfinished_runs.specs.Continuing.{AreRunnable, RunsCanBeClosed}
use Rattle.transcript.specs.Text.{Words, lines_from, transcript}
use Rattle.transcript.proofs.Parts.{lines_then}
use Rattle.chor_stream.specs.declared.finish.Finished.{Finished}
use Rattle.chor_stream.specs.declared.finish.Finished.TheVariants as finished
use Rattle.chor_stream.specs.Lines.{Finishes, entry_lines}
use Rattle.chor_stream.proofs.Growth.{part_failed, part_memory, part_written}
use Rattle.post_office.specs.Views.{events_of}
use Rattle.program_runs.specs.Transcripts.{closing_text}
use Rattle.workers.specs.Streams.{WrotePrefixOfRun}
use Rattle.simulation.specs.Accepted.{AcceptedView, IsAccepted}
use Rattle.simulation.specs.Capacity.{capacity_of}
use Rattle.simulation.specs.Runs.{close_of}
use Rattle.simulation.specs.Streams.{WrotePrefix, WritesTranscript}
use Rattle.simulation.proofs.RunsBy.{run_of_file}

-- an entry is of one event
as_many : (entries : List Entry) → length (events_of entries) ≡ length entries
as_many entries = length-map entries (λ (x : Entry). x.event)

-- ---- a prefix

-- what was written is a prefix of the lines of these events
abbrev front_of : Words → SinkState → SinkState → List Event → Type 0
front_of w before after h = WroteFront before.written after.written (lines_from w 1 h)

-- a closed run of an accepted file has ended, or has as many events as asked for
by_close : (w : Words) (a : AcceptedView) (functions : List Function) (steps : ℕ) (before after : SinkState) (h : List Event) (close : Close)
    → IsClosedRunOf a.typed.file a.endpoints (hosts_in a.typed.file.names functions) (capacity_of a.typed.file) steps h close → front_of w before after h → WrotePrefix w a functions steps before after
by_close w a functions steps before after h Ended run lines = record { history = h; ended = true; run = run; lines = lines }
by_close w a functions steps before after h Limit run lines = record { history = h; ended = false; run = run; lines = lines }
by_close w a functions steps before after h (Stuck p why) run lines = absurd run.closes

module _ (view : AcceptedView) (words : List (List ℕ)) (e : Endpoints) (ok : IsChecked view.typed.file words) (a : IsAccepted words view.typed.file e) (functions : List Function) (runnable : AreRunnable functions e)
    (answered : IsAnswered view.typed.file (hosts_in view.typed.file.names functions)) (alike : RunsAskAlike) (running : ClosedRunsAreRuns) (closing : RunsCanBeClosed)
    (cap : Option ℕ) (room : has_room cap [] ≡ true) (declared : cap ≡ capacity_of view.typed.file) (steps : ℕ) (e-is : e ≡ view.endpoints) where
  -- a prefix of the lines of a run of its programs is one of those of a closed run of the file
  pub prefix_of_file : (w : Words) (before after : SinkState) → WrotePrefixOfRun w (hosts_in e.names functions) cap steps e before after → WrotePrefix w view functions steps before after
  prefix_of_file w before after p =
      let h = events_of p.history in
      let n = as_many p.history in
      let few = p.within in
      let r = closing functions e runnable cap h p.last p.run steps (omega (arith, n, few)) in
      let whole = h ++ r.more in
      let made = run_of_file view.typed.file words e ok a runnable.distinct functions answered alike running cap room declared steps whole r.last r.close r.run r.closes view.endpoints e-is in
      let lines = part_memory before after (lines_from w 1 whole) (lines_from w 1 h) (lines_from w (1 + length h) r.more) (lines_then w 1 h r.more) p.lines in
      by_close w view functions steps before after whole r.close made lines

-- ---- the transcript

-- the lines of a run, and its last line, are its transcript
pub told : (w : Words) (a : AcceptedView) (functions : List Function) (steps : ℕ) (answer : Finished) (before mid after : SinkState) (entries : List Entry) (ended : Bool) (close : Close) (count : ℕ)
    → count ≡ length entries → close ≡ close_of ended
    → IsClosedRunOf a.typed.file a.endpoints (hosts_in a.typed.file.names functions) (capacity_of a.typed.file) steps (events_of entries) (close_of ended)
    → Wrote before.written mid.written (entry_lines w 1 entries) → before.faults ≤ mid.faults → Finishes answer mid after (closing_text w count close ++ 10 ∷ [])
    → WritesTranscript w a functions steps answer before after
told w a functions steps answer before mid after entries ended close count many same run wrote rises last =
    let h = events_of entries in
    let line = closing_text w count close in
    record {
      text = transcript w h line;
      told = record {
        history = h;
        ended = ended;
        run = run;
        text_is = ap (λ (n : ℕ). transcript w h (closing_text w n close)) (many ∙ sym (as_many entries)) ∙ ap (λ (k : Close). transcript w h (closing_text w (length h) k)) same;
      };
      finishes = part_written before mid (transcript w h line) (entry_lines w 1 entries) (line ++ 10 ∷ []) (append_assoc (entry_lines w 1 entries) line (10 ∷ [])) answer after wrote rises last;
    }

-- a prefix of the lines of a run is a prefix of its transcript
module _ (w : Words) (a : AcceptedView) (functions : List Function) (steps : ℕ) (before after : SinkState) (p : WrotePrefix w a functions steps before after) where
  abbrev line : List ℕ
  line = closing_text w (length p.history) (close_of p.ended)

  pub told_failed : Risen before.faults after.faults → WritesTranscript w a functions steps finished.Failed before after
  told_failed risen = record {
    text = transcript w p.history line;
    told = record { history = p.history; ended = p.ended; run = p.run; text_is = refl };
    finishes = part_failed before after (transcript w p.history line) (lines_from w 1 p.history) (line ++ 10 ∷ []) (append_assoc (lines_from w 1 p.history) line (10 ∷ [])) (risen, p.lines);
  }

  pub told_memory : WritesTranscript w a functions steps finished.Memory before after
  told_memory = record {
    text = transcript w p.history line;
    told = record { history = p.history; ended = p.ended; run = p.run; text_is = refl };
    finishes = part_memory before after (transcript w p.history line) (lines_from w 1 p.history) (line ++ 10 ∷ []) (append_assoc (lines_from w 1 p.history) line (10 ∷ [])) p.lines;
  }
