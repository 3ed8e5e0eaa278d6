-- What is told of a run of an accepted file, or of one that is linked, is its transcript.
use Rattle.std.proofs.Common.{◌≡◌, ◌∙◌, ℕ, Bool, true, false, List, length, refl, ap}
use Rattle.chor_host.specs.Functions.{Function}
use Rattle.transcript.specs.Text.{Words, transcript}
use Rattle.program_runs.specs.Transcripts.{closing_text}
use Rattle.simulation.specs.Accepted.{AcceptedView}
use Rattle.simulation.specs.Capacity.{capacity_of}
use Rattle.simulation.specs.Runs.{close_of}
use Rattle.simulation.specs.Told.{IsToldOf}
use Rattle.simulation.specs.ToldBy.{IsToldBy}
use Rattle.chor_host.specs.Functions.{hosts_in}
use Rattle.command_words.specs.declared.options.Options.{Options}
use Rattle.program_runs.specs.Books.{book_of}
use Rattle.chor_base.specs.declared.event.Event.{Event}
use Rattle.std.specs.Prelude.{⊤}
use Rattle.chor_io.specs.Outside.{SinkState}
use Rattle.chor_stream.specs.declared.finish.Finished.{Finished}
use Rattle.simulation.specs.Streams.{WritesTranscript}
use Rattle.chor_cmd.specs.Endings.{HasWritten}
use Rattle.chor_cmd.specs.Outputs.{last_line, TellsRun}
use Rattle.chor_cmd.specs.Rows.{IsDoneWith}
use Rattle.chor_cmd.specs.Status.{finished_status}
use Rattle.chor_cmd.proofs.Written.{finished_written}
use Rattle.chor_cmd.proofs.AskedRuns.{scheduled_asked, closed_asked}

same_line : (w : Words) (ended : Bool) (n : ℕ) → closing_text w n (close_of ended) ≡ last_line ended n
same_line w true n = refl
same_line w false n = refl

module _ (functions : List Function) (a : AcceptedView) (options : Options) (w : Words) (text : List ℕ) (same : w ≡ book_of a.typed.file) where
  line : (history : List Event) (ended : Bool) → text ≡ transcript w history (closing_text w (length history) (close_of ended)) → text ≡ transcript (book_of a.typed.file) history (last_line ended (length history))
  line history ended is =
      is
      ∙ ap (λ (last : List ℕ). transcript w history last) (same_line w ended (length history))
      ∙ ap (λ (b : Words). transcript b history (last_line ended (length history))) same

  pub run_text : IsToldOf w a functions (record { seed = options.seed; steps = options.steps }) text → TellsRun functions a.typed.file a.endpoints (capacity_of a.typed.file) options text
  run_text told = record {
    history = told.history;
    ended = told.ended;
    run = scheduled_asked a.typed.file a.endpoints (hosts_in a.typed.file.names functions) (capacity_of a.typed.file) options told.history (close_of told.ended) told.run;
    text_is = line told.history told.ended told.text_is;
  }

  pub run_text_by : (options.workers ≡ 0 → ⊥) → IsToldBy w a functions options.steps text → TellsRun functions a.typed.file a.endpoints (capacity_of a.typed.file) options text
  run_text_by some told = record {
    history = told.history;
    ended = told.ended;
    run = closed_asked a.typed.file a.endpoints (hosts_in a.typed.file.names functions) (capacity_of a.typed.file) options told.history (close_of told.ended) some told.run;
    text_is = line told.history told.ended told.text_is;
  }

-- it was written, or a part of it
pub told_written : (functions : List Function) (a : AcceptedView) (options : Options) (w : Words) → w ≡ book_of a.typed.file → (options.workers ≡ 0 → ⊥) → (answer : Finished) (sink sink' : SinkState)
    → WritesTranscript w a functions options.steps answer sink sink'
    → HasWritten (IsDoneWith (TellsRun functions a.typed.file a.endpoints (capacity_of a.typed.file) options)) ⊤ ⊤ sink sink' (finished_status answer)
told_written functions a options w same some answer sink sink' x =
    finished_written sink sink' (TellsRun functions a.typed.file a.endpoints (capacity_of a.typed.file) options) x.text (run_text_by functions a options w x.text same some x.told) answer x.finishes
