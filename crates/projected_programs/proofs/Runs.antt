-- What is read from the text of a source's endpoint programs runs as the source does.
use Rattle.std.proofs.Common.{◌≡◌, ℕ, Bool, true, false, List, [], Option, length, refl, ap, ◌∙◌, subst}
use Rattle.chor_base.specs.declared.event.Event.{Event}
use Rattle.chor_base.specs.Meaning.{Hosts}
use Rattle.chor_host.specs.Functions.{Function, names_of, hosts_in}
use Rattle.chor_tree.specs.declared.file.File.{File}
use Rattle.endpoint_code.specs.declared.endpoints.Endpoints.{Endpoints}
use Rattle.endpoint_code.specs.Network.{NetworkState, first_state, has_room}
use Rattle.endpoint_code.specs.Scheduled.{Close, Ended, Limit, Stuck, IsScheduled}
use Rattle.well_formed.specs.Asked.{IsAnswered}
use Rattle.transcript.specs.Text.{Words, transcript}
use Rattle.program_runs.specs.Transcripts.{closing_text, is_stuck, IsTranscriptOf}
use Rattle.accepted_files.specs.AboveProjection.{ProjectionIsAbove}
use Rattle.accepted_files.specs.Closing.{ClosesWell}
use Rattle.accepted_files.specs.Runs.{IsRunOf, ScheduledRunsAreRuns}
use Rattle.projected_programs.specs.Laws.{AreProjected, IsRunTranscript}
use Rattle.projected_programs.proofs.Checked.{is_checked}
use Rattle.projected_programs.proofs.Books.{same_book}

module _ (functions : List Function) (bytes : List ℕ) (f : File) (e : Endpoints) (p : AreProjected functions bytes f e) (answered : IsAnswered f (hosts_in f.names functions))
    (above : ProjectionIsAbove) (running : ScheduledRunsAreRuns) (cap : Option ℕ) (room : has_room cap [] ≡ true) (seed steps : ℕ) where
  abbrev hosts : Hosts
  hosts = hosts_in f.names functions

  run_of : (h : List Event) (last : NetworkState) (c : Close) → IsScheduled e hosts cap seed steps (first_state e) 0 h last c → IsRunOf f e hosts cap seed steps h c
  run_of h last c run = running f (names_of functions) (is_checked (names_of functions) bytes f p.accepted) e (above f e p.projects) hosts answered cap room [] (first_state e) refl seed steps h last c run

  -- a run that closes well isn't stuck
  pub not_stuck : (h : List Event) (last : NetworkState) (c : Close) → ClosesWell f e hosts cap steps h last c → is_stuck c ≡ false
  not_stuck h last Ended w = refl
  not_stuck h last Limit w = refl
  not_stuck h last (Stuck q why) w = absurd w

  pub run_transcript : (text : List ℕ) (stuck : Bool) → IsTranscriptOf functions e cap seed steps text stuck → IsRunTranscript functions f e cap seed steps text × (stuck ≡ false)
  run_transcript text stuck t =
      let run = run_of t.history t.last t.close (subst (λ (names : List (List ℕ)). IsScheduled e (hosts_in names functions) cap seed steps (first_state e) 0 t.history t.last t.close) p.projects.names t.scheduled) in
      (record { history = t.history; close = t.close; run = run; text_is = t.text_is ∙ ap (λ (w : Words). transcript w t.history (closing_text w (length t.history) t.close)) (same_book f e p.projects) }, t.stuck_is ∙ not_stuck t.history run.closed.last t.close run.closed.closes)
