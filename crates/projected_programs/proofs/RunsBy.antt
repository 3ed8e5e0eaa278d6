-- What is read from the text of a source's endpoint programs runs as the source does, whoever makes the events.
use Rattle.std.proofs.Common.{◌≡◌, ℕ, Bool, true, false, List, [], Option, length, refl, ap, ◌∙◌, subst}
use Rattle.chor_base.specs.declared.event.Event.{Event}
use Rattle.chor_base.specs.Meaning.{Hosts}
use Rattle.chor_host.specs.Functions.{Function, names_of, hosts_in}
use Rattle.chor_tree.specs.declared.file.File.{File}
use Rattle.endpoint_code.specs.declared.endpoints.Endpoints.{Endpoints}
use Rattle.endpoint_code.specs.Network.{NetworkState, has_room}
use Rattle.endpoint_code.specs.NetworkRuns.{IsNetworkRun}
use Rattle.endpoint_code.specs.Scheduled.{Close, Ended, Limit, Stuck}
use Rattle.well_formed.specs.Asked.{IsAnswered}
use Rattle.transcript.specs.Text.{Words, transcript}
use Rattle.program_runs.specs.Transcripts.{closing_text, is_stuck}
use Rattle.accepted_files.specs.AboveProjection.{ProjectionIsAbove}
use Rattle.accepted_files.specs.Closing.{ClosesWell}
use Rattle.accepted_files.specs.ClosedRuns.{IsClosedRunOf, ClosedRunsAreRuns}
use Rattle.projected_programs.specs.Laws.{AreProjected}
use Rattle.projected_programs.proofs.Checked.{is_checked}
use Rattle.projected_programs.proofs.Books.{same_book}
use Rattle.program_runs.specs.ByWorkers.{IsTranscriptBy}
use Rattle.projected_programs.specs.LawsBy.{IsRunTranscriptBy}

module _ (functions : List Function) (bytes : List ℕ) (f : File) (e : Endpoints) (p : AreProjected functions bytes f e) (answered : IsAnswered f (hosts_in f.names functions))
    (above : ProjectionIsAbove) (running : ClosedRunsAreRuns) (cap : Option ℕ) (room : has_room cap [] ≡ true) (steps : ℕ) where
  abbrev hosts : Hosts
  hosts = hosts_in f.names functions

  -- a run that closes well isn't stuck
  not_stuck : (h : List Event) (last : NetworkState) (c : Close) → ClosesWell f e hosts cap steps h last c → is_stuck c ≡ false
  not_stuck h last Ended w = refl
  not_stuck h last Limit w = refl
  not_stuck h last (Stuck q why) w = absurd w

  pub run_transcript : (text : List ℕ) (stuck : Bool) → IsTranscriptBy functions e cap steps text stuck → IsRunTranscriptBy functions f e cap steps text × (stuck ≡ false)
  run_transcript text stuck t =
      let leads = subst (λ (names : List (List ℕ)). IsNetworkRun e (hosts_in names functions) cap t.history t.last) p.projects.names t.run in
      let run : IsClosedRunOf f e hosts cap steps t.history t.close =
      running f (names_of functions) (is_checked (names_of functions) bytes f p.accepted) e (above f e p.projects) hosts answered cap room steps t.history t.last t.close leads t.closes
      in
      (record { history = t.history; close = t.close; run = run; text_is = t.text_is ∙ ap (λ (w : Words). transcript w t.history (closing_text w (length t.history) t.close)) (same_book f e p.projects) }, t.stuck_is ∙ not_stuck t.history run.last t.close run.closes)
