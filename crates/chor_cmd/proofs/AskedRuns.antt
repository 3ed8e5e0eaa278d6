-- Runs that meet what the options ask for: the scheduled run always does, since it is closed; any closed run where workers are asked for.
use Rattle.std.proofs.Common.{◌≡◌, ℕ, zero, suc, ◌+◌, Bool, List, length, refl, subst, arith, Option}
use Rattle.chor_base.specs.declared.event.Event.{Event}
use Rattle.chor_base.specs.Meaning.{Hosts}
use Rattle.chor_host.specs.Functions.{Function, hosts_in, names_of}
use Rattle.chor_tree.specs.declared.file.File.{File}
use Rattle.command_words.specs.declared.options.Options.{Options}
use Rattle.endpoint_code.specs.declared.endpoints.Endpoints.{Endpoints}
use Rattle.endpoint_code.specs.Network.{first_state}
use Rattle.endpoint_code.specs.Scheduled.{Close, Closes}
use Rattle.endpoint_code.proofs.Chosen.{scheduled_leads}
use Rattle.endpoint_check.specs.Programs.{AreProgramsOf}
use Rattle.accepted_files.specs.ClosedRuns.{IsClosedRunOf}
use Rattle.accepted_files.proofs.Closed.{closes_last}
use Rattle.simulation.specs.Runs.{IsRunOf}
use Rattle.program_runs.specs.Transcripts.{IsTranscriptOf}
use Rattle.program_runs.specs.ByWorkers.{IsTranscriptBy}
use Rattle.program_runs.proofs.SameTranscriptsBy.{transcript_same}
use Rattle.projected_programs.proofs.Programs.{are_copies}
use Rattle.projected_programs.proofs.Transcripts.{transcript_agrees}
use Rattle.chor_cmd.specs.Runs.{RunBy, IsAskedRun, TranscriptBy, IsAskedTranscript}

-- ---- of an accepted file

pub scheduled_asked : (f : File) (e : Endpoints) (hosts : Hosts) (cap : Option ℕ) (options : Options) (h : List Event) (close : Close) → IsRunOf f e hosts cap options.seed options.steps h close → IsAskedRun f e hosts cap options h close
scheduled_asked f e hosts cap options h close run = go options.workers
  where
    go : (n : ℕ) → RunBy n f e hosts cap options h close
    go zero = run
    go (suc n) = run.closed

pub closed_asked : (f : File) (e : Endpoints) (hosts : Hosts) (cap : Option ℕ) (options : Options) (h : List Event) (close : Close) → (options.workers ≡ 0 → ⊥) → IsClosedRunOf f e hosts cap options.steps h close → IsAskedRun f e hosts cap options h close
closed_asked f e hosts cap options h close some run = go options.workers some
  where
    go : (n : ℕ) → (n ≡ 0 → ⊥) → RunBy n f e hosts cap options h close
    go zero some = absurd (some refl)
    go (suc n) some = run

-- ---- of endpoint programs

count : (n : ℕ) → 0 + n ≡ n
count n = omega arith

scheduled_by : (functions : List Function) (e : Endpoints) (cap : Option ℕ) (seed steps : ℕ) (text : List ℕ) (stuck : Bool) → IsTranscriptOf functions e cap seed steps text stuck → IsTranscriptBy functions e cap steps text stuck
scheduled_by functions e cap seed steps text stuck t =
    let hosts = hosts_in e.names functions in
    record {
      history = t.history;
      close = t.close;
      last = t.last;
      run = scheduled_leads e hosts cap seed steps t.history (first_state e) t.last 0 t.close t.scheduled;
      closes = subst (λ (n : ℕ). Closes e cap steps t.last n t.close) (count (length t.history)) (closes_last e hosts cap seed steps t.history (first_state e) t.last 0 t.close t.scheduled);
      text_is = t.text_is;
      stuck_is = t.stuck_is;
    }

pub scheduled_transcript : (functions : List Function) (e : Endpoints) (options : Options) (text : List ℕ) (stuck : Bool) → IsTranscriptOf functions e options.capacity options.seed options.steps text stuck → IsAskedTranscript functions e options text stuck
scheduled_transcript functions e options text stuck t = go options.workers
  where
    go : (n : ℕ) → TranscriptBy n functions e options text stuck
    go zero = t
    go (suc n) = scheduled_by functions e options.capacity options.seed options.steps text stuck t

pub closed_transcript : (functions : List Function) (e : Endpoints) (options : Options) (text : List ℕ) (stuck : Bool) → (options.workers ≡ 0 → ⊥) → IsTranscriptBy functions e options.capacity options.steps text stuck → IsAskedTranscript functions e options text stuck
closed_transcript functions e options text stuck some t = go options.workers some
  where
    go : (n : ℕ) → (n ≡ 0 → ⊥) → TranscriptBy n functions e options text stuck
    go zero some = absurd (some refl)
    go (suc n) some = t

-- a transcript of programs that bytes are the text of is one of all programs of these bytes
pub transcripts_agree : (functions : List Function) (bytes : List ℕ) (e f : Endpoints) (options : Options) (text : List ℕ) (stuck : Bool)
    → AreProgramsOf (names_of functions) bytes e → AreProgramsOf (names_of functions) bytes f → IsAskedTranscript functions e options text stuck → IsAskedTranscript functions f options text stuck
transcripts_agree functions bytes e f options text stuck p q t = go options.workers t
  where
    go : (n : ℕ) → TranscriptBy n functions e options text stuck → TranscriptBy n functions f options text stuck
    go zero run = transcript_agrees functions bytes e f options.capacity options.seed options.steps text stuck p q run
    go (suc n) run = transcript_same functions e f options.capacity options.steps text stuck (are_copies (names_of functions) bytes e f p q) run
