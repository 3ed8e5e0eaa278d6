-- A run that is told part by part.
use Rattle.std.proofs.Common.{◌≡◌, ◌+◌, ◌^◌, ◌<◌, ◌≤◌, ℕ, List, [], ◌∷◌, ◌++◌, length, refl, sym, ap, ◌∙◌, subst, Some, None, Option, arith}
use Rattle.std.proofs.lemmas.List.{length-append}
use Rattle.chor_base.specs.declared.event.Event.{Event}
use Rattle.chor_base.specs.Meaning.{Hosts}
use Rattle.endpoint_code.specs.declared.endpoints.Endpoints.{Endpoints}
use Rattle.net_core.specs.Picks.{GoesOn, stays}
use Rattle.net_core.proofs.Runs.{goes_then, scheduled_then, length-entries_of}
use Rattle.endpoint_runs.specs.declared.parts.Run.{Run}
use Rattle.endpoint_runs.specs.declared.parts.Schedule.{Schedule}
use Rattle.endpoint_runs.specs.declared.run.Closed.{Closed}
use Rattle.endpoint_runs.specs.InParts.{Continues, Leads}
use Rattle.endpoint_runs.specs.Runs.{close_of}
use Rattle.transcript.specs.declared.lines.Lines.{Lines}
use Rattle.transcript.specs.Text.{Words, lines_from}
use Rattle.transcript.specs.Written.{AreReady}
use Rattle.transcript.proofs.Parts.{lines_then}
use Rattle.program_runs.specs.Told.{HasBegun, IsTold}
use Rattle.program_runs.specs.Transcripts.{closing_text, events_of}
use Rattle.program_runs.proofs.Transcripts.{events_back}

-- what holds after some parts: the events so far, and their lines
pub record Telling (w : Words) (hosts : Hosts) (first now : Run) (lines : Lines) : Type 0 where
  pub events : List Event
  pub endpoints : now.network.endpoints ≡ first.network.endpoints
  pub queues : now.network.capacity ≡ first.network.capacity
  pub schedule : now.schedule ≡ first.schedule
  pub count : now.before + length now.network.history ≡ length events
  pub run : GoesOn first.network.endpoints hosts first.network.capacity first.schedule.seed first.schedule.steps first.network.state 0 events now.network.state
  pub text : lines.text.items ≡ lines_from w 1 events
  pub number : lines.count ≡ length events
  pub ready : AreReady w lines

pub begun : (w : Words) (hosts : Hosts) (first : Run) (lines : Lines) → HasBegun first → lines.text.items ≡ [] → lines.count ≡ 0 → AreReady w lines → Telling w hosts first first lines
begun w hosts first lines b text number ready =
    let none : length first.network.history ≡ 0 = ap length b.none in
    let before : first.before ≡ 0 = b.before in
    record { events = []; endpoints = refl; queues = refl; schedule = refl; count = omega arith; run = stays; text = text; number = number; ready = ready }

module _ (w : Words) (hosts : Hosts) (first now : Run) (lines : Lines) (t : Telling w hosts first now lines) (closed : Option Closed) (next : Run) (c : Continues hosts now closed next) where
  -- how many events there are before the part
  before : next.before ≡ length t.events
  before = c.before ∙ t.count

  leads : Leads first.network.endpoints hosts first.network.capacity first.schedule.seed first.schedule.steps now.network.state (length t.events) c.events next.network.state closed
  leads =
      let here = subst (λ (k : ℕ). Leads now.network.endpoints hosts now.network.capacity now.schedule.seed now.schedule.steps now.network.state k c.events next.network.state closed) before c.leads in
      let asked = subst (λ (s : Schedule). Leads now.network.endpoints hosts now.network.capacity s.seed s.steps now.network.state (length t.events) c.events next.network.state closed) t.schedule here in
      let held = subst (λ (cap : Option ℕ). Leads now.network.endpoints hosts cap first.schedule.seed first.schedule.steps now.network.state (length t.events) c.events next.network.state closed) t.queues asked in
      subst (λ (e : Endpoints). Leads e hosts first.network.capacity first.schedule.seed first.schedule.steps now.network.state (length t.events) c.events next.network.state closed) t.endpoints held

  -- there is a number for each line
  pub numbered : lines.count + length next.network.history < 2 ^ 64
  numbered = let b = before in let n = t.number in let within = next.within in let few = next.few in omega arith

  -- what the part has made of the lines
  module _ (more : Lines) (counted : more.count ≡ lines.count + length next.network.history) (put : more.text.items ≡ lines.text.items ++ lines_from w (lines.count + 1) (events_of next.network.history)) where
    abbrev all : List Event
    all = t.events ++ c.events

    made : events_of next.network.history ≡ c.events
    made = ap events_of c.part ∙ events_back c.events

    longer : length all ≡ length t.events + length c.events
    longer = length-append t.events c.events

    many : length next.network.history ≡ length c.events
    many = ap length c.part ∙ length-entries_of c.events

    number : more.count ≡ length all
    number = let n = t.number in let l = longer in let m = many in let k = counted in omega arith

    text : more.text.items ≡ lines_from w 1 all
    text =
        let from : lines.count + 1 ≡ 1 + length t.events = (let n = t.number in omega arith) in
        put
        ∙ (λ i. t.text i ++ lines_from w (from i) (made i))
        ∙ sym (lines_then w 1 t.events c.events)

    pub told_on : closed ≡ None → AreReady w more → Telling w hosts first next more
    told_on open_still ready =
        let l = subst (λ (o : Option Closed). Leads first.network.endpoints hosts first.network.capacity first.schedule.seed first.schedule.steps now.network.state (length t.events) c.events next.network.state o) open_still leads in
        record {
          events = all;
          endpoints = c.endpoints ∙ t.endpoints;
          queues = c.capacity ∙ t.queues;
          schedule = c.schedule ∙ t.schedule;
          count = let b = before in let m = many in let n = longer in omega arith;
          run = goes_then t.run next.network.state (length t.events) c.events (omega arith) l.0;
          text = text;
          number = number;
          ready = ready;
        }

    -- the run gets longer
    pub longer_still : closed ≡ None → now.before + length now.network.history < next.before + length next.network.history
    longer_still open_still =
        let l = subst (λ (o : Option Closed). Leads first.network.endpoints hosts first.network.capacity first.schedule.seed first.schedule.steps now.network.state (length t.events) c.events next.network.state o) open_still leads in
        let some : 1 ≤ length c.events = l.1 in
        let b = c.before in let m = many in omega arith

    pub told : (close : Closed) → closed ≡ Some close → (whole : List ℕ) → whole ≡ more.text.items ++ closing_text w more.count (close_of close) ++ 10 ∷ [] → IsTold w hosts first whole (close_of close)
    told close is whole same =
        let l = subst (λ (o : Option Closed). Leads first.network.endpoints hosts first.network.capacity first.schedule.seed first.schedule.steps now.network.state (length t.events) c.events next.network.state o) is leads in
        record {
          history = all;
          last = next.network.state;
          scheduled = scheduled_then t.run next.network.state (length t.events) c.events (close_of close) (omega arith) l;
          text_is = same ∙ (λ i. text i ++ closing_text w (number i) (close_of close) ++ 10 ∷ []);
        }
