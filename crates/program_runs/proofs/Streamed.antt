-- What was written while workers made a run.
use Rattle.std.proofs.Common.{◌≡◌, ◌≤◌, ◌+◌, ◌∙◌, ℕ, Bool, List, [], ◌∷◌, ◌++◌, map, length, refl, sym, ap, subst, Option, Some, None, arith, append-nil, append_assoc}
use Rattle.std.proofs.lemmas.List.{length-map}
use Rattle.chor_base.specs.declared.event.Event.{Event}
use Rattle.chor_base.specs.declared.names.NameId.{NameId}
use Rattle.chor_base.specs.declared.event.Entry.{Entry}
use Rattle.chor_host.specs.Functions.{Function, hosts_in}
use Rattle.chor_io.specs.Outside.{SinkState, Risen, Wrote, WroteFront}
use Rattle.endpoint_code.specs.declared.endpoints.Endpoints.{Endpoints}
use Rattle.endpoint_code.specs.declared.endpoints.Process.{Process}
use Rattle.endpoint_code.specs.Network.{NetworkState, first_state}
use Rattle.endpoint_code.specs.NetworkRuns.{IsNetworkRun}
use Rattle.endpoint_code.specs.Scheduled.{Close, Closes}
use Rattle.transcript.specs.Text.{Words, lines_from, transcript}
use Rattle.transcript.proofs.Parts.{lines_then}
use Rattle.chor_stream.specs.declared.finish.Finished.{Finished}
use Rattle.chor_stream.specs.Lines.{Finishes, entry_lines}
use Rattle.chor_stream.proofs.Growth.{part_failed, part_memory, part_written}
use Rattle.unfinished_runs.specs.Continuing.{AreRunnable, RunsCanBeClosed}
use Rattle.workers.specs.Runs.{IsRunBy}
use Rattle.workers.specs.Streams.{WrotePrefixOfRun}
use Rattle.program_runs.specs.declared.streaming.ExecutedTo.TheVariants.{Failed, Memory}
use Rattle.program_runs.specs.Transcripts.{book_of, events_of, closing_text, is_stuck}
use Rattle.program_runs.specs.ByWorkers.{IsTranscriptBy}
use Rattle.program_runs.specs.Streams.{WritesTranscript, IsExecutedTo}

-- what stands before is followed by nothing, which is a prefix of each text
nothing : (o : Option (List ℕ)) (text : List ℕ) → WroteFront o o text
nothing None text = tt
nothing (Some old) text = ([], text, refl, sym (append-nil old))

-- an entry is of one event
as_many : (entries : List Entry) → length (events_of entries) ≡ length entries
as_many entries = length-map entries (λ (x : Entry). x.event)

-- the book of endpoint programs, whose processes have these names
abbrev pub book_with : Endpoints → List NameId → Words
book_with e processes = record { names = e.names; texts = e.texts; processes = processes }

pub same_book : (e : Endpoints) (processes : List NameId) → processes ≡ map (λ (p : Process). p.name) e.processes → book_with e processes ≡ book_of e
same_book e processes is = ap (λ (ps : List NameId). book_with e ps) is

-- a transcript that begins with the lines of these events
record Longer (functions : List Function) (e : Endpoints) (cap : Option ℕ) (steps : ℕ) (w : Words) (h : List Event) : Type 0 where
  pub text : List ℕ
  pub rest : List ℕ
  pub stuck : Bool
  pub transcript : IsTranscriptBy functions e cap steps text stuck
  pub cut : text ≡ lines_from w 1 h ++ rest

module _ (functions : List Function) (e : Endpoints) (cap : Option ℕ) (steps : ℕ) (w : Words) (is : w ≡ book_of e) where
  -- the lines of a run and its last line are its transcript
  pub told : (workers : ℕ) (answer : Finished) (before mid after : SinkState) (entries : List Entry) (close : Close) (count : ℕ) → count ≡ length entries
      → IsRunBy workers steps cap e (hosts_in e.names functions) entries close → Wrote before.written mid.written (entry_lines w 1 entries) → before.faults ≤ mid.faults
      → Finishes answer mid after (closing_text w count close ++ 10 ∷ []) → WritesTranscript functions e cap steps (is_stuck close) answer before after
  told workers answer before mid after entries close count many run wrote rises last =
      let history = events_of entries in
      let whole = transcript w history (closing_text w count close) in
      record {
        text = whole;
        transcript = record {
          history = history;
          close = close;
          last = run.last;
          run = run.run;
          closes = subst (λ (n : ℕ). Closes e cap steps run.last n close) (sym (as_many entries)) run.closes;
          text_is = ap (λ (v : Words). transcript v history (closing_text v count close)) is
              ∙ ap (λ (n : ℕ). transcript (book_of e) history (closing_text (book_of e) n close)) (many ∙ sym (as_many entries));
          stuck_is = refl;
        };
        finishes = part_written before mid whole (entry_lines w 1 entries) (closing_text w count close ++ 10 ∷ []) (append_assoc (entry_lines w 1 entries) (closing_text w count close) (10 ∷ [])) answer after wrote rises last;
      }

  module _ (runnable : AreRunnable functions e) (closing : RunsCanBeClosed) where
    -- a run goes on until it is closed, and its transcript then begins with the lines that it has now
    longer : (h : List Event) (last : NetworkState) → IsNetworkRun e (hosts_in e.names functions) cap h last → length h ≤ steps → Longer functions e cap steps w h
    longer h last run few =
        let r = closing functions e runnable cap h last run steps few in
        let close = closing_text (book_of e) (length (h ++ r.more)) r.close in
        let line = close ++ 10 ∷ [] in
        let rest = lines_from (book_of e) (1 + length h) r.more ++ line in
        record {
          text = transcript (book_of e) (h ++ r.more) close;
          rest = rest;
          stuck = is_stuck r.close;
          transcript = record { history = h ++ r.more; close = r.close; last = r.last; run = r.run; closes = r.closes; text_is = refl; stuck_is = refl };
          cut = append_assoc (lines_from (book_of e) 1 (h ++ r.more)) close (10 ∷ [])
              ∙ (ap (λ (l : List ℕ). l ++ line) (lines_then (book_of e) 1 h r.more)
              ∙ (append_assoc (lines_from (book_of e) 1 h) (lines_from (book_of e) (1 + length h) r.more) line
              ∙ ap (λ (v : Words). lines_from v 1 h ++ rest) (sym is)));
        }

    prefix : (before after : SinkState) (p : WrotePrefixOfRun w (hosts_in e.names functions) cap steps e before after) → Longer functions e cap steps w (events_of p.history)
    prefix before after p = longer (events_of p.history) p.last p.run (let n = as_many p.history in let few = p.within in omega (arith, n, few))

    -- where writing failed, or memory ran out, a prefix of a transcript was written
    pub failed : (before after : SinkState) → Risen before.faults after.faults → WrotePrefixOfRun w (hosts_in e.names functions) cap steps e before after → IsExecutedTo functions e cap steps before after Failed
    failed before after risen p =
        let l = prefix before after p in
        (l.stuck, record { text = l.text; transcript = l.transcript; finishes = part_failed before after l.text (entry_lines w 1 p.history) l.rest l.cut (risen, p.lines) })

    -- nothing is a prefix too
    pub before_all : (o : SinkState) → IsExecutedTo functions e cap steps o o Memory
    before_all o =
        let l = longer [] (first_state e) refl (omega arith) in
        (l.stuck, record { text = l.text; transcript = l.transcript; finishes = nothing o.written l.text })

    pub no_memory : (before after : SinkState) → WrotePrefixOfRun w (hosts_in e.names functions) cap steps e before after → IsExecutedTo functions e cap steps before after Memory
    no_memory before after p =
        let l = prefix before after p in
        (l.stuck, record { text = l.text; transcript = l.transcript; finishes = part_memory before after l.text (entry_lines w 1 p.history) l.rest l.cut p.lines })
