-- What was printed, one part after another.
use Rattle.std.proofs.Common.{◌≡◌, ◌≤◌, ◌+◌, ℕ, List, [], ◌++◌, length, take, drop, sym, refl, ap, ◌∙◌, subst, Option, Some, None, arith, length-append, append-nil, append_assoc}
use Rattle.std.proofs.lemmas.List.{take-append-drop, drop_at}
use mathlib.Core.List.{IsPrefix}
use Rattle.chor_base.specs.declared.event.Entry.{Entry}
use Rattle.chor_base.specs.Meaning.{Hosts}
use Rattle.chor_host.specs.Functions.{Function, hosts_in}
use Rattle.chor_io.specs.Outside.{SinkState, Wrote, WroteFront}
use Rattle.transcript.specs.Text.{Words}
use Rattle.chor_stream.specs.declared.ends.Printer.{Printer}
use Rattle.chor_stream.specs.declared.drain.Drained.{Drained}
use Rattle.chor_stream.specs.declared.drain.Drained.TheVariants.{Dry, Failed as DrainFailed, Memory as DrainMemory}
use Rattle.chor_stream.specs.declared.finish.Finished.{Finished}
use Rattle.chor_stream.specs.declared.finish.Finished.TheVariants.{Written, Failed, Memory}
use Rattle.chor_stream.specs.Ends.{taken_by}
use Rattle.chor_stream.specs.Lines.{entry_lines, lines_after, finished_so, Finishes, Drains}
use Rattle.chor_stream.proofs.Entries.{lines_split}
use Rattle.chor_stream.proofs.Growth.{finishes_then, failed_so, memory_so, part_written}
use Rattle.endpoint_code.specs.declared.endpoints.Endpoints.{Endpoints}
use Rattle.endpoint_code.specs.Network.{NetworkState, first_state}
use Rattle.workers.specs.declared.origin.Origin.{Origin}
use Rattle.workers.specs.declared.streamed.Streamed.{Streamed}
use Rattle.workers.specs.declared.streamed.Streamed.TheVariants as streamed
use Rattle.workers.proofs.Takes.{take_front}
use Rattle.endpoint_runs.specs.Runs.{close_of}
use Rattle.workers.specs.Runs.{IsRunBy}
use Rattle.workers.specs.Turns.{LeadsTo}
use Rattle.workers.specs.Views.{RunView, origin_of, history_of, IsKept}
use Rattle.workers.specs.Printing.{Prints, WritesRest, IsToldOf}
use Rattle.workers.specs.Streams.{WrotePrefixOfRun, IsStreamed}

-- what was pushed is a prefix of the entries
pub prefix_of : (xs list : List Entry) → xs ≡ take (length xs) list → IsPrefix xs list
prefix_of xs list is = (drop (length xs) list, ap (λ (l : List Entry). l ++ drop (length xs) list) is ∙ take-append-drop (length xs) list)

-- and stays one where entries come after them
pub prefix_grown : (xs old new more : List Entry) → xs ≡ take (length xs) old → new ≡ old ++ more → IsPrefix xs new
prefix_grown xs old new more is grown =
    let p = prefix_of xs old is in
    (p.0 ++ more, sym (append_assoc xs p.0 more) ∙ (ap (λ (l : List Entry). l ++ more) p.1 ∙ sym grown))

pub front_taken : (xs list : List Entry) → IsPrefix xs list → xs ≡ take (length xs) list
front_taken xs list p = sym (ap (take (length xs)) (sym p.1) ∙ take_front xs p.0 (length xs) refl)

-- a printer that has printed parts drains one more
pub prints_on : (w : Words) (first now next : Printer) (a b c : SinkState) (answer : Drained) → Prints w first now a b Dry → a.faults ≤ b.faults → Drains w now next b c answer → Prints w first next a c answer
prints_on w first now next a b c answer p le d =
    let count : length (taken_by first) + length p.more ≡ length (taken_by now) = sym (ap length p.is ∙ length-append (taken_by first) p.more) in
    record {
      more = p.more ++ d.more;
      is = d.is ∙ (ap (λ (l : List Entry). l ++ d.more) p.is ∙ append_assoc (taken_by first) p.more d.more);
      lines = part_written a b _ _ _ (lines_split w (length (taken_by first)) (length (taken_by now)) (p.more ++ d.more) p.more d.more refl count) (finished_so answer) c p.lines le d.lines;
    }

rest_then : (drained : Drained) (answer : Finished) (a b c : SinkState) (t u : List ℕ) → Finishes (finished_so drained) a b t → a.faults ≤ b.faults → WritesRest drained answer b c u → Finishes answer a c (t ++ u)
rest_then Dry answer a b c t u p le q = finishes_then answer a b c t u p le q
rest_then DrainFailed answer a b c t u p le q = subst (λ (x : Finished). Finishes x a c (t ++ u)) (sym q.0) (subst (λ (x : SinkState). Finishes Failed a x (t ++ u)) (sym q.1) (failed_so a b t u p))
rest_then DrainMemory answer a b c t u p le q = subst (λ (x : Finished). Finishes x a c (t ++ u)) (sym q.0) (subst (λ (x : SinkState). Finishes Memory a x (t ++ u)) (sym q.1) (memory_so a b t u p))

-- what a printer that had taken nothing has printed, and then the rest, are the lines of all entries
pub whole_printed : (w : Words) (first now : Printer) (entries : List Entry) (a b c : SinkState) (drained : Drained) (answer : Finished) → taken_by first ≡ [] → Prints w first now a b drained → a.faults ≤ b.faults
    → IsPrefix (taken_by now) entries → WritesRest drained answer b c (lines_after w (taken_by now) entries) → Finishes answer a c (entry_lines w 1 entries)
whole_printed w first now entries a b c drained answer none p le front rest =
    let taken : taken_by now ≡ p.more = p.is ∙ ap (λ (l : List Entry). l ++ p.more) none in
    let back : drop (length (taken_by now)) entries ≡ front.0 = ap (drop (length (taken_by now))) (sym front.1) ∙ drop_at (taken_by now) front.0 _ refl in
    let cut : taken_by now ++ drop (length (taken_by now)) entries ≡ entries = ap (λ (l : List Entry). taken_by now ++ l) back ∙ front.1 in
    let lines : Finishes (finished_so drained) a b (entry_lines w 1 (taken_by now)) =
    subst (λ (l : List Entry). Finishes (finished_so drained) a b (entry_lines w 1 l)) (sym taken)
    (subst (λ (l : List Entry). Finishes (finished_so drained) a b (entry_lines w (length l + 1) p.more)) none p.lines) in
    subst (λ (text : List ℕ). Finishes answer a c text) (sym (lines_split w 0 (length (taken_by now)) entries (taken_by now) _ cut (omega arith)))
    (rest_then drained answer a b c _ _ lines le rest)

-- ---- what is told

wrote_whole : (a b : Option (List ℕ)) (text : List ℕ) → Wrote a b text → WroteFront a b text
wrote_whole None b text p = tt
wrote_whole (Some old) b text p = subst (λ (x : Option (List ℕ)). WroteFront (Some old) x text) (sym p) (text, [], sym (append-nil text), refl)

wrote_nothing : (a : Option (List ℕ)) (text : List ℕ) → WroteFront a a text
wrote_nothing None text = tt
wrote_nothing (Some old) text = ([], text, refl, sym (append-nil old))

-- where nothing was written, that is a prefix of the lines of a run
pub nothing_written : (w : Words) (hosts : Hosts) (capacity : Option ℕ) (steps : ℕ) (e : Endpoints) (a : SinkState) → WrotePrefixOfRun w hosts capacity steps e a a
nothing_written w hosts capacity steps e a = record { history = []; last = first_state e; run = refl; within = omega arith; lines = wrote_nothing a.written _ }

module _ (w : Words) (functions : List Function) (capacity : Option ℕ) (workers steps : ℕ) (e : Endpoints) (a b : SinkState) (v : RunView) (kept : IsKept v) (n : NetworkState) (leads : LeadsTo (origin_of v) (history_of v) n)
    (same : origin_of v ≡ record { endpoints = e; hosts = hosts_in e.names functions; capacity = capacity; workers = workers; steps = steps }) where
  prefix_written : WroteFront a.written b.written (entry_lines w 1 (history_of v)) → WrotePrefixOfRun w (hosts_in e.names functions) capacity steps e a b
  prefix_written p = subst (λ (o : Origin). WrotePrefixOfRun w o.hosts o.capacity o.steps o.endpoints a b) same
      (record { history = history_of v; last = n; run = leads; within = kept.within; lines = p })

  pub streamed_so : (finished : Finished) (told : Streamed) → Finishes finished a b (entry_lines w 1 (history_of v)) → IsToldOf v finished told → IsStreamed w functions capacity workers steps e a b told
  streamed_so Written (streamed.Done told) p is = (
    subst (λ (o : Origin). IsRunBy o.workers o.steps o.capacity o.endpoints o.hosts told.history (close_of told.close)) same is.0,
    subst (λ (h : List Entry). Wrote a.written b.written (entry_lines w 1 h)) (sym is.1) p,
  )
  streamed_so Written streamed.Failed p is = absurd is
  streamed_so Written streamed.Memory p is = prefix_written (wrote_whole a.written b.written _ p)
  streamed_so Failed (streamed.Done told) p is = absurd is
  streamed_so Failed streamed.Failed p is = (p.0, prefix_written p.1)
  streamed_so Failed streamed.Memory p is = absurd is
  streamed_so Memory (streamed.Done told) p is = absurd is
  streamed_so Memory streamed.Failed p is = absurd is
  streamed_so Memory streamed.Memory p is = prefix_written p
