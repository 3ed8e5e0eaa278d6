-- The transcript of a causal past is replayed.
use Rattle.std.proofs.Common.{◌≡◌, ◌<◌, ◌≤◌, ◌^◌, ℕ, List, [], ◌∷◌, length, Option, refl, sym, ap, ◌∙◌, subst, arith}
use Rattle.std.specs.List.{AllByRecursion}
use Rattle.std.specs.Prelude.{◌↔◌, IsTrue}
use Rattle.chor_base.specs.declared.event.Event.{Event}
use Rattle.chor_base.specs.Meaning.{Hosts}
use Rattle.chor_tree.specs.declared.file.File.{File}
use Rattle.chor_semantics.specs.Runs.{IsEndedRun}
use Rattle.endpoint_code.specs.Network.{NetworkState}
use Rattle.endpoint_code.specs.NetworkRuns.{IsNetworkRun, all_ended}
use Rattle.event_files.specs.Files.{at_limit}
use Rattle.event_files.specs.Networks as network
use Rattle.event_files.proofs.EventLines.{few_events}
use Rattle.event_files.proofs.NetworkRuns.{ended_there}
use Rattle.event_orders.specs.Orders.{permuted}
use Rattle.event_reader.specs.Fields.{IsFree}
use Rattle.event_reader.specs.Known.{AreWords, HasEvent}
use Rattle.event_reader.proofs.Frees.{decimal_free}
use Rattle.program_runs.specs.Books.{book_of}
use Rattle.transcript.specs.Text.{transcript}
use Rattle.transcript_lines.specs.declared.last.Last.TheVariants.{Limit}
use Rattle.transcript_lines.specs.Lines.{lines_of}
use Rattle.transcript_lines.specs.Last.{last_text}
use Rattle.transcript_lines.proofs.FeedFree.{transcript_splits}
use Rattle.accepted_replays.specs.Events.{HasSourceEvents}
use Rattle.accepted_replays.specs.Laws.{RunsEndTogether}
use Rattle.accepted_orders.specs.Networks.{AreNetworksOfFiles}
use Rattle.accepted_orders.specs.Rearrangements.{IsCheckedRun, IsRunOfPast}
use Rattle.accepted_orders.specs.Leads.{IsReplayedOn}
use Rattle.accepted_orders.proofs.Networks.{IsRunOfNetwork, network_of}
use Rattle.accepted_orders.proofs.Pasts.{permuted_length, permuted_each, begins_there, begins_few}

limit_free : (n : ℕ) → n < 2 ^ 64 → IsFree 10 (last_text (Limit n))
limit_free n small = (refl, (refl, (refl, (refl, (refl, (refl, decimal_free 10 n refl small))))))

module _ (laws : AreNetworksOfFiles) (together : RunsEndTogether) (f : File) (hosts : Hosts) (cap : Option ℕ) (bytes : List ℕ) (h : List Event) (spelled : AreWords f.names) (few : length bytes ≤ 2 ^ 26) (has : HasSourceEvents f hosts cap bytes h) (r : IsCheckedRun f hosts cap h) where
  known : AllByRecursion (HasEvent (book_of f)) h
  known = subst (AllByRecursion (HasEvent (book_of f))) has.events_are has.replayed.known

  small : length h ≤ 2 ^ 26
  small =
      let all = few_events (book_of f) has.replayed.history bytes has.replayed.closing has.replayed.lines_are in
      let same : length has.replayed.history ≡ length h = ap length has.events_are in
      omega (arith, all, same, few)

  pub past_replayed : (past : List ℕ) → IsRunOfPast f hosts cap h past → (text : List ℕ) → text ≡ transcript (book_of f) (permuted h past) (last_text (Limit (length past))) → IsReplayedOn f hosts cap text
  past_replayed past it text is = (
    record { count = length g; ended = all_ended n.e state.0.machines },
    record {
      history = g;
      known = has_each;
      run = it.run;
      closing = last_text (Limit (length past)) ∷ [];
      lines_are = ap lines_of is ∙ transcript_splits (book_of f) g (last_text (Limit (length past))) spelled has_each (omega (arith, counted, fewer, small)) (limit_free (length past) (omega (arith, fewer, small)));
      closed = at_limit (ap (λ (k : ℕ). last_text (Limit k)) (sym counted));
      count = refl;
      ended = (λ t. over.0 (ended.0 t), λ e. ended.1 (over.1 e));
    },
  )
    where
      n : IsRunOfNetwork f hosts cap h
      n = network_of laws f hosts cap h r

      g : List Event
      g = permuted h past

      state : (last : NetworkState) × IsNetworkRun n.e hosts cap g last
      state = n.back g it.run

      has_each : AllByRecursion (HasEvent (book_of f)) g
      has_each = permuted_each (HasEvent (book_of f)) h past known (begins_there h cap past it.begins)

      counted : length g ≡ length past
      counted = permuted_length h past (begins_there h cap past it.begins)

      fewer : length past ≤ length h
      fewer = begins_few h cap past it.begins

      ended : IsTrue (all_ended n.e state.0.machines) ↔ network.IsEndedRun n.e hosts cap g
      ended = ended_there n.e hosts cap g state.0 (all_ended n.e state.0.machines) state.1 refl

      over : network.IsEndedRun n.e hosts cap g ↔ IsEndedRun f hosts cap g
      over = together f r.source.functions r.source.checked n.e n.above hosts cap g
