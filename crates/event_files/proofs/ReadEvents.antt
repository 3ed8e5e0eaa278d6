-- Events that are read, and then replayed.
use Rattle.std.proofs.Common.{◌≡◌, ◌≤◌, ◌<◌, ◌+◌, ◌*◌, ◌^◌, ℕ, zero, suc, List, [], ◌∷◌, ◌++◌, length, take, Err, refl, sym, ap, ◌∙◌, subst, Option, arith, append_assoc}
use native.Mathlib.Nat.{mul-le-mul}
use Rattle.std.specs.List.{AllByRecursion}
use Rattle.chor_base.specs.declared.event.Event.{Event}
use Rattle.chor_base.specs.Meaning.{Hosts}
use Rattle.chor_lexer.proofs.Each.{each_front, each_back}
use Rattle.endpoint_code.specs.declared.endpoints.Endpoints.{Endpoints}
use Rattle.net_core.specs.Steps.{AreFew, most_served}
use Rattle.transcript.specs.Text.{Words, event_text}
use Rattle.event_reader.specs.Known.{IsBook, HasEvent}
use Rattle.replay.specs.Replays.{IsRun, Replays}
use Rattle.replay.specs.Replays as events
use Rattle.replay.specs.declared.answer.Replayed.{Replayed}
use Rattle.replay.specs.declared.answer.ReplayFault.{ReplayFault}
use Rattle.replay.specs.declared.answer.ReplayFault.TheVariants.{Unmatched, Memory}
use Rattle.transcript_lines.specs.Lines.{lines_of}
use Rattle.transcript_lines.specs.Split.{event_lines}
use Rattle.event_files.specs.Events.{TellsNetworkEvents}
use Rattle.event_files.specs.Files.{IsUnmatched}
use Rattle.event_files.specs.Fronts.{IsRead, IsFront, Judges}
use Rattle.event_files.specs.Networks.{IsEndedRun}
use Rattle.event_files.proofs.EventLines.{few_events, lines_append}
use Rattle.event_files.proofs.ReadLines.{one_read}
use Rattle.event_files.proofs.Replaying.{no_match, judged_so}

-- the events before number n, the event of this number, and the others
record IsCut (xs : List Event) (n : ℕ) : Type 0 where
  event : Event
  rest : List Event
  parts : xs ≡ take n xs ++ event ∷ rest
  more : take (suc n) xs ≡ take n xs ++ event ∷ []
  count : length (take n xs) ≡ n

cut_at : (xs : List Event) (n : ℕ) → n < length xs → IsCut xs n
cut_at [] n lt = absurd (omega arith)
cut_at (x ∷ xs) zero lt = record { event = x; rest = xs; parts = refl; more = refl; count = refl }
cut_at (x ∷ xs) (suc n) lt =
    let c = cut_at xs n (omega (arith, lt)) in
    record { event = c.event; rest = c.rest; parts = ap (λ l. x ∷ l) c.parts; more = ap (λ l. x ∷ l) c.more; count = ap suc c.count }

module _ (w : Words) (e : Endpoints) (hosts : Hosts) (cap : Option ℕ) (bytes left : List ℕ) (xs : List Event) (front : IsFront w bytes xs left) where
  pub few_read : length xs ≤ length bytes
  few_read = let all = few_events w xs bytes (lines_of left) front.read.lines in omega (arith, all)

  -- numbers of processes stay small with fewer events
  pub numbers_read : AreFew e (length bytes) → AreFew e (length xs)
  numbers_read few =
      let most : ℕ = most_served e.channels in
      let self : most ≤ most = omega arith in
      let product : length xs * most ≤ length bytes * most = mul-le-mul few_read self in
      omega (arith, few, product)

  -- an event that was read can't happen
  pub unmatched_read : IsBook w → length bytes ≤ 2 ^ 26 → (i : ℕ) → events.IsUnmatched e hosts cap xs i → IsUnmatched w (IsRun e hosts cap) (IsEndedRun e hosts cap) (lines_of bytes) i
  unmatched_read book few i u =
      let n = u.before in
      let c = cut_at xs n u.within in
      let all : length xs ≤ length bytes = few_read in
      let known = subst (AllByRecursion (HasEvent w)) c.parts front.read.known in
      let small : length (take n xs) + 1 < 2 ^ 64 = omega (arith, c.count, u.within, all, few) in
      record {
        history = take n xs;
        known = each_front (HasEvent w) (take n xs) (c.event ∷ c.rest) known;
        run = u.run;
        line = event_text w (length (take n xs) + 1) c.event;
        rest = event_lines w (suc (length (take n xs) + 1)) c.rest ++ lines_of left;
        lines_are =
            front.read.lines
            ∙ ap (λ (l : List Event). event_lines w 1 l ++ lines_of left) c.parts
            ∙ ap (λ (ls : List (List ℕ)). ls ++ lines_of left) (lines_append w 1 (take n xs) (c.event ∷ c.rest))
            ∙ append_assoc (event_lines w 1 (take n xs)) (event_lines w (length (take n xs) + 1) (c.event ∷ c.rest)) (lines_of left);
        number = u.number ∙ (let same = c.count in omega (arith, same));
        none = no_match w e hosts cap book (take n xs) c.event (each_back (HasEvent w) (take n xs) (c.event ∷ c.rest) known).0 small (λ run. u.none (subst (IsRun e hosts cap) (sym c.more) run));
      }

  -- what is judged of the lines that are left is answered for the file
  pub unclosed_read : (r : Replayed) (fault : ReplayFault) → events.IsReplayed e hosts cap xs r → Judges r (lines_of left) (Err fault) → TellsNetworkEvents w e hosts cap bytes (Err fault)
  unclosed_read r (Unmatched i) a j = judged_so w e hosts cap bytes left r (Err (Unmatched i)) (record { history = xs; front = front; replayed = a }) j
  unclosed_read r Memory a j = tt

  -- so is a fault of the events that were read
  pub fault_read : IsBook w → length bytes ≤ 2 ^ 26 → (fault : ReplayFault) → Replays e hosts cap xs (Err fault) → TellsNetworkEvents w e hosts cap bytes (Err fault)
  fault_read book few (Unmatched i) u = unmatched_read book few i u
  fault_read book few Memory u = tt

  -- there are few enough
  pub few_enough : length bytes ≤ 2 ^ 26 → length xs < 2 ^ 28
  few_enough few = omega (arith, few_read, few)

-- one line more is that of an event
pub event_read : (w : Words) (bytes rest after line : List ℕ) (events new : List Event) (count : ℕ) (x : Event) → IsRead w bytes events rest → lines_of rest ≡ line ∷ lines_of after → HasEvent w x → line ≡ event_text w (count + 1) x → count ≡ length events → new ≡ events ++ x ∷ [] → IsRead w bytes new after
event_read w bytes rest after line events new count x read first has text counted is =
    subst (λ (l : List Event). IsRead w bytes l after) (sym is) (one_read w bytes rest after line events x read first has (text ∙ ap (λ (n : ℕ). event_text w (n + 1) x) counted))
