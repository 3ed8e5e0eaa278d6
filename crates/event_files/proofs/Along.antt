-- A replay by one meaning of runs is one by another that is the same.
use Rattle.std.proofs.Common.{ℕ, List, [], ◌∷◌, ◌++◌, Result, Ok, Err}
use Rattle.std.specs.Prelude.{◌↔◌}
use Rattle.chor_base.specs.declared.event.Event.{Event}
use Rattle.transcript.specs.Text.{Words}
use Rattle.replay.specs.declared.answer.Replayed.{Replayed}
use Rattle.replay.specs.declared.answer.ReplayFault.{ReplayFault}
use Rattle.replay.specs.declared.answer.ReplayFault.TheVariants.{Unmatched, Memory}
use Rattle.event_files.specs.Events.{TellsEvents}
use Rattle.event_files.specs.Files.{Closes, at_end, at_limit, Matches, goes_on, closes, IsClosedBy, ReplaysFile}

closes_too : (E F : List Event → Type 0) → ((h : List Event) → E h → F h) → (h : List Event) (line : List ℕ) → Closes E h line → Closes F h line
closes_too E F f h line (at_end q over) = at_end q (f h over)
closes_too E F f h line (at_limit q) = at_limit q

closed_too : (E F : List Event → Type 0) → ((h : List Event) → E h → F h) → (h : List Event) (ls : List (List ℕ)) → IsClosedBy E h ls → IsClosedBy F h ls
closed_too E F f h [] c = tt
closed_too E F f h (l ∷ []) c = closes_too E F f h l c
closed_too E F f h (l ∷ m ∷ ls) c = c

matches_too : (w : Words) (R S E F : List Event → Type 0) → ((h : List Event) → R h → S h) → ((h : List Event) → E h → F h) → (h : List Event) (line : List ℕ) (rest : List (List ℕ)) → Matches w R E h line rest → Matches w S F h line rest
matches_too w R S E F f g h line rest (goes_on e has q run) = goes_on e has q (f (h ++ e ∷ []) run)
matches_too w R S E F f g h line rest (closes none c) = closes none (closes_too E F g h line c)

pub replays_too : (w : Words) (R S E F : List Event → Type 0) → ((h : List Event) → R h ↔ S h) → ((h : List Event) → E h ↔ F h) → (bytes : List ℕ) (r : Result Replayed ReplayFault) → ReplaysFile w R E bytes r → ReplaysFile w S F bytes r
replays_too w R S E F runs ends bytes (Ok r) a = record {
  history = a.history;
  known = a.known;
  run = (runs a.history).0 a.run;
  closing = a.closing;
  lines_are = a.lines_are;
  closed = closed_too E F (λ h. (ends h).0) a.history a.closing a.closed;
  count = a.count;
  ended = (λ t. (ends a.history).0 (a.ended.0 t), λ over. a.ended.1 ((ends a.history).1 over));
}
replays_too w R S E F runs ends bytes (Err (Unmatched i)) a = record {
  history = a.history;
  known = a.known;
  run = (runs a.history).0 a.run;
  line = a.line;
  rest = a.rest;
  lines_are = a.lines_are;
  number = a.number;
  none = λ m. a.none (matches_too w S R F E (λ h. (runs h).1) (λ h. (ends h).1) a.history a.line a.rest m);
}
replays_too w R S E F runs ends bytes (Err Memory) a = tt

-- and so it is with the events that are told
pub tells_too : (w : Words) (R S E F : List Event → Type 0) → ((h : List Event) → R h ↔ S h) → ((h : List Event) → E h ↔ F h) → (bytes : List ℕ) (r : Result (List Event) ReplayFault) → TellsEvents w R E bytes r → TellsEvents w S F bytes r
unfolding replays_too
tells_too w R S E F runs ends bytes (Ok events) a = record { told = a.told; replayed = replays_too w R S E F runs ends bytes (Ok a.told) a.replayed; events_are = a.events_are }
tells_too w R S E F runs ends bytes (Err (Unmatched i)) a = replays_too w R S E F runs ends bytes (Err (Unmatched i)) a
tells_too w R S E F runs ends bytes (Err Memory) a = tt
