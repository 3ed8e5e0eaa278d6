-- Each event of a run is told.
use Rattle.std.proofs.Common.{◌≡◌, ◌≤◌, ◌+◌, ◌*◌, ℕ, suc, List, [], ◌∷◌, length, Option, refl, sym, ap, subst, arith}
use Rattle.std.proofs.Math.Nat.{suc-mul}
use Rattle.std.specs.Prelude.{All}
use Rattle.std.proofs.lemmas.List.Elements.{All-head, All-tail}
use Rattle.std.specs.List.{AllByRecursion}
use Rattle.chor_base.specs.declared.event.Event.{Event}
use Rattle.chor_base.specs.Meaning.{Hosts}
use Rattle.endpoint_code.specs.declared.endpoints.Process.{Process}
use Rattle.endpoint_code.specs.declared.endpoints.Endpoints.{Endpoints}
use Rattle.endpoint_code.specs.Faults.{IsFaultless}
use Rattle.endpoint_code.specs.Network.{NetworkState, standing_all, first_state, NetworkSteps, acts, begins}
use Rattle.endpoint_code.specs.NetworkRuns.{NetworkLeads, IsNetworkRun}
use Rattle.projected_programs.specs.Sizes.{AreLiteralsSized, AreMeaningsSized}
use Rattle.projected_programs.specs.Told.{words_of, most_served, IsShort, AreNumbersSmall, AreTold}
use Rattle.projected_programs.proofs.Values.{IsFineValue}
use Rattle.projected_programs.proofs.States.{IsSizedAt, empty_holds, IsFinePart, IsFineMachine, IsFine, Told}
use Rattle.projected_programs.proofs.Acts.{act_told}
use Rattle.projected_programs.proofs.Starts.{start_told}

module _ (e : Endpoints) where
  standing_fine : (ps : List Process) → All (λ p. IsSizedAt e p.body) ps → AllByRecursion (IsFineMachine e 0) (standing_all ps)
  standing_fine [] h = tt
  standing_fine (p ∷ ps) h =
      ((empty_holds (IsFineValue (words_of e) 0), empty_holds (IsFinePart (words_of e) 0), All-head (λ q. IsSizedAt e q.body) p ps h), standing_fine ps (All-tail (λ q. IsSizedAt e q.body) p ps h))

  begins_fine : AreLiteralsSized e → IsFine e (first_state e)
  begins_fine sized = record { machines = standing_fine e.processes sized.processes; queues = tt }

  module _ (faultless : IsFaultless e) (hosts : Hosts) (cap : Option ℕ) (sized : AreLiteralsSized e) (meanings : AreMeaningsSized hosts) where
    step_told : (n : NetworkState) (x : Event) (m : NetworkState) → IsFine e n → NetworkSteps e hosts cap n x m → Told e n x m
    step_told n x m f (acts p v a h) = act_told e sized hosts meanings x m cap n p v f a h
    step_told n x m f (begins c ps h) = start_told e sized n f faultless x m c ps h

    record Led (n : NetworkState) (h : List Event) (m : NetworkState) : Type 0 where
      machines : length n.machines ≤ length m.machines
      more : length m.machines ≤ length n.machines + length h * most_served e.channels
      sessions : n.sid ≤ m.sid
      next : m.sid ≤ n.sid + length h
      events : AreNumbersSmall m → AreTold e h

    led : (h : List Event) (n m : NetworkState) → IsFine e n → NetworkLeads e hosts cap n h m → Led n h m
    led [] n m f l = subst (Led n []) l (record { machines = omega arith; more = omega arith; sessions = omega arith; next = omega arith; events = λ small. tt })
    led (x ∷ xs) n m f (mid, s, l) =
        let one = step_told n x mid f s in
        let rest = led xs mid m one.fine l in
        let more : length m.machines ≤ length n.machines + (length xs * most_served e.channels + most_served e.channels) = omega (arith, one.more, rest.more) in
        record {
          machines = omega (arith, one.machines, rest.machines);
          more = subst (λ (k : ℕ). length m.machines ≤ length n.machines + k) (sym (suc-mul (length xs) (most_served e.channels))) more;
          sessions = omega (arith, one.sessions, rest.sessions);
          next = omega (arith, one.next, rest.next);
          events = λ small. (one.event (omega (arith, rest.machines, small.0), omega (arith, rest.sessions, small.1)), rest.events small);
        }

    pub run_told : (h : List Event) (last : NetworkState) → IsNetworkRun e hosts cap h last → AreNumbersSmall last → AreTold e h
    run_told h last run small = (led h (first_state e) last (begins_fine sized) run).events small

    as_many : (ps : List Process) → length (standing_all ps) ≡ length ps
    as_many [] = refl
    as_many (p ∷ ps) = ap (λ k. suc k) (as_many ps)

    -- a run of few events
    pub short_run_told : (h : List Event) (last : NetworkState) → IsNetworkRun e hosts cap h last → IsShort e h → AreTold e h
    short_run_told h last run short =
        let all = led h (first_state e) last (begins_fine sized) run in
        all.events (omega (arith, all.more, as_many e.processes, short.0), omega (arith, all.next, short.1))
