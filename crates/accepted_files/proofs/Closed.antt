-- How runs of a network close, and where they lead.
use Rattle.std.proofs.Common.{◌≡◌, ◌+◌, ℕ, suc, List, [], ◌∷◌, ◌++◌, length, refl, sym, ap, ◌∙◌, subst, Option, Some, None, Bool, true, if◌then◌else◌, arith}
use Rattle.chor_base.specs.declared.event.Event.{Event}
use Rattle.chor_base.specs.Meaning.{Hosts}
use Rattle.endpoint_code.specs.declared.endpoints.Endpoints.{Endpoints}
use Rattle.endpoint_code.specs.Network.{Machine, NetworkState}
use Rattle.endpoint_code.specs.NetworkRuns.{NetworkLeads, has_ended, all_ended, waits_for}
use Rattle.endpoint_code.specs.Scheduled.{Close, Closes, Ended, Limit, Stuck, ended, IsScheduled, closed, goes, first_waiting_from}
use Rattle.endpoint_code.proofs.OneNext.{next_one}
use Rattle.well_formed.proofs.References.{and_first, and_second}

-- the last state of a scheduled run closes it
pub closes_last : (e : Endpoints) (hosts : Hosts) (cap : Option ℕ) (seed steps : ℕ) (h : List Event) (n last : NetworkState) (events : ℕ) (close : Close)
    → IsScheduled e hosts cap seed steps n events h last close → Closes e cap steps last (events + length h) close
closes_last e hosts cap seed steps [] n last events close (closed c) = let same : events ≡ events + 0 = omega arith in subst (λ k. Closes e cap steps last k close) same c
closes_last e hosts cap seed steps (x ∷ xs) n last events close (goes {m = m} a b picks chooses rest) =
    let same : suc events + length xs ≡ events + suc (length xs) = omega arith in
    subst (λ k. Closes e cap steps last k close) same (closes_last e hosts cap seed steps xs m last (suc events) close rest)

-- a run that is closed as ended has ended
pub ended_over : (e : Endpoints) (cap : Option ℕ) (steps events : ℕ) (last : NetworkState) (close : Close) → Closes e cap steps last events close → close ≡ Ended → all_ended e last.machines ≡ true
ended_over e cap steps events last Ended (ended over) is = over
ended_over e cap steps events last Limit c is = absurd cc
ended_over e cap steps events last (Stuck p why) c is = absurd cc

-- where all have ended, nobody waits
pub nobody_waits : (e : Endpoints) (cap : Option ℕ) (n : NetworkState) (i : ℕ) (ms : List Machine) → all_ended e ms ≡ true → first_waiting_from e cap n i ms ≡ None
nobody_waits e cap n i [] h = refl
nobody_waits e cap n i (m ∷ ms) h =
    let over : has_ended e m ≡ true = and_first (has_ended e m) (all_ended e ms) h in
    ap (λ (b : Bool). if b then first_waiting_from e cap n (suc i) ms else Some (i, waits_for e cap n m)) over ∙ nobody_waits e cap n (suc i) ms (and_second (has_ended e m) (all_ended e ms) h)

-- events that follow others
pub leads_on : (e : Endpoints) (hosts : Hosts) (capacity : Option ℕ) (xs ys : List Event) (n m k : NetworkState) → NetworkLeads e hosts capacity n xs m → NetworkLeads e hosts capacity m ys k → NetworkLeads e hosts capacity n (xs ++ ys) k
leads_on e hosts capacity [] ys n m k same after = subst (λ (z : NetworkState). NetworkLeads e hosts capacity z ys k) (sym same) after
leads_on e hosts capacity (x ∷ xs) ys n m k (mid, step, rest) after = (mid, step, leads_on e hosts capacity xs ys mid m k rest after)

-- events lead from a state to one state at most
pub leads_one : (e : Endpoints) (hosts : Hosts) (capacity : Option ℕ) (xs : List Event) (n m k : NetworkState) → NetworkLeads e hosts capacity n xs m → NetworkLeads e hosts capacity n xs k → m ≡ k
leads_one e hosts capacity [] n m k same other = sym same ∙ other
leads_one e hosts capacity (x ∷ xs) n m k (mid, step, rest) (mid', step', rest') =
    let one : mid ≡ mid' = next_one e hosts capacity n mid mid' x step step' in
    leads_one e hosts capacity xs mid m k rest (subst (λ (z : NetworkState). NetworkLeads e hosts capacity z xs k) (sym one) rest')
