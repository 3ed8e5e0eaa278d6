-- Events that an office can't be told are no run.
use Rattle.std.proofs.Common.{◌≡◌, ℕ, ◌+◌, ◌<◌, Bool, List, [], ◌∷◌, ◌++◌, length, refl, sym, ap, ◌∙◌, subst, Option, Some, None, take, drop, if◌then◌else◌}
use Rattle.std.specs.Prelude.{slice_get, slice_index_or}
use Rattle.std.proofs.lemmas.List.{take-append-drop, drop_more}
use Rattle.chor_base.specs.declared.names.NameId.{NameId}
use Rattle.chor_base.specs.declared.value.Load.{Load}
use Rattle.chor_base.specs.declared.event.Event.{Event}
use Rattle.chor_base.specs.declared.event.Event.TheVariants as event
use Rattle.chor_base.specs.Meaning.{Hosts}
use Rattle.chor_base.specs.Events.{Triple}
use Rattle.endpoint_code.specs.declared.endpoints.Endpoints.{Endpoints}
use Rattle.endpoint_code.specs.Network.{NetworkState, loads_for, queue_of, NetworkSteps, first_state}
use Rattle.endpoint_code.specs.NetworkRuns.{NetworkLeads}
use Rattle.endpoint_code.proofs.Fifo.{step_keeps}
use Rattle.endpoint_code.proofs.Queues.{triple_same}
use Rattle.net_core.specs.Views.{NetworkView}
use Rattle.net_core.specs.Follows.{IsStep}
use Rattle.post_office.specs.Views.{OfficeView, loads_at, IsAfter, CanMake, events_of}
use Rattle.post_office.specs.Kept.{IsKept}
use Rattle.post_office.proofs.Callers.{one_state}
use Rattle.office_runs.specs.Told.{AreAlike, IsNoStep, IsNoRun}

-- ---- what isn't told is no step

-- where the network can't follow
pub no_follow : (table : Hosts) (v : NetworkView) (w : OfficeView) (x : Event) → AreAlike table v w → (IsStep v.endpoints table v.capacity v.state x → ⊥) → IsNoStep w x
no_follow table v w x alike none n m after step =
    let same : n ≡ v.state = one_state w n v.state after alike.after in
    let from_state : NetworkSteps w.endpoints w.hosts w.capacity v.state x m = subst (λ (k : NetworkState). NetworkSteps w.endpoints w.hosts w.capacity k x m) same step in
    let of_hosts : NetworkSteps w.endpoints table w.capacity v.state x m = subst (λ (h : Hosts). NetworkSteps w.endpoints h w.capacity v.state x m) alike.hosts from_state in
    let of_capacity : NetworkSteps w.endpoints table v.capacity v.state x m = subst (λ (c : Option ℕ). NetworkSteps w.endpoints table c v.state x m) alike.capacity of_hosts in
    none (m, subst (λ (e : Endpoints). NetworkSteps e table v.capacity v.state x m) alike.endpoints of_capacity)

-- ---- what is received is the first

first_of : (ls ks : List Load) (l : Load) → l ∷ ks ≡ ls ++ [] → slice_get ls 0 ≡ Some l
first_of [] ks l h = absurd cc
first_of (k ∷ ls) ks l h = (let is : l ≡ k = cc in ap (λ (y : Load). Some y) (sym is))

pub first_is : (w : OfficeView) (p s : ℕ) (a b : NameId) (l : Load) → IsKept w → CanMake w (event.Recv p s a b l) → slice_get (loads_at w.queues (s, a, b)) 0 ≡ Some l
first_is w p s a b l kept can =
    let step = can kept.state kept.after in
    let t : Triple = (s, a, b) in
    let keeps = step_keeps w.endpoints w.hosts None kept.state (event.Recv p s a b l) step.0 t step.1 in
    let taken : l ∷ queue_of step.0 t ≡ queue_of kept.state t ++ [] = ap (λ (o : Bool). (if o then l ∷ [] else []) ++ queue_of step.0 t) (sym (triple_same t)) ∙ keeps in
    ap (λ (qs : List (Triple × List Load)). slice_get (loads_for qs t) 0) kept.queues ∙ first_of (queue_of kept.state t) (queue_of step.0 t) l taken

-- ---- so the events are no run

leads_split : (e : Endpoints) (hosts : Hosts) (cap : Option ℕ) (ys : List Event) (x : Event) (zs : List Event) (n m : NetworkState) → NetworkLeads e hosts cap n (ys ++ x ∷ zs) m → (k : NetworkState) × NetworkLeads e hosts cap n ys k × ((j : NetworkState) × NetworkSteps e hosts cap k x j)
leads_split e hosts cap [] x zs n m h = (n, refl, (h.0, h.1))
leads_split e hosts cap (y ∷ ys) x zs n m h = (let r = leads_split e hosts cap ys x zs h.0 m h.2 in (r.0, (h.0, h.1, r.1), r.2))

pub no_run : (w : OfficeView) (e : Endpoints) (hosts : Hosts) (cap : Option ℕ) (xs : List Event) (i : ℕ) (x : Event) → w.endpoints ≡ e → w.hosts ≡ hosts → w.capacity ≡ cap → events_of w.history ≡ take i xs → i < length xs → x ≡ slice_index_or xs i x → IsNoStep w x → IsNoRun e hosts cap xs
no_run w e hosts cap xs i x of_endpoints of_hosts of_capacity events lt at none n run =
    let whole : xs ≡ take i xs ++ x ∷ drop (i + 1) xs = sym (take-append-drop i xs) ∙ ap (λ (l : List Event). take i xs ++ l) (drop_more xs i x lt ∙ ap (λ (y : Event). y ∷ drop (i + 1) xs) (sym at)) in
    let split = leads_split e hosts cap (take i xs) x (drop (i + 1) xs) (first_state e) n (subst (λ (l : List Event). NetworkLeads e hosts cap (first_state e) l n) whole run) in
    let k = split.0 in
    let j = split.2.0 in
    let by_events : NetworkLeads e hosts cap (first_state e) (events_of w.history) k = subst (λ (l : List Event). NetworkLeads e hosts cap (first_state e) l k) (sym events) split.1 in
    let by_endpoints : NetworkLeads w.endpoints hosts cap (first_state w.endpoints) (events_of w.history) k = subst (λ (f : Endpoints). NetworkLeads f hosts cap (first_state f) (events_of w.history) k) (sym of_endpoints) by_events in
    let by_hosts : NetworkLeads w.endpoints w.hosts cap (first_state w.endpoints) (events_of w.history) k = subst (λ (h : Hosts). NetworkLeads w.endpoints h cap (first_state w.endpoints) (events_of w.history) k) (sym of_hosts) by_endpoints in
    let after : IsAfter w k = subst (λ (c : Option ℕ). NetworkLeads w.endpoints w.hosts c (first_state w.endpoints) (events_of w.history) k) (sym of_capacity) by_hosts in
    let step_e : NetworkSteps w.endpoints hosts cap k x j = subst (λ (f : Endpoints). NetworkSteps f hosts cap k x j) (sym of_endpoints) split.2.1 in
    let step_h : NetworkSteps w.endpoints w.hosts cap k x j = subst (λ (h : Hosts). NetworkSteps w.endpoints h cap k x j) (sym of_hosts) step_e in
    none k j after (subst (λ (c : Option ℕ). NetworkSteps w.endpoints w.hosts c k x j) (sym of_capacity) step_h)
