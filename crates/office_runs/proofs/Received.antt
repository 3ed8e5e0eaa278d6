-- A receipt that an office is told.
use Rattle.std.proofs.Common.{◌≡◌, ℕ, false, List, [], ◌∷◌, ◌++◌, sym, ap, ◌∙◌, subst, Option, Some, None, arith}
use Rattle.std.specs.Prelude.{not, slice_get}
use Rattle.chor_base.specs.declared.names.NameId.{NameId}
use Rattle.chor_base.specs.declared.value.Load.{Load}
use Rattle.chor_base.specs.declared.event.Entry.{Entry}
use Rattle.chor_base.specs.declared.event.Event.{Event}
use Rattle.chor_base.specs.declared.event.Event.TheVariants as event
use Rattle.chor_base.specs.Meaning.{Hosts}
use Rattle.chor_base.specs.Events.{Triple, actors_of}
use Rattle.endpoint_code.specs.declared.endpoints.Endpoints.{Endpoints}
use Rattle.endpoint_code.specs.Network.{NetworkState, NetworkSteps, has_room, loads_for}
use Rattle.endpoint_code.specs.NetworkRuns.{IsNetworkRun}
use Rattle.post_office.specs.declared.desk.Desk.{Desk}
use Rattle.post_office.specs.declared.post.Received.TheVariants.{Got, Empty}
use Rattle.post_office.specs.Views.{OfficeView, loads_at, is_full, CanMake, CanReceive, events_of, post_at}
use Rattle.post_office.specs.Kept.{IsKept}
use Rattle.post_office.specs.Answers.{IsSame, HasNoted, HasActed, AnswersReceipt}
use Rattle.office_runs.specs.Told.{AllBusy}
use Rattle.office_runs.proofs.Board.{made_stays}
use Rattle.office_runs.proofs.Refused.{first_is}

abbrev CanFrom : Endpoints → Hosts → Option ℕ → List Entry → Event → Type 0
CanFrom e hosts cap history x = (n : NetworkState) → IsNetworkRun e hosts cap (events_of history) n → (m : NetworkState) × NetworkSteps e hosts None n x m

-- room is nothing for what can be made
same_can : (v w : OfficeView) (x : Event) → IsSame v w → CanMake v x → CanMake w x
same_can v w x same can =
    subst (λ (e : Endpoints). CanFrom e w.hosts w.capacity w.history x) (sym same.endpoints)
    (subst (λ (h : Hosts). CanFrom v.endpoints h w.capacity w.history x) (sym same.hosts)
    (subst (λ (c : Option ℕ). CanFrom v.endpoints v.hosts c w.history x) (sym same.capacity) (subst (λ (h : List Entry). CanFrom v.endpoints v.hosts v.capacity h x) (sym same.history) can)))

-- nor for whether a queue takes one load more
pub still_room : (v w : OfficeView) (t : Triple) → IsSame v w → is_full v t ≡ false → is_full w t ≡ false
still_room v w t same room =
    ap (λ (c : Option ℕ). not (has_room c (loads_at w.queues t))) same.capacity
    ∙ ap (λ (qs : List (Triple × List Load)). not (has_room v.capacity (loads_for qs t))) same.queues
    ∙ room

noted_same : (v w u : OfficeView) (k : ℕ) (x : Event) → IsSame v w → HasNoted w k x u → HasNoted v k x u
noted_same v w u k x same noted = record {
  endpoints = noted.endpoints ∙ same.endpoints;
  hosts = noted.hosts ∙ same.hosts;
  capacity = noted.capacity ∙ same.capacity;
  history = noted.history ∙ ap (λ (h : List Entry). h ++ record { worker = k; event = x } ∷ []) same.history;
  stopped = noted.stopped ∙ same.stopped;
  room = omega (arith, same.room, noted.room);
}

acted_busy : (v w u : OfficeView) (k : ℕ) (x : Event) → IsSame v w → HasActed w k x u → AllBusy v → AllBusy u
acted_busy v w u k x same acted busy p = ap (λ (ds : List Desk). post_at ds p) acted.desks ∙ made_stays (actors_of x) w.desks (λ q. ap (λ (ds : List Desk). post_at ds q) same.desks ∙ busy q) p

module _ (v w : OfficeView) (p s : ℕ) (a b : NameId) (l : Load) (kept : IsKept v) (can : CanMake v (event.Recv p s a b l)) (same : IsSame v w) where
  first : slice_get (loads_at w.queues (s, a, b)) 0 ≡ Some l
  first = ap (λ (qs : List (Triple × List Load)). slice_get (loads_for qs (s, a, b)) 0) same.queues ∙ first_is v p s a b l kept can

  load_same : (k : Load) → slice_get (loads_at w.queues (s, a, b)) 0 ≡ Some k → k ≡ l
  load_same k h = let i : Some k ≡ Some l = sym h ∙ first in cc

  pub can_receive : CanReceive w p (s, a, b)
  can_receive k h = same_can v w (event.Recv p s a b k) same (subst (λ (y : Load). CanMake v (event.Recv p s a b y)) (sym (load_same k h)) can)

  pub not_empty : (u : OfficeView) → AnswersReceipt w 0 p (s, a, b) Empty u → ⊥
  not_empty u h = let i : None ≡ Some l = sym (ap (λ (ls : List Load). slice_get ls 0) h.0) ∙ first in cc

  pub got_noted : (k : Load) (u : OfficeView) → AnswersReceipt w 0 p (s, a, b) (Got k) u → HasNoted v 0 (event.Recv p s a b l) u
  got_noted k u h = noted_same v w u 0 (event.Recv p s a b l) same (subst (λ (y : Load). HasNoted w 0 (event.Recv p s a b y) u) (load_same k h.0) h.2.noted)

  pub got_busy : (k : Load) (u : OfficeView) → AnswersReceipt w 0 p (s, a, b) (Got k) u → AllBusy v → AllBusy u
  got_busy k u h = acted_busy v w u 0 (event.Recv p s a b k) same h.2
