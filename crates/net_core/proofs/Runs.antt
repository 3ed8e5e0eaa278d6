-- Turns and runs by the pick rule.
use Rattle.std.proofs.Common.{◌≡◌, inl, inr, ℕ, zero, suc, ◌+◌, ◌-◌, ◌*◌, ◌%◌, ◌^◌, ◌<◌, ◌≤◌, ◌&&◌, Bool, true, false, cond, List, [], ◌∷◌, ◌++◌, length, refl, sym, ap, ◌∙◌, subst, Option, Some, None, arith, is_some, append_assoc}
use Rattle.std.specs.Prelude.{slice_get, ◌≢◌}
use Rattle.std.proofs.lemmas.Option.{slice_get_within, some_pair_parts, same_Some, none-some}
use Rattle.std.proofs.lemmas.List.{append-nil, length-append, length-map, map-append}
use Rattle.std.proofs.Math.Nat.{suc-mul}
use native.Mathlib.Nat.{mul-le-mul}
use Rattle.std.proofs.lemmas.Bool.{and_parts, true≢false}
use Rattle.chor_base.specs.declared.event.Event.{Event}
use Rattle.chor_base.specs.declared.event.Entry.{Entry}
use Rattle.chor_base.specs.declared.event.Why.{Why}
use Rattle.chor_base.specs.Meaning.{Hosts}
use Rattle.endpoint_code.specs.declared.endpoints.Endpoints.{Endpoints}
use Rattle.endpoint_code.specs.Network.{Machine, NetworkState, first_state}
use Rattle.endpoint_code.specs.NetworkRuns.{has_ended, all_ended, waits_for, can_step, none_can_step}
use Rattle.endpoint_code.specs.Scheduled.{is_listed, listed, listed_from, listed_at, picked, picked_of, first_waiting, first_waiting_from, Chooses, Close, Closes, IsScheduled, closed}
use Rattle.endpoint_code.specs.Scheduled as close
use Rattle.endpoint_code.specs.Network.{place_of}
use Rattle.net_core.specs.declared.answer.Picked.{Picked}
use Rattle.net_core.specs.declared.answer.Picked.TheVariants.{Ended, Limit, Stuck, Memory}
use Rattle.endpoint_machine.specs.declared.head.Head.{Head}
use Rattle.net_core.specs.Heads.{Shows, is_end, steps_at, steps_of, why_at, why_of, ended_at, ended_of}
use Rattle.net_core.specs.Views.{NetworkView}
use Rattle.net_core.specs.Steps.{HasStepped, AreFew, FitsMore, HasGrown, most_served}
use Rattle.net_core.specs.Picks.{Underway, GoesOn, stays, goes, entries_of, HasRun, HasGone, Runs, HasTurned, HasClosed, Turns, IsStuck, ClosesSo}
use Rattle.endpoint_code.proofs.Standing.{none_at}
use Rattle.net_core.proofs.Leaders.{some_there}
use Rattle.net_core.proofs.Scopes.{length-standing_all}
use Rattle.net_core.proofs.Numbers.{grown_by_none, grown_by_more, grown_by_same, grown_by_both}

-- ---- numbers

later_place : (p i j : ℕ) → p ≡ suc i + j → p ≡ i + suc j
later_place p i j h = omega arith

own_place : (i p : ℕ) → i ≡ p → p ≡ i + zero
own_place i p h = omega arith

at_first : (p j : ℕ) → p ≡ 0 + j → j ≡ p
at_first p j h = omega arith

at_end : (j k : ℕ) → j ≡ k + 0 → j ≡ k
at_end j k h = omega arith

at_next : (j k n : ℕ) → j ≡ k + suc n → j ≡ suc k + n
at_next j k n h = omega arith

one_left : (a b s : ℕ) → b ≡ a + 1 → a ≤ s → a ≢ s → s - a ≡ suc (s - b)
one_left a b s longer before other = omega arith

still_before : (a b s : ℕ) → b ≡ a + 1 → a ≤ s → a ≢ s → b ≤ s
still_before a b s longer before other = omega arith

added_below : (a b c n : ℕ) → a + b < n → c ≤ b → a + c < n
added_below a b c n lt le = omega arith

next_below : (a b k n : ℕ) → a + suc k < n → b ≤ a + 1 → b + k < n
next_below a b k n lt le = omega arith

grown_below : (a b k m n : ℕ) → a + suc k * m < n → b ≤ a + m → b + k * m < n
grown_below a b k m n lt le = omega (arith, suc-mul k m)

-- ---- the first process that hasn't ended

pub some_waiting : (e : Endpoints) (cap : Option ℕ) (n : NetworkState) (i : ℕ) (ms : List Machine) → all_ended e ms ≡ false → first_waiting_from e cap n i ms ≡ None → ⊥
some_waiting e cap n i [] a h = cc
some_waiting e cap n i (m ∷ ms) a h = go (has_ended e m) a h (some_waiting e cap n (suc i) ms)
  where
    go : (b : Bool) → (b && all_ended e ms) ≡ false → cond b (first_waiting_from e cap n (suc i) ms) (Some (i, waits_for e cap n m)) ≡ None → (all_ended e ms ≡ false → first_waiting_from e cap n (suc i) ms ≡ None → ⊥) → ⊥
    go true s k more = more s k
    go false s k more = none-some _ (sym k)

-- a machine at a place
record Item (ms : List Machine) (i : ℕ) : Type 0 where
  machine : Machine
  there : slice_get ms i ≡ Some machine

record FirstWaiting (e : Endpoints) (cap : Option ℕ) (n : NetworkState) (i : ℕ) (ms : List Machine) (p : ℕ) (w : Option Why) : Type 0 where
  place : ℕ
  number : p ≡ i + place
  item : Item ms place
  unended : has_ended e item.machine ≡ false
  why : w ≡ waits_for e cap n item.machine

first_found : (e : Endpoints) (cap : Option ℕ) (n : NetworkState) (i : ℕ) (ms : List Machine) (p : ℕ) (w : Option Why) → first_waiting_from e cap n i ms ≡ Some (p, w) → FirstWaiting e cap n i ms p w
first_found e cap n i [] p w h = absurd (none-some _ h)
first_found e cap n i (m ∷ ms) p w h = go (has_ended e m) refl h (first_found e cap n (suc i) ms p w)
  where
    go : (b : Bool) → has_ended e m ≡ b → cond b (first_waiting_from e cap n (suc i) ms) (Some (i, waits_for e cap n m)) ≡ Some (p, w) → (first_waiting_from e cap n (suc i) ms ≡ Some (p, w) → FirstWaiting e cap n (suc i) ms p w) → FirstWaiting e cap n i (m ∷ ms) p w
    go true s k more = let f = more k in
        record { place = suc f.place; number = later_place p i f.place f.number; item = record { machine = f.item.machine; there = f.item.there }; unended = f.unended; why = f.why }
    go false s k more =
        let parts = some_pair_parts i p (waits_for e cap n m) w k in
        record { place = zero; number = own_place i p parts.0; item = record { machine = m; there = refl }; unended = s; why = sym parts.1 }

waits_some : (e : Endpoints) (cap : Option ℕ) (n : NetworkState) (m : Machine) → has_ended e m ≡ false → can_step e cap n m ≡ false → waits_for e cap n m ≡ None → ⊥
waits_some e cap n m u s h = let a : can_step e cap n m ≡ true = ap (λ (b : Bool). cond b false (cond (is_some (waits_for e cap n m)) false true)) u ∙ ap (λ (w : Option Why). cond (is_some w) false true) h in true≢false (sym a ∙ s)

pub first_within : (e : Endpoints) (cap : Option ℕ) (n : NetworkState) (p : ℕ) (w : Option Why) → first_waiting e cap n ≡ Some (p, w) → p < length n.machines
first_within e cap n p w h =
    let f = first_found e cap n 0 n.machines p w h in
    let within = slice_get_within n.machines f.place f.item.machine f.item.there in
    subst (λ (k : ℕ). k < length n.machines) (at_first p f.place f.number) within

pub first_waits : (e : Endpoints) (cap : Option ℕ) (n : NetworkState) (p : ℕ) (w : Option Why) → first_waiting e cap n ≡ Some (p, w) → none_can_step e cap n n.machines ≡ true → w ≡ None → ⊥
first_waits e cap n p w h none absent =
    let f = first_found e cap n 0 n.machines p w h in
    waits_some e cap n f.item.machine f.unended (none_at e cap n n.machines f.place f.item.machine none f.item.there) (sym f.why ∙ absent)

-- ---- the picked process

picked_item : (xs : List ℕ) (k p : ℕ) → picked_of xs k ≡ Some p → (i : ℕ) × (slice_get xs i ≡ Some p)
picked_item [] k p h = absurd (none-some p h)
picked_item (x ∷ xs) k p h = (k % length (x ∷ xs), h)

record ListedItem (e : Endpoints) (cap : Option ℕ) (n : NetworkState) (i : ℕ) (ms : List Machine) (p : ℕ) : Type 0 where
  place : ℕ
  number : p ≡ i + place
  item : Item ms place
  listed : is_listed e cap n item.machine ≡ true

listed_item : (e : Endpoints) (cap : Option ℕ) (n : NetworkState) (i : ℕ) (ms : List Machine) (j p : ℕ) → slice_get (listed_from e cap n i ms) j ≡ Some p → ListedItem e cap n i ms p
listed_item e cap n i [] j p h = absurd (none-some p h)
listed_item e cap n i (m ∷ ms) j p h = go (is_listed e cap n m) refl j h (λ k u. listed_item e cap n (suc i) ms k p u)
  where
    later : ListedItem e cap n (suc i) ms p → ListedItem e cap n i (m ∷ ms) p
    later f = record { place = suc f.place; number = later_place p i f.place f.number; item = record { machine = f.item.machine; there = f.item.there }; listed = f.listed }

    go : (b : Bool) → is_listed e cap n m ≡ b → (j : ℕ) → slice_get (cond b (i ∷ listed_from e cap n (suc i) ms) (listed_from e cap n (suc i) ms)) j ≡ Some p → ((k : ℕ) → slice_get (listed_from e cap n (suc i) ms) k ≡ Some p → ListedItem e cap n (suc i) ms p) → ListedItem e cap n i (m ∷ ms) p
    go true s zero u more = record { place = zero; number = own_place i p (same_Some i p u); item = record { machine = m; there = refl }; listed = s }
    go true s (suc j) u more = later (more j u)
    go false s j u more = later (more j u)

pub picked_steps : (e : Endpoints) (cap : Option ℕ) (n : NetworkState) (seed events p : ℕ) → picked e cap seed events n ≡ Some p → (p < length n.machines) × (steps_at e cap n p ≡ true)
picked_steps e cap n seed events p h =
    let i = picked_item (listed e cap n) (seed + events) p h in
    let f = listed_item e cap n 0 n.machines i.0 p i.1 in
    let same : f.place ≡ p = at_first p f.place f.number in
    let steps : can_step e cap n f.item.machine ≡ true = (and_parts (can_step e cap n f.item.machine) (listed_at e (place_of e f.item.machine)) f.listed).0 in (
      subst (λ (k : ℕ). k < length n.machines) same (slice_get_within n.machines f.place f.item.machine f.item.there),
      subst (λ (k : ℕ). steps_at e cap n k ≡ true) same (ap (steps_of e cap n) f.item.there ∙ steps),
    )

-- where no process is picked, none is listed
pub none_picked : (xs : List ℕ) (k : ℕ) → picked_of xs k ≡ None → xs ≡ []
none_picked [] k h = refl
none_picked (x ∷ xs) k h = absurd (some_there (x ∷ xs) (k % length (x ∷ xs)) (mod_within k (length xs)) h)
  where
    mod_within : (a b : ℕ) → a % suc b < suc b
    mod_within a b = grind arith

-- a process that can step has not ended
pub steps_no_end : (e : Endpoints) (cap : Option ℕ) (n : NetworkState) (p : ℕ) → steps_at e cap n p ≡ true → ended_at e n p ≡ true → ⊥
steps_no_end e cap n p s h = go (slice_get n.machines p) s h
  where
    step : (a : Bool) (o : Option Why) → cond a false (cond (is_some o) false true) ≡ true → a ≡ true → ⊥
    step true o s h = true≢false (sym s)
    step false o s h = true≢false (sym h)

    go : (o : Option Machine) → steps_of e cap n o ≡ true → ended_of e o ≡ true → ⊥
    go None s h = true≢false (sym s)
    go (Some m) s h = step (has_ended e m) (waits_for e cap n m) s h

-- one that has neither ended nor waits can step
pub steps_open : (e : Endpoints) (cap : Option ℕ) (n : NetworkState) (p : ℕ) {h : Head} → Shows e n p h → is_end h ≡ false → why_at e cap n p ≡ None → steps_at e cap n p ≡ true
steps_open e cap n p {h} t ended free =
    ap (steps_of e cap n) there
    ∙ ap (λ (b : Bool). cond b false (cond (is_some (waits_for e cap n t.stands.machine)) false true)) open_still
    ∙ ap (λ (w : Option Why). cond (is_some w) false true) (sym (ap (why_of e cap n) there) ∙ free)
  where
    there : slice_get n.machines p ≡ Some t.stands.machine
    there = t.stands.there

    open_still : has_ended e t.stands.machine ≡ false
    open_still = sym (ap (ended_of e) t.stands.there) ∙ t.ended ∙ ended

-- ---- a closed run

pub stuck_closes : (hosts : Hosts) (seed steps : ℕ) (v : NetworkView) (r : Picked) → IsStuck v.endpoints v.capacity v.state r → length v.history ≢ steps → none_can_step v.endpoints v.capacity v.state v.state.machines ≡ true → Turns hosts seed steps v (Some r) v
stuck_closes hosts seed steps v Ended s k none = absurd s
stuck_closes hosts seed steps v Limit s k none = absurd s
stuck_closes hosts seed steps v (Stuck p why) s k none = record { same = record { endpoints = refl; capacity = refl; state = refl; history = refl; stopped = refl; room = λ p h. h }; closes = close.stuck k none s }
stuck_closes hosts seed steps v Memory s k none = absurd s

pub stuck_so : (e : Endpoints) (cap : Option ℕ) (steps : ℕ) (n : NetworkState) (events : ℕ) (r : Picked) → IsStuck e cap n r → events ≢ steps → none_can_step e cap n n.machines ≡ true → ClosesSo e cap steps n events (Some r)
stuck_so e cap steps n events Ended s k none = absurd s
stuck_so e cap steps n events Limit s k none = absurd s
stuck_so e cap steps n events (Stuck p why) s k none = close.stuck k none s
stuck_so e cap steps n events Memory s k none = absurd s

-- where some process hasn't ended, more events are asked for and some process can step, no run is closed
pub goes_on_so : (e : Endpoints) (cap : Option ℕ) (steps : ℕ) (n : NetworkState) (events : ℕ) → all_ended e n.machines ≡ false → events ≢ steps → (none_can_step e cap n n.machines ≡ true → ⊥) → ClosesSo e cap steps n events None
goes_on_so e cap steps n events going before some close.Ended (close.ended over) = true≢false (sym over ∙ going)
goes_on_so e cap steps n events going before some close.Limit (close.limit open_still count) = before count
goes_on_so e cap steps n events going before some (close.Stuck p why) (close.stuck more none waits) = some none

goes_more : {e : Endpoints} {hosts : Hosts} {cap : Option ℕ} {seed steps : ℕ} {n m : NetworkState} {k : ℕ} {xs : List Event} → GoesOn e hosts cap seed steps n k xs m → (last : NetworkState) (j p : ℕ) (x : Event) → j ≡ k + length xs → all_ended e m.machines ≡ false → j ≢ steps → picked e cap seed j m ≡ Some p → Chooses e hosts cap m p x last → GoesOn e hosts cap seed steps n k (xs ++ x ∷ []) last
goes_more {e} {cap = cap} {seed} {steps} {n} {m} {k} stays last j p x h a b c d =
    let same : j ≡ k = at_end j k h in
    goes a (subst (λ (i : ℕ). i ≢ steps) same b) (subst (λ (i : ℕ). picked e cap seed i m ≡ Some p) same c) d stays
goes_more {k = k} (goes {events} {x = y} {xs} s t u w rest) last j p x h a b c d = goes s t u w (goes_more rest last j p x (at_next j k (length xs) h) a b c d)

pub closed_by : {e : Endpoints} {hosts : Hosts} {cap : Option ℕ} {seed steps : ℕ} {n m : NetworkState} {k : ℕ} {xs : List Event} → GoesOn e hosts cap seed steps n k xs m → (j : ℕ) (c : Close) → j ≡ k + length xs → Closes e cap steps m j c → IsScheduled e hosts cap seed steps n k xs m c
closed_by {e} {cap = cap} {steps = steps} {m = m} {k = k} stays j c h closes =
    let same : j ≡ k = at_end j k h in
    closed (subst (λ (i : ℕ). Closes e cap steps m i c) same closes)
closed_by {k = k} (goes {xs = xs} s t u w rest) j c h closes = close.goes s t u w (closed_by rest j c (at_next j k (length xs) h) closes)

-- ---- one turn

-- the process that the pick rule takes has made one more event
pub turned : (hosts : Hosts) (seed steps : ℕ) (old new : NetworkView) (p events : ℕ) → all_ended old.endpoints old.state.machines ≡ false → length old.history ≢ steps → Some p ≡ picked old.endpoints old.capacity seed events old.state → events ≡ length old.history
    → HasStepped hosts old p new → HasGrown old new → HasTurned hosts seed steps old new
turned hosts seed steps old new p events unended before pick count step grown = record {
  process = p;
  open_still = unended;
  before = before;
  pick = sym (pick ∙ ap (λ (k : ℕ). picked old.endpoints old.capacity seed k old.state) count);
  step = step;
  grown = grown;
}

-- ---- a run under way

-- what is so of programs under a capacity is so where they are the same
with_same : (P : Endpoints → Option ℕ → Type 0) {e f : Endpoints} {j k : Option ℕ} → e ≡ f → j ≡ k → P e j → P f k
with_same P {e} {f} {j} {k} a b x = subst (λ (l : Option ℕ). P f l) b (subst (λ (d : Endpoints). P d j) a x)

pub length-entries_of : (xs : List Event) → length (entries_of xs) ≡ length xs
length-entries_of xs = length-map xs _

pub begun_run : (hosts : Hosts) (seed steps : ℕ) (v : NetworkView) → length v.history ≤ steps → FitsMore v (steps - length v.history) → Underway hosts seed steps v v
begun_run hosts seed steps v le fits = record { gone = record { events = []; endpoints = refl; capacity = refl; history = sym (append-nil v.history); run = stays; grown = grown_by_none v }; before = le; fits = fits }

events_so_far : (hosts : Hosts) (seed steps : ℕ) (first now : NetworkView) (g : HasGone hosts seed steps first now) → length now.history ≡ length first.history + length g.events
events_so_far hosts seed steps first now g = ap length g.history ∙ length-append first.history (entries_of g.events) ∙ ap (λ (k : ℕ). length first.history + k) (length-entries_of g.events)

-- so many events fit at the beginning
pub fits_first : (e : Endpoints) (v : NetworkView) (events : ℕ) → v.endpoints ≡ e → v.state ≡ first_state e → events < 2 ^ 32 → AreFew e events → FitsMore v events
fits_first e v events same at small few =
    let s : v.state.sid ≡ 0 = ap (λ (n : NetworkState). n.sid) at in
    let m : length v.state.machines ≡ length e.processes = ap (λ (n : NetworkState). length n.machines) at ∙ length-standing_all e.processes in
    let all : length v.state.machines + events * most_served e.channels < 2 ^ 32 = omega (arith, few, m) in
    record {
      sid = omega (arith, s, small);
      machines = subst (λ (a : Endpoints). length v.state.machines + events * most_served a.channels < 2 ^ 32) (sym same) all;
    }

-- fewer events fit where more fit
pub fits_fewer : (v : NetworkView) (k n : ℕ) → k ≤ n → FitsMore v n → FitsMore v k
fits_fewer v k n fewer f =
    let most : ℕ = most_served v.endpoints.channels in
    let self : most ≤ most = omega arith in
    let product : k * most ≤ n * most = mul-le-mul fewer self in
    record { sid = added_below v.state.sid n k (2 ^ 32) f.sid fewer; machines = added_below (length v.state.machines) (n * most) (k * most) (2 ^ 32) f.machines product }

pub fits_after : (old new : NetworkView) (k : ℕ) → new.endpoints ≡ old.endpoints → HasGrown old new → FitsMore old (suc k) → FitsMore new k
fits_after old new k same g f =
    let old_fits = grown_below (length old.state.machines) (length new.state.machines) k (most_served old.endpoints.channels) (2 ^ 32) f.machines g.machines in
    record {
      sid = next_below old.state.sid new.state.sid k (2 ^ 32) f.sid g.sid;
      machines = subst (λ (e : Endpoints). length new.state.machines + k * most_served e.channels < 2 ^ 32) (sym same) old_fits;
    }

pub turn_longer : (hosts : Hosts) (seed steps : ℕ) (old new : NetworkView) → HasTurned hosts seed steps old new → length new.history ≡ length old.history + 1
turn_longer hosts seed steps old new t = ap length t.step.becomes.history ∙ length-append old.history (record { worker = 0; event = t.step.event } ∷ [])

less_left : (a b s : ℕ) → b ≡ a + 1 → a ≤ s → a ≢ s → s - b < s - a
less_left a b s longer before other = omega arith

some_left : (a s : ℕ) → a ≤ s → a ≢ s → 1 ≤ s - a
some_left a s before other = omega arith

-- by a turn fewer events are left, and one more fits before it
pub turned_less : (hosts : Hosts) (seed steps : ℕ) (old new : NetworkView) → HasTurned hosts seed steps old new → length old.history ≤ steps → steps - length new.history < steps - length old.history
turned_less hosts seed steps old new t before = less_left (length old.history) (length new.history) steps (turn_longer hosts seed steps old new t) before t.before

pub one_fits : (v : NetworkView) (steps : ℕ) → length v.history ≤ steps → FitsMore v (steps - length v.history) → length v.history ≢ steps → FitsMore v 1
one_fits v steps before fits other = fits_fewer v 1 (steps - length v.history) (some_left (length v.history) steps before other) fits

pub underway_more : (hosts : Hosts) (seed steps : ℕ) (first old new : NetworkView) → Underway hosts seed steps first old → HasTurned hosts seed steps old new → Underway hosts seed steps first new
underway_more hosts seed steps first old new u t =
    let g = u.gone in
    let x = t.step.event in
    let longer = turn_longer hosts seed steps old new t in
    let left = one_left (length old.history) (length new.history) steps longer u.before t.before in
    let e = g.endpoints in
    record {
      gone = record {
        events = g.events ++ x ∷ [];
        endpoints = t.step.becomes.endpoints ∙ g.endpoints;
        capacity = t.step.becomes.capacity ∙ g.capacity;
        history =
            t.step.becomes.history ∙ ap (λ (h : List Entry). h ++ record { worker = 0; event = x } ∷ []) g.history
            ∙ append_assoc first.history (entries_of g.events) (record { worker = 0; event = x } ∷ [])
            ∙ ap (λ (r : List Entry). first.history ++ r) (sym (map-append _ g.events (x ∷ [])));
        run =
            subst (λ (n : NetworkState). GoesOn first.endpoints hosts first.capacity seed steps first.state (length first.history) (g.events ++ x ∷ []) n) (sym t.step.becomes.state)
            (goes_more g.run t.step.state (length old.history) t.process x (events_so_far hosts seed steps first old g)
            (subst (λ (p : Endpoints). all_ended p old.state.machines ≡ false) e t.open_still)
            t.before
            (with_same (λ p cap. picked p cap seed (length old.history) old.state ≡ Some t.process) e g.capacity t.pick)
            (with_same (λ p cap. Chooses p hosts cap old.state t.process x t.step.state) e g.capacity t.step.chooses));
        grown = grown_by_more first old new g.events x g.grown e t.grown;
      };
      before = still_before (length old.history) (length new.history) steps longer u.before t.before;
      fits = fits_after old new (steps - length new.history) t.step.becomes.endpoints t.grown (subst (FitsMore old) left u.fits);
    }

pub closed_run : (hosts : Hosts) (seed steps : ℕ) (first old new : NetworkView) (c : Close) → Underway hosts seed steps first old → HasClosed steps old new c → HasRun hosts seed steps first new c
closed_run hosts seed steps first old new c u h =
    let g = u.gone in
    record {
      events = g.events;
      endpoints = h.same.endpoints ∙ g.endpoints;
      capacity = h.same.capacity ∙ g.capacity;
      history = h.same.history ∙ g.history;
      run =
          subst (λ (n : NetworkState). IsScheduled first.endpoints hosts first.capacity seed steps first.state (length first.history) g.events n c) (sym h.same.state)
          (closed_by g.run (length old.history) c (events_so_far hosts seed steps first old g) (with_same (λ e cap. Closes e cap steps old.state (length old.history) c) g.endpoints g.capacity h.closes));
      grown = grown_by_same (length g.events) first old new g.grown h.same.state;
    }

pub closes_run : (hosts : Hosts) (seed steps : ℕ) (first old new : NetworkView) (r : Picked) → Underway hosts seed steps first old → Turns hosts seed steps old (Some r) new → Runs hosts seed steps first r new
closes_run hosts seed steps first old new Ended u h = closed_run hosts seed steps first old new close.Ended u h
closes_run hosts seed steps first old new Limit u h = closed_run hosts seed steps first old new close.Limit u h
closes_run hosts seed steps first old new (Stuck p why) u h = closed_run hosts seed steps first old new (close.Stuck p why) u h
closes_run hosts seed steps first old new Memory u (inl h) =
    let g = u.gone in
    record {
      events = g.events;
      endpoints = h.endpoints ∙ g.endpoints;
      capacity = h.capacity ∙ g.capacity;
      history = h.history ∙ g.history;
      run = subst (λ (n : NetworkState). GoesOn first.endpoints hosts first.capacity seed steps first.state (length first.history) g.events n) (sym h.state) g.run;
      grown = grown_by_same (length g.events) first old new g.grown h.state;
    }
closes_run hosts seed steps first old new Memory u (inr t) = (underway_more hosts seed steps first old new u t).gone

-- ---- a run in two parts

pub goes_then : {e : Endpoints} {hosts : Hosts} {cap : Option ℕ} {seed steps : ℕ} {n m : NetworkState} {k : ℕ} {xs : List Event} → GoesOn e hosts cap seed steps n k xs m → (last : NetworkState) (j : ℕ) (ys : List Event) → j ≡ k + length xs → GoesOn e hosts cap seed steps m j ys last → GoesOn e hosts cap seed steps n k (xs ++ ys) last
goes_then {e} {hosts} {cap} {seed} {steps} {n} {k = k} stays last j ys h rest =
    let same : j ≡ k = at_end j k h in
    subst (λ (i : ℕ). GoesOn e hosts cap seed steps n i ys last) same rest
goes_then {k = k} (goes {xs = xs} s t u w first) last j ys h rest = goes s t u w (goes_then first last j ys (at_next j k (length xs) h) rest)

pub scheduled_then : {e : Endpoints} {hosts : Hosts} {cap : Option ℕ} {seed steps : ℕ} {n m : NetworkState} {k : ℕ} {xs : List Event} → GoesOn e hosts cap seed steps n k xs m → (last : NetworkState) (j : ℕ) (ys : List Event) (c : Close) → j ≡ k + length xs → IsScheduled e hosts cap seed steps m j ys last c → IsScheduled e hosts cap seed steps n k (xs ++ ys) last c
scheduled_then {e} {hosts} {cap} {seed} {steps} {n} {k = k} stays last j ys c h rest =
    let same : j ≡ k = at_end j k h in
    subst (λ (i : ℕ). IsScheduled e hosts cap seed steps n i ys last c) same rest
scheduled_then {k = k} (goes {xs = xs} s t u w first) last j ys c h rest = close.goes s t u w (scheduled_then first last j ys c (at_next j k (length xs) h) rest)

history_then : (a b c : List Entry) (xs ys : List Event) → b ≡ a ++ entries_of xs → c ≡ b ++ entries_of ys → c ≡ a ++ entries_of (xs ++ ys)
history_then a b c xs ys h k =
    k ∙ ap (λ (l : List Entry). l ++ entries_of ys) h ∙ append_assoc a (entries_of xs) (entries_of ys) ∙ ap (λ (r : List Entry). a ++ r) (sym (map-append _ xs ys))

closed_then : (hosts : Hosts) (seed steps : ℕ) (first mid new : NetworkView) (c : Close) → HasGone hosts seed steps first mid → HasRun hosts seed steps mid new c → HasRun hosts seed steps first new c
closed_then hosts seed steps first mid new c g r = record {
  events = g.events ++ r.events;
  endpoints = r.endpoints ∙ g.endpoints;
  capacity = r.capacity ∙ g.capacity;
  history = history_then first.history mid.history new.history g.events r.events g.history r.history;
  run = scheduled_then g.run new.state (length mid.history) r.events c (events_so_far hosts seed steps first mid g) (with_same (λ e cap. IsScheduled e hosts cap seed steps mid.state (length mid.history) r.events new.state c) g.endpoints g.capacity r.run);
  grown = grown_by_both g.events r.events first mid new g.grown g.endpoints r.grown;
}

-- a run goes on from where its first part has led
pub runs_then : (hosts : Hosts) (seed steps : ℕ) (first mid new : NetworkView) (r : Picked) → HasGone hosts seed steps first mid → Runs hosts seed steps mid r new → Runs hosts seed steps first r new
runs_then hosts seed steps first mid new Ended g h = closed_then hosts seed steps first mid new close.Ended g h
runs_then hosts seed steps first mid new Limit g h = closed_then hosts seed steps first mid new close.Limit g h
runs_then hosts seed steps first mid new (Stuck p why) g h = closed_then hosts seed steps first mid new (close.Stuck p why) g h
runs_then hosts seed steps first mid new Memory g h = record {
  events = g.events ++ h.events;
  endpoints = h.endpoints ∙ g.endpoints;
  capacity = h.capacity ∙ g.capacity;
  history = history_then first.history mid.history new.history g.events h.events g.history h.history;
  run = goes_then g.run new.state (length mid.history) h.events (events_so_far hosts seed steps first mid g) (with_same (λ e cap. GoesOn e hosts cap seed steps mid.state (length mid.history) h.events new.state) g.endpoints g.capacity h.run);
  grown = grown_by_both g.events h.events first mid new g.grown g.endpoints h.grown;
}
