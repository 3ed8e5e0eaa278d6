-- A network and an office that make the same events.
use Rattle.std.proofs.Common.{◌≡◌, ℕ, List, [], ◌∷◌, length, max, refl, sym, ap, ◌∙◌, subst, Option, true, false, arith}
use Rattle.std.specs.Prelude.{not}
use Rattle.chor_base.specs.declared.names.NameId.{NameId}
use Rattle.chor_base.specs.declared.event.Event.{Event}
use Rattle.chor_base.specs.declared.event.Event.TheVariants as event
use Rattle.chor_base.specs.declared.value.Load.{Load}
use Rattle.chor_base.specs.Events.{Triple}
use Rattle.chor_base.specs.Meaning.{Hosts}
use Rattle.endpoint_code.specs.declared.endpoints.Channel.{Channel}
use Rattle.endpoint_code.specs.declared.endpoints.Endpoints.{Endpoints}
use Rattle.endpoint_code.specs.Network.{NetworkState, NetworkSteps, first_state, has_room, loads_for}
use Rattle.endpoint_code.specs.NetworkRuns.{NetworkLeads}
use Rattle.net_core.specs.Views.{NetworkView}
use Rattle.net_core.specs.Follows.{HasFollowed}
use Rattle.net_core.specs.Steps.{FitsMore}
use Rattle.net_core.specs.Steps.{most_served as served_by_network}
use Rattle.post_office.specs.Lanes.{loads_in}
use Rattle.post_office.specs.Views.{OfficeView, loads_at, is_full, CanMake, events_of}
use Rattle.post_office.specs.Answers.{HasNoted}
use Rattle.post_office.specs.Kept.{IsKept}
use Rattle.post_office.specs.Starts.{FitsStart, most_served}
use Rattle.post_office.proofs.Acting.{after_more}
use Rattle.post_office.proofs.Callers.{one_state, can_make}
use Rattle.post_office.proofs.Steps.{FindsRoom, sends_on}
use Rattle.office_runs.proofs.Freely.{step_freely}
use Rattle.office_runs.specs.Told.{AreAlike, MayCome, HasPosted}

most_same : (ks : List Channel) → most_served ks ≡ served_by_network ks
most_same [] = refl
most_same (k ∷ ks) = ap (max (length k.serve)) (most_same ks)

pub fits_posted : (v w : OfficeView) → HasPosted v w → FitsStart v → FitsStart w
fits_posted v w h fits =
    let back : FitsStart (record v { desks = w.desks }) = record { sid = fits.sid; processes = omega (arith, h.processes, fits.processes) } in
    subst FitsStart (sym h.same) back

-- an event that may come can be made
pub can_come : (w : OfficeView) (count : ℕ) (x : Event) → MayCome w count x → CanMake w x
can_come w count x m = can_make w x m.state m.next m.after (step_freely w.capacity x m.next w.endpoints w.hosts m.state m.steps).0

pub count_posts : (w : OfficeView) (count : ℕ) (x : Event) → MayCome w count x → IsKept w → count ≡ length w.desks
count_posts w count x m kept =
    let same : kept.state ≡ m.state = one_state w kept.state m.state kept.after m.after in
    m.processes ∙ sym (ap (λ (n : NetworkState). length n.machines) same) ∙ kept.processes

-- a step of a network is one after the events of an office that is alike
alike_step : (table : Hosts) (v : NetworkView) (w : OfficeView) (x : Event) (m : NetworkState) → AreAlike table v w → NetworkSteps v.endpoints table v.capacity v.state x m → NetworkSteps w.endpoints w.hosts w.capacity v.state x m
alike_step table v w x m alike step =
    subst (λ (e : Endpoints). NetworkSteps e w.hosts w.capacity v.state x m) (sym alike.endpoints)
    (subst (λ (h : Hosts). NetworkSteps v.endpoints h w.capacity v.state x m) (sym alike.hosts) (subst (λ (c : Option ℕ). NetworkSteps v.endpoints table c v.state x m) (sym alike.capacity) step))

-- where it sends, the queue isn't full
pub not_full_there : (w : OfficeView) (count p s : ℕ) (a b : NameId) (l : Load) → MayCome w count (event.Send p s a b l) → IsKept w → is_full w (s, a, b) ≡ false
not_full_there w count p s a b l m kept =
    let same : kept.state ≡ m.state = one_state w kept.state m.state kept.after m.after in
    let queues : loads_in w.queues.lanes ≡ m.state.queues = kept.queues ∙ ap (λ (n : NetworkState). n.queues) same in
    let place : FindsRoom w.capacity m.state.queues (sends_on (event.Send p s a b l)) = (step_freely w.capacity (event.Send p s a b l) m.next w.endpoints w.hosts m.state m.steps).1 in
    let room : has_room w.capacity (loads_at w.queues (s, a, b)) ≡ true = ap (λ (qs : List (Triple × List Load)). has_room w.capacity (loads_for qs (s, a, b))) queues ∙ place in
    ap not room

-- what a network did an office can make
pub may_come : (table : Hosts) (v u : NetworkView) (w : OfficeView) (x : Event) (count : ℕ) → AreAlike table v w → FitsMore v 1 → count ≡ length v.state.machines → IsKept w → HasFollowed table v x u → MayCome w count x
may_come table v u w x count alike fits processes kept f =
    let same : kept.state ≡ v.state = one_state w kept.state v.state kept.after alike.after in
    let sid : w.sid ≡ v.state.sid = sym kept.sid ∙ ap (λ (n : NetworkState). n.sid) same in
    let there : length w.desks ≡ length v.state.machines = sym kept.processes ∙ ap (λ (n : NetworkState). length n.machines) same in
    let most : most_served w.endpoints.channels ≡ served_by_network v.endpoints.channels = most_same w.endpoints.channels ∙ ap (λ (e : Endpoints). served_by_network e.channels) alike.endpoints in
    record {
      state = v.state;
      after = alike.after;
      processes = processes;
      next = f.state;
      steps = alike_step table v w x f.state alike f.steps;
      fits = record { sid = omega (arith, sid, fits.sid); processes = omega (arith, there, most, fits.machines) };
    }

-- where both have made the same event they are alike
pub alike_more : (table : Hosts) (v u : NetworkView) (w o : OfficeView) (x : Event) → AreAlike table v w → HasFollowed table v x u → HasNoted w 0 x o → AreAlike table u o
alike_more table v u w o x alike f noted =
    let step = alike_step table v w x f.state alike f.steps in
    let leads = after_more w v.state f.state x 0 o.history noted.history alike.after step in
    let of_endpoints = subst (λ (e : Endpoints). NetworkLeads e w.hosts w.capacity (first_state e) (events_of o.history) f.state) (sym noted.endpoints) leads in
    let of_hosts = subst (λ (h : Hosts). NetworkLeads o.endpoints h w.capacity (first_state o.endpoints) (events_of o.history) f.state) (sym noted.hosts) of_endpoints in
    let of_capacity = subst (λ (c : Option ℕ). NetworkLeads o.endpoints o.hosts c (first_state o.endpoints) (events_of o.history) f.state) (sym noted.capacity) of_hosts in
    record {
      endpoints = noted.endpoints ∙ alike.endpoints ∙ sym f.becomes.endpoints;
      hosts = noted.hosts ∙ alike.hosts;
      capacity = noted.capacity ∙ alike.capacity ∙ sym f.becomes.capacity;
      after = subst (λ (n : NetworkState). NetworkLeads o.endpoints o.hosts o.capacity (first_state o.endpoints) (events_of o.history) n) (sym f.becomes.state) of_capacity;
    }
