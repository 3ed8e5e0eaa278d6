-- The fields of a network and what contracts see of it.
use Rattle.std.proofs.Common.{◌≡◌, ℕ, suc, ◌+◌, ◌*◌, ◌^◌, ◌<◌, ◌≤◌, ◌==◌, max, cond, true, false, ◌++◌, ◌∷◌, [], Bool, List, length, get_or, sym, ap, ◌∙◌, subst, refl, Option, Some, arith, length-set, length-append}
use Rattle.std.specs.Prelude.{slice_get, slice_set, map}
use Rattle.std.proofs.lemmas.List.{length-map, map-set}
use Rattle.chor_base.proofs.Lists.{get_set_other}
use Rattle.chor_base.specs.declared.names.NameId.{NameId}
use Rattle.chor_base.specs.declared.event.Event.{Event}
use Rattle.chor_base.specs.declared.event.Event.TheVariants as event
use Rattle.chor_base.specs.declared.event.Entry.{Entry}
use Rattle.chor_base.specs.Meaning.{Hosts}
use Rattle.endpoint_code.specs.declared.code.CodeNode.{CodeNode}
use Rattle.endpoint_code.specs.declared.endpoints.Endpoints.{Endpoints}
use Rattle.endpoint_code.specs.declared.endpoints.Channel.{Channel}
use Rattle.endpoint_code.specs.Network.{Machine, NetworkState, with_machines, served, served_parts, channel_of}
use Rattle.endpoint_code.specs.Scheduled.{Chooses}
use Rattle.endpoint_machine.specs.Views.{MachineView}
use Rattle.post_office.specs.Lanes.{QueuesView, loads_in}
use Rattle.session_starts.specs.Machines.{standing_of}
use Rattle.endpoint_machine.specs.declared.head.Head.{Head}
use Rattle.net_core.specs.Heads.{Stands, Shows}
use Rattle.net_core.specs.Views.{NetworkView, IsSame, IsReserved, state_of}
use Rattle.net_core.specs.Steps.{HasSteppedBy, HasBegunBy, HasGrown, FitsMore, most_served}
use Rattle.session_starts.specs.Starts.{HasStarted}
use Rattle.net_core.specs.Shown.{MovesAlone}
use Rattle.net_core.proofs.Scopes.{runner_at}

abbrev pub fields : Endpoints → Option ℕ → List MachineView → QueuesView → ℕ → List Entry → List Bool → Bool → NetworkView
fields e cap ms q sid h res stop = record { endpoints = e; capacity = cap; state = state_of ms q sid; history = h; reserved = res; stopped = stop }

-- the machine of a process is the one at its place
pub stands_there : (e : Endpoints) (ms : List MachineView) (q : QueuesView) (sid p : ℕ) (r : MachineView) (node : CodeNode) (s : Stands e (state_of ms q sid) p node) → p < length ms → r ≡ get_or ms p r → s.machine ≡ standing_of r
stands_there e ms q sid p r node s lt h =
    let a : Some s.machine ≡ Some (standing_of r) = sym s.there ∙ runner_at ms p r lt h in
    cc

length-with_machines : (ms : List Machine) (js : List (ℕ × Machine)) → length (with_machines ms js) ≡ length ms
length-with_machines ms [] = refl
length-with_machines ms (j ∷ js) = length-with_machines (slice_set ms j.0 j.1) js ∙ length-set ms j.0 j.1

length-served : (e : Endpoints) (c : NameId) (s : ℕ) (rs : List NameId) → length (served e c s rs) ≡ length rs
length-served e c s [] = refl
length-served e c s (r ∷ rs) = ap suc (length-served e c s rs)

-- how many processes there are after a start
length_started : (e : Endpoints) (k : Channel) (s : ℕ) (old new : List Machine) (ps : List (NameId × ℕ)) → HasStarted e k s old ps new → length new ≡ length old + length k.serve
length_started e k s old new ps h =
    let a : length new ≡ length (h.joined ++ served e k.name s k.serve) = ap length h.serves in
    let b = length-append h.joined (served e k.name s k.serve) in
    let c : length h.joined ≡ length old = sym (ap length h.joins.placed) ∙ length-with_machines old h.joins.joining in
    let d = length-served e k.name s k.serve in
    omega arith

-- no channel has more service roles than the most
pub served_most : (ks : List Channel) (c : NameId) (k : Channel) → channel_of ks c ≡ Some k → length k.serve ≤ most_served ks
served_most [] c k h = absurd cc
served_most (x ∷ ks) c k h = go (x.name.0 == c.0) refl (served_most ks c k)
  where
    go : (b : Bool) → (x.name.0 == c.0) ≡ b → (channel_of ks c ≡ Some k → length k.serve ≤ most_served ks) → length k.serve ≤ max (length x.serve) (most_served ks)
    go true e more =
        let a : Some x ≡ Some k = sym (ap (λ (b : Bool). cond b (Some x) (channel_of ks c)) e) ∙ h in
        let same : x ≡ k = cc in
        let as_long : length x.serve ≡ length k.serve = ap (λ (y : Channel). length y.serve) same in
        omega arith
    go false e more = let i = more (sym (ap (λ (b : Bool). cond b (Some x) (channel_of ks c)) e) ∙ h) in omega arith

-- what has become of a network that was the same but for room

pub grown_after : (v w new : NetworkView) → IsSame v w → HasGrown w new → HasGrown v new
grown_after v w new same g = record {
  sid = subst (λ (n : NetworkState). new.state.sid ≤ n.sid + 1) same.state g.sid;
  kept = subst (λ (n : NetworkState). length n.machines ≤ length new.state.machines) same.state g.kept;
  machines = subst (λ (e : Endpoints). length new.state.machines ≤ length v.state.machines + most_served e.channels) same.endpoints
      (subst (λ (n : NetworkState). length new.state.machines ≤ length n.machines + most_served w.endpoints.channels) same.state g.machines);
}

pub stepped_after : (worker : ℕ) (hosts : Endpoints → Hosts) (v w new : NetworkView) (p : ℕ) → IsSame v w → HasSteppedBy worker (hosts w.endpoints) w p new → HasSteppedBy worker (hosts v.endpoints) v p new
stepped_after worker hosts v w new p same s =
    let b = s.becomes in
    record {
      event = s.event;
      state = s.state;
      becomes = record {
        endpoints = b.endpoints ∙ same.endpoints;
        capacity = b.capacity ∙ same.capacity;
        state = b.state;
        history = b.history ∙ ap (λ (es : List Entry). es ++ record { worker = worker; event = s.event } ∷ []) same.history;
        stopped = b.stopped ∙ same.stopped;
      };
      chooses = subst (λ (e : Endpoints). Chooses e (hosts e) v.capacity v.state p s.event s.state) same.endpoints
          (subst (λ (k : Option ℕ). Chooses w.endpoints (hosts w.endpoints) k v.state p s.event s.state) same.capacity
          (subst (λ (n : NetworkState). Chooses w.endpoints (hosts w.endpoints) w.capacity n p s.event s.state) same.state s.chooses));
    }

-- a start draws one session number, and a process number for each service role of its channel
pub grown_begun : (worker : ℕ) (old : NetworkView) (k : Channel) (parts : List (NameId × ℕ)) (new : NetworkView) → channel_of old.endpoints.channels k.name ≡ Some k → HasBegunBy worker old k parts new → HasGrown old new
grown_begun worker old k parts new found h =
    let a : length new.state.machines ≡ length h.machines = ap (λ (n : NetworkState). length n.machines) h.becomes.state in
    let b = length_started old.endpoints k old.state.sid old.state.machines h.machines parts h.started in
    let c = served_most old.endpoints.channels k.name k found in
    record {
      sid = (let s : new.state.sid ≡ suc old.state.sid = ap (λ (n : NetworkState). n.sid) h.becomes.state in omega arith);
      kept = omega arith;
      machines = omega arith;
    }

module _ {e : Endpoints} {cap : Option ℕ} (ms : List MachineView) (q : QueuesView) {sid : ℕ} {h : List Entry} {res : List Bool} {stop : Bool} {v : NetworkView} (is : fields e cap ms q sid h res stop ≡ v) where
  pub within : (p : ℕ) → p < length v.state.machines → p < length ms
  within p lt = let k = ap (λ (w : NetworkView). length w.state.machines) is in omega (arith, k, length-map ms standing_of)

  pub shows_in : (p : ℕ) (a : Head) → Shows v.endpoints v.state p a → Shows e (state_of ms q sid) p a
  shows_in p a s = subst (λ (w : NetworkView). Shows w.endpoints w.state p a) (sym is) s

  pub stepped : (worker : ℕ) (hosts : Hosts) (new : NetworkView) (p : ℕ) (x : Event) (n : NetworkState) → new.endpoints ≡ e → new.capacity ≡ cap → new.state ≡ n → new.history ≡ h ++ record { worker = worker; event = x } ∷ [] → new.stopped ≡ stop → Chooses e hosts cap (state_of ms q sid) p x n → HasSteppedBy worker hosts v p new
  stepped worker hosts new p x n a t b d z chooses =
      subst (λ (w : NetworkView). HasSteppedBy worker hosts w p new) is (record { event = x; state = n; becomes = record { endpoints = a; capacity = t; state = b; history = d; stopped = z }; chooses = chooses })

  pub same_but_room : (new : NetworkView) → new.endpoints ≡ e → new.capacity ≡ cap → new.state ≡ state_of ms q sid → new.history ≡ h → new.stopped ≡ stop → ((p : ℕ) → slice_get res p ≡ Some true → IsReserved new p) → IsSame v new
  same_but_room new a t b d z room = subst (λ (w : NetworkView). IsSame w new) is (record { endpoints = a; capacity = t; state = b; history = d; stopped = z; room = room })

  -- there are numbers for the new processes of a start
  pub numbers_left : (k : Channel) → channel_of v.endpoints.channels k.name ≡ Some k → FitsMore v 1 → length ms + length k.serve < 2 ^ 32
  numbers_left k found fits =
      let most = served_most v.endpoints.channels k.name k found in
      let one : length v.state.machines + 1 * most_served v.endpoints.channels < 2 ^ 32 = fits.machines in
      let count : length (map standing_of ms) ≡ length v.state.machines = ap (λ (w : NetworkView). length w.state.machines) is in
      let same = length-map ms standing_of in
      omega arith

  pub has_begun : (worker : ℕ) (new : NetworkView) (k : Channel) (parts all : List (NameId × ℕ)) (ns : List Machine) → new.endpoints ≡ e → new.capacity ≡ cap → new.state ≡ record { machines = ns; queues = loads_in q.lanes; sid = suc sid } → new.history ≡ h ++ record { worker = worker; event = event.Start k.name sid all } ∷ [] → new.stopped ≡ stop → all ≡ parts ++ served_parts k.serve (length ms) → HasStarted e k sid (map standing_of ms) parts ns → HasBegunBy worker v k parts new
  has_begun worker new k parts all ns a t b d z same started =
      subst (λ (w : NetworkView). HasBegunBy worker w k parts new) is
      (record {
        machines = ns;
        started = started;
        becomes = record {
          endpoints = a;
          capacity = t;
          state = b;
          history =
              d
              ∙ ap (λ (ps : List (NameId × ℕ)). h ++ record { worker = worker; event = event.Start k.name sid ps } ∷ [])
              (same ∙ ap (λ (i : ℕ). parts ++ served_parts k.serve i) (sym (length-map ms standing_of)));
          stopped = z;
        };
      })

  pub grown_put : (new : NetworkView) (p : ℕ) (t : MachineView) (k : QueuesView) → new.state ≡ state_of (slice_set ms p t) k sid → HasGrown v new
  grown_put new p t k a =
      subst (λ (w : NetworkView). HasGrown w new) is
      (record {
        sid = (let b : new.state.sid ≡ sid = ap (λ (n : NetworkState). n.sid) a in omega arith);
        kept = (
            let b : length new.state.machines ≡ length (map standing_of (slice_set ms p t)) = ap (λ (n : NetworkState). length n.machines) a in
            let d = length-map (slice_set ms p t) standing_of in
            let f = length-map ms standing_of in
            let g = length-set ms p t in
            omega arith);
        machines = (
            let b : length new.state.machines ≡ length (map standing_of (slice_set ms p t)) = ap (λ (n : NetworkState). length n.machines) a in
            let d = length-map (slice_set ms p t) standing_of in
            let f = length-map ms standing_of in
            let g = length-set ms p t in
            omega arith);
      })

  -- no other process moves where one machine is put
  pub moved_alone : (n : NetworkState) (p : ℕ) (t : MachineView) (k : QueuesView) → n ≡ state_of (slice_set ms p t) k sid → MovesAlone v.state p n
  moved_alone n p t k a =
      let put : n.machines ≡ slice_set (map standing_of ms) p (standing_of t) = ap (λ (m : NetworkState). m.machines) a ∙ map-set standing_of ms p t in
      subst (λ (w : NetworkView). MovesAlone w.state p n) is
      (record {
        count = ap length put ∙ length-set (map standing_of ms) p (standing_of t);
        others = λ q other. ap (λ (l : List Machine). slice_get l q) put ∙ get_set_other (map standing_of ms) p q (standing_of t) other;
      })
