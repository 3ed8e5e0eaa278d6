-- Steps and runs from states that are the same.
use Rattle.std.proofs.Common.{◌≡◌, ℕ, Bool, true, false, ◌==◌, List, [], ◌∷◌, refl, subst, Option, Some, None, ℤ, if◌then◌else◌}
use Rattle.std.specs.Prelude.{slice_get}
use Rattle.std.specs.List.{AllZip}
use Rattle.std.specs.FinMap as fin
use Rattle.std.proofs.lemmas.Bool.{eqb-true}
use Rattle.chor_base.specs.declared.names.NameId.{NameId}
use Rattle.chor_base.specs.declared.event.Event.{Event}
use Rattle.chor_base.specs.declared.meaning.Meaning.{Meaning}
use Rattle.chor_base.specs.Meaning.{Hosts, meaning_named, MayAnswer}
use Rattle.chor_base.specs.NameMap.{Variables}
use Rattle.endpoint_code.specs.declared.code.CodeNode.{CodeNode}
use Rattle.endpoint_code.specs.declared.endpoints.Channel.{Channel}
use Rattle.endpoint_code.specs.declared.endpoints.Process.{Process}
use Rattle.endpoint_code.specs.declared.endpoints.Endpoints.{Endpoints}
use Rattle.endpoint_code.specs.Network.{Sessions, Machine, NetworkState, Place, Made, Makes, place_of, channel_of, channel_starts, makes, starts, PlaceAnswers, MachineAnswers, NetworkSteps, acts, begins, standing_all, first_state}
use Rattle.endpoint_code.specs.NetworkRuns.{NetworkLeads, IsNetworkRun}
use Rattle.same_programs.specs.Words.{SameName, SameText, BothOrNeither}
use Rattle.same_programs.specs.Codes.{SameValue}
use Rattle.same_programs.specs.Programs.{SameChannel, IsCopy, SameHosts}
use Rattle.same_programs.specs.States.{SameMachine, SameState, SameVariables}
use Rattle.same_programs.specs.Laws.{Agrees, StepsAlike, RunsAlike}
use Rattle.same_programs.proofs.Zips.{zip_get}
use Rattle.same_programs.proofs.Maps.{empty_same}
use Rattle.same_programs.proofs.Values.{numbers_same}
use Rattle.same_programs.proofs.Nodes.{IsSpot, Alike, host}
use Rattle.same_programs.proofs.Places.{SamePlace, place_same, begun_processes, no_sessions}
use Rattle.same_programs.proofs.States.{machine_same}
use Rattle.same_programs.proofs.Makings.{SameMade, makes_same, values_same}
use Rattle.same_programs.proofs.Starting.{starts_same}

module _ (e e' : Endpoints) (c : IsCopy e e') where
  -- ---- what is made in both

  pub record IsMadeToo (x : Event) (m : NetworkState) (o : Option Made) : Type 0 where
    pub event : Event
    pub state : NetworkState
    pub is : o ≡ Some (Makes event state)
    pub same_event : Agrees e e' x event
    pub same_state : SameState e e' m state

  pub made_too : (x : Event) (m : NetworkState) (o u : Option Made) → BothOrNeither (SameMade e e' c) o u → o ≡ Some (Makes x m) → IsMadeToo x m u
  made_too x m None u h i = absurd cc
  made_too x m (Some y) None h i = absurd h
  made_too x m (Some (Makes y n)) (Some (Makes z k)) h i =
      let f : y ≡ x = cc in
      let g : n ≡ m = cc in
      record {
        event = z;
        state = k;
        is = refl;
        same_event = subst (λ (w : Event). Agrees e e' w z) f h.0;
        same_state = subst (λ (w : NetworkState). SameState e e' w k) g h.1;
      }

  -- ---- the answers of host functions

  module _ (hosts hosts' : Hosts) (hosts_same : SameHosts e e' hosts hosts') where
    answer_moved : (o u : Option Meaning) (a b d f v : ℤ) → o ≡ u → a ≡ d → b ≡ f → MayAnswer o a b v → MayAnswer u d f v
    answer_moved o u a b d f v i j k h =
        subst (λ (w : Option Meaning). MayAnswer w d f v) i (subst (λ (z : ℤ). MayAnswer o z f v) j (subst (λ (z : ℤ). MayAnswer o a z v) k h))

    node_answers : (n n' : CodeNode) → Alike e e' n n' → (vars vars' : Variables) → SameVariables e e' vars vars' → (m m' : Sessions) (v : ℤ)
        → PlaceAnswers hosts vars (Some (record { node = n; sessions = m })) v → PlaceAnswers hosts' vars' (Some (record { node = n'; sessions = m' })) v
    node_answers n n' (host {f = f} {g = g} i j a b s) vars vars' w m m' v h =
        answer_moved (meaning_named hosts f) (meaning_named hosts' g) _ _ _ _ v (hosts_same f g j)
        (numbers_same (SameName e e') (SameText e e') (values_same e e' c a vars vars' w)) (numbers_same (SameName e e') (SameText e e') (values_same e e' c b vars vars' w)) h
    node_answers n n' s vars vars' w m m' v h = tt

    place_answers : (o u : Option Place) → BothOrNeither (SamePlace e e' c) o u → (vars vars' : Variables) → SameVariables e e' vars vars' → (v : ℤ)
        → PlaceAnswers hosts vars o v → PlaceAnswers hosts' vars' u v
    place_answers None None s vars vars' w v h = tt
    place_answers None (Some y) s vars vars' w v h = absurd s
    place_answers (Some x) None s vars vars' w v h = absurd s
    place_answers (Some x) (Some y) s vars vars' w v h = node_answers x.node y.node s.node vars vars' w x.sessions y.sessions v h

    machine_answers : (o u : Option Machine) → BothOrNeither (SameMachine e e') o u → (v : ℤ) → MachineAnswers hosts e o v → MachineAnswers hosts' e' u v
    machine_answers None None s v h = tt
    machine_answers None (Some y) s v h = absurd s
    machine_answers (Some x) None s v h = absurd s
    machine_answers (Some x) (Some y) s v h = place_answers (place_of e x) (place_of e' y) (place_same e e' c x y s) x.vars y.vars s.vars v h

    pub answers_same : (n n' : NetworkState) → SameState e e' n n' → (p : ℕ) (v : ℤ) → MachineAnswers hosts e (slice_get n.machines p) v → MachineAnswers hosts' e' (slice_get n'.machines p) v
    answers_same n n' same p v h = machine_answers (slice_get n.machines p) (slice_get n'.machines p) (zip_get (SameMachine e e') n.machines n'.machines same.machines p) v h

    -- ---- a step

    -- the name of a channel that is there
    named : (ks hs : List Channel) → AllZip (SameChannel e e') ks hs → (a : NameId) (k : Channel) → channel_of ks a ≡ Some k → (b : NameId) × SameName e e' a b
    named [] hs h a k i = absurd cc
    named (x ∷ ks) [] h a k i = absurd h
    named (x ∷ ks) (y ∷ hs) h a k i = go (x.name.0 == a.0) refl i (λ j. named ks hs h.1 a k j)
      where
        go : (t : Bool) → (x.name.0 == a.0) ≡ t → (if t then Some x else channel_of ks a) ≡ Some k → (channel_of ks a ≡ Some k → (b : NameId) × SameName e e' a b) → (b : NameId) × SameName e e' a b
        go true f j more =
            let number : x.name.0 ≡ a.0 = eqb-true x.name.0 a.0 f in
            let name : x.name ≡ a = λ l. record { 0 = number l } in
            (y.name, subst (λ (z : NameId). SameName e e' z y.name) name h.0.name)
        go false f j more = more j

    channel_there : (n : NetworkState) (a : NameId) (ps : List ℕ) (x : Made) → starts e n a ps ≡ Some x → (b : NameId) × SameName e e' a b
    channel_there n a ps x h = go (channel_of e.channels a) refl h
      where
        go : (o : Option Channel) → channel_of e.channels a ≡ o → channel_starts e n a ps o ≡ Some x → (b : NameId) × SameName e e' a b
        go None i k = absurd cc
        go (Some k) i j = named e.channels e'.channels c.same.channels a k i

    pub step_same : (cap : Option ℕ) (n n' m : NetworkState) (x : Event) → SameState e e' n n' → NetworkSteps e hosts cap n x m → StepsAlike e e' hosts' cap n' x m
    step_same cap n n' m x same (acts p v a h) =
        let t : IsMadeToo x m (makes e' cap n' p v) = made_too x m (makes e cap n p v) (makes e' cap n' p v) (makes_same e e' c cap n n' same p v) h in
        record { event = t.event; state = t.state; steps = acts p v (answers_same n n' same p v a) t.is; same_event = t.same_event; same_state = t.same_state }
    step_same cap n n' m x same (begins a ps h) =
        let b = channel_there n a ps (Makes x m) h in
        let t : IsMadeToo x m (starts e' n' b.0 ps) = made_too x m (starts e n a ps) (starts e' n' b.0 ps) (starts_same e e' c n n' same a b.0 b.1 ps) h in
        record { event = t.event; state = t.state; steps = begins b.0 ps t.is; same_event = t.same_event; same_state = t.same_state }

    -- ---- runs

    pub record LeadsAlike (cap : Option ℕ) (n : NetworkState) (h : List Event) (last : NetworkState) : Type 0 where
      pub events : List Event
      pub state : NetworkState
      pub leads : NetworkLeads e' hosts' cap n events state
      pub same_events : AllZip (Agrees e e') h events
      pub same_state : SameState e e' last state

    leads_same : (cap : Option ℕ) (h : List Event) (n n' last : NetworkState) → SameState e e' n n' → NetworkLeads e hosts cap n h last → LeadsAlike cap n' h last
    leads_same cap [] n n' last same i = record { events = []; state = n'; leads = refl; same_events = tt; same_state = subst (λ (w : NetworkState). SameState e e' w n') i same }
    leads_same cap (x ∷ h) n n' last same (mid, step, rest) =
        let s : StepsAlike e e' hosts' cap n' x mid = step_same cap n n' mid x same step in
        let t : LeadsAlike cap s.state h last = leads_same cap h mid s.state last s.same_state rest in
        record { events = s.event ∷ t.events; state = t.state; leads = (s.state, s.steps, t.leads); same_events = (s.same_event, t.same_events); same_state = t.same_state }

  -- ---- the first states

  all_standing : (ps qs : List Process) → AllZip (λ (p q : Process). IsSpot e e' p.body q.body) ps qs → AllZip (SameMachine e e') (standing_all ps) (standing_all qs)
  all_standing [] [] h = tt
  all_standing [] (q ∷ qs) h = absurd h
  all_standing (p ∷ ps) [] h = absurd h
  all_standing (p ∷ ps) (q ∷ qs) h =
      (machine_same e e' c p.body q.body fin.empty fin.empty fin.empty fin.empty h.0 (empty_same (SameName e e') (SameValue (SameName e e') (SameText e e'))) (no_sessions e e' c), all_standing ps qs h.1)

  pub first_same : SameState e e' (first_state e) (first_state e')
  first_same = record { machines = all_standing e.processes e'.processes (begun_processes e e' c); queues = λ s a b d f i j. tt; sid = refl }

  pub run_same : (hosts hosts' : Hosts) → SameHosts e e' hosts hosts' → (cap : Option ℕ) (h : List Event) (last : NetworkState) → IsNetworkRun e hosts cap h last → RunsAlike e e' hosts' cap h last
  run_same hosts hosts' s cap h last run =
      let t : LeadsAlike hosts hosts' s cap (first_state e') h last = leads_same hosts hosts' s cap h (first_state e) (first_state e') last first_same run in
      record { events = t.events; state = t.state; run = t.leads; same_events = t.same_events; same_state = t.same_state }
