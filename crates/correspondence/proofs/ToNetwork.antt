-- What one process does in the choreography, it does in the network.
use Rattle.std.proofs.Common.{◌≡◌, ℕ, zero, suc, ◌<◌, Bool, true, false, List, [], ◌∷◌, ◌++◌, length, Option, Some, None, refl, sym, ap, ◌∙◌, subst, if◌then◌else◌, ℤ, pos, arith}
use Rattle.std.specs.Prelude.{slice_get}
use Rattle.std.proofs.lemmas.List.{length-map}
use Rattle.std.specs.FinMap as fin
use Rattle.chor_base.specs.declared.names.NameId.{NameId}
use Rattle.chor_base.specs.declared.expr.Expr.{Expr}
use Rattle.chor_base.specs.declared.value.Value.{Value}
use Rattle.chor_base.specs.declared.value.Value.TheVariants.{Int, Bool as Truth, Text, Part as Endpoint}
use Rattle.chor_base.specs.declared.value.Load.{Load}
use Rattle.chor_base.specs.declared.value.Load.TheVariants.{Value as Carries, Label as Picks}
use Rattle.chor_base.specs.declared.event.Event.{Event}
use Rattle.chor_base.specs.declared.event.Event.TheVariants as event
use Rattle.chor_base.specs.Expr.{term_of, value_of, number_of, truth_of}
use Rattle.chor_base.specs.NameMap.{Variables}
use Rattle.chor_base.specs.Meaning.{Hosts, meaning_named, MayAnswer}
use Rattle.chor_semantics.specs.Choreography.{Ref, Live, ref_eq, among, named_in, OfValue, OfLabel, OfPart, Message, ValueSent, LabelSent, PartSent, Own, Sets as SetsIt, Shows, Asks, Node, Alone, Choreography, Then, Either}
use Rattle.chor_semantics.specs.Sources.{Procedure, Configuration}
use Rattle.chor_semantics.specs.Steps.{Effect, Moves, head, test, delay, both, unfolded, Answers, message_of, load_of, receipt, vars_of, Steps, procedure_named, body_of}
use Rattle.chor_semantics.proofs.Determined.{steps_agree}
use Rattle.endpoint_code.specs.declared.code.CodeId.{CodeId}
use Rattle.endpoint_code.specs.declared.code.CodeNode.{CodeNode}
use Rattle.endpoint_code.specs.declared.code.CodeNode.TheVariants as code
use Rattle.endpoint_code.specs.declared.endpoints.Procedure.{Procedure as ProcedureCode}
use Rattle.endpoint_code.specs.declared.endpoints.Channel.{Channel}
use Rattle.endpoint_code.specs.declared.endpoints.Endpoints.{Endpoints}
use Rattle.endpoint_code.specs.Network.{Sessions, Machine, NetworkState, Place, Makes, place_of, place_in, body_place, node_makes, place_makes, machine_makes, makes, moved, with_queue, queue_of, has_room, put_if, puts, part_load, takes, takes_from, went, takes_value, takes_label, takes_part, in_arm, Taking, Goes as GoesOn, arm_at, node_at, at_node as network_node, procedure_of, passed, PlaceAnswers, MachineAnswers, NetworkSteps, acts}
use Rattle.endpoint_code.specs.Faults.{begins_with_call}
use Rattle.well_formed.specs.Follows.{SessionMap, StandsFor, passed as passed_names, Act, Puts, Gets, Does, Joins, Into, Label, Part, message_received, act_of, Agrees, Nowhere, HoldsAt, arm_place, place_after, Forks, fork_of, BothHold, Nothing, Body, standing, body_standing, HoldsOf, follows_act, follows_test, follows_call, Follows}
use Rattle.well_formed.specs.WellFormed.{Scope, IsProcess, scope_after, NodeFits, CommunicationFits, TransitFits, CallFits, IsWellFormed, IsPlain}
use Rattle.well_formed.specs.Linear.{ParameterSets}
use Rattle.well_formed.specs.Holders.{ListedHolders}
use Rattle.well_formed.proofs.Absent.{IsNoDeeper, IsAbsent}
use Rattle.correspondence.proofs.Acts.{IsBy, own_event}
use Rattle.correspondence.proofs.Bodies.{Bodies}
use Rattle.correspondence.specs.Corresponds.{session_map, live_scope, Corresponds}
use Rattle.well_formed.proofs.References.{left_or, or_left, clash, self_ref, act_none, none_act, NotStart, actor_of, passed_over}
use Rattle.well_formed.proofs.Heads.{Headed, sends, gets, owns, starts, headed, owned_event, decided}
use Rattle.correspondence.proofs.Calls.{one_less, through}
use Rattle.well_formed.proofs.Fits.{IsPlainEffect, plain_effect}
use Rattle.well_formed.proofs.LinearKept.{same_pid}
use Rattle.correspondence.proofs.Actor.{NotTest, goes, decides, outsider, made_event}
use Rattle.correspondence.proofs.Queues.{First, got_first}
use Rattle.correspondence.proofs.Machines.{vars_at, stands_live, NotCall, Stood, stood_at}
use Rattle.correspondence.proofs.Alone.{plain_vars}
use Rattle.correspondence.proofs.ByNode.{acts_too}
use Rattle.correspondence.specs.Premises.{NoCallFirst, HasRoomFor}

module _ (ks : List Channel) (e : Endpoints) (procs : List Procedure) (hosts : Hosts) (vars : List Variables) (sid : ℕ)
    (bodies : (sc : Scope) (f : NameId) (d : ℕ) (ps ss : List Ref) (c : Choreography) → body_of (procedure_named procs f) d ps ss ≡ Some c → CallFits procs sc f d ps ss → IsWellFormed ks procs sc c)
    (outside : (sc : Scope) (p : Ref) (f : NameId) (d : ℕ) (ps ss : List Ref) (c : Choreography) → body_of (procedure_named procs f) d ps ss ≡ Some c → CallFits procs sc f d ps ss → among p ps ≡ false → IsNoDeeper d p → IsAbsent p c)
    (x : Event) (ns : NotStart x) where
  -- who makes an event is named at the head that makes it
  head_named : (v : ℤ) (n : Node) (c d : Choreography) (f : Effect) → Headed vars sid v n c x f d → among (Live (actor_of x)) (named_in n) ≡ true
  head_named v n c d f (sends s r a b q w m is made ev k left) = ap (λ y. among (Live (actor_of x)) (named_in y)) is ∙ or_left _ _ (ap (λ y. ref_eq (Live y) (Live r)) (ap actor_of ev) ∙ self_ref (Live r))
  head_named v n c d f (gets s r a b m is ev k left) = ap (λ y. among (Live (actor_of x)) (named_in y)) is ∙ or_left _ _ (ap (λ y. ref_eq (Live y) (Live r)) (ap actor_of ev) ∙ self_ref (Live r))
  head_named v n c d f (owns r o is made) = ap (λ y. among (Live (actor_of x)) (named_in y)) is ∙ or_left _ _ (ap (λ y. ref_eq (Live y) (Live r)) ((owned_event vars sid v (vars_of vars r) r o c d x f made).1) ∙ self_ref (Live r))
  head_named v n c d f (starts ch k s active serve q ps is lives ev g left) = absurd (subst NotStart ev ns)

  node_below : (sc : Scope) (n : Node) → NodeFits ks sc n → (p : ℕ) → (v : ℤ) (c d : Choreography) (f : Effect) → Headed vars sid v n c x f d → actor_of x ≡ p → p < sc.pid
  node_below sc n w p v c d f (sends s r a b q z m is made ev k left) i = let t : CommunicationFits sc (Live s) (Live r) q z = subst (NodeFits ks sc) is w in subst (λ y. y < sc.pid) (sym (ap actor_of ev) ∙ i) t.sender
  node_below sc n w p v c d f (gets s r a b m is ev k left) i = let t : TransitFits sc s m (Live r) = subst (NodeFits ks sc) is w in subst (λ y. y < sc.pid) (sym (ap actor_of ev) ∙ i) t.receiver
  node_below sc n w p v c d f (owns r o is made) i = let t : NodeFits ks sc (Alone (Live r) o) = subst (NodeFits ks sc) is w in subst (λ y. y < sc.pid) (sym (owned_event vars sid v (vars_of vars r) r o c d x f made).1 ∙ i) t.0
  node_below sc n w p v c d f (starts ch k s active serve q ps is lives ev g left) i = absurd (subst NotStart ev ns)

  -- who acts is live
  pub actor_below : (sc : Scope) {c d : Choreography} {f : Effect} → IsWellFormed ks procs sc c → Moves procs hosts vars sid c x f d → actor_of x < sc.pid
  actor_below sc w (head {n = n} {c = c} {d = d} {f = f} v a h) = node_below sc n w.0 (actor_of x) v c d f (headed vars sid v n c x f d h) refl
  actor_below sc w (test {p = r} {x = g} {c = c} {c' = c'} {d = d} {f = f} h) =
      let i = decided vars r g c c' x f d h in
      let t : IsProcess sc (Live i.p) = subst (IsProcess sc) i.is w.0.0 in subst (λ y. y < sc.pid) (sym (ap actor_of i.event)) t
  actor_below sc w (delay {n = n} u mv) = subst (λ y. actor_of x < y) (same_pid sc n) (actor_below (scope_after sc n) w.1 mv)
  actor_below sc w (both u mv mw) = actor_below sc w.1 mv
  actor_below sc w (unfolded {h = h} {k = k} {ps = ps} {ss = ss} {c = c} u mv) = actor_below sc (bodies sc h k ps ss c u w) mv

  -- its code stands somewhere
  pub nowhere : (p : ℕ) (mine : actor_of x ≡ p) (q : CodeId) (m : SessionMap) → standing e (node_at e q) m ≡ Nothing → (sc : Scope) {c d : Choreography} {f : Effect} → IsWellFormed ks procs sc c → ((n : ℕ) → Follows e procs n (Live p) c q m) → Moves procs hosts vars sid c x f d → ⊥
  nowhere p mine q m none' sc w every (head {n = n} {c = c} {d = d} {f = f} v a h) = go (act_of n (Live p)) refl (every 1)
    where
      here : among (Live p) (named_in n) ≡ true
      here = ap (λ y. among (Live y) (named_in n)) (sym mine) ∙ head_named v n c d f (headed vars sid v n c x f d h)

      go : (o : Option Act) → act_of n (Live p) ≡ o → follows_act e o (Follows e procs 0 (Live p) (Then n c)) (Follows e procs 1 (Live p) c) q m → ⊥
      go None i z = clash here (act_none n (Live p) i)
      go (Some g) i z = subst (λ s. HoldsOf (Follows e procs 0 (Live p) (Then n c)) (λ y. Agrees m y g × HoldsAt (Follows e procs 1 (Live p) c) (place_after m y g)) s) none' z
  nowhere p mine q m none' sc w every (test {p = r} {x = g} {c = c} {c' = c'} {d = d} {f = f} h) =
      let i = decided vars r g c c' x f d h in
      let own : ref_eq (Live p) r ≡ true = ap (ref_eq (Live p)) i.is ∙ ap (λ y. ref_eq (Live p) (Live y)) (sym (ap actor_of i.event) ∙ mine) ∙ self_ref (Live p) in
      subst (λ s. HoldsOf (Follows e procs 0 (Live p) (Either r g c c')) (λ y. BothHold (Follows e procs 1 (Live p) c) (Follows e procs 1 (Live p) c') m g (fork_of y)) s) none'
      (subst (λ b. follows_test e b g (Follows e procs 0 (Live p) (Either r g c c')) (Follows e procs 1 (Live p) c) (Follows e procs 1 (Live p) c') q m) own (every 1))
  nowhere p mine q m none' sc w every (delay {n = node} {c = c} u mv) =
      let none = none_act node (Live p) (subst (λ y. among (Live y) (named_in node) ≡ false) mine (passed_over x (named_in node) ns u)) in
      nowhere p mine q m none' (scope_after sc node) w.1 (one_less e procs (Live p) q m c (λ n. subst (λ o. follows_act e o (Follows e procs n (Live p) (Then node c)) (Follows e procs (suc n) (Live p) c) q m) none (every (suc n)))) mv
  nowhere p mine q m none' sc w every (both {p = t} {x = g} {c = c} {d = d} u mv mw) =
      let none : ref_eq (Live p) t ≡ false = left_or _ _ (subst (λ y. among (Live y) (t ∷ []) ≡ false) mine (passed_over x (t ∷ []) ns u)) in
      nowhere p mine q m none' sc w.1 (one_less e procs (Live p) q m c (λ n. (subst (λ y. follows_test e y g (Follows e procs n (Live p) (Either t g c d)) (Follows e procs (suc n) (Live p) c) (Follows e procs (suc n) (Live p) d) q m) none (every (suc n))).0)) mv
  nowhere p mine q m none' sc w every (unfolded {h = g} {k = k} {ps = ps} {ss = ss} {c = c} u mv) = go (among (Live p) ps) refl (λ every'. nowhere p mine q m none' sc (bodies sc g k ps ss c u w) every' mv)
    where
      go : (z : Bool) → among (Live p) ps ≡ z → (((n : ℕ) → Follows e procs n (Live p) c q m) → ⊥) → ⊥
      go true i ih = ih (λ n. subst (λ o. follows_call e true o (Follows e procs n (Live p)) q m) u (subst (λ z. follows_call e z (body_of (procedure_named procs g) k ps ss) (Follows e procs n (Live p)) q m) i (every (suc n))))
      go false i ih = outsider ks e procs hosts vars sid bodies outside p x ns mine sc (bodies sc g k ps ss c u w) (outside sc (Live p) g k ps ss c u w i tt) mv

  -- a host function's answer is one that it may give
  pub answered : (p : ℕ) (y fn : NameId) (a b v : ℤ) → x ≡ event.Host p y fn a b v → {c d : Choreography} {f : Effect} → Moves procs hosts vars sid c x f d → MayAnswer (meaning_named hosts fn) a b v
  answered p y fn a b v is (head {n = n} {c = c} {d = d} {f = f} z an h) = at (headed vars sid z n c x f d h)
    where
      at : Headed vars sid z n c x f d → MayAnswer (meaning_named hosts fn) a b v
      at (sends s r a' b' q w m here made ev k left) = let i : event.Host p y fn a b v ≡ event.Send r s a' b' (load_of m) = sym is ∙ ev in absurd cc
      at (gets s r a' b' m here ev k left) = let i : event.Host p y fn a b v ≡ event.Recv r s a' b' (load_of m) = sym is ∙ ev in absurd cc
      at (owns r o here made) = own o here (made_event (vars_of vars r) r z o c d x f made)
        where
          own : (o : Own) → n ≡ Alone (Live r) o → x ≡ own_event (vars_of vars r) r z o → MayAnswer (meaning_named hosts fn) a b v
          own (SetsIt t g) u i = let j : event.Host p y fn a b v ≡ own_event (vars_of vars r) r z (SetsIt t g) = sym is ∙ i in absurd cc
          own (Shows g) u i = let j : event.Host p y fn a b v ≡ own_event (vars_of vars r) r z (Shows g) = sym is ∙ i in absurd cc
          own (Asks t g k l) u i =
              let j : event.Host r t g (number_of (value_of k (vars_of vars r))) (number_of (value_of l (vars_of vars r))) z ≡ event.Host p y fn a b v = sym i ∙ is in
              let an' : MayAnswer (meaning_named hosts g) (number_of (value_of k (vars_of vars r))) (number_of (value_of l (vars_of vars r))) z = subst (λ w. Answers hosts vars w z) u an in
              let gs : g ≡ fn = cc in let ks' : number_of (value_of k (vars_of vars r)) ≡ a = cc in let ls : number_of (value_of l (vars_of vars r)) ≡ b = cc in let zs : z ≡ v = cc in
              subst (λ w. MayAnswer (meaning_named hosts fn) a b w) zs (subst (λ w. MayAnswer (meaning_named hosts fn) a w z) ls (subst (λ w. MayAnswer (meaning_named hosts fn) w (number_of (value_of l (vars_of vars r))) z) ks' (subst (λ w. MayAnswer (meaning_named hosts w) (number_of (value_of k (vars_of vars r))) (number_of (value_of l (vars_of vars r))) z) gs an')))
      at (starts ch k s active serve q ps here lives ev g left) = absurd (subst NotStart ev ns)
  answered p y fn a b v is (test {p = r} {x = g} {c = c} {c' = c'} {d = d} {f = f} h) = let i : event.Host p y fn a b v ≡ event.Test _ _ = sym is ∙ (decided vars r g c c' x f d h).event in absurd cc
  answered p y fn a b v is (delay u mv) = answered p y fn a b v is mv
  answered p y fn a b v is (both u mv mw) = answered p y fn a b v is mv
  answered p y fn a b v is (unfolded u mv) = answered p y fn a b v is mv

-- ---- where it stands

pub machine_there : (ms : List Machine) (p : ℕ) → p < length ms → (m : Machine) × (slice_get ms p ≡ Some m)
machine_there [] p h = absurd (omega (arith, h))
machine_there (m ∷ ms) zero h = (m, refl)
machine_there (m ∷ ms) (suc p) h = machine_there ms p (omega (arith, h))

not_call : (d : CodeNode) → begins_with_call (Some d) ≡ false → NotCall d
not_call (code.Call f p ss) h = absurd cc
not_call _ h = tt

pub record PlaceThere (e : Endpoints) (machine : Machine) : Type 0 where
  pub place : Place
  pub at : place_of e machine ≡ Some place
  pub not_call : NotCall place.node

module _ (e : Endpoints) (procs : List Procedure) (no_call : NoCallFirst e) (p : ℕ) (c : Choreography) (somewhere : (q : CodeId) (m : SessionMap) → standing e (node_at e q) m ≡ Nothing → ((n : ℕ) → Follows e procs n (Live p) c q m) → ⊥) where
  pub place_there : (machine : Machine) → ((n : ℕ) → Follows e procs n (Live p) c machine.at (session_map machine.sessions)) → PlaceThere e machine
  place_there machine f = go (node_at e machine.at) refl
    where
      go : (o : Option CodeNode) → node_at e machine.at ≡ o → PlaceThere e machine
      go None i = absurd (somewhere machine.at (session_map machine.sessions) (ap (λ y. standing e y (session_map machine.sessions)) i) f)
      go (Some (code.Call g t ss)) i = at_proc (procedure_of e.procedures g t) refl
        where
          calls : standing e (node_at e machine.at) (session_map machine.sessions) ≡ body_standing (procedure_of e.procedures g t) ss (session_map machine.sessions)
          calls = ap (λ y. standing e y (session_map machine.sessions)) i

          at_proc : (o : Option ProcedureCode) → procedure_of e.procedures g t ≡ o → PlaceThere e machine
          at_proc None j = absurd (somewhere machine.at (session_map machine.sessions) (calls ∙ ap (λ y. body_standing y ss (session_map machine.sessions)) j) f)
          at_proc (Some b) j = at_node (node_at e b.body) refl
            where
              body : standing e (node_at e machine.at) (session_map machine.sessions) ≡ Body b.body (passed_names b.sessions ss (session_map machine.sessions))
              body = calls ∙ ap (λ y. body_standing y ss (session_map machine.sessions)) j

              at_node : (o : Option CodeNode) → node_at e b.body ≡ o → PlaceThere e machine
              at_node None k = absurd (somewhere b.body (passed_names b.sessions ss (session_map machine.sessions)) (ap (λ y. standing e y (passed_names b.sessions ss (session_map machine.sessions))) k) (λ n. through e procs (Live p) machine.at (session_map machine.sessions) b.body (passed_names b.sessions ss (session_map machine.sessions)) body n c f))
              at_node (Some d) k = record {
                place = record { node = d; sessions = passed b.sessions ss machine.sessions };
                at = ap (λ y. place_in e y machine.sessions) i ∙ ap (λ y. body_place e y ss machine.sessions) j ∙ ap (λ y. network_node y (passed b.sessions ss machine.sessions)) k;
                not_call = not_call d (ap begins_with_call (sym k) ∙ no_call g t b j);
              }
      go (Some d) i = record { place = record { node = d; sessions = machine.sessions }; at = ap (λ y. place_in e y machine.sessions) i; not_call = tt }

-- ---- the network's step

module _ (e : Endpoints) (procs : List Procedure) (sets : NameId → ParameterSets) (lists : ListedHolders) (hosts : Hosts) (bd : Bodies e procs sets lists) (no_call : NoCallFirst e) (cap : Option ℕ) (c : Configuration) (n : NetworkState) (co : Corresponds e procs sets lists c n) where
  count : length n.machines ≡ length c.vars
  count = sym (length-map n.machines (λ m. m.vars)) ∙ ap length co.vars

  -- the network makes the event
  pub record CanAct (p : ℕ) (x : Event) : Type 0 where
    pub v : ℤ
    pub after : NetworkState
    pub answers : MachineAnswers hosts e (slice_get n.machines p) v
    pub makes_it : makes e cap n p v ≡ Some (Makes x after)

  module _ (p : ℕ) (machine : Machine) (there : slice_get n.machines p ≡ Some machine) (pl : PlaceThere e machine) where
    abbrev place : Place
    place = pl.place

    abbrev m : SessionMap
    m = session_map place.sessions

    can : (x : Event) (v : ℤ) (h : CodeNode) → place.node ≡ h → PlaceAnswers hosts machine.vars (Some (record { node = h; sessions = place.sessions })) v → (m' : NetworkState) → node_makes cap n p v machine.vars place.sessions h ≡ Some (Makes x m') → CanAct p x
    can x v h is an m' made = record {
      v = v;
      after = m';
      answers = subst (λ y. MachineAnswers hosts e y v) (sym there) (subst (λ y. PlaceAnswers hosts machine.vars y v) (sym pl.at) (subst (λ y. PlaceAnswers hosts machine.vars (Some (record { node = y; sessions = place.sessions })) v) (sym is) an));
      makes_it = ap (machine_makes e cap n p v) there ∙ ap (place_makes cap n p v machine.vars) pl.at ∙ ap (node_makes cap n p v machine.vars place.sessions) is ∙ made;
    }

    mine : vars_of c.vars p ≡ machine.vars
    mine = ap (λ y. vars_of y p) (sym co.vars) ∙ vars_at n.machines p machine there

    -- a load that can be put
    puts_it : (at' : CodeId) (ss : Sessions) (b : NameId) (o : Option (ℕ × NameId)) (i : Option Load) (s : ℕ) (a : NameId) (l : Load) → o ≡ Some (s, a) → i ≡ Some l → has_room cap (queue_of n (s, a, b)) ≡ true → puts cap (moved n p at' machine.vars ss) p b o i ≡ Some (Makes (event.Send p s a b l) (with_queue (moved n p at' machine.vars ss) (s, a, b) (queue_of n (s, a, b) ++ l ∷ [])))
    puts_it at' ss b o i s a l oi ii room = ap (λ y. puts cap (moved n p at' machine.vars ss) p b y i) oi ∙ ap (λ y. puts cap (moved n p at' machine.vars ss) p b (Some (s, a)) y) ii ∙ ap (λ y. put_if y (moved n p at' machine.vars ss) p (s, a, b) l) room

    -- a load that can be taken
    takes_it : (a : NameId) (o : Option (ℕ × NameId)) (t : Load → Option Taking) (s : ℕ) (b : NameId) (l : Load) (rest : List Load) (at' : CodeId) (vars' : Variables) (ss : Sessions) → o ≡ Some (s, b) → queue_of n (s, a, b) ≡ l ∷ rest → t l ≡ Some (GoesOn at' vars' ss) → takes n p a o t ≡ Some (Makes (event.Recv p s a b l) (with_queue (moved n p at' vars' ss) (s, a, b) rest))
    takes_it a o t s b l rest at' vars' ss oi qi ti = ap (λ y. takes n p a y t) oi ∙ ap (takes_from n p (s, a, b) t) qi ∙ ap (went n p (s, a, b) l rest) ti

    -- the session that the machine has is the one of the event
    session_is : (k : NameId) (s : Ref) (r : NameId) (t : ℕ) → StandsFor m k s r → s ≡ Live t → fin.get place.sessions k.0 ≡ Some (t, r)
    session_is k s r t h i = at (stands_live place.sessions k s r h)
      where
        number : (j : ℕ) → Live j ≡ Live t → j ≡ t
        number j z = cc

        at : (j : ℕ) × (s ≡ Live j) × (fin.get place.sessions k.0 ≡ Some (j, r)) → fin.get place.sessions k.0 ≡ Some (t, r)
        at (j, z, w) = w ∙ ap (λ y. Some (y, r)) (number j (sym z ∙ i))

    module _ (x : Event) (f : Effect) (d : Choreography) (mv : Moves procs hosts c.vars c.sid c.tree x f d) (room : HasRoomFor cap n x) where
      -- each act that the code's head agrees with
      by_act : (h : CodeNode) → place.node ≡ h → (g : Act) → Agrees m h g → IsBy (vars_of c.vars p) p g x f → (place_after m h g ≡ Nowhere → ⊥) → CanAct p x
      by_act (code.Send k b y next) is (Puts s a b' (OfValue t z)) ag (t0, msg, si, made, ev, ef) somewhere =
          let value : Some (ValueSent (value_of t (vars_of c.vars p)) z) ≡ Some msg = made in
          let msg' : ValueSent (value_of t (vars_of c.vars p)) z ≡ msg = cc in
          let load : Carries (value_of (term_of y) machine.vars) ≡ load_of msg = ap (λ w. Carries (value_of w machine.vars)) ag.2 ∙ ap (λ w. Carries (value_of t w)) (sym mine) ∙ ap load_of msg' in
          let event' : event.Send p t0 a b (load_of msg) ≡ x = ap (λ w. event.Send p t0 a w (load_of msg)) ag.1 ∙ sym ev in
          let room' : has_room cap (queue_of n (t0, a, b)) ≡ true = subst (HasRoomFor cap n) (sym event') room in
          can x (pos 0) (code.Send k b y next) is tt _ (puts_it next place.sessions b (fin.get place.sessions k.0) (Some (Carries (value_of (term_of y) machine.vars))) t0 a (load_of msg) (session_is k s a t0 ag.0 si) (ap Some load) room' ∙ ap (λ w. Some (Makes w (with_queue (moved n p next machine.vars place.sessions) (t0, a, b) (queue_of n (t0, a, b) ++ load_of msg ∷ [])))) event')
      by_act (code.Pick k b l next) is (Puts s a b' (OfLabel t)) ag (t0, msg, si, made, ev, ef) somewhere =
          let msg' : LabelSent t ≡ msg = cc in
          let load : Picks l ≡ load_of msg = ap Picks ag.2 ∙ ap load_of msg' in
          let event' : event.Send p t0 a b (load_of msg) ≡ x = ap (λ w. event.Send p t0 a w (load_of msg)) ag.1 ∙ sym ev in
          let room' : has_room cap (queue_of n (t0, a, b)) ≡ true = subst (HasRoomFor cap n) (sym event') room in
          can x (pos 0) (code.Pick k b l next) is tt _ (puts_it next place.sessions b (fin.get place.sessions k.0) (Some (Picks l)) t0 a (load_of msg) (session_is k s a t0 ag.0 si) (ap Some load) room' ∙ ap (λ w. Some (Makes w (with_queue (moved n p next machine.vars place.sessions) (t0, a, b) (queue_of n (t0, a, b) ++ load_of msg ∷ [])))) event')
      by_act (code.Throw k b h next) is (Puts s a b' (OfPart u r)) ag (t0, msg, si, made, ev, ef) somewhere =
          let z = stands_live place.sessions h u r ag.2 in
          let made' : Some (PartSent z.0 r) ≡ Some msg = ap (λ w. message_of (vars_of c.vars p) (OfPart w r)) (sym z.1) ∙ made in
          let msg' : PartSent z.0 r ≡ msg = cc in
          let load : part_load (fin.get place.sessions h.0) ≡ Some (load_of msg) = ap part_load z.2 ∙ ap (λ w. Some (load_of w)) msg' in
          let event' : event.Send p t0 a b (load_of msg) ≡ x = ap (λ w. event.Send p t0 a w (load_of msg)) ag.1 ∙ sym ev in
          let room' : has_room cap (queue_of n (t0, a, b)) ≡ true = subst (HasRoomFor cap n) (sym event') room in
          can x (pos 0) (code.Throw k b h next) is tt _ (puts_it next (fin.remove place.sessions h.0) b (fin.get place.sessions k.0) (part_load (fin.get place.sessions h.0)) t0 a (load_of msg) (session_is k s a t0 ag.0 si) load room' ∙ ap (λ w. Some (Makes w (with_queue (moved n p next machine.vars (fin.remove place.sessions h.0)) (t0, a, b) (queue_of n (t0, a, b) ++ load_of msg ∷ [])))) event')
      by_act (code.Recv k a y next) is (Gets s a' b (Into z)) ag (t0, msg, si, rec, ev, ef) somewhere = at msg rec ev (plain_effect e.channels procs hosts c.vars c.sid bd.fit (plain_vars e procs sets lists hosts bd c n co) (live_scope c) co.well_formed mv) ef
        where
          at : (msg : Message) → Into z ≡ message_received msg → x ≡ event.Recv p t0 a' b (load_of msg) → IsPlainEffect e.channels procs hosts c.vars c.sid bd.fit (plain_vars e procs sets lists hosts bd c n co) f → f ≡ receipt p msg → CanAct p x
          at (LabelSent l) rec ev pe ef = absurd cc
          at (PartSent j r) rec ev pe ef = absurd cc
          at (ValueSent v z') rec ev pe ef =
              let mv' : Moves procs hosts c.vars c.sid c.tree (event.Recv p t0 a' b (Carries v)) f d = subst (λ w. Moves procs hosts c.vars c.sid c.tree w f d) ev mv in
              let got = got_first e.channels procs hosts c.vars c.sid lists bd.fit bd.holders_fit bd.empty (plain_vars e procs sets lists hosts bd c n co) p t0 a' b (Carries v) (live_scope c) (co.holders (Live t0) b) co.well_formed (co.holders_fit (Live t0) b) (queue_of n (t0, a', b)) (co.in_transit (t0, a', b)) mv' in
              let plain : IsPlain v = subst (IsPlainEffect e.channels procs hosts c.vars c.sid bd.fit (plain_vars e procs sets lists hosts bd c n co)) ef pe in
              let event' : event.Recv p t0 a b (Carries v) ≡ x = ap (λ w. event.Recv p t0 w b (Carries v)) ag.1 ∙ sym ev in
              can x (pos 0) (code.Recv k a y next) is tt _ (takes_it a (fin.get place.sessions k.0) (takes_value next machine.vars place.sessions y) t0 b (Carries v) got.rest next (fin.insert machine.vars y.0 v) place.sessions (session_is k s b t0 ag.0 si) (ap (λ w. queue_of n (t0, w, b)) ag.1 ∙ got.is) (taken v plain) ∙ ap (λ w. Some (Makes w (with_queue (moved n p next (fin.insert machine.vars y.0 v) place.sessions) (t0, a, b) got.rest))) event')
            where
              taken : (v : Value) → IsPlain v → takes_value next machine.vars place.sessions y (Carries v) ≡ Some (GoesOn next (fin.insert machine.vars y.0 v) place.sessions)
              taken (Int i) h = refl
              taken (Truth i) h = refl
              taken (Text i) h = refl
              taken (Endpoint i j) h = absurd h
      by_act (code.Branch k a arms) is (Gets s a' b (Label l)) ag (t0, msg, si, rec, ev, ef) somewhere = at msg rec ev
        where
          at : (msg : Message) → Label l ≡ message_received msg → x ≡ event.Recv p t0 a' b (load_of msg) → CanAct p x
          at (ValueSent v z) rec ev = absurd cc
          at (PartSent j r) rec ev = absurd cc
          at (LabelSent l') rec ev =
              let same : l ≡ l' = cc in
              let mv' : Moves procs hosts c.vars c.sid c.tree (event.Recv p t0 a' b (Picks l')) f d = subst (λ w. Moves procs hosts c.vars c.sid c.tree w f d) ev mv in
              let got = got_first e.channels procs hosts c.vars c.sid lists bd.fit bd.holders_fit bd.empty (plain_vars e procs sets lists hosts bd c n co) p t0 a' b (Picks l') (live_scope c) (co.holders (Live t0) b) co.well_formed (co.holders_fit (Live t0) b) (queue_of n (t0, a', b)) (co.in_transit (t0, a', b)) mv' in
              let event' : event.Recv p t0 a b (Picks l') ≡ x = ap (λ w. event.Recv p t0 w b (Picks l')) ag.1 ∙ sym ev in
              arm (arm_at arms l) refl same got event'
            where
              arm : (o : Option CodeId) → arm_at arms l ≡ o → l ≡ l' → First e.channels procs hosts c.vars c.sid lists bd.fit bd.holders_fit bd.empty (plain_vars e procs sets lists hosts bd c n co) p t0 a' b (Picks l') (queue_of n (t0, a', b)) d → event.Recv p t0 a b (Picks l') ≡ x → CanAct p x
              arm None u same got event' = absurd (somewhere (ap (arm_place m) u))
              arm (Some next) u same got event' = can x (pos 0) (code.Branch k a arms) is tt _ (takes_it a (fin.get place.sessions k.0) (takes_label arms machine.vars place.sessions) t0 b (Picks l') got.rest next machine.vars place.sessions (session_is k s b t0 ag.0 si) (ap (λ w. queue_of n (t0, w, b)) ag.1 ∙ got.is) (ap (λ w. in_arm w machine.vars place.sessions) (ap (arm_at arms) (sym same) ∙ u)) ∙ ap (λ w. Some (Makes w (with_queue (moved n p next machine.vars place.sessions) (t0, a, b) got.rest))) event')
      by_act (code.Catch k a h next) is (Gets s a' b (Part u r)) ag (t0, msg, si, rec, ev, ef) somewhere = at msg rec ev
        where
          at : (msg : Message) → Part u r ≡ message_received msg → x ≡ event.Recv p t0 a' b (load_of msg) → CanAct p x
          at (ValueSent v z) rec ev = absurd cc
          at (LabelSent l) rec ev = absurd cc
          at (PartSent j q) rec ev =
              let mv' : Moves procs hosts c.vars c.sid c.tree (event.Recv p t0 a' b (Carries (Endpoint j q))) f d = subst (λ w. Moves procs hosts c.vars c.sid c.tree w f d) ev mv in
              let got = got_first e.channels procs hosts c.vars c.sid lists bd.fit bd.holders_fit bd.empty (plain_vars e procs sets lists hosts bd c n co) p t0 a' b (Carries (Endpoint j q)) (live_scope c) (co.holders (Live t0) b) co.well_formed (co.holders_fit (Live t0) b) (queue_of n (t0, a', b)) (co.in_transit (t0, a', b)) mv' in
              let event' : event.Recv p t0 a b (Carries (Endpoint j q)) ≡ x = ap (λ w. event.Recv p t0 w b (Carries (Endpoint j q))) ag.1 ∙ sym ev in
              can x (pos 0) (code.Catch k a h next) is tt _ (takes_it a (fin.get place.sessions k.0) (takes_part next machine.vars place.sessions h) t0 b (Carries (Endpoint j q)) got.rest next machine.vars (fin.insert place.sessions h.0 (j, q)) (session_is k s b t0 ag.0 si) (ap (λ w. queue_of n (t0, w, b)) ag.1 ∙ got.is) refl ∙ ap (λ w. Some (Makes w (with_queue (moved n p next machine.vars (fin.insert place.sessions h.0 (j, q))) (t0, a, b) got.rest))) event')
      by_act (code.Set y g next) is (Does (SetsIt z t)) ag (v, ev, ef) somewhere =
          let event' : event.Set p y (value_of (term_of g) machine.vars) ≡ x = ap (λ w. event.Set p w (value_of (term_of g) machine.vars)) ag.0 ∙ ap (λ w. event.Set p z (value_of w machine.vars)) ag.1 ∙ ap (λ w. event.Set p z (value_of t w)) (sym mine) ∙ sym ev in
          can x v (code.Set y g next) is tt _ (ap (λ w. Some (Makes w (moved n p next (fin.insert machine.vars y.0 (value_of (term_of g) machine.vars)) place.sessions))) event')
      by_act (code.Show g next) is (Does (Shows t)) ag (v, ev, ef) somewhere =
          let event' : event.Show p (value_of (term_of g) machine.vars) ≡ x = ap (λ w. event.Show p (value_of w machine.vars)) ag ∙ ap (λ w. event.Show p (value_of t w)) (sym mine) ∙ sym ev in
          can x v (code.Show g next) is tt _ (ap (λ w. Some (Makes w (moved n p next machine.vars place.sessions))) event')
      by_act (code.Host y fn g h next) is (Does (Asks z gn t u)) ag (v, ev, ef) somewhere =
          let event' : event.Host p y fn (number_of (value_of (term_of g) machine.vars)) (number_of (value_of (term_of h) machine.vars)) v ≡ x =
          ap (λ w. event.Host p w fn (number_of (value_of (term_of g) machine.vars)) (number_of (value_of (term_of h) machine.vars)) v) ag.0
          ∙ ap (λ w. event.Host p z w (number_of (value_of (term_of g) machine.vars)) (number_of (value_of (term_of h) machine.vars)) v) ag.1
          ∙ ap (λ w. event.Host p z gn (number_of (value_of w machine.vars)) (number_of (value_of (term_of h) machine.vars)) v) ag.2
          ∙ ap (λ w. event.Host p z gn (number_of (value_of t machine.vars)) (number_of (value_of w machine.vars)) v) ag.3
          ∙ ap (λ w. event.Host p z gn (number_of (value_of t w)) (number_of (value_of u w)) v) (sym mine) ∙ sym ev in
          let an = answered e.channels e procs hosts c.vars c.sid bd.fit bd.outside x (subst NotStart event' tt) p y fn (number_of (value_of (term_of g) machine.vars)) (number_of (value_of (term_of h) machine.vars)) v (sym event') mv in
          can x v (code.Host y fn g h next) is an _ (ap (λ w. Some (Makes w (moved n p next (fin.insert machine.vars y.0 (Int v)) place.sessions))) event')
      by_act (code.Join ch r k next) is (Joins b t s) ag by somewhere = absurd by
      by_act _ is g ag by somewhere = absurd ag

      -- and its own conditional
      by_fork : (y : Expr) (first second : CodeId) (h : CodeNode) → place.node ≡ h → fork_of h ≡ Forks y first second → x ≡ event.Test p (truth_of (value_of (term_of y) (vars_of c.vars p))) → CanAct p x
      by_fork y first second (code.If z i j) is fo ev =
          let zs : z ≡ y = cc in
          let event' : event.Test p (truth_of (value_of (term_of z) machine.vars)) ≡ x = ap (λ w. event.Test p (truth_of (value_of (term_of w) machine.vars))) zs ∙ ap (λ w. event.Test p (truth_of (value_of (term_of y) w))) (sym mine) ∙ sym ev in
          can x (pos 0) (code.If z i j) is tt _ (ap (λ w. Some (Makes w (moved n p (if truth_of (value_of (term_of z) machine.vars) then i else j) machine.vars place.sessions))) event')
      by_fork y first second _ is fo ev = absurd cc

  module _ (x : Event) (ns : NotStart x) (f : Effect) (d : Choreography) (mv : Moves procs hosts c.vars c.sid c.tree x f d) (room : HasRoomFor cap n x) where
    -- what one process does in the choreography, it can do in the network
    pub acts_back : CanAct (actor_of x) x
    acts_back = at (machine_there n.machines (actor_of x) (subst (λ y. actor_of x < y) (sym count) (actor_below e.channels e procs hosts c.vars c.sid bd.fit bd.outside x ns (live_scope c) co.well_formed mv)))
      where
        somewhere : (q : CodeId) (m : SessionMap) → standing e (node_at e q) m ≡ Nothing → ((k : ℕ) → Follows e procs k (Live (actor_of x)) c.tree q m) → ⊥
        somewhere q m h every = nowhere e.channels e procs hosts c.vars c.sid bd.fit bd.outside x ns (actor_of x) refl q m h (live_scope c) co.well_formed every mv

        at : (m : Machine) × (slice_get n.machines (actor_of x) ≡ Some m) → CanAct (actor_of x) x
        at (machine, there) = stand (place_there e procs no_call (actor_of x) c.tree somewhere machine (co.follows (actor_of x) machine there))
          where
            stand : PlaceThere e machine → CanAct (actor_of x) x
            stand pl =
                let st = stood_at e procs (actor_of x) c.tree machine.at (node_at e machine.at) machine.sessions pl.place refl pl.at pl.not_call (co.follows (actor_of x) machine there) in
                kind x refl st
              where
                act : NotTest x → Stood e procs (actor_of x) c.tree pl.place → CanAct (actor_of x) x
                act nt st =
                    let g = goes e.channels e procs hosts c.vars c.sid bd.fit bd.outside (actor_of x) x ns refl st.q (session_map pl.place.sessions) pl.place.node st.stands nt (live_scope c) co.well_formed st.follows mv in
                    by_act (actor_of x) machine there pl x f d mv room pl.place.node refl g.act g.agrees g.is (λ i. subst (HoldsAt (Follows e procs 0 (Live (actor_of x)) d)) i (g.follows 0))

                test_it : (b : Bool) → x ≡ event.Test (actor_of x) b → Stood e procs (actor_of x) c.tree pl.place → CanAct (actor_of x) x
                test_it b i st =
                    let g = decides e.channels e procs hosts c.vars c.sid bd.fit bd.outside (actor_of x) x ns refl st.q (session_map pl.place.sessions) pl.place.node st.stands b i (live_scope c) co.well_formed st.follows mv in
                    by_fork (actor_of x) machine there pl x f d mv room g.y g.first g.second pl.place.node refl g.is g.event

                kind : (z : Event) → x ≡ z → Stood e procs (actor_of x) c.tree pl.place → CanAct (actor_of x) x
                kind (event.Start a s parts) i st = absurd (subst NotStart i ns)
                kind (event.Send q s a b l) i st = act (subst NotTest (sym i) tt) st
                kind (event.Recv q s a b l) i st = act (subst NotTest (sym i) tt) st
                kind (event.Test q b) i st = test_it b (i ∙ ap (λ w. event.Test w b) (sym (ap actor_of i))) st
                kind (event.Set q y v) i st = act (subst NotTest (sym i) tt) st
                kind (event.Show q v) i st = act (subst NotTest (sym i) tt) st
                kind (event.Host q y g a b v) i st = act (subst NotTest (sym i) tt) st

  -- A step of one process in the choreography is a step of the network, and the two correspond after it
  pub record DidBack (x : Event) (c' : Configuration) : Type 0 where
    pub after : NetworkState
    pub steps : NetworkSteps e hosts cap n x after
    pub corresponds : Corresponds e procs sets lists c' after

  pub acts_both : (x : Event) → NotStart x → (c' : Configuration) → Steps procs hosts c x c' → HasRoomFor cap n x → DidBack x c'
  acts_both x ns c' st room =
      let can' = acts_back x ns st.effect c'.tree st.moves room in
      let did = acts_too e procs sets lists hosts bd c n co cap (actor_of x) can'.v x can'.after can'.answers can'.makes_it in
      record { after = can'.after; steps = acts (actor_of x) can'.v can'.answers can'.makes_it; corresponds = subst (λ y. Corresponds e procs sets lists y can'.after) (steps_agree procs hosts c did.next c' x did.steps st) did.corresponds }
