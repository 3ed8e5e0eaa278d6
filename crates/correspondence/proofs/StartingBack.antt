-- A start of the choreography is a start of the network.
use Rattle.std.proofs.Common.{◌≡◌, inl, inr, ℕ, suc, ◌<◌, Bool, true, false, List, [], ◌∷◌, ◌++◌, length, Option, Some, None, refl, sym, ap, ◌∙◌, subst, if◌then◌else◌, ◌==◌}
use Rattle.std.specs.Prelude.{map, slice_get}
use Rattle.std.proofs.lemmas.List.{length-map}
use Rattle.std.specs.FinMap as fin
use Rattle.chor_base.specs.declared.names.NameId.{NameId}
use Rattle.chor_base.specs.declared.event.Event.{Event}
use Rattle.chor_base.specs.declared.event.Event.TheVariants as event
use Rattle.chor_base.specs.NameMap.{Variables}
use Rattle.chor_base.specs.Meaning.{Hosts}
use Rattle.chor_base.specs.Events.{actors_of}
use Rattle.chor_semantics.specs.Choreography.{Ref, Live, Named, ref_eq, among, meets, named_in, Choreography, Then, Either, number_for}
use Rattle.chor_semantics.specs.Sources.{Procedure, Configuration}
use Rattle.chor_semantics.specs.Steps.{Effect, Moves, head, test, delay, both, unfolded, live_parts, with_live, Steps, procedure_named, body_of}
use Rattle.chor_semantics.proofs.Determined.{steps_agree}
use Rattle.endpoint_code.specs.declared.code.CodeId.{CodeId}
use Rattle.endpoint_code.specs.declared.endpoints.Channel.{Channel}
use Rattle.endpoint_code.specs.declared.endpoints.Endpoints.{Endpoints}
use Rattle.endpoint_code.specs.Network.{Sessions, Machine, NetworkState, Makes, node_joins, place_joins, joins, one_joiner, joiners, with_machines, served, served_parts, channel_of, begun, one_pair, paired, starts_with, channel_starts, starts, node_at, NetworkSteps, begins}
use Rattle.well_formed.specs.Follows.{SessionMap, Joins, joins as joins_act, act_of, Agrees, HoldsAt, place_after, Nothing, standing, HoldsOf, follows_act, follows_test, follows_call, Follows}
use Rattle.well_formed.specs.WellFormed.{Scope, scope_after, NodeFits, StartFits, CallFits, IsWellFormed}
use Rattle.well_formed.specs.Linear.{ParameterSets}
use Rattle.well_formed.specs.Holders.{ListedHolders}
use Rattle.well_formed.proofs.Absent.{IsNoDeeper, IsAbsent}
use Rattle.correspondence.proofs.Bodies.{Bodies}
use Rattle.correspondence.specs.Corresponds.{live_session, session_map, live_scope, Corresponds}
use Rattle.well_formed.proofs.References.{left_or, none_act, true_and, true_eq}
use Rattle.well_formed.proofs.Heads.{headed, decided}
use Rattle.correspondence.proofs.Calls.{one_less}
use Rattle.correspondence.proofs.Renamed.{put_one, put_map, BodiesRenamed}
use Rattle.well_formed.proofs.LinearKept.{same_pid}
use Rattle.correspondence.proofs.Machines.{stood_at}
use Rattle.correspondence.proofs.Together.{new_as}
use Rattle.correspondence.proofs.Bystanders.{starts_here, no_test}
use Rattle.correspondence.proofs.Joiners.{In, apart_from, has_role, old_part, joiner, outsider, active_old}
use Rattle.correspondence.proofs.Starting.{begins_too}
use Rattle.correspondence.proofs.ToNetwork.{machine_there, PlaceThere, place_there}
use Rattle.correspondence.specs.Premises.{NoCallFirst}

-- what a start that the choreography makes is
pub record StartIs (ks : List Channel) (n : ℕ) (sid : ℕ) (a : NameId) (s : ℕ) (parts : List (NameId × ℕ)) : Type 0 where
  pub channel : Channel
  pub declared : channel_of ks a ≡ Some channel
  pub first : NameId × ℕ
  pub others : List (NameId × ℕ)
  pub roles : map (λ q. q.0) (first ∷ others) ≡ channel.active
  pub parts_are : parts ≡ (first ∷ others) ++ served_parts channel.serve n
  pub old : (r : NameId) (p : ℕ) → In (r, p) (first ∷ others) → p < n
  pub same_sid : s ≡ sid

live_roles : (active : List (Ref × NameId)) (ps : List (NameId × ℕ)) → live_parts active ≡ Some ps → map (λ q. q.0) ps ≡ map (λ p. p.1) active
live_roles [] ps h = let e : ◌≡◌ {A = List (NameId × ℕ)} [] ps = cc in ap (map (λ q. q.0)) (sym e)
live_roles ((Named x k, b) ∷ as') ps h = absurd cc
live_roles ((Live m, b) ∷ as') ps h = go (live_parts as') refl h (live_roles as')
  where
    go : (o : Option (List (NameId × ℕ))) → live_parts as' ≡ o → with_live (Live m) b o ≡ Some ps → ((qs : List (NameId × ℕ)) → live_parts as' ≡ Some qs → map (λ q. q.0) qs ≡ map (λ p. p.1) as') → map (λ q. q.0) ps ≡ b ∷ map (λ p. p.1) as'
    go None e j ih = absurd cc
    go (Some qs) e j ih = let k : (b, m) ∷ qs ≡ ps = cc in ap (map (λ q. q.0)) (sym k) ∙ ap (λ y. b ∷ y) (ih qs e)

module _ (ks : List Channel) (e : Endpoints) (procs : List Procedure) (hosts : Hosts) (vars : List Variables) (sid : ℕ)
    (bodies : (sc : Scope) (f : NameId) (d : ℕ) (ps ss : List Ref) (c : Choreography) → body_of (procedure_named procs f) d ps ss ≡ Some c → CallFits procs sc f d ps ss → IsWellFormed ks procs sc c)
    (outside : (sc : Scope) (p : Ref) (f : NameId) (d : ℕ) (ps ss : List Ref) (c : Choreography) → body_of (procedure_named procs f) d ps ss ≡ Some c → CallFits procs sc f d ps ss → among p ps ≡ false → IsNoDeeper d p → IsAbsent p c)
    (renamed : BodiesRenamed ks procs) where
  pub start_is : (a : NameId) (s : ℕ) (parts : List (NameId × ℕ)) (sc : Scope) → sc.pid ≡ length vars → {c d : Choreography} {x : Event} {f : Effect} → x ≡ event.Start a s parts → IsWellFormed ks procs sc c → Moves procs hosts vars sid c x f d → StartIs ks (length vars) sid a s parts
  start_is a s parts sc next is w (head {n = n} {c = c} {d = d} {e = x} {f = f} v z made) =
      let i = starts_here vars sid v n c d x f a s parts is (headed vars sid v n c x f d made) in
      let fit : StartFits ks sc a i.depth i.k i.active i.serve = subst (NodeFits ks sc) i.is w.0 in
      record {
        channel = fit.channel;
        declared = fit.declared;
        first = i.first;
        others = i.others;
        roles = live_roles i.active (i.first ∷ i.others) i.lives ∙ fit.active_roles;
        parts_are = i.parts_are ∙ ap (λ y. i.first ∷ (i.others ++ y)) (new_as i.serve (length vars) ∙ ap (λ y. served_parts y (length vars)) fit.service_roles);
        old = λ r p j. subst (λ y. p < y) next (active_old ks e procs hosts vars sid bodies outside renamed sc.pid p sc.processes r i.active (i.first ∷ i.others) i.lives fit.known j);
        same_sid = i.same_sid;
      }
  start_is a s parts sc next is w (test {p = t} {x = g} {c = c} {c' = c'} {d = d} {e = x} {f = f} made) = absurd (no_test vars t g c c' d x f a s parts is (decided vars t g c c' x f d made))
  start_is a s parts sc next is w (delay {n = n} u mv) = start_is a s parts (scope_after sc n) (same_pid sc n ∙ next) is w.1 mv
  start_is a s parts sc next is w (both u mv mw) = start_is a s parts sc next is w.1 mv
  start_is a s parts sc next is w (unfolded {h = g} {k = k} {ps = ps} {ss = ss} {c = c} u mv) = start_is a s parts sc next is (bodies sc g k ps ss c u w) mv

  -- the code of a process of the start stands somewhere
  pub nowhere_start : (r : NameId) (p : ℕ) → p < length vars → (a : NameId) (s : ℕ) (parts : List (NameId × ℕ)) → In (r, p) parts → (q : CodeId) (m : SessionMap) → standing e (node_at e q) m ≡ Nothing → (sc : Scope) → sc.pid ≡ length vars → {c d : Choreography} {x : Event} {f : Effect} → x ≡ event.Start a s parts → IsWellFormed ks procs sc c → ((n : ℕ) → Follows e procs n (Live p) c q m) → Moves procs hosts vars sid c x f d → ⊥
  nowhere_start r p old a s parts j q m none' sc next is w every (head {n = n} {c = c} {d = d} {e = x} {f = f} v z made) =
      let i = starts_here vars sid v n c d x f a s parts is (headed vars sid v n c x f d made) in
      let fit : StartFits ks sc a i.depth i.k i.active i.serve = subst (NodeFits ks sc) i.is w.0 in
      let role = has_role r p i.active (i.first ∷ i.others) i.lives fit.apart (old_part r p (length vars) (i.first ∷ i.others) i.serve old (subst (In (r, p)) i.parts_are j)) in
      let acts : act_of n (Live p) ≡ Some (Joins a r (Named i.k i.depth)) = ap (λ y. act_of y (Live p)) i.is ∙ ap (joins_act a (Named i.k i.depth)) role in
      subst (λ y. HoldsOf (Follows e procs 0 (Live p) (Then n c)) (λ o. Agrees m o (Joins a r (Named i.k i.depth)) × HoldsAt (Follows e procs 1 (Live p) c) (place_after m o (Joins a r (Named i.k i.depth)))) y) none'
      (subst (λ o. follows_act e o (Follows e procs 0 (Live p) (Then n c)) (Follows e procs 1 (Live p) c) q m) acts (every 1))
  nowhere_start r p old a s parts j q m none' sc next is w every (test {p = t} {x = g} {c = c} {c' = c'} {d = d} {e = x} {f = f} made) = no_test vars t g c c' d x f a s parts is (decided vars t g c c' x f d made)
  nowhere_start r p old a s parts j q m none' sc next is w every (delay {n = node} {c = c} {e = x} u mv) =
      let none = none_act node (Live p) (apart_from r p parts (named_in node) j (subst (λ y. meets (actors_of y) (named_in node) ≡ false) is u)) in
      nowhere_start r p old a s parts j q m none' (scope_after sc node) (same_pid sc node ∙ next) is w.1 (one_less e procs (Live p) q m c (λ n. subst (λ o. follows_act e o (Follows e procs n (Live p) (Then node c)) (Follows e procs (suc n) (Live p) c) q m) none (every (suc n)))) mv
  nowhere_start r p old a s parts j q m none' sc next is w every (both {p = t} {x = g} {c = c} {d = d} u mv mw) =
      let none : ref_eq (Live p) t ≡ false = left_or _ _ (apart_from r p parts (t ∷ []) j (subst (λ y. meets (actors_of y) (t ∷ []) ≡ false) is u)) in
      nowhere_start r p old a s parts j q m none' sc next is w.1 (one_less e procs (Live p) q m c (λ n. (subst (λ b. follows_test e b g (Follows e procs n (Live p) (Either t g c d)) (Follows e procs (suc n) (Live p) c) (Follows e procs (suc n) (Live p) d) q m) none (every (suc n))).0)) mv
  nowhere_start r p old a s parts j q m none' sc next is w every (unfolded {h = g} {k = k} {ps = ps} {ss = ss} {c = c} {f = f} u mv) = go (among (Live p) ps) refl (λ every'. nowhere_start r p old a s parts j q m none' sc next is (bodies sc g k ps ss c u w) every' mv)
    where
      go : (b : Bool) → among (Live p) ps ≡ b → (((n : ℕ) → Follows e procs n (Live p) c q m) → ⊥) → ⊥
      go true i ih = ih (λ n. subst (λ o. follows_call e true o (Follows e procs n (Live p)) q m) u (subst (λ b. follows_call e b (body_of (procedure_named procs g) k ps ss) (Follows e procs n (Live p)) q m) i (every (suc n))))
      go false i ih = outsider ks e procs hosts vars sid bodies outside renamed r p old a s parts f j sc is (bodies sc g k ps ss c u w) (outside sc (Live p) g k ps ss c u w i tt) mv

-- roles with their processes
pairs_are : (qs : List (NameId × ℕ)) → paired (map (λ q. q.0) qs) (map (λ q. q.1) qs) ≡ Some qs
pairs_are [] = refl
pairs_are ((r, p) ∷ qs) = ap (one_pair r p) (pairs_are qs)

module _ (e : Endpoints) (procs : List Procedure) (sets : NameId → ParameterSets) (lists : ListedHolders) (hosts : Hosts) (bd : Bodies e procs sets lists) (renamed : BodiesRenamed e.channels procs) (no_call : NoCallFirst e) (c : Configuration) (n : NetworkState) (co : Corresponds e procs sets lists c n) where
  count : length n.machines ≡ length c.vars
  count = sym (length-map n.machines (λ m. m.vars)) ∙ ap length co.vars

  module _ (a : NameId) (s : ℕ) (parts : List (NameId × ℕ)) (c' : Configuration) (st : Steps procs hosts c (event.Start a s parts) c') where
    -- a process of the start joins
    joins_it : (r : NameId) (p : ℕ) → p < length c.vars → In (r, p) parts → (m' : Machine) × (joins e (slice_get n.machines p) a r n.sid ≡ Some m')
    joins_it r p old j = at (machine_there n.machines p (subst (λ y. p < y) (sym count) old))
      where
        at : (m : Machine) × (slice_get n.machines p ≡ Some m) → (m' : Machine) × (joins e (slice_get n.machines p) a r n.sid ≡ Some m')
        at (machine, there) = stand (place_there e procs no_call p c.tree (λ q m h every. nowhere_start e.channels e procs hosts c.vars c.sid bd.fit bd.outside renamed r p old a s parts j q m h (live_scope c) refl refl co.well_formed every st.moves) machine (co.follows p machine there))
          where
            stand : PlaceThere e machine → (m' : Machine) × (joins e (slice_get n.machines p) a r n.sid ≡ Some m')
            stand pl =
                let so = stood_at e procs p c.tree machine.at (node_at e machine.at) machine.sessions pl.place refl pl.at pl.not_call (co.follows p machine there) in
                let ji = joiner e.channels e procs hosts c.vars c.sid bd.fit bd.outside renamed r p old so.q (session_map pl.place.sessions) (λ k dd. unmoved k dd pl.place.sessions) pl.place.node so.stands a s parts st.effect j (live_scope c) refl refl refl co.well_formed so.follows st.moves in
                let m' : Machine = record { at = ji.next; vars = machine.vars; sessions = fin.insert pl.place.sessions ji.k.0 (n.sid, r) } in
                (m', ap (λ y. joins e y a r n.sid) there ∙ ap (λ y. place_joins y machine.vars a r n.sid) pl.at ∙ ap (λ y. node_joins y machine.vars pl.place.sessions a r n.sid) ji.is ∙ ap (λ b. if b then Some m' else None) (true_and (a.0 == a.0) (r.0 == r.0) (true_eq a.0) (true_eq r.0)))
              where
                unmoved : (k dd : ℕ) (m : Sessions) → ◌≡◌ {A = SessionMap} (put_map (number_for k dd c.sid) (session_map m)) (session_map m)
                unmoved k dd m = λ i y. go (fin.get m y) i
                  where
                    go : (o : Option (ℕ × NameId)) → put_one (number_for k dd c.sid) (live_session o) ≡ live_session o
                    go None = refl
                    go (Some (s, t)) = refl

    all_join : (qs : List (NameId × ℕ)) → ((r : NameId) (p : ℕ) → In (r, p) qs → (p < length c.vars) × In (r, p) parts) → (ms : List (ℕ × Machine)) × (joiners e n a n.sid qs ≡ Some ms)
    all_join [] h = ([], refl)
    all_join ((r, p) ∷ qs) h =
        let k = h r p (inl refl) in
        let one = joins_it r p k.0 k.1 in
        let rest = all_join qs (λ t q i. h t q (inr i)) in
        ((p, one.0) ∷ rest.0, ap (λ y. one_joiner p y (joiners e n a n.sid qs)) one.1 ∙ ap (one_joiner p (Some one.0)) rest.1)

    in_front : (x : NameId × ℕ) (xs ys : List (NameId × ℕ)) → In x xs → In x (xs ++ ys)
    in_front x [] ys h = absurd h
    in_front x (y ∷ xs) ys (inl i) = inl i
    in_front x (y ∷ xs) ys (inr i) = inr (in_front x xs ys i)

    info : StartIs e.channels (length c.vars) c.sid a s parts
    info = start_is e.channels e procs hosts c.vars c.sid bd.fit bd.outside renamed a s parts (live_scope c) refl refl co.well_formed st.moves

    pub record Began : Type 0 where
      pub ps : List ℕ
      pub after : NetworkState
      pub made : starts e n a ps ≡ Some (Makes (event.Start a s parts) after)

    began : Began
    began = at info
      where
        at : StartIs e.channels (length c.vars) c.sid a s parts → Began
        at i =
            let qs = i.first ∷ i.others in
            let js = all_join qs (λ r p k. (i.old r p k, subst (In (r, p)) (sym i.parts_are) (in_front (r, p) qs (served_parts i.channel.serve (length c.vars)) k))) in
            let after : NetworkState = record n { machines = with_machines n.machines js.0 ++ served e a n.sid i.channel.serve; sid = suc n.sid } in
            let pairs : paired i.channel.active (map (λ q. q.1) qs) ≡ Some qs = ap (λ y. paired y (map (λ q. q.1) qs)) (sym i.roles) ∙ pairs_are qs in
            let event' : event.Start a n.sid (qs ++ served_parts i.channel.serve (length n.machines)) ≡ event.Start a s parts = ap (λ y. event.Start a y (qs ++ served_parts i.channel.serve (length n.machines))) (co.sid ∙ sym i.same_sid) ∙ ap (λ y. event.Start a s (qs ++ served_parts i.channel.serve y)) count ∙ ap (event.Start a s) (sym i.parts_are) in
            record {
              ps = map (λ q. q.1) qs;
              after = after;
              made = ap (channel_starts e n a (map (λ q. q.1) qs)) i.declared ∙ ap (starts_with e n a i.channel) pairs ∙ ap (begun e n a i.channel qs) js.1 ∙ ap (λ y. Some (Makes y after)) event';
            }

    -- A start of the choreography is one of the network, and the two correspond after it
    pub record BeganBack : Type 0 where
      pub after : NetworkState
      pub steps : (cap : Option ℕ) → NetworkSteps e hosts cap n (event.Start a s parts) after
      pub corresponds : Corresponds e procs sets lists c' after

    pub begins_both : BeganBack
    begins_both =
        let did = begins_too e procs sets lists hosts bd renamed c n co a began.ps (event.Start a s parts) began.after began.made in
        record { after = began.after; steps = λ cap. begins a began.ps began.made; corresponds = subst (λ y. Corresponds e procs sets lists y began.after) (steps_agree procs hosts c did.next c' (event.Start a s parts) did.steps st) did.corresponds }
