-- What a process of the network does by itself, the choreography does, and the correspondence holds after.
use Rattle.well_formed.specs.WellFormed.{ArePlain}
use Rattle.std.proofs.Common.{◌≡◌, ℕ, Bool, true, false, List, [], ◌∷◌, ◌++◌, Some, refl, sym, ap, ◌∙◌, subst, if◌then◌else◌, ◌==◌, ℤ, arith}
use Rattle.std.specs.Prelude.{map, slice_get, slice_set}
use Rattle.std.proofs.lemmas.Bool.Decides.{nat_tests}
use Rattle.std.specs.FinMap as fin
use Rattle.std.proofs.lemmas.Bool.{eqb-true}
use Rattle.chor_base.specs.declared.names.NameId.{NameId}
use Rattle.chor_base.specs.declared.expr.Expr.{Expr}
use Rattle.chor_base.specs.declared.value.Value.{Value}
use Rattle.chor_base.specs.declared.value.Load.{Load}
use Rattle.chor_base.specs.declared.event.Event.{Event}
use Rattle.chor_base.specs.declared.event.Event.TheVariants as event
use Rattle.chor_base.specs.Expr.{Term, term_of, value_of, truth_of}
use Rattle.chor_base.specs.NameMap.{Variables}
use Rattle.chor_base.specs.Meaning.{Hosts}
use Rattle.chor_base.specs.Events.{Triple, triple_eq}
use Rattle.chor_semantics.specs.Choreography.{Ref, Live, ref_eq, Own, Node, Choreography, Then, Either}
use Rattle.chor_semantics.specs.Sources.{Procedure, Configuration}
use Rattle.chor_semantics.specs.Steps.{Effect, Keeps, Assigns, Moves, test, vars_of, assigned, Steps}
use Rattle.endpoint_code.specs.declared.code.CodeId.{CodeId}
use Rattle.endpoint_code.specs.declared.code.CodeNode.TheVariants as code
use Rattle.endpoint_code.specs.declared.endpoints.Endpoints.{Endpoints}
use Rattle.endpoint_code.specs.Network.{Sessions, Machine, NetworkState, Place, place_of, moved, with_queue, queue_of, node_at}
use Rattle.endpoint_code.proofs.Queues.{loads-same, loads-other}
use Rattle.well_formed.specs.Follows.{SessionMap, Act, Puts, Gets, Does, Joins, Agrees, Here, HoldsAt, place_after, fork_of, NoFork, Fork, Forks, Follows}
use Rattle.well_formed.specs.Linear.{ParameterSets}
use Rattle.correspondence.proofs.Next.{Next, next_more}
use Rattle.well_formed.specs.Holders.{ListedHolders, HoldersFit}
use Rattle.well_formed.specs.Transit.{AreInTransit}
use Rattle.correspondence.proofs.Acts.{IsBy}
use Rattle.correspondence.proofs.Bodies.{Bodies}
use Rattle.correspondence.specs.Corresponds.{session_map, live_scope, Corresponds}
use Rattle.well_formed.proofs.References.{NotStart, actor_of, and_first, and_second, same_name, same_ref}
use Rattle.well_formed.proofs.Fits.{IsPlainEffect, plain_effect}
use Rattle.correspondence.proofs.Found.{Doing, Deciding, next_is}
use Rattle.correspondence.proofs.Actor.{NotTest, Goes, goes, decides as decides_by}
use Rattle.correspondence.proofs.Queues.{touches, untouched, sent_last, got_first}
use Rattle.correspondence.proofs.Machines.{vars_set, vars_same, vars_at, NotCall, Stood, stood_at}
use Rattle.correspondence.proofs.Makes.{CanMove, by_next, GetsFor, holds_now, takes_next}
use Rattle.correspondence.proofs.Alone.{plain_vars, Moved, after, kept_alone}

same_triple : (t u : Triple) → triple_eq t u ≡ true → t ≡ u
same_triple t u h =
    let i : t.0 ≡ u.0 = eqb-true t.0 u.0 (and_first _ _ h) in
    let j = same_name t.1 u.1 (and_first _ _ (and_second _ _ h)) in
    let k = same_name t.2 u.2 (and_second _ _ (and_second _ _ h)) in
    λ z. (i z, j z, k z)

turned : (t u : Triple) → triple_eq t u ≡ false → triple_eq u t ≡ false
turned t u h = grind (arith, nat_tests)

-- the branch that a conditional takes
abbrev branch_at : Variables → Fork → CodeId
branch_at m NoFork = record { 0 = 0 }
branch_at m (Forks y first second) = if truth_of (value_of (term_of y) m) then first else second

module _ (e : Endpoints) (procs : List Procedure) (sets : NameId → ParameterSets) (lists : ListedHolders) (hosts : Hosts) (bd : Bodies e procs sets lists) (c : Configuration) (n : NetworkState) (co : Corresponds e procs sets lists c n) where
  -- the choreography makes the event too, and corresponds after it
  pub record Did (x : Event) (m' : NetworkState) : Type 0 where
    pub next : Configuration
    pub steps : Steps procs hosts c x next
    pub corresponds : Corresponds e procs sets lists next m'

  module _ (p : ℕ) (machine : Machine) (there : slice_get n.machines p ≡ Some machine) (place : Place) (at : place_of e machine ≡ Some place) (not_call : NotCall place.node) (not_end : place.node ≡ code.End → ⊥) where
    abbrev st : Stood e procs p c.tree place
    st = stood_at e procs p c.tree machine.at (node_at e machine.at) machine.sessions place refl at not_call (co.follows p machine there)

    abbrev m : SessionMap
    m = session_map place.sessions

    next : Next procs (Live p) (Doing (Live p) m place.node) (Deciding (fork_of place.node)) c.tree
    next = next_is e procs (Live p) st.q m place.node st.stands not_end (bd.guarded p) c.tree st.follows

    pub my_vars : vars_of c.vars p ≡ machine.vars
    my_vars = ap (λ y. vars_of y p) (sym co.vars) ∙ vars_at n.machines p machine there

    -- ---- variables

    pub vars_kept : (at' : CodeId) (ss : Sessions) → map (λ m. m.vars) (slice_set n.machines p (record { at = at'; vars = machine.vars; sessions = ss })) ≡ assigned c.vars Keeps
    vars_kept at' ss = vars_set n.machines p (record { at = at'; vars = machine.vars; sessions = ss }) ∙ vars_same n.machines p machine there ∙ co.vars

    pub vars_assigned : (at' : CodeId) (ss : Sessions) (y : NameId) (v : Value) → map (λ m. m.vars) (slice_set n.machines p (record { at = at'; vars = fin.insert machine.vars y.0 v; sessions = ss })) ≡ assigned c.vars (Assigns p y v)
    vars_assigned at' ss y v = vars_set n.machines p (record { at = at'; vars = fin.insert machine.vars y.0 v; sessions = ss }) ∙ ap (λ z. slice_set z p (fin.insert machine.vars y.0 v)) co.vars ∙ ap (λ z. slice_set c.vars p (fin.insert z y.0 v)) (sym my_vars)

    did : (x : Event) → NotStart x → actor_of x ≡ p → (f : Effect) (d : Choreography) → Moves procs hosts c.vars c.sid c.tree x f d → (m' : NetworkState) → Moved e procs sets lists hosts bd c n co x f d p m' → Did x m'
    did x ns mine f d mv m' w = record {
      next = after e procs sets lists hosts bd c n co x f d;
      steps = record { effect = f; moves = mv; vars = refl; sid = refl };
      corresponds = kept_alone e procs sets lists hosts bd c n co x ns f d mv p mine m' w;
    }

    goes_on : (x : Event) (ns : NotStart x) (mine : actor_of x ≡ p) → NotTest x → (f : Effect) (d : Choreography) → Moves procs hosts c.vars c.sid c.tree x f d → Goes e.channels e procs hosts c.vars c.sid bd.fit bd.outside p x ns mine st.q m place.node st.stands f d
    goes_on x ns mine nt f d mv = goes e.channels e procs hosts c.vars c.sid bd.fit bd.outside p x ns mine st.q m place.node st.stands nt (live_scope c) co.well_formed st.follows mv

    -- ---- queues

    same_queues : (x : Event) (ns : NotStart x) → ((t : Triple) → touches t x ≡ false) → (f : Effect) (d : Choreography) → Moves procs hosts c.vars c.sid c.tree x f d → (m' : NetworkState) → m'.queues ≡ n.queues → (t : Triple) → AreInTransit t d (queue_of m' t)
    same_queues x ns off f d mv m' same t =
        subst (λ y. AreInTransit t d (queue_of (record { machines = m'.machines; queues = y; sid = m'.sid }) t)) (sym same)
        (untouched e.channels procs hosts c.vars c.sid lists bd.fit bd.holders_fit bd.empty (plain_vars e procs sets lists hosts bd c n co) t x ns (off t) (queue_of n t) (co.in_transit t) mv)

    -- ---- a statement

    pub by_itself : (o : Own) (v : ℤ) (x : Event) (ns : NotStart x) (mine : actor_of x ≡ p) → NotTest x → ((t : Triple) → touches t x ≡ false) → (f : Effect) (at' : CodeId) (vars' : Variables) → (m' : NetworkState) → m' ≡ moved n p at' vars' place.sessions
        → ((n0 : Node) → Doing (Live p) m place.node n0 → (z : Choreography) → Moves procs hosts c.vars c.sid (Then n0 z) x f z)
        → fork_of place.node ≡ NoFork
        → map (λ y. y.vars) (slice_set n.machines p (record { at = at'; vars = vars'; sessions = place.sessions })) ≡ assigned c.vars f → (IsPlainEffect e.channels procs hosts c.vars c.sid bd.fit (plain_vars e procs sets lists hosts bd c n co) f → ArePlain vars')
        → ((g : Act) → Agrees m place.node g → place_after m place.node g ≡ Here at' m)
        → Did x m'
    by_itself o v x ns mine nt off f at' vars' m' is does no_fork varied plain placed =
        let can = by_next procs hosts c.vars c.sid p x f ns mine (Doing (Live p) m place.node) (Deciding (fork_of place.node)) (λ n0 z w. record { left = z; moves = does n0 w z }) (λ r y z z' i w. absurd (subst (λ u. Deciding u y) no_fork w)) next in
        let g = goes_on x ns mine nt f can.left can.moves in
        did x ns mine f can.left can.moves m' (record {
          machine = machine;
          there = there;
          moved = record { at = at'; vars = vars'; sessions = place.sessions };
          machines = ap (λ y. y.machines) is;
          sid = ap (λ y. y.sid) is;
          vars = varied;
          plain = plain (plain_effect e.channels procs hosts c.vars c.sid bd.fit (plain_vars e procs sets lists hosts bd c n co) (live_scope c) co.well_formed can.moves);
          in_transit = same_queues x ns off f can.left can.moves m' (ap (λ y. y.queues) is);
          follows = λ k. subst (HoldsAt (Follows e procs k (Live p) can.left)) (placed g.act g.agrees) (g.follows k);
        })

    -- ---- a send

    pub by_sending : (s : ℕ) (a b : NameId) (l : Load) (at' : CodeId) (ss : Sessions) (m' : NetworkState) → m' ≡ with_queue (moved n p at' machine.vars ss) (s, a, b) (queue_of n (s, a, b) ++ l ∷ [])
        → ((n0 : Node) → Doing (Live p) m place.node n0 → (z : Choreography) → CanMove procs hosts c.vars c.sid p (event.Send p s a b l) Keeps tt refl (Then n0 z))
        → fork_of place.node ≡ NoFork
        → ((g : Act) → Agrees m place.node g → place_after m place.node g ≡ Here at' (session_map ss))
        → Did (event.Send p s a b l) m'
    by_sending s a b l at' ss m' is does no_fork placed =
        let x = event.Send p s a b l in
        let can = by_next procs hosts c.vars c.sid p x Keeps tt refl (Doing (Live p) m place.node) (Deciding (fork_of place.node)) (λ n0 z w. does n0 w z) (λ r y z z' i w. absurd (subst (λ u. Deciding u y) no_fork w)) next in
        let g = goes_on x tt refl tt Keeps can.left can.moves in
        did x tt refl Keeps can.left can.moves m' (record {
          machine = machine;
          there = there;
          moved = record { at = at'; vars = machine.vars; sessions = ss };
          machines = ap (λ y. y.machines) is;
          sid = ap (λ y. y.sid) is;
          vars = vars_kept at' ss;
          plain = co.plain p machine there;
          in_transit = λ t. subst (λ y. AreInTransit t can.left (queue_of y t)) (sym is) (queue t (triple_eq (s, a, b) t) refl can.left can.moves);
          follows = λ k. subst (HoldsAt (Follows e procs k (Live p) can.left)) (placed g.act g.agrees) (g.follows k);
        })
      where
        queue : (t : Triple) (y : Bool) → triple_eq (s, a, b) t ≡ y → (d : Choreography) → Moves procs hosts c.vars c.sid c.tree (event.Send p s a b l) Keeps d → AreInTransit t d (queue_of (with_queue (moved n p at' machine.vars ss) (s, a, b) (queue_of n (s, a, b) ++ l ∷ [])) t)
        queue t true i d mv =
            let same : (s, a, b) ≡ t = same_triple (s, a, b) t i in
            subst (λ z. AreInTransit z d (queue_of (with_queue (moved n p at' machine.vars ss) (s, a, b) (queue_of n (s, a, b) ++ l ∷ [])) z)) same
            (subst (AreInTransit (s, a, b) d) (sym (loads-same n.queues (s, a, b) (queue_of n (s, a, b) ++ l ∷ [])))
            (sent_last e.channels procs hosts c.vars c.sid lists bd.fit bd.holders_fit bd.empty (plain_vars e procs sets lists hosts bd c n co) p s a b l (live_scope c) (co.holders (Live s) a) co.well_formed (co.holders_fit (Live s) a) (queue_of n (s, a, b)) (co.in_transit (s, a, b)) mv))
        queue t false i d mv =
            subst (AreInTransit t d) (sym (loads-other n.queues (s, a, b) t (queue_of n (s, a, b) ++ l ∷ []) i))
            (untouched e.channels procs hosts c.vars c.sid lists bd.fit bd.holders_fit bd.empty (plain_vars e procs sets lists hosts bd c n co) t (event.Send p s a b l) tt (turned (s, a, b) t i) (queue_of n t) (co.in_transit t) mv)

    -- ---- a receipt

    pub by_receiving : (s : ℕ) (a b : NameId) (l : Load) (rest : List Load) (f : Effect) (at' : CodeId) (vars' : Variables) (ss : Sessions) (m' : NetworkState) → m' ≡ with_queue (moved n p at' vars' ss) (s, a, b) rest
        → queue_of n (s, a, b) ≡ l ∷ rest
        → ((n0 : Node) → Doing (Live p) m place.node n0 → GetsFor e.channels procs lists bd.fit bd.holders_fit p s a b hosts c.vars c.sid l f n0)
        → fork_of place.node ≡ NoFork
        → map (λ y. y.vars) (slice_set n.machines p (record { at = at'; vars = vars'; sessions = ss })) ≡ assigned c.vars f → ArePlain vars'
        → ((g : Act) → Agrees m place.node g → IsBy (vars_of c.vars p) p g (event.Recv p s a b l) f → place_after m place.node g ≡ Here at' (session_map ss))
        → Did (event.Recv p s a b l) m'
    by_receiving s a b l rest f at' vars' ss m' is first does no_fork varied plain placed =
        let x = event.Recv p s a b l in
        let held = holds_now e.channels procs lists bd.fit bd.holders_fit p s a b (live_scope c) (co.holders (Live s) b) co.well_formed (co.holders_fit (Live s) b) (turned_next (λ n0 w. ((does n0 w).0, (does n0 w).1)) next) in
        let can = takes_next e.channels procs lists bd.fit bd.holders_fit p s a b hosts c.vars c.sid l f (live_scope c) co.well_formed (subst (HoldersFit lists (Live s) b c.tree) held (co.holders_fit (Live s) b)) rest (subst (AreInTransit (s, a, b) c.tree) first (co.in_transit (s, a, b))) (turned_next does next) in
        let g = goes_on x tt refl tt f can.left can.moves in
        did x tt refl f can.left can.moves m' (record {
          machine = machine;
          there = there;
          moved = record { at = at'; vars = vars'; sessions = ss };
          machines = ap (λ y. y.machines) is;
          sid = ap (λ y. y.sid) is;
          vars = varied;
          plain = plain;
          in_transit = λ t. subst (λ y. AreInTransit t can.left (queue_of y t)) (sym is) (queue t (triple_eq (s, a, b) t) refl can.left can.moves);
          follows = λ k. subst (HoldsAt (Follows e procs k (Live p) can.left)) (placed g.act g.agrees g.is) (g.follows k);
        })
      where
        turned_next : {Q : Node → Type 0} → ((n0 : Node) → Doing (Live p) m place.node n0 → Q n0) → {d : Choreography} → Next procs (Live p) (Doing (Live p) m place.node) (Deciding (fork_of place.node)) d → Next procs (Live p) Q (λ y. ⊥) d
        turned_next j w = next_more procs (Live p) j (λ y i. subst (λ u. Deciding u y) no_fork i) w

        queue : (t : Triple) (y : Bool) → triple_eq (s, a, b) t ≡ y → (d : Choreography) → Moves procs hosts c.vars c.sid c.tree (event.Recv p s a b l) f d → AreInTransit t d (queue_of (with_queue (moved n p at' vars' ss) (s, a, b) rest) t)
        queue t true i d mv =
            let same : (s, a, b) ≡ t = same_triple (s, a, b) t i in
            let got = got_first e.channels procs hosts c.vars c.sid lists bd.fit bd.holders_fit bd.empty (plain_vars e procs sets lists hosts bd c n co) p s a b l (live_scope c) (co.holders (Live s) b) co.well_formed (co.holders_fit (Live s) b) (queue_of n (s, a, b)) (co.in_transit (s, a, b)) mv in
            let heads : l ∷ rest ≡ l ∷ got.rest = sym first ∙ got.is in
            let rests : got.rest ≡ rest = cc in
            subst (λ z. AreInTransit z d (queue_of (with_queue (moved n p at' vars' ss) (s, a, b) rest) z)) same
            (subst (AreInTransit (s, a, b) d) (sym (loads-same n.queues (s, a, b) rest)) (subst (AreInTransit (s, a, b) d) rests got.in_transit))
        queue t false i d mv =
            subst (AreInTransit t d) (sym (loads-other n.queues (s, a, b) t rest i))
            (untouched e.channels procs hosts c.vars c.sid lists bd.fit bd.holders_fit bd.empty (plain_vars e procs sets lists hosts bd c n co) t (event.Recv p s a b l) tt (turned (s, a, b) t i) (queue_of n t) (co.in_transit t) mv)

    -- ---- a test

    pub by_testing : (y : Expr) (first second : CodeId) → place.node ≡ code.If y first second → (m' : NetworkState) → m' ≡ moved n p (if truth_of (value_of (term_of y) machine.vars) then first else second) machine.vars place.sessions → Did (event.Test p (truth_of (value_of (term_of y) machine.vars))) m'
    by_testing y first second node m' is =
        let x = event.Test p (truth_of (value_of (term_of y) machine.vars)) in
        let can = by_next procs hosts c.vars c.sid p x Keeps tt refl (Doing (Live p) m place.node) (Deciding (fork_of place.node)) (λ n0 z w. absurd (no_act n0 w)) (λ r t z z' i w. decide r t z z' i (subst (λ u. Deciding (fork_of u) t) node w)) next in
        let g = decides_by e.channels e procs hosts c.vars c.sid bd.fit bd.outside p x tt refl st.q m place.node st.stands (truth_of (value_of (term_of y) machine.vars)) refl (live_scope c) co.well_formed st.follows can.moves in
        let same : Forks g.y g.first g.second ≡ Forks y first second = sym g.is ∙ ap fork_of node in
        let place' : (if truth_of (value_of (term_of g.y) (vars_of c.vars p)) then g.first else g.second) ≡ (if truth_of (value_of (term_of y) machine.vars) then first else second) = ap (branch_at (vars_of c.vars p)) same ∙ ap (λ z. if truth_of (value_of (term_of y) z) then first else second) my_vars in
        did x tt refl Keeps can.left can.moves m' (record {
          machine = machine;
          there = there;
          moved = record { at = if truth_of (value_of (term_of y) machine.vars) then first else second; vars = machine.vars; sessions = place.sessions };
          machines = ap (λ z. z.machines) is;
          sid = ap (λ z. z.sid) is;
          vars = vars_kept (if truth_of (value_of (term_of y) machine.vars) then first else second) place.sessions;
          plain = co.plain p machine there;
          in_transit = same_queues x tt (λ t. refl) Keeps can.left can.moves m' (ap (λ z. z.queues) is);
          follows = λ k. subst (λ z. Follows e procs k (Live p) can.left z m) place' (g.follows k);
        })
      where
        no_act : (n0 : Node) → Doing (Live p) m place.node n0 → ⊥
        no_act n0 (Joins d t s, i, w) = subst (λ u. Agrees m u (Joins d t s)) node w
        no_act n0 (Puts s a b z, i, w) = subst (λ u. Agrees m u (Puts s a b z)) node w
        no_act n0 (Gets s a b z, i, w) = subst (λ u. Agrees m u (Gets s a b z)) node w
        no_act n0 (Does o, i, w) = subst (λ u. Agrees m u (Does o)) node w

        decide : (r : Ref) (t : Term) (z z' : Choreography) → ref_eq (Live p) r ≡ true → term_of y ≡ t → CanMove procs hosts c.vars c.sid p (event.Test p (truth_of (value_of (term_of y) machine.vars))) Keeps tt refl (Either r t z z')
        decide r t z z' i w =
            let r' : Live p ≡ r = same_ref (Live p) r i in
            let value : truth_of (value_of t (vars_of c.vars p)) ≡ truth_of (value_of (term_of y) machine.vars) = ap (λ u. truth_of (value_of u (vars_of c.vars p))) (sym w) ∙ ap (λ u. truth_of (value_of (term_of y) u)) my_vars in
            record {
              left = if truth_of (value_of t (vars_of c.vars p)) then z else z';
              moves = subst (λ u. Moves procs hosts c.vars c.sid (Either u t z z') (event.Test p (truth_of (value_of (term_of y) machine.vars))) Keeps (if truth_of (value_of t (vars_of c.vars p)) then z else z')) r'
                  (subst (λ u. Moves procs hosts c.vars c.sid (Either (Live p) t z z') (event.Test p u) Keeps (if truth_of (value_of t (vars_of c.vars p)) then z else z')) value (test refl));
            }
