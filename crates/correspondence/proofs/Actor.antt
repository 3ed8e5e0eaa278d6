-- Who makes an event stands at a head that does it, and goes on after what is left.
use Rattle.std.proofs.Common.{◌≡◌, ℕ, zero, suc, Bool, true, false, List, [], ◌∷◌, Some, None, refl, subst, ap, sym, ◌∙◌, ℤ, if◌then◌else◌}
use Rattle.chor_base.specs.declared.names.NameId.{NameId}
use Rattle.chor_base.specs.declared.value.Value.TheVariants.{Part as Endpoint}
use Rattle.chor_base.specs.declared.value.Load.TheVariants.{Value as Carries, Label as Picks}
use Rattle.chor_base.specs.declared.event.Event.{Event}
use Rattle.chor_base.specs.declared.event.Event.TheVariants.{Send, Recv, Test}
use Rattle.chor_base.specs.declared.expr.Expr.{Expr}
use Rattle.chor_base.specs.Expr.{Term, value_of, truth_of, term_of}
use Rattle.chor_base.specs.NameMap.{Variables}
use Rattle.chor_base.specs.Meaning.{Hosts}
use Rattle.chor_base.specs.Events.{actors_of}
use Rattle.chor_semantics.specs.Choreography.{Ref, Live, ref_eq, among, meets, named_in, ValueSent, LabelSent, PartSent, Own, Sets, Shows, Asks, Node, InTransit, Choreography, Then, Either}
use Rattle.chor_semantics.specs.Sources.{Procedure}
use Rattle.chor_semantics.specs.Steps.{Effect, Makes, Moves, head, test, delay, both, unfolded, alone, message_of, load_of, receipt, vars_of, procedure_named, body_of}
use Rattle.endpoint_code.specs.declared.code.CodeId.{CodeId}
use Rattle.endpoint_code.specs.declared.code.CodeNode.{CodeNode}
use Rattle.endpoint_code.specs.declared.code.CodeNode.TheVariants as code
use Rattle.endpoint_code.specs.declared.endpoints.Channel.{Channel}
use Rattle.endpoint_code.specs.declared.endpoints.Endpoints.{Endpoints}
use Rattle.endpoint_code.specs.Network.{node_at, arm_at}
use Rattle.well_formed.specs.Follows.{SessionMap, with_session, Act, Joins, Puts, Gets, Does, Received, Label, Part, received_of, message_received, act_of, Agrees, Place, Nowhere, Here, HoldsAt, arm_place, place_after, Fork, NoFork, Forks, fork_of, BothHold, Stands, standing, HoldsOf, follows_act, follows_test, follows_call, Follows}
use Rattle.well_formed.specs.WellFormed.{Scope, scope_after, NodeFits, CommunicationFits, CallFits, IsWellFormed}
use Rattle.well_formed.proofs.Absent.{IsNoDeeper, IsAbsent}
use Rattle.correspondence.proofs.Acts.{own_event, own_effect, IsBy}
use Rattle.well_formed.proofs.References.{left_or, or_false, clash, self_ref, none_act, NotStart, actor_of, passed_over}
use Rattle.well_formed.proofs.Heads.{Headed, sends, gets, owns, starts, headed, owned_event, Decided, decided}
use Rattle.correspondence.proofs.Calls.{one_less}

-- a label, or an endpoint, is received
record GetsIt (g : Act) (r : Received) : Type 0 where
  s : Ref
  a : NameId
  b : NameId
  is : g ≡ Gets s a b r

branch_act : (m : SessionMap) (k c : NameId) (arms : List (NameId × CodeId)) (g : Act) → Agrees m (code.Branch k c arms) g → (l : NameId) × GetsIt g (Label l)
branch_act m k c arms (Gets s a b (Label l)) h = (l, record { s = s; a = a; b = b; is = refl })
branch_act m k c arms _ h = absurd h

gain_act : (m : SessionMap) (k c z : NameId) (next : CodeId) (g : Act) → Agrees m (code.Catch k c z next) g → (u : Ref) × (r : NameId) × GetsIt g (Part u r)
gain_act m k c z next (Gets s a b (Part u r)) h = (u, r, record { s = s; a = a; b = b; is = refl })
gain_act m k c z next _ h = absurd h

same_branch : (m : SessionMap) (k c : NameId) (arms : List (NameId × CodeId)) (vars : Variables) (p : ℕ) (x : Event) (f : Effect) (g g' : Act) → IsBy vars p g x f → IsBy vars p g' x f → (l : NameId) × GetsIt g (Label l) → (l : NameId) × GetsIt g' (Label l) → place_after m (code.Branch k c arms) g ≡ place_after m (code.Branch k c arms) g'
same_branch m k c arms vars p x f g g' i i' (l, w) (l', w') =
    ap (place_after m (code.Branch k c arms)) w.is ∙ at (subst (λ y. IsBy vars p y x f) w.is i) (subst (λ y. IsBy vars p y x f) w'.is i') ∙ ap (place_after m (code.Branch k c arms)) (sym w'.is)
  where
    at : IsBy vars p (Gets w.s w.a w.b (Label l)) x f → IsBy vars p (Gets w'.s w'.a w'.b (Label l')) x f → arm_place m (arm_at arms l) ≡ arm_place m (arm_at arms l')
    at (t, LabelSent j, is, same, ev, ef) (t', LabelSent j', is', same', ev', ef') =
        let u : l ≡ j = cc in let u' : l' ≡ j' = cc in
        let z : Recv p t w.a w.b (Picks j) ≡ Recv p t' w'.a w'.b (Picks j') = sym ev ∙ ev' in
        let o : j ≡ j' = cc in ap (λ y. arm_place m (arm_at arms y)) (u ∙ o ∙ sym u')
    at (t, ValueSent v y, is, same, ev, ef) r = absurd cc
    at (t, PartSent v y, is, same, ev, ef) r = absurd cc
    at r (t, ValueSent v y, is, same, ev, ef) = absurd cc
    at r (t, PartSent v y, is, same, ev, ef) = absurd cc

same_gain : (m : SessionMap) (k c z : NameId) (next : CodeId) (vars : Variables) (p : ℕ) (x : Event) (f : Effect) (g g' : Act) → IsBy vars p g x f → IsBy vars p g' x f → (u : Ref) × (r : NameId) × GetsIt g (Part u r) → (u : Ref) × (r : NameId) × GetsIt g' (Part u r) → place_after m (code.Catch k c z next) g ≡ place_after m (code.Catch k c z next) g'
same_gain m k c z next vars p x f g g' i i' (u, r, w) (u', r', w') =
    ap (place_after m (code.Catch k c z next)) w.is ∙ at (subst (λ y. IsBy vars p y x f) w.is i) (subst (λ y. IsBy vars p y x f) w'.is i') ∙ ap (place_after m (code.Catch k c z next)) (sym w'.is)
  where
    at : IsBy vars p (Gets w.s w.a w.b (Part u r)) x f → IsBy vars p (Gets w'.s w'.a w'.b (Part u' r')) x f → Here next (with_session m z (u, r)) ≡ Here next (with_session m z (u', r'))
    at (t, PartSent j r0, is, same, ev, ef) (t', PartSent j' r0', is', same', ev', ef') =
        let y : Recv p t w.a w.b (Carries (Endpoint j r0)) ≡ Recv p t' w'.a w'.b (Carries (Endpoint j' r0')) = sym ev ∙ ev' in
        let o : Part (Live j) r0 ≡ Part (Live j') r0' = cc in
        let both : Part u r ≡ Part u' r' = same ∙ o ∙ sym same' in
        let us : u ≡ u' = cc in let rs : r ≡ r' = cc in
        ap (λ y. Here next (with_session m z (y, r))) us ∙ ap (λ y. Here next (with_session m z (u', y))) rs
    at (t, ValueSent v y, is, same, ev, ef) q = absurd cc
    at (t, LabelSent l, is, same, ev, ef) q = absurd cc
    at q (t, ValueSent v y, is, same, ev, ef) = absurd cc
    at q (t, LabelSent l, is, same, ev, ef) = absurd cc

-- where an act of one event goes on doesn't depend on which act it was
same_place : (m : SessionMap) (h : CodeNode) (vars : Variables) (p : ℕ) (x : Event) (f : Effect) (g g' : Act) → IsBy vars p g x f → IsBy vars p g' x f → Agrees m h g → Agrees m h g' → place_after m h g ≡ place_after m h g'
same_place m (code.Join c r k next) vars p x f g g' i i' a a' = absurd (joins g a i)
  where
    joins : (g : Act) → Agrees m (code.Join c r k next) g → IsBy vars p g x f → ⊥
    joins (Joins d t s) a i = i
    joins _ a i = a
same_place m (code.Send k b e next) vars p x f g g' i i' a a' = refl
same_place m (code.Pick k b l next) vars p x f g g' i i' a a' = refl
same_place m (code.Throw k b z next) vars p x f g g' i i' a a' = refl
same_place m (code.Recv k c y next) vars p x f g g' i i' a a' = refl
same_place m (code.Branch k c arms) vars p x f g g' i i' a a' = same_branch m k c arms vars p x f g g' i i' (branch_act m k c arms g a) (branch_act m k c arms g' a')
same_place m (code.Catch k c z next) vars p x f g g' i i' a a' = same_gain m k c z next vars p x f g g' i i' (gain_act m k c z next g a) (gain_act m k c z next g' a')
same_place m (code.Set y e next) vars p x f g g' i i' a a' = refl
same_place m (code.Show e next) vars p x f g g' i i' a a' = refl
same_place m (code.Host y h e e' next) vars p x f g g' i i' a a' = refl
same_place m _ vars p x f g g' i i' a a' = absurd a

-- the branch that a conditional takes
abbrev branch_of : Variables → Fork → CodeId
branch_of m NoFork = record { 0 = 0 }
branch_of m (Forks y first second) = if truth_of (value_of (term_of y) m) then first else second

-- a test is none of these
abbrev pub NotTest : Event → Type 0
NotTest (Test p b) = ⊥
NotTest _ = Unit {0}

pub made_event : (m : Variables) (p : ℕ) (v : ℤ) (o : Own) (c d : Choreography) (x : Event) (f : Effect) → Makes x f d ≡ alone m p v o c → x ≡ own_event m p v o
made_event m p v (Sets y e) c d x f h = cc
made_event m p v (Shows e) c d x f h = cc
made_event m p v (Asks y g a b) c d x f h = cc

made_effect : (m : Variables) (p : ℕ) (v : ℤ) (o : Own) (c d : Choreography) (x : Event) (f : Effect) → Makes x f d ≡ alone m p v o c → f ≡ own_effect m p v o
made_effect m p v (Sets y e) c d x f h = cc
made_effect m p v (Shows e) c d x f h = cc
made_effect m p v (Asks y g a b) c d x f h = cc

module _ (ks : List Channel) (e : Endpoints) (procs : List Procedure) (hosts : Hosts) (vars : List Variables) (sid : ℕ)
    (bodies : (sc : Scope) (f : NameId) (d : ℕ) (ps ss : List Ref) (c : Choreography) → body_of (procedure_named procs f) d ps ss ≡ Some c → CallFits procs sc f d ps ss → IsWellFormed ks procs sc c)
    (outside : (sc : Scope) (p : Ref) (f : NameId) (d : ℕ) (ps ss : List Ref) (c : Choreography) → body_of (procedure_named procs f) d ps ss ≡ Some c → CallFits procs sc f d ps ss → among p ps ≡ false → IsNoDeeper d p → IsAbsent p c)
    (p : ℕ) (x : Event) (ns : NotStart x) (mine : actor_of x ≡ p) where
  passed : (rs : List Ref) → meets (actors_of x) rs ≡ false → among (Live p) rs ≡ false
  passed rs u = subst (λ y. among (Live y) rs ≡ false) mine (passed_over x rs ns u)

  -- who acts is named
  pub outsider : (sc : Scope) {c d : Choreography} {f : Effect} → IsWellFormed ks procs sc c → IsAbsent (Live p) c → Moves procs hosts vars sid c x f d → ⊥
  outsider sc wf out (head {n = n} {c = c} {d = d} {f = f} v a h) = at (headed vars sid v n c x f d h)
    where
      no' : (r : ℕ) (rs : List Ref) → actor_of x ≡ r → among (Live p) (Live r ∷ rs) ≡ false → ⊥
      no' r rs i o = clash (self_ref (Live p)) (ap (λ y. ref_eq (Live p) (Live y)) (sym mine ∙ i) ∙ left_or _ _ o)

      at : Headed vars sid v n c x f d → ⊥
      at (sends s r a b q w m is made ev k left) = no' r (q ∷ []) (ap actor_of ev) (subst (λ y. among (Live p) (named_in y) ≡ false) is out.0)
      at (gets s r a b m is ev k left) = no' r [] (ap actor_of ev) (subst (λ y. among (Live p) (named_in y) ≡ false) is out.0)
      at (owns r o is made) = no' r [] ((owned_event vars sid v (vars_of vars r) r o c d x f made).1) (subst (λ y. among (Live p) (named_in y) ≡ false) is out.0)
      at (starts ch k s active serve q ps is lives ev g left) = subst NotStart ev ns
  outsider sc wf out (test {p = r} {x = g} {c = c} {c' = c'} {d = d} {f = f} h) =
      let i = decided vars r g c c' x f d h in
      let o : ref_eq (Live p) (Live i.p) ≡ false = subst (λ y. ref_eq (Live p) y ≡ false) i.is out.0 in
      let same : p ≡ i.p = sym mine ∙ ap actor_of i.event in
      clash (self_ref (Live p)) (ap (λ y. ref_eq (Live p) (Live y)) same ∙ o)
  outsider sc wf out (delay {n = n} u mv) = outsider (scope_after sc n) wf.1 out.1 mv
  outsider sc wf out (both u mv mw) = outsider sc wf.1 out.1 mv
  outsider sc wf out (unfolded {h = h} {k = k} {ps = ps} {ss = ss} {c = c} u mv) = outsider sc (bodies sc h k ps ss c u wf) (outside sc (Live p) h k ps ss c u wf out.0 tt) mv

  module _ (q : CodeId) (m : SessionMap) (h : CodeNode) (stands : standing e (node_at e q) m ≡ Stands h) where
    -- the act, and where the code goes on
    pub record Goes (f : Effect) (d : Choreography) : Type 0 where
      pub act : Act
      pub is : IsBy (vars_of vars p) p act x f
      pub agrees : Agrees m h act
      pub follows : (n : ℕ) → HoldsAt (Follows e procs n (Live p) d) (place_after m h act)

    at_all : (d : Choreography) (o : Place) → ((n : ℕ) → HoldsAt (Follows e procs (suc n) (Live p) d) o) → (n : ℕ) → HoldsAt (Follows e procs n (Live p) d) o
    at_all d Nowhere w n = w 0
    at_all d (Here r u) w zero = tt
    at_all d (Here r u) w (suc n) = w n

    past_node : (node : Node) (d : Choreography) (o : Place) → act_of node (Live p) ≡ None → ((n : ℕ) → HoldsAt (Follows e procs n (Live p) d) o) → (n : ℕ) → HoldsAt (Follows e procs n (Live p) (Then node d)) o
    past_node node d Nowhere i w n = w 0
    past_node node d (Here r u) i w zero = tt
    past_node node d (Here r u) i w (suc n) = subst (λ z. follows_act e z (Follows e procs n (Live p) (Then node d)) (Follows e procs (suc n) (Live p) d) r u) (sym i) (w (suc n))

    past_fork : (t : Ref) (g : Term) (c d : Choreography) (o : Place) → ref_eq (Live p) t ≡ false → ((n : ℕ) → HoldsAt (Follows e procs n (Live p) c) o) → ((n : ℕ) → HoldsAt (Follows e procs n (Live p) d) o) → (n : ℕ) → HoldsAt (Follows e procs n (Live p) (Either t g c d)) o
    past_fork t g c d Nowhere i w z n = w 0
    past_fork t g c d (Here r u) i w z zero = tt
    past_fork t g c d (Here r u) i w z (suc n) = subst (λ y. follows_test e y g (Follows e procs n (Live p) (Either t g c d)) (Follows e procs (suc n) (Live p) c) (Follows e procs (suc n) (Live p) d) r u) (sym i) (w (suc n), z (suc n))

    act_here : (node : Node) (rest : Choreography) (g : Act) → act_of node (Live p) ≡ Some g → ((n : ℕ) → Follows e procs n (Live p) (Then node rest) q m) → (n : ℕ) → Agrees m h g × HoldsAt (Follows e procs (suc n) (Live p) rest) (place_after m h g)
    act_here node rest g i every n =
        subst (λ z. HoldsOf (Follows e procs n (Live p) (Then node rest)) (λ c. Agrees m c g × HoldsAt (Follows e procs (suc n) (Live p) rest) (place_after m c g)) z) stands
        (subst (λ o. follows_act e o (Follows e procs n (Live p) (Then node rest)) (Follows e procs (suc n) (Live p) rest) q m) i (every (suc n)))

    -- from an act at the head to what is left
    goes_by : (node : Node) (c d : Choreography) (f : Effect) (g : Act) → act_of node (Live p) ≡ Some g → IsBy (vars_of vars p) p g x f → ((o : Place) → ((n : ℕ) → HoldsAt (Follows e procs n (Live p) c) o) → (n : ℕ) → HoldsAt (Follows e procs n (Live p) d) o) → ((n : ℕ) → Follows e procs n (Live p) (Then node c) q m) → Goes f d
    goes_by node c d f g acts is j every =
        let w = act_here node c g acts every in
        record { act = g; is = is; agrees = (w 0).0; follows = j (place_after m h g) (at_all c (place_after m h g) (λ k. (w k).1)) }

    goes_head : (sc : Scope) (v : ℤ) (node : Node) (c d : Choreography) (f : Effect) → NodeFits ks sc node → ((n : ℕ) → Follows e procs n (Live p) (Then node c) q m) → Headed vars sid v node c x f d → Goes f d
    goes_head sc v node c d f w every (sends s r a b t u msg is made ev k left) =
        let r' : r ≡ p = sym (ap actor_of ev) ∙ mine in
        let fit : CommunicationFits sc (Live s) (Live r) t u = subst (NodeFits ks sc) is w in
        let off : ref_eq (Live p) t ≡ false = subst (λ y. ref_eq (Live y) t ≡ false) r' fit.differ in
        let own : ref_eq (Live p) (Live r) ≡ true = ap (λ y. ref_eq (Live p) (Live y)) r' ∙ self_ref (Live p) in
        let acts : act_of node (Live p) ≡ Some (Puts (Live s) a b u) = ap (λ y. act_of y (Live p)) is ∙ ap (λ y. if y then Some (Puts (Live s) a b u) else (if ref_eq (Live p) t then Some (Gets (Live s) a b (received_of u)) else None)) own in
        let by : IsBy (vars_of vars p) p (Puts (Live s) a b u) x f = (s, msg, refl, subst (λ y. message_of (vars_of vars y) u ≡ Some msg) r' made, subst (λ y. x ≡ Send y s a b (load_of msg)) r' ev, k) in
        let skip : act_of (InTransit s a b msg t) (Live p) ≡ None = none_act (InTransit s a b msg t) (Live p) (or_false _ _ off refl) in
        goes_by node c d f (Puts (Live s) a b u) acts by (λ o i. subst (λ y. (n : ℕ) → HoldsAt (Follows e procs n (Live p) y) o) (sym left) (past_node (InTransit s a b msg t) c o skip i)) every
    goes_head sc v node c d f w every (gets s r a b msg is ev k left) =
        let r' : r ≡ p = sym (ap actor_of ev) ∙ mine in
        let own : ref_eq (Live p) (Live r) ≡ true = ap (λ y. ref_eq (Live p) (Live y)) r' ∙ self_ref (Live p) in
        let acts : act_of node (Live p) ≡ Some (Gets (Live s) a b (message_received msg)) = ap (λ y. act_of y (Live p)) is ∙ ap (λ y. if y then Some (Gets (Live s) a b (message_received msg)) else None) own in
        let by : IsBy (vars_of vars p) p (Gets (Live s) a b (message_received msg)) x f = (s, msg, refl, refl, subst (λ y. x ≡ Recv y s a b (load_of msg)) r' ev, subst (λ y. f ≡ receipt y msg) r' k) in
        goes_by node c d f (Gets (Live s) a b (message_received msg)) acts by (λ o i. subst (λ y. (n : ℕ) → HoldsAt (Follows e procs n (Live p) y) o) (sym left) i) every
    goes_head sc v node c d f w every (owns r o is made) =
        let ev = owned_event vars sid v (vars_of vars r) r o c d x f made in
        let r' : r ≡ p = sym ev.1 ∙ mine in
        let own : ref_eq (Live p) (Live r) ≡ true = ap (λ y. ref_eq (Live p) (Live y)) r' ∙ self_ref (Live p) in
        let acts : act_of node (Live p) ≡ Some (Does o) = ap (λ y. act_of y (Live p)) is ∙ ap (λ y. if y then Some (Does o) else None) own in
        let by : IsBy (vars_of vars p) p (Does o) x f = (v, subst (λ y. x ≡ own_event (vars_of vars y) y v o) r' (made_event (vars_of vars r) r v o c d x f made), subst (λ y. f ≡ own_effect (vars_of vars y) y v o) r' (made_effect (vars_of vars r) r v o c d x f made)) in
        goes_by node c d f (Does o) acts by (λ z i. subst (λ y. (n : ℕ) → HoldsAt (Follows e procs n (Live p) y) z) (sym ev.2) i) every
    goes_head sc v node c d f w every (starts ch k s active serve t ps is lives ev g left) = absurd (subst NotStart ev ns)

    pub goes : NotTest x → (sc : Scope) {c d : Choreography} {f : Effect} → IsWellFormed ks procs sc c → ((n : ℕ) → Follows e procs n (Live p) c q m) → Moves procs hosts vars sid c x f d → Goes f d
    goes nt sc w every (head {n = node} {c = c} {d = d} {f = f} v a made) = goes_head sc v node c d f w.0 every (headed vars sid v node c x f d made)
    goes nt sc w every (test {p = r} {x = g} {c = c} {c' = c'} {d = d} {f = f} made) = absurd (subst NotTest (decided vars r g c c' x f d made).event nt)
    goes nt sc w every (delay {n = node} {c = c} {d = d} u mv) =
        let none = none_act node (Live p) (passed (named_in node) u) in
        let z = goes nt (scope_after sc node) w.1 (one_less e procs (Live p) q m c (λ n. subst (λ o. follows_act e o (Follows e procs n (Live p) (Then node c)) (Follows e procs (suc n) (Live p) c) q m) none (every (suc n)))) mv in
        record { act = z.act; is = z.is; agrees = z.agrees; follows = past_node node d (place_after m h z.act) none z.follows }
    goes nt sc w every (both {p = t} {x = g} {c = c} {c' = c'} {d = d} {d' = d'} {f = f} u mv mw) =
        let none : ref_eq (Live p) t ≡ false = left_or _ _ (passed (t ∷ []) u) in
        let two : (n : ℕ) → Follows e procs (suc n) (Live p) c q m × Follows e procs (suc n) (Live p) d q m = λ n. subst (λ y. follows_test e y g (Follows e procs n (Live p) (Either t g c d)) (Follows e procs (suc n) (Live p) c) (Follows e procs (suc n) (Live p) d) q m) none (every (suc n)) in
        let y = goes nt sc w.1 (one_less e procs (Live p) q m c (λ n. (two n).0)) mv in
        let z = goes nt sc w.2 (one_less e procs (Live p) q m d (λ n. (two n).1)) mw in
        let same = same_place m h (vars_of vars p) p x f z.act y.act z.is y.is z.agrees y.agrees in
        record { act = y.act; is = y.is; agrees = y.agrees; follows = past_fork t g c' d' (place_after m h y.act) none y.follows (λ n. subst (λ o. HoldsAt (Follows e procs n (Live p) d') o) same (z.follows n)) }
    goes nt sc w every (unfolded {h = g} {k = k} {ps = ps} {ss = ss} {c = c} {d = d} {f = f} u mv) = go (among (Live p) ps) refl (λ every'. goes nt sc (bodies sc g k ps ss c u w) every' mv)
      where
        go : (z : Bool) → among (Live p) ps ≡ z → (((n : ℕ) → Follows e procs n (Live p) c q m) → Goes f d) → Goes f d
        go true i ih = ih (λ n. subst (λ o. follows_call e true o (Follows e procs n (Live p)) q m) u (subst (λ z. follows_call e z (body_of (procedure_named procs g) k ps ss) (Follows e procs n (Live p)) q m) i (every (suc n))))
        go false i ih = absurd (outsider sc (bodies sc g k ps ss c u w) (outside sc (Live p) g k ps ss c u w i tt) mv)

    -- the same for a process's own conditional
    pub record Decides (d : Choreography) : Type 0 where
      pub y : Expr
      pub first : CodeId
      pub second : CodeId
      pub is : fork_of h ≡ Forks y first second
      pub event : x ≡ Test p (truth_of (value_of (term_of y) (vars_of vars p)))
      pub follows : (n : ℕ) → Follows e procs n (Live p) d (if truth_of (value_of (term_of y) (vars_of vars p)) then first else second) m

    decides_here : (r : Ref) (g : Term) (c c' d : Choreography) (f : Effect) → ((n : ℕ) → Follows e procs n (Live p) (Either r g c c') q m) → Decided vars r g c c' x f d → Decides d
    decides_here r g c c' d f every i = go (fork_of h) refl (λ n. subst (λ z. HoldsOf (Follows e procs n (Live p) (Either r g c c')) (λ y. BothHold (Follows e procs (suc n) (Live p) c) (Follows e procs (suc n) (Live p) c') m g (fork_of y)) z) stands (subst (λ b. follows_test e b g (Follows e procs n (Live p) (Either r g c c')) (Follows e procs (suc n) (Live p) c) (Follows e procs (suc n) (Live p) c') q m) own (every (suc n))))
      where
        same : i.p ≡ p
        same = sym (ap actor_of i.event) ∙ mine

        own : ref_eq (Live p) r ≡ true
        own = ap (ref_eq (Live p)) i.is ∙ ap (λ y. ref_eq (Live p) (Live y)) same ∙ self_ref (Live p)

        go : (o : Fork) → fork_of h ≡ o → ((n : ℕ) → BothHold (Follows e procs (suc n) (Live p) c) (Follows e procs (suc n) (Live p) c') m g o) → Decides d
        go NoFork j w = absurd (w 0)
        go (Forks y first second) j w =
            let value : truth_of (value_of g (vars_of vars i.p)) ≡ truth_of (value_of (term_of y) (vars_of vars p)) = ap (λ z. truth_of (value_of g (vars_of vars z))) same ∙ ap (λ z. truth_of (value_of z (vars_of vars p))) (sym (w 0).0) in
            record {
              y = y;
              first = first;
              second = second;
              is = j;
              event = i.event ∙ ap (λ z. Test z (truth_of (value_of g (vars_of vars i.p)))) same ∙ ap (Test p) value;
              follows = λ n. subst (λ z. Follows e procs n (Live p) z (if truth_of (value_of (term_of y) (vars_of vars p)) then first else second) m) (sym (i.left ∙ ap (λ b. if b then c else c') value)) (branch (truth_of (value_of (term_of y) (vars_of vars p))) n);
            }
          where
            branch : (b : Bool) (n : ℕ) → Follows e procs n (Live p) (if b then c else c') (if b then first else second) m
            branch true zero = tt
            branch true (suc n) = (w n).1
            branch false zero = tt
            branch false (suc n) = (w n).2

    pub decides : (b : Bool) → x ≡ Test p b → (sc : Scope) {c d : Choreography} {f : Effect} → IsWellFormed ks procs sc c → ((n : ℕ) → Follows e procs n (Live p) c q m) → Moves procs hosts vars sid c x f d → Decides d
    decides b t sc w every (head {n = node} {c = c} {d = d} {f = f} v a made) = absurd (at (headed vars sid v node c x f d made))
      where
        at : Headed vars sid v node c x f d → ⊥
        at (sends s r a' b' q' w' m' is made ev k left) = let z : Test p b ≡ Send r s a' b' (load_of m') = sym t ∙ ev in cc
        at (gets s r a' b' m' is ev k left) = let z : Test p b ≡ Recv r s a' b' (load_of m') = sym t ∙ ev in cc
        at (owns r o is made) = own o (made_event (vars_of vars r) r v o c d x f made)
          where
            own : (o : Own) → x ≡ own_event (vars_of vars r) r v o → ⊥
            own (Sets y g) i = let z : Test p b ≡ own_event (vars_of vars r) r v (Sets y g) = sym t ∙ i in cc
            own (Shows g) i = let z : Test p b ≡ own_event (vars_of vars r) r v (Shows g) = sym t ∙ i in cc
            own (Asks y g a' b') i = let z : Test p b ≡ own_event (vars_of vars r) r v (Asks y g a' b') = sym t ∙ i in cc
        at (starts ch k s active serve q' ps is lives ev g left) = subst NotStart ev ns
    decides b t sc w every (test {p = r} {x = g} {c = c} {c' = c'} {d = d} {f = f} made) = decides_here r g c c' d f every (decided vars r g c c' x f d made)
    decides b t sc w every (delay {n = node} {c = c} {d = d} u mv) =
        let none = none_act node (Live p) (passed (named_in node) u) in
        let z = decides b t (scope_after sc node) w.1 (one_less e procs (Live p) q m c (λ n. subst (λ o. follows_act e o (Follows e procs n (Live p) (Then node c)) (Follows e procs (suc n) (Live p) c) q m) none (every (suc n)))) mv in
        record { y = z.y; first = z.first; second = z.second; is = z.is; event = z.event; follows = past_node node d (Here (if truth_of (value_of (term_of z.y) (vars_of vars p)) then z.first else z.second) m) none z.follows }
    decides b t sc w every (both {p = r} {x = g} {c = c} {c' = c'} {d = d} {d' = d'} u mv mw) =
        let none : ref_eq (Live p) r ≡ false = left_or _ _ (passed (r ∷ []) u) in
        let two : (n : ℕ) → Follows e procs (suc n) (Live p) c q m × Follows e procs (suc n) (Live p) d q m = λ n. subst (λ y. follows_test e y g (Follows e procs n (Live p) (Either r g c d)) (Follows e procs (suc n) (Live p) c) (Follows e procs (suc n) (Live p) d) q m) none (every (suc n)) in
        let y = decides b t sc w.1 (one_less e procs (Live p) q m c (λ n. (two n).0)) mv in
        let z = decides b t sc w.2 (one_less e procs (Live p) q m d (λ n. (two n).1)) mw in
        let same : Forks z.y z.first z.second ≡ Forks y.y y.first y.second = sym z.is ∙ y.is in
        let place : Fork → CodeId = λ o. branch_of (vars_of vars p) o in
        record { y = y.y; first = y.first; second = y.second; is = y.is; event = y.event; follows = past_fork r g c' d' (Here (if truth_of (value_of (term_of y.y) (vars_of vars p)) then y.first else y.second) m) none y.follows (λ n. subst (λ o. Follows e procs n (Live p) d' o m) (ap place same) (z.follows n)) }
    decides b t sc w every (unfolded {h = g} {k = k} {ps = ps} {ss = ss} {c = c} {d = d} u mv) = go (among (Live p) ps) refl (λ every'. decides b t sc (bodies sc g k ps ss c u w) every' mv)
      where
        go : (z : Bool) → among (Live p) ps ≡ z → (((n : ℕ) → Follows e procs n (Live p) c q m) → Decides d) → Decides d
        go true i ih = ih (λ n. subst (λ o. follows_call e true o (Follows e procs n (Live p)) q m) u (subst (λ z. follows_call e z (body_of (procedure_named procs g) k ps ss) (Follows e procs n (Live p)) q m) i (every (suc n))))
        go false i ih = absurd (outsider sc (bodies sc g k ps ss c u w) (outside sc (Live p) g k ps ss c u w i tt) mv)
