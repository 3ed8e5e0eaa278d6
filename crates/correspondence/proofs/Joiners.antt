-- Who is in a start stands at its join and goes on after what is left; a new process's code follows what is left.
use Rattle.well_formed.proofs.Renames.{in_entered}
use Rattle.std.proofs.Common.{◌≡◌, ◌⊎◌, inl, inr, ℕ, zero, suc, ◌<◌, ◌≤◌, Bool, true, false, List, [], ◌∷◌, ◌++◌, length, Option, Some, None, refl, sym, ap, ◌∙◌, subst, if◌then◌else◌, ◌||◌, arith}
use Rattle.std.specs.Prelude.{map}
use Rattle.chor_base.specs.declared.names.NameId.{NameId}
use Rattle.chor_base.specs.declared.event.Event.{Event}
use Rattle.chor_base.specs.declared.event.Event.TheVariants.{Start}
use Rattle.chor_base.specs.Expr.{Term}
use Rattle.chor_base.specs.NameMap.{Variables}
use Rattle.chor_base.specs.Meaning.{Hosts}
use Rattle.chor_base.specs.Events.{actors_of}
use Rattle.chor_semantics.specs.Choreography.{Ref, Live, Named, ref_eq, among, meets, named_in, Node, Starts, Choreography, Then, Either, put, numbers_for, number_for}
use Rattle.chor_semantics.specs.Sources.{Procedure}
use Rattle.chor_semantics.specs.Steps.{Effect, Moves, head, test, delay, both, unfolded, live_parts, with_live, new_parts, procedure_named, body_of}
use Rattle.endpoint_code.specs.declared.code.CodeId.{CodeId}
use Rattle.endpoint_code.specs.declared.code.CodeNode.{CodeNode}
use Rattle.endpoint_code.specs.declared.code.CodeNode.TheVariants as code
use Rattle.endpoint_code.specs.declared.endpoints.Channel.{Channel}
use Rattle.endpoint_code.specs.declared.endpoints.Endpoints.{Endpoints}
use Rattle.endpoint_code.specs.Network.{node_at, service_of}
use Rattle.well_formed.specs.Follows.{SessionMap, no_sessions, with_session, Act, Joins, act_of, joins, role_in, Agrees, HoldsAt, place_after, Stands, standing, HoldsOf, follows_act, follows_test, follows_call, Follows}
use Rattle.well_formed.specs.WellFormed.{Scope, AllIn, AreDistinctRefs, AllNew, firsts, entered, scope_after, NodeFits, StartFits, CallFits, IsWellFormed}
use Rattle.well_formed.proofs.Absent.{IsNoDeeper, IsAbsent}
use Rattle.correspondence.specs.Services.{EachServiceFollows, ServicesFollowAt, ServicesFollow}
use Rattle.well_formed.proofs.References.{left_or, right_or, or_left, clash, true_eq, self_ref, same_ref, differ_ref, none_act}
use Rattle.well_formed.proofs.Heads.{headed, decided}
use Rattle.correspondence.proofs.Calls.{one_less}
use Rattle.correspondence.proofs.Renamed.{put_map, put_with, BodiesRenamed}
use Rattle.well_formed.proofs.LinearKept.{same_pid, same_sid, live_on, old_stays}
use Rattle.correspondence.proofs.Together.{new_apart, named_known}
use Rattle.correspondence.proofs.Bystanders.{StartsHere, starts_here, no_test, below_start}

-- a part of a start
abbrev pub In : NameId × ℕ → List (NameId × ℕ) → Type 0
In x [] = ⊥
In x (y ∷ ys) = (x ≡ y) ⊎ In x ys

-- an actor of a start that may happen past a node isn't named there
pub apart_from : (r : NameId) (p : ℕ) (parts : List (NameId × ℕ)) (rs : List Ref) → In (r, p) parts → meets (map (λ q. q.1) parts) rs ≡ false → among (Live p) rs ≡ false
apart_from r p [] rs i h = absurd i
apart_from r p (y ∷ ys) rs (inl e) h = ap (λ q. among (Live q.1) rs) e ∙ left_or (among (Live y.1) rs) (meets (map (λ q. q.1) ys) rs) h
apart_from r p (y ∷ ys) rs (inr j) h = apart_from r p ys rs j (right_or (among (Live y.1) rs) (meets (map (λ q. q.1) ys) rs) h)

-- an old process of a start is an active one
pub old_part : (r : NameId) (p n : ℕ) (ps : List (NameId × ℕ)) (serve : List (ℕ × NameId)) → p < n → In (r, p) (ps ++ new_parts serve n) → In (r, p) ps
old_part r p n [] serve h i = absurd (news serve n h i)
  where
    news : (ss : List (ℕ × NameId)) (m : ℕ) → p < m → In (r, p) (new_parts ss m) → ⊥
    news [] m g j = j
    news (s ∷ ss) m g (inl e) = let t : p ≡ m = ap (λ q. q.1) e in absurd (omega (arith, g, t))
    news (s ∷ ss) m g (inr j) = news ss (suc m) (omega (arith, g)) j
old_part r p n (q ∷ ps) serve h (inl e) = inl e
old_part r p n (q ∷ ps) serve h (inr j) = inr (old_part r p n ps serve h j)

-- and has its role there
pub has_role : (r : NameId) (p : ℕ) (active : List (Ref × NameId)) (ps : List (NameId × ℕ)) → live_parts active ≡ Some ps → AreDistinctRefs (firsts active) → In (r, p) ps → role_in (Live p) active ≡ Some r
has_role r p [] ps h n i = let e : [] ≡ ps = cc in absurd (subst (In (r, p)) (sym e) i)
has_role r p ((Named x k, b) ∷ as') ps h n i = absurd cc
has_role r p ((Live m, b) ∷ as') ps h n i = go (live_parts as') refl h (has_role r p as')
  where
    go : (o : Option (List (NameId × ℕ))) → live_parts as' ≡ o → with_live (Live m) b o ≡ Some ps → ((qs : List (NameId × ℕ)) → live_parts as' ≡ Some qs → AreDistinctRefs (firsts as') → In (r, p) qs → role_in (Live p) as' ≡ Some r) → role_in (Live p) ((Live m, b) ∷ as') ≡ Some r
    go None e j ih = absurd cc
    go (Some qs) e j ih =
        let k : (b, m) ∷ qs ≡ ps = cc in
        at (subst (In (r, p)) (sym k) i) (ih qs e n.1)
      where
        at : (◌≡◌ {A = NameId × ℕ} (r, p) (b, m)) ⊎ In (r, p) qs → (In (r, p) qs → role_in (Live p) as' ≡ Some r) → role_in (Live p) ((Live m, b) ∷ as') ≡ Some r
        at (inl w) jh =
            let u : p ≡ m = ap (λ q. q.1) w in
            let z : r ≡ b = ap (λ q. q.0) w in
            rw u (rw (true_eq m) (ap Some (sym z)))
        at (inr w) jh = other (ref_eq (Live p) (Live m)) refl (jh w)
          where
            role_named : (w : ℕ) (qs : List (Ref × NameId)) (t : NameId) → role_in (Live w) qs ≡ Some t → among (Live w) (firsts qs) ≡ true
            role_named w [] t x = absurd cc
            role_named w (q ∷ qs) t x = step (ref_eq (Live w) q.0) x (role_named w qs t)
              where
                step : (b : Bool) → (if b then Some q.1 else role_in (Live w) qs) ≡ Some t → (role_in (Live w) qs ≡ Some t → among (Live w) (firsts qs) ≡ true) → (b || among (Live w) (firsts qs)) ≡ true
                step true x ih = refl
                step false x ih = ih x

            other : (y : Bool) → ref_eq (Live p) (Live m) ≡ y → role_in (Live p) as' ≡ Some r → (if y then Some b else role_in (Live p) as') ≡ Some r
            other false u z = z
            other true u z = absurd (clash (role_named p as' r z) (ap (λ o. among o (firsts as')) (same_ref (Live p) (Live m) u) ∙ n.0))

module _ (ks : List Channel) (e : Endpoints) (procs : List Procedure) (hosts : Hosts) (vars : List Variables) (sid : ℕ)
    (bodies : (sc : Scope) (f : NameId) (d : ℕ) (ps ss : List Ref) (c : Choreography) → body_of (procedure_named procs f) d ps ss ≡ Some c → CallFits procs sc f d ps ss → IsWellFormed ks procs sc c)
    (outside : (sc : Scope) (p : Ref) (f : NameId) (d : ℕ) (ps ss : List Ref) (c : Choreography) → body_of (procedure_named procs f) d ps ss ≡ Some c → CallFits procs sc f d ps ss → among p ps ≡ false → IsNoDeeper d p → IsAbsent p c)
    (renamed : BodiesRenamed ks procs) where
  -- ---- an old process

  module _ (r : NameId) (p : ℕ) (old : p < length vars) where
    pub its_role : (sc : Scope) (n : Node) (c d : Choreography) (a : NameId) (s : ℕ) (parts : List (NameId × ℕ)) (i : StartsHere vars sid n c d a s parts) → NodeFits ks sc n → In (r, p) parts → role_in (Live p) i.active ≡ Some r
    its_role sc n c d a s parts i w j =
        let fit : StartFits ks sc a i.depth i.k i.active i.serve = subst (NodeFits ks sc) i.is w in
        has_role r p i.active (i.first ∷ i.others) i.lives fit.apart (old_part r p (length vars) (i.first ∷ i.others) i.serve old (subst (In (r, p)) i.parts_are j))

    -- who isn't named is in no start
    pub outsider : (a : NameId) (s : ℕ) (parts : List (NameId × ℕ)) (f : Effect) → In (r, p) parts → (sc : Scope) {c d : Choreography} {x : Event} → x ≡ Start a s parts → IsWellFormed ks procs sc c → IsAbsent (Live p) c → Moves procs hosts vars sid c x f d → ⊥
    outsider a s parts f j sc is w out (head {n = n} {c = c} {d = d} {e = x} v z made) =
        let i = starts_here vars sid v n c d x f a s parts is (headed vars sid v n c x f d made) in
        let role = its_role sc n c d a s parts i w.0 j in
        let o : among (Live p) (firsts i.active) ≡ false = subst (λ y. among (Live p) (named_in y) ≡ false) i.is out.0 in
        let none : act_of (Starts a i.depth i.k i.active i.serve) (Live p) ≡ None = none_act (Starts a i.depth i.k i.active i.serve) (Live p) o in
        absurd (not_both (ap (joins a (Named i.k i.depth)) role) none)
      where
        not_both : {o : Option Act} {g : Act} → o ≡ Some g → o ≡ None → ⊥
        not_both u w = cc
    outsider a s parts f j sc is w out (test {p = t} {x = g} {c = c} {c' = c'} {d = d} {e = x} made) = no_test vars t g c c' d x f a s parts is (decided vars t g c c' x f d made)
    outsider a s parts f j sc is w out (delay {n = n} u mv) = outsider a s parts f j (scope_after sc n) is w.1 out.1 mv
    outsider a s parts f j sc is w out (both u mv mw) = outsider a s parts f j sc is w.1 out.1 mv
    outsider a s parts f j sc is w out (unfolded {h = g} {k = k} {ps = ps} {ss = ss} {c = c} u mv) = outsider a s parts f j sc is (bodies sc g k ps ss c u w) (outside sc (Live p) g k ps ss c u w out.0 tt) mv

  module _ (r : NameId) (p : ℕ) (old : p < length vars) (q : CodeId) (m : SessionMap) (mine : (k d : ℕ) → ◌≡◌ {A = SessionMap} (put_map (number_for k d sid) m) m) (h : CodeNode) (stands : standing e (node_at e q) m ≡ Stands h) where
    -- it joins, and goes on
    pub record JoinsIt (a : NameId) (d : Choreography) : Type 0 where
      pub k : NameId
      pub next : CodeId
      pub is : h ≡ code.Join a r k next
      pub follows : (n : ℕ) → Follows e procs n (Live p) d next (with_session m k (Live sid, r))

    act_here : (node : Node) (rest : Choreography) (g : Act) → act_of node (Live p) ≡ Some g → ((n : ℕ) → Follows e procs n (Live p) (Then node rest) q m) → (n : ℕ) → Agrees m h g × HoldsAt (Follows e procs (suc n) (Live p) rest) (place_after m h g)
    act_here node rest g i every n =
        subst (λ s. HoldsOf (Follows e procs n (Live p) (Then node rest)) (λ c. Agrees m c g × HoldsAt (Follows e procs (suc n) (Live p) rest) (place_after m c g)) s) stands
        (subst (λ o. follows_act e o (Follows e procs n (Live p) (Then node rest)) (Follows e procs (suc n) (Live p) rest) q m) i (every (suc n)))

    skip_on : (node : Node) (rest : Choreography) → act_of node (Live p) ≡ None → (q' : CodeId) (m' : SessionMap) → ((n : ℕ) → Follows e procs n (Live p) rest q' m') → (n : ℕ) → Follows e procs n (Live p) (Then node rest) q' m'
    skip_on node rest i q' m' every zero = tt
    skip_on node rest i q' m' every (suc n) = subst (λ o. follows_act e o (Follows e procs n (Live p) (Then node rest)) (Follows e procs (suc n) (Live p) rest) q' m') (sym i) (every (suc n))

    fork_on : (t : Ref) (x : Term) (c d : Choreography) → ref_eq (Live p) t ≡ false → (q' : CodeId) (m' : SessionMap) → ((n : ℕ) → Follows e procs n (Live p) c q' m') → ((n : ℕ) → Follows e procs n (Live p) d q' m') → (n : ℕ) → Follows e procs n (Live p) (Either t x c d) q' m'
    fork_on t x c d i q' m' f g zero = tt
    fork_on t x c d i q' m' f g (suc n) = subst (λ b. follows_test e b x (Follows e procs n (Live p) (Either t x c d)) (Follows e procs (suc n) (Live p) c) (Follows e procs (suc n) (Live p) d) q' m') (sym i) (f (suc n), g (suc n))

    -- at the start itself
    at_head : (sc : Scope) → sc.pid ≡ length vars → sc.sid ≡ sid → (a : NameId) (d k : ℕ) (active : List (Ref × NameId)) (serve : List (ℕ × NameId)) (rest : Choreography) → IsWellFormed ks procs sc (Then (Starts a d k active serve) rest) → (g : CodeNode) → h ≡ g → ((n : ℕ) → Agrees m g (Joins a r (Named k d)) × HoldsAt (Follows e procs (suc n) (Live p) rest) (place_after m g (Joins a r (Named k d)))) → JoinsIt a (put (numbers_for d serve (length vars)) (number_for k d sid) rest)
    at_head sc pid_is sid_is a d k active serve rest w (code.Join c t x next) is z =
        let agrees = (z 0).0 in
        let names : ◌≡◌ {A = SessionMap} (put_map (number_for k d sid) (with_session m x (Named k d, t))) (with_session m x (Live sid, t)) = put_with (number_for k d sid) m x (Named k d) t (Live sid) goes ∙ ap (λ y. with_session y x (Live sid, t)) (mine k d) in
        record {
          k = x;
          next = next;
          is = is ∙ ap (λ y. code.Join y t x next) agrees.0 ∙ ap (λ y. code.Join a y x next) agrees.1;
          follows = all (λ n. subst (λ y. Follows e procs (suc n) (Live p) (put (numbers_for d serve (length vars)) (number_for k d sid) rest) next (with_session m x (Live sid, y))) agrees.1
              (subst (λ y. Follows e procs (suc n) (Live p) (put (numbers_for d serve (length vars)) (number_for k d sid) rest) next y) names
              (subst (λ y. Follows e procs (suc n) y (put (numbers_for d serve (length vars)) (number_for k d sid) rest) next (put_map (number_for k d sid) (with_session m x (Named k d, t)))) (live_on d serve (length vars) p)
              (below_start ks e procs hosts vars sid bodies outside renamed (Live p) sc pid_is sid_is a d k active serve w.0 (Live p) (at_least sc pid_is) (suc n) rest w.1 next (with_session m x (Named k d, t)) (z n).1))));
        }
      where
        goes : number_for k d sid (Named k d) ≡ Live sid
        goes = ap (λ b. if b then Live sid else Named k d) (self_ref (Named k d))

        at_least : (sc : Scope) → sc.pid ≡ length vars → p < sc.pid
        at_least sc i = omega (arith, i, old)

        all : ((n : ℕ) → Follows e procs (suc n) (Live p) (put (numbers_for d serve (length vars)) (number_for k d sid) rest) next (with_session m x (Live sid, r))) → (n : ℕ) → Follows e procs n (Live p) (put (numbers_for d serve (length vars)) (number_for k d sid) rest) next (with_session m x (Live sid, r))
        all f zero = tt
        all f (suc n) = f n
    at_head sc pid_is sid_is a d k active serve rest w _ is z = absurd (z 0).0

    -- who is in a start that the choreography makes stands at its join, and goes on there
    pub joiner : (a : NameId) (s : ℕ) (parts : List (NameId × ℕ)) (f : Effect) → In (r, p) parts → (sc : Scope) → sc.pid ≡ length vars → sc.sid ≡ sid → {c d : Choreography} {x : Event} → x ≡ Start a s parts → IsWellFormed ks procs sc c → ((n : ℕ) → Follows e procs n (Live p) c q m) → Moves procs hosts vars sid c x f d → JoinsIt a d
    joiner a s parts f j sc pid_is sid_is is w every (head {n = node} {c = c} {d = d} {e = x} v z made) =
        let i = starts_here vars sid v node c d x f a s parts is (headed vars sid v node c x f d made) in
        let role = its_role r p old sc node c d a s parts i w.0 j in
        let w' : IsWellFormed ks procs sc (Then (Starts a i.depth i.k i.active i.serve) c) = subst (λ y. IsWellFormed ks procs sc (Then y c)) i.is w in
        let acts : act_of node (Live p) ≡ Some (Joins a r (Named i.k i.depth)) = ap (λ y. act_of y (Live p)) i.is ∙ ap (joins a (Named i.k i.depth)) role in
        subst (JoinsIt a) (sym i.left) (at_head sc pid_is sid_is a i.depth i.k i.active i.serve c w' h refl (act_here node c (Joins a r (Named i.k i.depth)) acts every))
    joiner a s parts f j sc pid_is sid_is is w every (test {p = t} {x = g} {c = c} {c' = c'} {d = d} {e = x} made) = absurd (no_test vars t g c c' d x f a s parts is (decided vars t g c c' x f d made))
    joiner a s parts f j sc pid_is sid_is is w every (delay {n = node} {c = c} {d = d} {e = x} u mv) =
        let none = none_act node (Live p) (apart_from r p parts (named_in node) j (subst (λ y. meets (actors_of y) (named_in node) ≡ false) is u)) in
        let z = joiner a s parts f j (scope_after sc node) (same_pid sc node ∙ pid_is) (same_sid sc node ∙ sid_is) is w.1 (one_less e procs (Live p) q m c (λ n. subst (λ o. follows_act e o (Follows e procs n (Live p) (Then node c)) (Follows e procs (suc n) (Live p) c) q m) none (every (suc n)))) mv in
        record { k = z.k; next = z.next; is = z.is; follows = skip_on node d none z.next _ z.follows }
    joiner a s parts f j sc pid_is sid_is is w every (both {p = t} {x = g} {c = c} {c' = c'} {d = d} {d' = d'} u mv mw) =
        let none : ref_eq (Live p) t ≡ false = left_or _ _ (apart_from r p parts (t ∷ []) j (subst (λ y. meets (actors_of y) (t ∷ []) ≡ false) is u)) in
        let two : (n : ℕ) → Follows e procs (suc n) (Live p) c q m × Follows e procs (suc n) (Live p) d q m = λ n. subst (λ b. follows_test e b g (Follows e procs n (Live p) (Either t g c d)) (Follows e procs (suc n) (Live p) c) (Follows e procs (suc n) (Live p) d) q m) none (every (suc n)) in
        let y = joiner a s parts f j sc pid_is sid_is is w.1 (one_less e procs (Live p) q m c (λ n. (two n).0)) mv in
        let z = joiner a s parts f j sc pid_is sid_is is w.2 (one_less e procs (Live p) q m d (λ n. (two n).1)) mw in
        let both' : code.Join a r y.k y.next ≡ code.Join a r z.k z.next = sym y.is ∙ z.is in
        let k' : z.k ≡ y.k = cc in
        let next' : z.next ≡ y.next = cc in
        record { k = y.k; next = y.next; is = y.is; follows = fork_on t g c' d' none y.next _ y.follows (λ n. subst (λ o. Follows e procs n (Live p) d' y.next (with_session m o (Live sid, r))) k' (subst (λ o. Follows e procs n (Live p) d' o (with_session m z.k (Live sid, r))) next' (z.follows n))) }
    joiner a s parts f j sc pid_is sid_is is w every (unfolded {h = g} {k = k} {ps = ps} {ss = ss} {c = c} {d = d} u mv) =
        go (among (Live p) ps) refl (λ every'. joiner a s parts f j sc pid_is sid_is is (bodies sc g k ps ss c u w) every' mv)
      where
        go : (b : Bool) → among (Live p) ps ≡ b → (((n : ℕ) → Follows e procs n (Live p) c q m) → JoinsIt a d) → JoinsIt a d
        go true i ih = ih (λ n. subst (λ o. follows_call e true o (Follows e procs n (Live p)) q m) u (subst (λ b. follows_call e b (body_of (procedure_named procs g) k ps ss) (Follows e procs n (Live p)) q m) i (every (suc n))))
        go false i ih = absurd (outsider r p old a s parts f j sc is (bodies sc g k ps ss c u w) (outside sc (Live p) g k ps ss c u w i tt) mv)

  -- ---- a new process

  -- the name of a new process
  record Binds (a : NameId) (d k : ℕ) (serve : List (ℕ × NameId)) (bs : List Ref) (n : ℕ) (r : NameId) (m : ℕ) (rest : Choreography) : Type 0 where
    x : ℕ
    known : (j : ℕ) → Follows e procs j (Named x d) rest (service_of e.services a r) (with_session no_sessions a (Named k d, r))
    here : among (Named x d) (entered d serve bs) ≡ true
    number : numbers_for d serve n (Named x d) ≡ Live m

  binds : (a : NameId) (d k : ℕ) (rest : Choreography) (serve : List (ℕ × NameId)) (bs : List Ref) (n : ℕ) (r : NameId) (m : ℕ) → In (r, m) (new_parts serve n) → AllNew d serve bs → EachServiceFollows e procs rest a d k serve → Binds a d k serve bs n r m rest
  binds a d k rest [] bs n r m i t w = absurd i
  binds a d k rest (s ∷ ss) bs n r m (inl i) t w =
      let r' : r ≡ s.1 = ap (λ q. q.0) i in
      let m' : m ≡ n = ap (λ q. q.1) i in
      record {
        x = s.0;
        known = λ j. subst (λ y. Follows e procs j (Named s.0 d) rest (service_of e.services a y) (with_session no_sessions a (Named k d, y))) (sym r') (w.0 j);
        here = in_entered d ss (Named s.0 d ∷ bs) (Named s.0 d) (or_left _ _ (self_ref (Named s.0 d)));
        number = ap (λ b. numbers_for d ss (suc n) (if b then Live n else Named s.0 d)) (self_ref (Named s.0 d)) ∙ live_on d ss (suc n) n ∙ ap Live (sym m');
      }
  binds a d k rest (s ∷ ss) bs n r m (inr i) t w =
      let b = binds a d k rest ss (Named s.0 d ∷ bs) (suc n) r m i t.1 w.1 in
      let off : ref_eq (Named s.0 d) (Named b.x d) ≡ false = differ_ref (Named s.0 d) (Named b.x d) (λ e'. moved b.x b.number e') in
      record {
        x = b.x;
        known = b.known;
        here = b.here;
        number = ap (λ y. numbers_for d ss (suc n) (if y then Live n else Named b.x d)) off ∙ b.number;
      }
    where
      moved : (x : ℕ) → numbers_for d ss (suc n) (Named x d) ≡ Live m → Named s.0 d ≡ Named x d → ⊥
      moved x i e' =
          let stays : numbers_for d ss (suc n) (Named s.0 d) ≡ Named s.0 d = old_stays d ss (suc n) (Named s.0 d ∷ bs) s.0 d t.1 (or_left _ _ (self_ref (Named s.0 d))) in
          let z : Live m ≡ Named s.0 d = sym i ∙ ap (numbers_for d ss (suc n)) (sym e') ∙ stays in cc

  -- an active process is old
  pub active_old : (n m : ℕ) (bs : List Ref) (r : NameId) (active : List (Ref × NameId)) (ps : List (NameId × ℕ)) → live_parts active ≡ Some ps → AllIn n bs (firsts active) → In (r, m) ps → m < n
  active_old n m bs r [] ps h w i = let e : [] ≡ ps = cc in absurd (subst (In (r, m)) (sym e) i)
  active_old n m bs r ((Named x k, b) ∷ as') ps h w i = absurd cc
  active_old n m bs r ((Live z, b) ∷ as') ps h w i = go (live_parts as') refl h (λ qs e j. active_old n m bs r as' qs e w.1 j)
    where
      go : (o : Option (List (NameId × ℕ))) → live_parts as' ≡ o → with_live (Live z) b o ≡ Some ps → ((qs : List (NameId × ℕ)) → live_parts as' ≡ Some qs → In (r, m) qs → m < n) → m < n
      go None e j ih = absurd cc
      go (Some qs) e j ih =
          let k : (b, z) ∷ qs ≡ ps = cc in at (subst (In (r, m)) (sym k) i)
        where
          at : (◌≡◌ {A = NameId × ℕ} (r, m) (b, z)) ⊎ In (r, m) qs → m < n
          at (inl u) = subst (λ y. y < n) (sym (ap (λ q. q.1) u)) w.0
          at (inr u) = ih qs e u

  new_part : (r : NameId) (m n : ℕ) (ps : List (NameId × ℕ)) (serve : List (ℕ × NameId)) → (In (r, m) ps → m < n) → n ≤ m → In (r, m) (ps ++ new_parts serve n) → In (r, m) (new_parts serve n)
  new_part r m n [] serve j h i = i
  new_part r m n (q ∷ ps) serve j h (inl i) = let z = j (inl i) in absurd (omega (arith, z, h))
  new_part r m n (q ∷ ps) serve j h (inr i) = new_part r m n ps serve (λ u. j (inr u)) h i

  module _ (r : NameId) (p : ℕ) (young : length vars ≤ p) where
    unnamed : (sc : Scope) → sc.pid ≡ length vars → (rs : List Ref) → AllIn sc.pid sc.processes rs → among (Live p) rs ≡ false
    unnamed sc i rs w = new_apart sc.pid p sc.processes rs (omega (arith, i, young)) w

    new_head : (a : NameId) (s : ℕ) (parts : List (NameId × ℕ)) → In (r, p) parts → (sc : Scope) → sc.pid ≡ length vars → sc.sid ≡ sid → (n : Node) (c d : Choreography) → IsWellFormed ks procs sc (Then n c) → ServicesFollowAt e procs c n → StartsHere vars sid n c d a s parts → (j : ℕ) → Follows e procs j (Live p) d (service_of e.services a r) (with_session no_sessions a (Live sid, r))
    new_head a s parts j sc pid_is sid_is n c d w h i u =
        let w' : IsWellFormed ks procs sc (Then (Starts a i.depth i.k i.active i.serve) c) = subst (λ y. IsWellFormed ks procs sc (Then y c)) i.is w in
        let serves : EachServiceFollows e procs c a i.depth i.k i.serve = subst (ServicesFollowAt e procs c) i.is h in
        let part : In (r, p) (new_parts i.serve (length vars)) = new_part r p (length vars) (i.first ∷ i.others) i.serve (λ z. subst (λ y. p < y) pid_is (active_old sc.pid p sc.processes r i.active (i.first ∷ i.others) i.lives w'.0.known z)) young (subst (In (r, p)) i.parts_are j) in
        let b = binds a i.depth i.k c i.serve sc.processes (length vars) r p part w'.0.new_processes serves in
        let names : ◌≡◌ {A = SessionMap} (put_map (number_for i.k i.depth sid) (with_session no_sessions a (Named i.k i.depth, r))) (with_session no_sessions a (Live sid, r)) = put_with (number_for i.k i.depth sid) no_sessions a (Named i.k i.depth) r (Live sid) (ap (λ y. if y then Live sid else Named i.k i.depth) (self_ref (Named i.k i.depth))) in
        subst (λ y. Follows e procs u (Live p) y (service_of e.services a r) (with_session no_sessions a (Live sid, r))) (sym i.left)
        (subst (λ y. Follows e procs u (Live p) (put (numbers_for i.depth i.serve (length vars)) (number_for i.k i.depth sid) c) (service_of e.services a r) y) names
        (subst (λ y. Follows e procs u y (put (numbers_for i.depth i.serve (length vars)) (number_for i.k i.depth sid) c) (service_of e.services a r) (put_map (number_for i.k i.depth sid) (with_session no_sessions a (Named i.k i.depth, r)))) b.number
        (below_start ks e procs hosts vars sid bodies outside renamed (Live p) sc pid_is sid_is a i.depth i.k i.active i.serve w'.0 (Named b.x i.depth) b.here u c w'.1 (service_of e.services a r) (with_session no_sessions a (Named i.k i.depth, r)) (b.known u))))

    past_node : (node : Node) (d : Choreography) (q : CodeId) (m : SessionMap) → act_of node (Live p) ≡ None → ((n : ℕ) → Follows e procs n (Live p) d q m) → (n : ℕ) → Follows e procs n (Live p) (Then node d) q m
    past_node node d q m i w zero = tt
    past_node node d q m i w (suc n) = subst (λ z. follows_act e z (Follows e procs n (Live p) (Then node d)) (Follows e procs (suc n) (Live p) d) q m) (sym i) (w (suc n))

    past_fork : (t : Ref) (g : Term) (c d : Choreography) (q : CodeId) (m : SessionMap) → ref_eq (Live p) t ≡ false → ((n : ℕ) → Follows e procs n (Live p) c q m) → ((n : ℕ) → Follows e procs n (Live p) d q m) → (n : ℕ) → Follows e procs n (Live p) (Either t g c d) q m
    past_fork t g c d q m i w z zero = tt
    past_fork t g c d q m i w z (suc n) = subst (λ y. follows_test e y g (Follows e procs n (Live p) (Either t g c d)) (Follows e procs (suc n) (Live p) c) (Follows e procs (suc n) (Live p) d) q m) (sym i) (w (suc n), z (suc n))

    -- a new process's code is its service's, and follows what is left
    pub serves_new : (served_bodies : (sc : Scope) (f : NameId) (d : ℕ) (ps ss : List Ref) (c : Choreography) → body_of (procedure_named procs f) d ps ss ≡ Some c → CallFits procs sc f d ps ss → ServicesFollow e procs c) → (a : NameId) (s : ℕ) (parts : List (NameId × ℕ)) (f : Effect) → In (r, p) parts → (sc : Scope) → sc.pid ≡ length vars → sc.sid ≡ sid → {c d : Choreography} {x : Event} → x ≡ Start a s parts → IsWellFormed ks procs sc c → ServicesFollow e procs c → Moves procs hosts vars sid c x f d → (n : ℕ) → Follows e procs n (Live p) d (service_of e.services a r) (with_session no_sessions a (Live sid, r))
    serves_new sb a s parts f j sc pid_is sid_is is w h (head {n = node} {c = c} {d = d} {e = x} v z made) = new_head a s parts j sc pid_is sid_is node c d w h.0 (starts_here vars sid v node c d x f a s parts is (headed vars sid v node c x f d made))
    serves_new sb a s parts f j sc pid_is sid_is is w h (test {p = t} {x = g} {c = c} {c' = c'} {d = d} {e = x} made) = absurd (no_test vars t g c c' d x f a s parts is (decided vars t g c c' x f d made))
    serves_new sb a s parts f j sc pid_is sid_is is w h (delay {n = node} {d = d} u mv) = past_node node d (service_of e.services a r) (with_session no_sessions a (Live sid, r)) (none_act node (Live p) (unnamed sc pid_is (named_in node) (named_known ks sc node w.0))) (serves_new sb a s parts f j (scope_after sc node) (same_pid sc node ∙ pid_is) (same_sid sc node ∙ sid_is) is w.1 h.1 mv)
    serves_new sb a s parts f j sc pid_is sid_is is w h (both {p = t} {x = g} {c' = c'} {d' = d'} u mv mw) = past_fork t g c' d' (service_of e.services a r) (with_session no_sessions a (Live sid, r)) (left_or _ _ (unnamed sc pid_is (t ∷ []) (w.0.0, tt))) (serves_new sb a s parts f j sc pid_is sid_is is w.1 h.0 mv) (serves_new sb a s parts f j sc pid_is sid_is is w.2 h.1 mw)
    serves_new sb a s parts f j sc pid_is sid_is is w h (unfolded {h = g} {k = k} {ps = ps} {ss = ss} {c = c} u mv) = serves_new sb a s parts f j sc pid_is sid_is is (bodies sc g k ps ss c u w) (sb sc g k ps ss c u w) mv
