-- Linearity is kept by each step, and names and numbers by a start.
use Rattle.std.proofs.Common.{◌≡◌, ◌⊎◌, inl, inr, ℕ, suc, ◌+◌, Bool, true, false, List, [], ◌∷◌, ◌++◌, length, Option, Some, None, refl, sym, ap, ◌∙◌, subst, if◌then◌else◌, ◌==◌, ◌||◌, ◌&&◌, arith, ℤ, ◌≤◌}
use Rattle.std.specs.Prelude.{map}
use Rattle.chor_base.specs.declared.names.NameId.{NameId}
use Rattle.chor_base.specs.declared.event.Event.{Event}
use Rattle.chor_base.specs.declared.event.Event.TheVariants.{Start, Send, Recv, Test}
use Rattle.chor_base.specs.Expr.{value_of, truth_of}
use Rattle.chor_base.specs.NameMap.{Variables}
use Rattle.chor_base.specs.Meaning.{Hosts}
use Rattle.chor_base.specs.Events.{actors_of}
use Rattle.chor_semantics.specs.Choreography.{Ref, Live, Named, ref_eq, among, meets, named_in, Node, Starts, Communicates, InTransit, Alone, Choreography, Then, numbers_for, number_for}
use Rattle.chor_semantics.specs.Sources.{Procedure}
use Rattle.chor_semantics.specs.Steps.{Effect, Moves, head, test, delay, both, unfolded, live_parts, with_live, new_parts, load_of, vars_of, procedure_named, body_of}
use Rattle.endpoint_code.specs.declared.endpoints.Channel.{Channel}
use Rattle.endpoint_code.specs.Network.{channel_of}
use Rattle.well_formed.specs.WellFormed.{Scope, IsIn, AllIn, IsProcess, AllNew, entered, firsts, service_refs, scope_after, NodeFits, StartFits, CallFits, IsWellFormed}
use Rattle.well_formed.specs.Linear.{Members, ParameterSets, any_in, all_in, after_start, members_after, joins_from, given, all_given, IsLinear}
use Rattle.well_formed.proofs.References.{left_or, right_or, or_false, or_left, or_rights, or_case, and_first, and_second, clash, same_ref, differ_ref, NotStart}
use Rattle.well_formed.proofs.Heads.{Headed, sends, gets, owns, starts, headed, owned_event, decided}
use Rattle.well_formed.proofs.Members.{Within, AllStay, linear_put, linear_more, id_node}
use Rattle.well_formed.proofs.Renames.{in_entered, Renames, opens_all, opens, all_stay, fits_put, counted, node_put}

abbrev pub Everyone : Members → Type 0
Everyone dep = (r : Ref) → dep r ≡ true

abbrev pub AllOut : Members → List ℕ → Type 0
AllOut dep [] = Unit {0}
AllOut dep (n ∷ ns) = (dep (Live n) ≡ false) × AllOut dep ns

-- a set that holds names in scope alone
abbrev pub InScope : List Ref → Members → Type 0
InScope bs dep = (x d : ℕ) → dep (Named x d) ≡ true → among (Named x d) bs ≡ true

-- either everyone is in the set, or none of these processes, and names in scope alone
abbrev pub Ready : List Ref → Members → List ℕ → Type 0
Ready bs dep ps = Everyone dep ⊎ (AllOut dep ps × InScope bs dep)

pub no_service : (w d : ℕ) (serve : List (ℕ × NameId)) → among (Live w) (service_refs d serve) ≡ false
no_service w d [] = refl
no_service w d (s ∷ ss) = no_service w d ss

-- whom a node doesn't name, it doesn't bring in
pub kept_out : (a : NameId) (dep : Members) (p : ℕ) (n : Node) → among (Live p) (named_in n) ≡ false → dep (Live p) ≡ false → members_after a dep n (Live p) ≡ false
kept_out a dep p (Starts c d k active serve) h g = go (c.0 == a.0)
  where
    out : (among (Live p) (firsts active) || among (Live p) (service_refs d serve)) ≡ false
    out = or_false _ _ h (no_service p d serve)

    also : (x y z : Bool) → x ≡ false → z ≡ false → (x || (y && z)) ≡ false
    also x true z i j = rw i j
    also x false z i j = rw i refl

    go : (b : Bool) → after_start b dep (firsts active) (service_refs d serve) (Live p) ≡ false
    go true = out
    go false = also _ _ _ g out
kept_out a dep p (Communicates s q x r y w) h g = go (dep q) (ref_eq (Live p) r) (left_or _ _ (right_or (ref_eq (Live p) q) _ h))
  where
    go : (z b : Bool) → b ≡ false → (dep (Live p) || (z && b)) ≡ false
    go true b i = or_false _ _ g i
    go false b i = or_false _ _ g refl
kept_out a dep p (InTransit s x y m q) h g = g
kept_out a dep p (Alone q o) h g = g

out_after : (a : NameId) (dep : Members) (n : Node) (ps : List ℕ) → AllOut dep ps → meets ps (named_in n) ≡ false → AllOut (members_after a dep n) ps
out_after a dep n [] o h = tt
out_after a dep n (p ∷ ps) (o, os) h = (kept_out a dep p n (left_or _ _ h) o, out_after a dep n ps os (right_or _ _ h))

out_of : (dep : Members) (rs serve : List Ref) (ps : List ℕ) → ((p : ℕ) → among (Live p) serve ≡ false) → meets ps rs ≡ false → AllOut (λ r. among r rs || among r serve) ps
out_of dep rs serve [] k h = tt
out_of dep rs serve (p ∷ ps) k h = (or_false _ _ (left_or _ _ h) (k p), out_of dep rs serve ps k (right_or _ _ h))

-- a body's set is within the set at its call
pub given_in : (dep : Members) (f : ℕ → Bool) (i : ℕ) (ps : List Ref) → all_given dep f i ps ≡ true → (r : Ref) → given f i ps r ≡ true → dep r ≡ true
given_in dep f i [] h r k = absurd cc
given_in dep f i (p ∷ ps) h r k = go (f i) h k (given_in dep f (suc i) ps)
  where
    go : (y : Bool) → ((if y then dep p else true) && all_given dep f (suc i) ps) ≡ true → ((y && ref_eq r p) || given f (suc i) ps r) ≡ true → (all_given dep f (suc i) ps ≡ true → (r : Ref) → given f (suc i) ps r ≡ true → dep r ≡ true) → dep r ≡ true
    go true u v ih = or_case (ref_eq r p) _ _ v (λ w. ap dep (same_ref r p w) ∙ and_first _ _ u) (λ w. ih (and_second _ _ u) r w)
    go false u v ih = ih u r v

-- names in scope
scope_active : (n : ℕ) (bs : List Ref) (rs : List Ref) (x d : ℕ) → AllIn n bs rs → among (Named x d) rs ≡ true → among (Named x d) bs ≡ true
scope_active n bs [] x d k h = absurd cc
scope_active n bs (q ∷ qs) x d (k, ks) h = or_case (ref_eq (Named x d) q) (among (Named x d) qs) _ h (λ i. subst (IsIn n bs) (sym (same_ref (Named x d) q i)) k) (scope_active n bs qs x d ks)

pub service_entered : (d : ℕ) (serve : List (ℕ × NameId)) (bs : List Ref) (r : Ref) → among r (service_refs d serve) ≡ true → among r (entered d serve bs) ≡ true
service_entered d [] bs r h = absurd cc
service_entered d (s ∷ ss) bs r h = or_case (ref_eq r (Named s.0 d)) (among r (service_refs d ss)) _ h (λ i. in_entered d ss (Named s.0 d ∷ bs) r (or_left _ _ i)) (λ i. service_entered d ss (Named s.0 d ∷ bs) r i)

start_scope : (ks : List Channel) (sc : Scope) (c : NameId) (d k : ℕ) (active : List (Ref × NameId)) (serve : List (ℕ × NameId)) → StartFits ks sc c d k active serve → (x y : ℕ) → (among (Named x y) (firsts active) || among (Named x y) (service_refs d serve)) ≡ true → among (Named x y) (entered d serve sc.processes) ≡ true
start_scope ks sc c d k active serve w x y h = or_case _ _ _ h (λ i. in_entered d serve sc.processes (Named x y) (scope_active sc.pid sc.processes (firsts active) x y w.known i)) (λ i. service_entered d serve sc.processes (Named x y) i)

module _ (ks : List Channel) (a : NameId) where
  scope_kept : (sc : Scope) (dep : Members) (n : Node) → NodeFits ks sc n → InScope sc.processes dep → InScope (scope_after sc n).processes (members_after a dep n)
  scope_kept sc dep (Starts c d k active serve) s i x y h = go (c.0 == a.0) h
    where
      go : (z : Bool) → after_start z dep (firsts active) (service_refs d serve) (Named x y) ≡ true → among (Named x y) (entered d serve sc.processes) ≡ true
      go true u = start_scope ks sc c d k active serve s x y u
      go false u = or_case _ _ _ u (λ w. in_entered d serve sc.processes (Named x y) (i x y w)) (λ w. start_scope ks sc c d k active serve s x y (and_second _ _ w))
  scope_kept sc dep (Communicates t p v q z w) s i x y h = or_case _ _ _ h (λ u. i x y u) (λ u. subst (IsProcess sc) (sym (same_ref (Named x y) q (and_second _ _ u))) s.receiver)
  scope_kept sc dep (InTransit t v z m q) s i x y h = i x y h
  scope_kept sc dep (Alone p o) s i x y h = i x y h

  -- past a node
  pub ready_after : (sc : Scope) (dep : Members) (n : Node) (ps : List ℕ) → NodeFits ks sc n → meets ps (named_in n) ≡ false → Ready sc.processes dep ps → Ready (scope_after sc n).processes (members_after a dep n) ps
  ready_after sc dep n ps s h (inr (o, i)) = inr (out_after a dep n ps o h, scope_kept sc dep n s i)
  ready_after sc dep (Starts c d k active serve) ps s h (inl every) = go (c.0 == a.0)
    where
      go : (y : Bool) → Ready (entered d serve sc.processes) (after_start y dep (firsts active) (service_refs d serve)) ps
      go true = inr (out_of dep (firsts active) (service_refs d serve) ps (λ p. no_service p d serve) h, λ x y u. start_scope ks sc c d k active serve s x y u)
      go false = inl (λ r. or_left _ _ (every r))
  ready_after sc dep (Communicates t p y q z w) ps s h (inl every) = inl (λ r. or_left _ _ (every r))
  ready_after sc dep (InTransit t y z m q) ps s h (inl every) = inl every
  ready_after sc dep (Alone p o) ps s h (inl every) = inl every

-- numbers stay
pub live_on : (d : ℕ) (ss : List (ℕ × NameId)) (n m : ℕ) → numbers_for d ss n (Live m) ≡ Live m
live_on d [] n m = refl
live_on d (s ∷ ss) n m = live_on d ss (suc n) m

-- and so do names that were in scope before
pub old_stays : (d : ℕ) (ss : List (ℕ × NameId)) (n : ℕ) (bs : List Ref) (x y : ℕ) → AllNew d ss bs → among (Named x y) bs ≡ true → numbers_for d ss n (Named x y) ≡ Named x y
old_stays d [] n bs x y h k = refl
old_stays d (s ∷ ss) n bs x y h k =
    let off : ref_eq (Named s.0 d) (Named x y) ≡ false = differ_ref (Named s.0 d) (Named x y) (λ e. clash (ap (λ z. among z bs) e ∙ k) h.0) in
    ap (λ b. numbers_for d ss (suc n) (if b then Live n else Named x y)) off ∙ old_stays d ss (suc n) (Named s.0 d ∷ bs) x y h.1 (or_rights _ _ k)

pub same_pid : (sc : Scope) (n : Node) → (scope_after sc n).pid ≡ sc.pid
same_pid sc (Starts c d k active serve) = refl
same_pid sc (Communicates s p a q b w) = refl
same_pid sc (InTransit s a b m q) = refl
same_pid sc (Alone p o) = refl

pub same_sid : (sc : Scope) (n : Node) → (scope_after sc n).sid ≡ sc.sid
same_sid sc (Starts c d k active serve) = refl
same_sid sc (Communicates s p a q b w) = refl
same_sid sc (InTransit s a b m q) = refl
same_sid sc (Alone p o) = refl

length_seconds : (serve : List (ℕ × NameId)) → length (map (λ s. s.1) serve) ≡ length serve
length_seconds [] = refl
length_seconds (s ∷ ss) = ap suc (length_seconds ss)

none_in : (dep : Members) (active : List (Ref × NameId)) (ps more : List (NameId × ℕ)) → live_parts active ≡ Some ps → AllOut dep (map (λ q. q.1) (ps ++ more)) → any_in dep (firsts active) ≡ false
none_in dep [] ps more h o = refl
none_in dep ((Named x k, b) ∷ as') ps more h o = absurd cc
none_in dep ((Live m, b) ∷ as') ps more h o = go (live_parts as') refl h (none_in dep as')
  where
    go : (z : Option (List (NameId × ℕ))) → live_parts as' ≡ z → with_live (Live m) b z ≡ Some ps → ((qs more : List (NameId × ℕ)) → live_parts as' ≡ Some qs → AllOut dep (map (λ q. q.1) (qs ++ more)) → any_in dep (firsts as') ≡ false) → (dep (Live m) || any_in dep (firsts as')) ≡ false
    go None e i ih = absurd cc
    go (Some qs) e i ih =
        let k : (b, m) ∷ qs ≡ ps = cc in
        let o' : AllOut dep (map (λ q. q.1) (((b, m) ∷ qs) ++ more)) = subst (λ y. AllOut dep (map (λ q. q.1) (y ++ more))) (sym k) o in
        or_false _ _ o'.0 (ih qs more e o'.1)

all_any : (dep : Members) (r : Ref) (rs : List Ref) → all_in dep (r ∷ rs) ≡ true → any_in dep (r ∷ rs) ≡ true
all_any dep r rs h = or_left (dep r) (any_in dep rs) (and_first (dep r) (all_in dep rs) h)

some_active : (active : List (Ref × NameId)) (q : NameId × ℕ) (ps : List (NameId × ℕ)) (dep : Members) → live_parts active ≡ Some (q ∷ ps) → all_in dep (firsts active) ≡ true → any_in dep (firsts active) ≡ true
some_active [] q ps dep h i = absurd cc
some_active (y ∷ ys) q ps dep h i = all_any dep y.0 (firsts ys) i

module _ (ks : List Channel) (procs : List Procedure) (hosts : Hosts) (vars : List Variables) (sid : ℕ)
    (bodies : (sc : Scope) (f : NameId) (d : ℕ) (ps ss : List Ref) (c : Choreography) → body_of (procedure_named procs f) d ps ss ≡ Some c → CallFits procs sc f d ps ss → IsWellFormed ks procs sc c) where
  module _ (a : NameId) (sets : ParameterSets)
      (linear_bodies : (sc : Scope) (h : NameId) (d : ℕ) (ps ss : List Ref) (c : Choreography) → body_of (procedure_named procs h) d ps ss ≡ Some c → CallFits procs sc h d ps ss → IsLinear a sets (given (sets h) 0 ps) c) where
    sender_out : (dep : Members) (p : ℕ) (q : Ref) (bs : List Ref) → Ready bs dep (p ∷ []) → (r : Ref) → (dep r || (dep (Live p) && ref_eq r q)) ≡ true → dep r ≡ true
    sender_out dep p q bs (inl every) r h = every r
    sender_out dep p q bs (inr (o, i)) r h = or_case _ _ _ h (λ y. y) (λ y. absurd (clash (and_first _ _ y) o.0))

    start_in : (sc : Scope) (ch : NameId) (d k : ℕ) (dep : Members) (active : List (Ref × NameId)) (serve : List (ℕ × NameId)) (q : NameId × ℕ) (ps : List (NameId × ℕ)) (n : ℕ) → live_parts active ≡ Some (q ∷ ps) → StartFits ks sc ch d k active serve → Ready sc.processes dep (map (λ y. y.1) ((q ∷ ps) ++ new_parts serve n)) → joins_from a dep (Starts ch d k active serve) ≡ true → Within (numbers_for d serve n) (after_start (ch.0 == a.0) dep (firsts active) (service_refs d serve)) dep
    start_in sc ch d k dep active serve q ps n lives w (inl every) jo r h = every _
    start_in sc ch d k dep active serve q ps n lives w (inr (o, i)) jo r h = go (ch.0 == a.0) jo r h
      where
        out : any_in dep (firsts active) ≡ false
        out = none_in dep active (q ∷ ps) (new_parts serve n) lives o

        stays : (r : Ref) → dep r ≡ true → dep (numbers_for d serve n r) ≡ true
        stays (Live m) k' = ap dep (live_on d serve n m) ∙ k'
        stays (Named x y) k' = ap dep (old_stays d serve n sc.processes x y w.new_processes (i x y k')) ∙ k'

        go : (y : Bool) → (if y then all_in dep (firsts active) else true) ≡ true → Within (numbers_for d serve n) (after_start y dep (firsts active) (service_refs d serve)) dep
        go true u r h = absurd (clash (some_active active q ps dep lives u) out)
        go false u r h = or_case (dep r) _ _ h (λ z. stays r z) (λ z. absurd (clash (and_first _ _ z) out))

    linear_head : (sc : Scope) → sc.pid ≡ length vars → (dep : Members) (v : ℤ) (n : Node) (c d : Choreography) (x : Event) (f : Effect) → IsWellFormed ks procs sc (Then n c) → Ready sc.processes dep (actors_of x) → IsLinear a sets dep (Then n c) → Headed vars sid v n c x f d → IsLinear a sets dep d
    linear_head sc next dep v n c d x f w re l (sends s p y z q t m is made ev k left) =
        let re' : Ready sc.processes dep (p ∷ []) = subst (λ e. Ready sc.processes dep (actors_of e)) ev re in
        subst (IsLinear a sets dep) (sym left) (refl, linear_more a sets (members_after a dep (Communicates (Live s) (Live p) y q z t)) dep (sender_out dep p q sc.processes re') c (subst (λ e. IsLinear a sets (members_after a dep e) c) is l.1))
    linear_head sc next dep v n c d x f w re l (gets s q y z m is ev k left) = subst (IsLinear a sets dep) (sym left) (subst (λ e. IsLinear a sets (members_after a dep e) c) is l.1)
    linear_head sc next dep v n c d x f w re l (owns p o is made) = subst (IsLinear a sets dep) (sym (owned_event vars sid v (vars_of vars p) p o c d x f made).2) (subst (λ e. IsLinear a sets (members_after a dep e) c) is l.1)
    linear_head sc next dep v n c d x f w re l (starts ch j k active serve q ps is lives ev g left) =
        let re' : Ready sc.processes dep (map (λ y. y.1) ((q ∷ ps) ++ new_parts serve (length vars))) = subst (λ e. Ready sc.processes dep (actors_of e)) ev re in
        let w' : IsWellFormed ks procs sc (Then (Starts ch j k active serve) c) = subst (λ y. IsWellFormed ks procs sc (Then y c)) is w in
        let l' : IsLinear a sets dep (Then (Starts ch j k active serve) c) = subst (λ y. IsLinear a sets dep (Then y c)) is l in
        let inner : Scope = scope_after sc (Starts ch j k active serve) in
        let outer : Scope = record { pid = sc.pid + length serve; processes = sc.processes; sid = sc.sid; sessions = inner.sessions } in
        let opening : Renames (numbers_for j serve (length vars)) sc.pid (sc.pid + length serve) inner.processes sc.processes = subst (λ y. Renames (numbers_for j serve y) sc.pid (sc.pid + length serve) inner.processes sc.processes) next (opens_all j serve sc.pid sc.processes w'.0.new_processes) in
        let stays : AllStay (numbers_for j serve (length vars)) c = all_stay ks procs (numbers_for j serve (length vars)) (λ r. r) inner outer opening c w'.1 in
        subst (IsLinear a sets dep) (sym left) (linear_put (numbers_for j serve (length vars)) (number_for k j sid) a sets _ dep (start_in sc ch j k dep active serve q ps (length vars) lives w'.0 re' l'.0) c stays l'.1)

    -- each step keeps linearity
    pub linear_kept : (sc : Scope) → sc.pid ≡ length vars → (dep : Members) {c d : Choreography} {x : Event} {f : Effect} → IsWellFormed ks procs sc c → Ready sc.processes dep (actors_of x) → IsLinear a sets dep c → Moves procs hosts vars sid c x f d → IsLinear a sets dep d
    linear_kept sc next dep w re l (head {n = n} {c = c} {d = d} {e = x} {f = f} v z h) = linear_head sc next dep v n c d x f w re l (headed vars sid v n c x f d h)
    linear_kept sc next dep w re l (test {p = p} {x = g} {c = c} {c' = c'} {d = d} {e = x} {f = f} h) =
        let i = decided vars p g c c' x f d h in
        subst (IsLinear a sets dep) (sym i.left) (branch (truth_of (value_of g (vars_of vars i.p))))
      where
        branch : (b : Bool) → IsLinear a sets dep (if b then c else c')
        branch true = l.0
        branch false = l.1
    linear_kept sc next dep w re l (delay {n = n} {e = x} u mv) = (l.0, linear_kept (scope_after sc n) (same_pid sc n ∙ next) (members_after a dep n) w.1 (ready_after ks a sc dep n (actors_of x) w.0 u re) l.1 mv)
    linear_kept sc next dep w re l (both u mv mw) = (linear_kept sc next dep w.1 re l.0 mv, linear_kept sc next dep w.2 re l.1 mw)
    linear_kept sc next dep w re l (unfolded {h = h} {k = k} {ps = ps} {ss = ss} {c = c} u mv) =
        linear_kept sc next dep (bodies sc h k ps ss c u w) re (linear_more a sets (given (sets h) 0 ps) dep (given_in dep (sets h) 0 ps l) c (linear_bodies sc h k ps ss c u w)) mv

  -- ---- names and numbers, by a start

  -- the scope once a session of this channel has been started
  abbrev pub opened : Scope → Channel → Scope
  opened sc k = record { pid = sc.pid + length k.serve; processes = sc.processes; sid = suc sc.sid; sessions = sc.sessions }

  start_fits : (sc : Scope) → sc.pid ≡ length vars → sc.sid ≡ sid → (b : NameId) (ch : Channel) → channel_of ks b ≡ Some ch → (s : ℕ) (parts : List (NameId × ℕ)) (v : ℤ) (n : Node) (c d : Choreography) (x : Event) (f : Effect) → x ≡ Start b s parts → IsWellFormed ks procs sc (Then n c) → Headed vars sid v n c x f d → IsWellFormed ks procs (opened sc ch) d
  start_fits sc pid_is sid_is b ch at s parts v n c d x f e w (sends t p y z q u m is made ev k left) = absurd (not_it e ev)
    where
      not_it : x ≡ Start b s parts → x ≡ Send p t y z (load_of m) → ⊥
      not_it i j = let z : Start b s parts ≡ Send p t y z (load_of m) = sym i ∙ j in cc
  start_fits sc pid_is sid_is b ch at s parts v n c d x f e w (gets t q y z m is ev k left) = absurd (not_it e ev)
    where
      not_it : x ≡ Start b s parts → x ≡ Recv q t y z (load_of m) → ⊥
      not_it i j = let z : Start b s parts ≡ Recv q t y z (load_of m) = sym i ∙ j in cc
  start_fits sc pid_is sid_is b ch at s parts v n c d x f e w (owns p o is made) = absurd (subst NotStart e (owned_event vars sid v (vars_of vars p) p o c d x f made).0)
  start_fits sc pid_is sid_is b ch at s parts v n c d x f e w (starts h j k active serve q ps is lives ev g left) =
      let same : Start h sid (q ∷ (ps ++ new_parts serve (length vars))) ≡ Start b s parts = sym ev ∙ e in
      let hs : h ≡ b = cc in
      let w' : IsWellFormed ks procs sc (Then (Starts h j k active serve) c) = subst (λ y. IsWellFormed ks procs sc (Then y c)) is w in
      let fit : StartFits ks sc h j k active serve = w'.0 in
      let found : Some fit.channel ≡ Some ch = sym fit.declared ∙ ap (channel_of ks) hs ∙ at in
      let ch' : fit.channel ≡ ch = cc in
      let count : length serve ≡ length ch.serve = sym (length_seconds serve) ∙ ap length (fit.service_roles ∙ ap (λ y. y.serve) ch') in
      let inner : Scope = scope_after sc (Starts h j k active serve) in
      let ps_ : Renames (numbers_for j serve (length vars)) sc.pid (sc.pid + length ch.serve) inner.processes sc.processes = subst (λ y. Renames (numbers_for j serve y) sc.pid (sc.pid + length ch.serve) inner.processes sc.processes) pid_is (subst (λ y. Renames (numbers_for j serve sc.pid) sc.pid (sc.pid + y) inner.processes sc.processes) count (opens_all j serve sc.pid sc.processes fit.new_processes)) in
      let ss_ : Renames (number_for k j sid) sc.sid (suc sc.sid) inner.sessions sc.sessions = subst (λ y. Renames (number_for k j y) sc.sid (suc sc.sid) inner.sessions sc.sessions) sid_is (opens k j sc.sid sc.sessions fit.new_session) in
      subst (IsWellFormed ks procs (opened sc ch)) (sym left) (fits_put ks procs (numbers_for j serve (length vars)) (number_for k j sid) inner (opened sc ch) ps_ ss_ c w'.1)

  -- more numbers
  higher : (sc : Scope) (ch : Channel) (n : Node) → NodeFits ks sc n → NodeFits ks (opened sc ch) n
  higher sc ch n w = subst (NodeFits ks (opened sc ch)) (id_node n) (node_put ks procs (λ r. r) (λ r. r) sc (opened sc ch) (counted sc.pid (sc.pid + length ch.serve) sc.processes (grows sc.pid (length ch.serve))) (counted sc.sid (suc sc.sid) sc.sessions (grows_one sc.sid)) n w)
    where
      grows : (n k : ℕ) → n ≤ n + k
      grows n k = omega arith

      grows_one : (n : ℕ) → n ≤ suc n
      grows_one n = omega arith

  opened_after : (sc : Scope) (ch : Channel) (n : Node) → opened (scope_after sc n) ch ≡ scope_after (opened sc ch) n
  opened_after sc ch (Starts c d k active serve) = refl
  opened_after sc ch (Communicates s p a q b w) = refl
  opened_after sc ch (InTransit s a b m q) = refl
  opened_after sc ch (Alone p o) = refl

  higher_process : (sc : Scope) (ch : Channel) (r : Ref) → IsProcess sc r → IsProcess (opened sc ch) r
  higher_process sc ch (Live m) h = omega (arith, h)
  higher_process sc ch (Named x d) h = h

  pub fits_opened : (b : NameId) (ch : Channel) → channel_of ks b ≡ Some ch → (s : ℕ) (parts : List (NameId × ℕ)) (x : Event) → x ≡ Start b s parts → (sc : Scope) → sc.pid ≡ length vars → sc.sid ≡ sid → {c d : Choreography} {f : Effect} → IsWellFormed ks procs sc c → Moves procs hosts vars sid c x f d → IsWellFormed ks procs (opened sc ch) d
  fits_opened b ch at s parts x e sc pid_is sid_is w (head {n = n} {c = c} {d = d} {f = f} v z h) = start_fits sc pid_is sid_is b ch at s parts v n c d x f e w (headed vars sid v n c x f d h)
  fits_opened b ch at s parts x e sc pid_is sid_is w (test {p = p} {x = g} {c = c} {c' = c'} {d = d} {f = f} h) =
      let i = decided vars p g c c' x f d h in
      let z : Start b s parts ≡ Test i.p (truth_of (value_of g (vars_of vars i.p))) = sym e ∙ i.event in absurd cc
  fits_opened b ch at s parts x e sc pid_is sid_is w (delay {n = n} {d = d} u mv) = (higher sc ch n w.0, subst (λ y. IsWellFormed ks procs y d) (opened_after sc ch n) (fits_opened b ch at s parts x e (scope_after sc n) (same_pid sc n ∙ pid_is) (same_sid sc n ∙ sid_is) w.1 mv))
  fits_opened b ch at s parts x e sc pid_is sid_is w (both {p = p} u mv mw) = ((higher_process sc ch p w.0.0, w.0.1), fits_opened b ch at s parts x e sc pid_is sid_is w.1 mv, fits_opened b ch at s parts x e sc pid_is sid_is w.2 mw)
  fits_opened b ch at s parts x e sc pid_is sid_is w (unfolded {h = h} {k = k} {ps = ps} {ss = ss} {c = c} u mv) = fits_opened b ch at s parts x e sc pid_is sid_is (bodies sc h k ps ss c u w) mv
