-- An event of one process leaves what another's code follows.
use Rattle.std.proofs.Common.{◌≡◌, ℕ, zero, suc, ◌≤◌, Bool, true, false, List, [], ◌∷◌, Option, Some, None, refl, subst, ap, sym, ◌∙◌, ℤ, if◌then◌else◌, ◌||◌, arith}
use Rattle.chor_base.specs.declared.names.NameId.{NameId}
use Rattle.chor_base.specs.declared.event.Event.{Event}
use Rattle.chor_base.specs.Expr.{Term, value_of, truth_of}
use Rattle.chor_base.specs.NameMap.{Variables}
use Rattle.chor_base.specs.Meaning.{Hosts}
use Rattle.chor_semantics.specs.Choreography.{Ref, Live, Named, ref_eq, among, named_in, Content, OfValue, OfLabel, OfPart, Message, ValueSent, LabelSent, PartSent, Node, Starts, Communicates, InTransit, Alone, Choreography, Then, Either, Calls, Ends}
use Rattle.chor_semantics.specs.Sources.{Procedure}
use Rattle.chor_semantics.specs.Steps.{Effect, Moves, head, test, delay, both, unfolded, message_of, vars_of, procedure_named, body_of}
use Rattle.endpoint_code.specs.declared.code.CodeId.{CodeId}
use Rattle.endpoint_code.specs.declared.endpoints.Channel.{Channel}
use Rattle.endpoint_code.specs.declared.endpoints.Endpoints.{Endpoints}
use Rattle.endpoint_code.specs.Network.{node_at}
use Rattle.well_formed.specs.Follows.{SessionMap, Act, Gets, received_of, message_received, act_of, At, Agrees, Place, Nowhere, Here, HoldsAt, place_after, Fork, NoFork, Forks, fork_of, BothHold, Standing, Nothing, Body, Stands, standing, HoldsOf, follows_act, follows_test, follows_call, Follows}
use Rattle.well_formed.specs.WellFormed.{Scope, IsProcess, scope_after, AreNoDeeper, CallFits, IsWellFormed}
use Rattle.well_formed.proofs.Absent.{IsNoDeeper, IsAbsent}
use Rattle.well_formed.proofs.References.{right_or, or_false, same_ref, none_act, NotStart, actor_of}
use Rattle.well_formed.proofs.Renames.{in_entered}
use Rattle.well_formed.proofs.Heads.{Headed, sends, gets, owns, starts, headed, owned_event, decided}
use Rattle.correspondence.proofs.Calls.{one_less}

-- a fact that implies another at each place
abbrev pub Implies : At → At → Type 0
Implies R S = (q : CodeId) (m : SessionMap) → R q m → S q m

-- a fact that holds at every fuel
abbrev pub Every : (ℕ → At) → At
Every R q m = (n : ℕ) → R n q m

module _ (e : Endpoints) where
  -- at every fuel: the parts that the code alone determines are the same at each
  pub act_kept : (R K : ℕ → At) (S L : At) → Implies (Every R) S → Implies (Every K) L → (o : Option Act) (q : CodeId) (m : SessionMap) → ((n : ℕ) → follows_act e o (R n) (K n) q m) → follows_act e o S L q m
  act_kept R K S L i j None q m h = j q m h
  act_kept R K S L i j (Some a) q m h = at_standing (standing e (node_at e q) m) h
    where
      at_place : (o : Place) → ((n : ℕ) → HoldsAt (K n) o) → HoldsAt L o
      at_place Nowhere g = g 0
      at_place (Here r w) g = j r w g

      at_standing : (o : Standing) → ((n : ℕ) → HoldsOf (R n) (λ c. Agrees m c a × HoldsAt (K n) (place_after m c a)) o) → HoldsOf S (λ c. Agrees m c a × HoldsAt L (place_after m c a)) o
      at_standing Nothing g = g 0
      at_standing (Body r w) g = i r w g
      at_standing (Stands c) g = ((g 0).0, at_place (place_after m c a) (λ n. (g n).1))

  pub test_kept : (x : Term) (R K K' : ℕ → At) (S L L' : At) → Implies (Every R) S → Implies (Every K) L → Implies (Every K') L' → (b : Bool) (q : CodeId) (m : SessionMap) → ((n : ℕ) → follows_test e b x (R n) (K n) (K' n) q m) → follows_test e b x S L L' q m
  test_kept x R K K' S L L' i j k false q m h = (j q m (λ n. (h n).0), k q m (λ n. (h n).1))
  test_kept x R K K' S L L' i j k true q m h = at_standing (standing e (node_at e q) m) h
    where
      at_fork : (o : Fork) → ((n : ℕ) → BothHold (K n) (K' n) m x o) → BothHold L L' m x o
      at_fork NoFork g = g 0
      at_fork (Forks y f f') g = ((g 0).0, j f m (λ n. (g n).1), k f' m (λ n. (g n).2))

      at_standing : (o : Standing) → ((n : ℕ) → HoldsOf (R n) (λ c. BothHold (K n) (K' n) m x (fork_of c)) o) → HoldsOf S (λ c. BothHold L L' m x (fork_of c)) o
      at_standing Nothing g = g 0
      at_standing (Body r w) g = i r w g
      at_standing (Stands c) g = at_fork (fork_of c) g

-- what is received of a content is what is received of its message
pub same_received : (m : Variables) (w : Content) (msg : Message) → message_of m w ≡ Some msg → received_of w ≡ message_received msg
same_received m (OfValue e x) msg h = let i : ValueSent (value_of e m) x ≡ msg = cc in ap message_received i
same_received m (OfLabel l) msg h = let i : LabelSent l ≡ msg = cc in ap message_received i
same_received m (OfPart (Live s) r) msg h = let i : PartSent s r ≡ msg = cc in ap message_received i
same_received m (OfPart (Named s d) r) msg h = absurd cc

pub still_process : (sc : Scope) (n : Node) (p : Ref) → IsProcess sc p → IsProcess (scope_after sc n) p
still_process sc (Starts c d k active serve) (Live m) h = h
still_process sc (Starts c d k active serve) (Named x j) h = in_entered d serve sc.processes (Named x j) h
still_process sc (Communicates s p a q b w) r h = h
still_process sc (InTransit s a b m q) r h = h
still_process sc (Alone p o) r h = h

-- who is in scope at a call is no deeper
pub no_deeper : (sc : Scope) (d : ℕ) (p : Ref) → IsProcess sc p → AreNoDeeper d sc.processes → IsNoDeeper d p
no_deeper sc d (Live m) h u = tt
no_deeper sc d (Named x c) h u = go sc.processes h u
  where
    go : (bs : List Ref) → among (Named x c) bs ≡ true → AreNoDeeper d bs → c ≤ d
    go [] i v = absurd cc
    go (Live n ∷ rs) i v = go rs i v
    go (Named y k ∷ rs) i v = at (ref_eq (Named x c) (Named y k)) refl i (λ j. go rs j v.1)
      where
        at : (b : Bool) → ref_eq (Named x c) (Named y k) ≡ b → (b || among (Named x c) rs) ≡ true → (among (Named x c) rs ≡ true → c ≤ d) → c ≤ d
        at false j l ih = ih l
        at true j l ih = let same : Named x c ≡ Named y k = same_ref (Named x c) (Named y k) j in let depth : c ≡ k = cc in omega (arith, depth, v.0)

module _ (e : Endpoints) (procs : List Procedure) (p : Ref) where
  -- code that has ended follows a choreography that doesn't name its process
  pub absent_follows : (n : ℕ) (c : Choreography) → IsAbsent p c → (q : CodeId) (m : SessionMap) → ((k : ℕ) → Follows e procs k p Ends q m) → Follows e procs n p c q m
  absent_follows zero c out q m h = tt
  absent_follows (suc n) (Then node rest) out q m h = subst (λ o. follows_act e o (Follows e procs n p (Then node rest)) (Follows e procs (suc n) p rest) q m) (sym (none_act node p out.0)) (absent_follows (suc n) rest out.1 q m h)
  absent_follows (suc n) (Either r x c d) out q m h = subst (λ b. follows_test e b x (Follows e procs n p (Either r x c d)) (Follows e procs (suc n) p c) (Follows e procs (suc n) p d) q m) (sym out.0) (absent_follows (suc n) c out.1 q m h, absent_follows (suc n) d out.2 q m h)
  absent_follows (suc n) (Calls f d ps ss) out q m h = subst (λ b. follows_call e b (body_of (procedure_named procs f) d ps ss) (Follows e procs n p) q m) (sym out.0) (h (suc n))
  absent_follows (suc n) Ends out q m h = h (suc n)

module _ (ks : List Channel) (e : Endpoints) (procs : List Procedure) (hosts : Hosts) (vars : List Variables) (sid : ℕ)
    (bodies : (sc : Scope) (f : NameId) (d : ℕ) (ps ss : List Ref) (c : Choreography) → body_of (procedure_named procs f) d ps ss ≡ Some c → CallFits procs sc f d ps ss → IsWellFormed ks procs sc c)
    (outside : (sc : Scope) (p : Ref) (f : NameId) (d : ℕ) (ps ss : List Ref) (c : Choreography) → body_of (procedure_named procs f) d ps ss ≡ Some c → CallFits procs sc f d ps ss → among p ps ≡ false → IsNoDeeper d p → IsAbsent p c)
    (p : Ref) where
  -- the other isn't named after either
  absent_head : (v : ℤ) (n : Node) (c d : Choreography) (x : Event) (f : Effect) → NotStart x → IsAbsent p (Then n c) → Headed vars sid v n c x f d → IsAbsent p d
  absent_head v n c d x f ns out (sends s r a b q w m is made ev k left) =
      let o : among p (Live r ∷ q ∷ []) ≡ false = subst (λ y. among p (named_in y) ≡ false) is out.0 in
      subst (IsAbsent p) (sym left) (right_or _ _ o, out.1)
  absent_head v n c d x f ns out (gets s q a b m is ev k left) = subst (IsAbsent p) (sym left) out.1
  absent_head v n c d x f ns out (owns r o is made) = subst (IsAbsent p) (sym (owned_event vars sid v (vars_of vars r) r o c d x f made).2) out.1
  absent_head v n c d x f ns out (starts ch k s active serve q ps is lives ev g left) = absurd (subst NotStart ev ns)

  pub absent_kept : (sc : Scope) {c d : Choreography} {x : Event} {f : Effect} → NotStart x → IsWellFormed ks procs sc c → IsAbsent p c → Moves procs hosts vars sid c x f d → IsAbsent p d
  absent_kept sc ns w out (head {n = n} {c = c} {d = d} {e = x} {f = f} v a h) = absent_head v n c d x f ns out (headed vars sid v n c x f d h)
  absent_kept sc ns w out (test {p = r} {x = g} {c = c} {c' = c'} {d = d} {e = x} {f = f} h) =
      let i = decided vars r g c c' x f d h in
      subst (IsAbsent p) (sym i.left) (branch (truth_of (value_of g (vars_of vars i.p))))
    where
      branch : (b : Bool) → IsAbsent p (if b then c else c')
      branch true = out.1
      branch false = out.2
  absent_kept sc ns w out (delay {n = n} u mv) = (out.0, absent_kept (scope_after sc n) ns w.1 out.1 mv)
  absent_kept sc ns w out (both u mv mw) = (out.0, absent_kept sc ns w.1 out.1 mv, absent_kept sc ns w.2 out.2 mw)
  absent_kept sc ns w out (unfolded {h = h} {k = k} {ps = ps} {ss = ss} {c = c} u mv) = absent_kept sc ns (bodies sc h k ps ss c u w) (outside sc p h k ps ss c u w out.0 out.1) mv

  -- code that follows c at every fuel follows d with this fuel
  abbrev Keeps : ℕ → Choreography → Choreography → Type 0
  Keeps n c d = Implies (Every (λ k. Follows e procs k p c)) (Follows e procs n p d)

  abbrev Before : ℕ → Event → Type 0
  Before n x = (sc : Scope) (c d : Choreography) (f : Effect) → IsProcess sc p → IsWellFormed ks procs sc c → Moves procs hosts vars sid c x f d → Keeps n c d

  other_act : (q : Ref) (s : ℕ) (a b : NameId) (r : ℕ) (w : Content) (m : Message) → ref_eq p (Live r) ≡ false → received_of w ≡ message_received m → act_of (Communicates (Live s) (Live r) a q b w) p ≡ act_of (InTransit s a b m q) p
  other_act q s a b r w m off same = rw off (ap (λ y. if ref_eq p q then Some (Gets (Live s) a b y) else None) same)

  head_keeps : (n : ℕ) (v : ℤ) (node : Node) (c d : Choreography) (x : Event) (f : Effect) → NotStart x → ref_eq p (Live (actor_of x)) ≡ false → Keeps n (Then node c) d → Headed vars sid v node c x f d → Keeps (suc n) (Then node c) d
  head_keeps n v node c d x f ns off before (sends s r a b q w m is made ev k left) q' m' every =
      let off' : ref_eq p (Live r) ≡ false = subst (λ y. ref_eq p (Live (actor_of y)) ≡ false) ev off in
      let same : act_of node p ≡ act_of (InTransit s a b m q) p = ap (λ y. act_of y p) is ∙ other_act q s a b r w m off' (same_received (vars_of vars r) w m made) in
      let before' : Keeps n (Then node c) (Then (InTransit s a b m q) c) = subst (Keeps n (Then node c)) left before in
      subst (λ y. Follows e procs (suc n) p y q' m') (sym left)
      (subst (λ o. follows_act e o (Follows e procs n p (Then (InTransit s a b m q) c)) (Follows e procs (suc n) p c) q' m') same
      (act_kept e (λ j. Follows e procs j p (Then node c)) (λ j. Follows e procs (suc j) p c) (Follows e procs n p (Then (InTransit s a b m q) c)) (Follows e procs (suc n) p c) before' (λ u z h. h n) (act_of node p) q' m' (λ j. every (suc j))))
  head_keeps n v node c d x f ns off before (gets s r a b m is ev k left) q' m' every =
      let off' : ref_eq p (Live r) ≡ false = subst (λ y. ref_eq p (Live (actor_of y)) ≡ false) ev off in
      let none : act_of node p ≡ None = ap (λ y. act_of y p) is ∙ none_act (InTransit s a b m (Live r)) p (or_false _ _ off' refl) in
      subst (λ y. Follows e procs (suc n) p y q' m') (sym left) (subst (λ o. follows_act e o (Follows e procs n p (Then node c)) (Follows e procs (suc n) p c) q' m') none (every (suc n)))
  head_keeps n v node c d x f ns off before (owns r o is made) q' m' every =
      let ev = owned_event vars sid v (vars_of vars r) r o c d x f made in
      let off' : ref_eq p (Live r) ≡ false = subst (λ y. ref_eq p (Live y) ≡ false) ev.1 off in
      let none : act_of node p ≡ None = ap (λ y. act_of y p) is ∙ none_act (Alone (Live r) o) p (or_false _ _ off' refl) in
      subst (λ y. Follows e procs (suc n) p y q' m') (sym ev.2) (subst (λ o. follows_act e o (Follows e procs n p (Then node c)) (Follows e procs (suc n) p c) q' m') none (every (suc n)))
  head_keeps n v node c d x f ns off before (starts ch k s active serve q ps is lives ev g left) q' m' every = absurd (subst NotStart ev ns)

  kept_over : (n : ℕ) {x : Event} → Before n x → NotStart x → ref_eq p (Live (actor_of x)) ≡ false → (sc : Scope) {c d : Choreography} {f : Effect} → IsProcess sc p → IsWellFormed ks procs sc c → Moves procs hosts vars sid c x f d → Keeps (suc n) c d
  kept_over n before ns off sc pr w (head {n = node} {c = c} {d = d} {e = x} {f = f} v a h) q m every = head_keeps n v node c d x f ns off (before sc _ _ _ pr w (head v a h)) (headed vars sid v node c x f d h) q m every
  kept_over n before ns off sc pr w (test {p = r} {x = g} {c = c} {c' = c'} {d = d} {e = x} {f = f} h) q m every =
      let i = decided vars r g c c' x f d h in
      let off' : ref_eq p r ≡ false = ap (ref_eq p) (i.is) ∙ subst (λ y. ref_eq p (Live (actor_of y)) ≡ false) i.event off in
      let two : Follows e procs (suc n) p c q m × Follows e procs (suc n) p c' q m = subst (λ b. follows_test e b g (Follows e procs n p (Either r g c c')) (Follows e procs (suc n) p c) (Follows e procs (suc n) p c') q m) off' (every (suc n)) in
      subst (λ y. Follows e procs (suc n) p y q m) (sym i.left) (branch two (truth_of (value_of g (vars_of vars i.p))))
    where
      branch : Follows e procs (suc n) p c q m × Follows e procs (suc n) p c' q m → (b : Bool) → Follows e procs (suc n) p (if b then c else c') q m
      branch two true = two.0
      branch two false = two.1
  kept_over n before ns off sc pr w (delay {n = node} {c = c} {d = d} g mv) q m every =
      act_kept e (λ k. Follows e procs k p (Then node c)) (λ k. Follows e procs (suc k) p c) (Follows e procs n p (Then node d)) (Follows e procs (suc n) p d) (before sc _ _ _ pr w (delay g mv))
      (λ r u h. kept_over n before ns off (scope_after sc node) (still_process sc node p pr) w.1 mv r u (one_less e procs p r u c h)) (act_of node p) q m (λ k. every (suc k))
  kept_over n before ns off sc pr w (both {p = r} {x = x} {c = c} {c' = c'} {d = d} {d' = d'} g mv mw) q m every =
      test_kept e x (λ k. Follows e procs k p (Either r x c d)) (λ k. Follows e procs (suc k) p c) (λ k. Follows e procs (suc k) p d) (Follows e procs n p (Either r x c' d')) (Follows e procs (suc n) p c') (Follows e procs (suc n) p d') (before sc _ _ _ pr w (both g mv mw))
      (λ u z h. kept_over n before ns off sc pr w.1 mv u z (one_less e procs p u z c h)) (λ u z h. kept_over n before ns off sc pr w.2 mw u z (one_less e procs p u z d h)) (ref_eq p r) q m (λ k. every (suc k))
  kept_over n before ns off sc pr w (unfolded {h = h} {k = j} {ps = ps} {ss = ss} {c = c} {d = d} g mv) q m every = by (among p ps) refl (kept_over n before ns off sc pr (bodies sc h j ps ss c g w) mv q m) (λ k. every (suc k))
    where
      by : (b : Bool) → among p ps ≡ b → (((k : ℕ) → Follows e procs k p c q m) → Follows e procs (suc n) p d q m) → ((k : ℕ) → follows_call e b (body_of (procedure_named procs h) j ps ss) (Follows e procs k p) q m) → Follows e procs (suc n) p d q m
      by false i z u = absent_follows e procs p (suc n) d (absent_kept sc ns (bodies sc h j ps ss c g w) (outside sc p h j ps ss c g w i (no_deeper sc j p pr w.processes_above)) mv) q m (one_less e procs p q m Ends u)
      by true i z u = z (λ k. subst (λ o. follows_call e true o (Follows e procs k p) q m) g (u k))

  -- at every fuel
  pub kept : (n : ℕ) (x : Event) → NotStart x → ref_eq p (Live (actor_of x)) ≡ false → Before n x
  kept zero x ns off sc c d f pr w mv q m every = tt
  kept (suc n) x ns off sc c d f pr w mv q m every = kept_over n (kept n x ns off) ns off sc pr w mv q m every
