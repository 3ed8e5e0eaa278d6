-- Processes that join one linear channel next join in one start, and the choreography can make it, past all that stands above.
use Rattle.std.proofs.Common.{◌≡◌, ℕ, suc, ◌≤◌, Bool, true, false, List, [], ◌∷◌, ◌++◌, length, Option, Some, None, refl, subst, ap, sym, ◌∙◌, ◌||◌, ◌&&◌, pos, arith, if◌then◌else◌, ◌==◌}
use Rattle.std.specs.Prelude.{map}
use Rattle.std.proofs.lemmas.Bool.Decides.{nat_tests}
use Rattle.chor_base.specs.declared.names.NameId.{NameId}
use Rattle.chor_base.specs.declared.event.Event.{Event}
use Rattle.chor_base.specs.declared.event.Event.TheVariants.{Start}
use Rattle.chor_base.specs.Expr.{Term}
use Rattle.chor_base.specs.NameMap.{Variables}
use Rattle.chor_base.specs.Meaning.{Hosts}
use Rattle.chor_semantics.specs.Choreography.{Ref, Live, Named, ref_eq, among, meets, named_in, Node, Starts, Communicates, InTransit, Alone, Choreography, Then, Either, Calls, put, numbers_for, number_for}
use Rattle.chor_semantics.specs.Sources.{Procedure}
use Rattle.chor_semantics.specs.Steps.{Keeps, Makes, Moves, head, delay, both, unfolded, begun, live_parts, new_parts, procedure_named, body_of}
use Rattle.endpoint_code.specs.declared.endpoints.Channel.{Channel}
use Rattle.endpoint_code.specs.Network.{served_parts, channel_of}
use Rattle.well_formed.specs.Follows.{Joins, Puts, Gets, Does, received_of, message_received, act_of, joins, role_in}
use Rattle.well_formed.specs.WellFormed.{role_among, AreDistinctRoles, Scope, AllIn, firsts, service_refs, scope_after, NodeFits, StartFits, CallFits, IsWellFormed}
use Rattle.well_formed.specs.Linear.{Members, ParameterSets, all_in, after_start, members_after, joins_from, given, all_given, IsLinear}
use Rattle.correspondence.proofs.Next.{Next, here, skip, decides, fork, calls, NoTerm, JoinsAt, AllNext, AllHere, AllSkip, AllApart, Joint, at_start, past, in_both, in_body}
use Rattle.well_formed.proofs.References.{left_or, right_or, or_false, and_first, and_second, clash, true_eq, same_ref, act_none}
use Rattle.well_formed.proofs.LinearKept.{kept_out, no_service, same_pid}

-- where a process joins, a start stands
pub record IsStart (n : Node) (a r : NameId) (p : ℕ) (s : Ref) : Type 0 where
  pub depth : ℕ
  pub k : ℕ
  pub active : List (Ref × NameId)
  pub serve : List (ℕ × NameId)
  pub is : n ≡ Starts a depth k active serve
  pub session : Named k depth ≡ s
  pub role : role_in (Live p) active ≡ Some r

pub joins_start : (n : Node) (a r : NameId) (p : ℕ) (s : Ref) → act_of n (Live p) ≡ Some (Joins a r s) → IsStart n a r p s
joins_start (Starts c d k active serve) a r p s h = go (role_in (Live p) active) refl h
  where
    go : (o : Option NameId) → role_in (Live p) active ≡ o → joins c (Named k d) o ≡ Some (Joins a r s) → IsStart (Starts c d k active serve) a r p s
    go None e i = absurd cc
    go (Some t) e i =
        let c' : c ≡ a = cc in
        let t' : t ≡ r = cc in
        record { depth = d; k = k; active = active; serve = serve; is = ap (λ y. Starts y d k active serve) c'; session = cc; role = e ∙ ap Some t' }
joins_start (Communicates t q c u d v) a r p s h = go (ref_eq (Live p) q) (ref_eq (Live p) u) h
  where
    go : (x y : Bool) → (if x then Some (Puts t c d v) else (if y then Some (Gets t c d (received_of v)) else None)) ≡ Some (Joins a r s) → IsStart (Communicates t q c u d v) a r p s
    go true y i = absurd cc
    go false true i = absurd cc
    go false false i = absurd cc
joins_start (InTransit t c d m q) a r p s h = go (ref_eq (Live p) q) h
  where
    go : (y : Bool) → (if y then Some (Gets (Live t) c d (message_received m)) else None) ≡ Some (Joins a r s) → IsStart (InTransit t c d m q) a r p s
    go true i = absurd cc
    go false i = absurd cc
joins_start (Alone q o) a r p s h = go (ref_eq (Live p) q) h
  where
    go : (y : Bool) → (if y then Some (Does o) else None) ≡ Some (Joins a r s) → IsStart (Alone q o) a r p s
    go true i = absurd cc
    go false i = absurd cc

-- who has a role there is in the set
role_in_dep : (dep : Members) (p : ℕ) (r : NameId) (active : List (Ref × NameId)) → role_in (Live p) active ≡ Some r → all_in dep (firsts active) ≡ true → dep (Live p) ≡ true
role_in_dep dep p r [] h g = absurd cc
role_in_dep dep p r (q ∷ qs) h g = go (ref_eq (Live p) q.0) refl h (role_in_dep dep p r qs)
  where
    go : (b : Bool) → ref_eq (Live p) q.0 ≡ b → (if b then Some q.1 else role_in (Live p) qs) ≡ Some r → (role_in (Live p) qs ≡ Some r → all_in dep (firsts qs) ≡ true → dep (Live p) ≡ true) → dep (Live p) ≡ true
    go true e i j = ap dep (same_ref (Live p) q.0 e) ∙ and_first (dep q.0) (all_in dep (firsts qs)) g
    go false e i j = j i (and_second (dep q.0) (all_in dep (firsts qs)) g)

-- a process joins from the set
here_dep : (a r : NameId) (p : ℕ) (dep : Members) (n : Node) → JoinsAt a r (Live p) n → joins_from a dep n ≡ true → dep (Live p) ≡ true
here_dep a r p dep n (s, h) g =
    let i = joins_start n a r p s h in
    let k : joins_from a dep (Starts a i.depth i.k i.active i.serve) ≡ true = subst (λ m. joins_from a dep m ≡ true) i.is g in
    let t : all_in dep (firsts i.active) ≡ true = subst (λ b. (if b then all_in dep (firsts i.active) else true) ≡ true) (true_eq a.0) k in
    role_in_dep dep p r i.active i.role t

-- after a start of the channel, no process is in the set that isn't of that start
out_of_start : (a r : NameId) (p w : ℕ) (dep : Members) (n : Node) → JoinsAt a r (Live p) n → act_of n (Live w) ≡ None → members_after a dep n (Live w) ≡ false
out_of_start a r p w dep n (s, h) g =
    let i = joins_start n a r p s h in
    let k : act_of (Starts a i.depth i.k i.active i.serve) (Live w) ≡ None = subst (λ m. act_of m (Live w) ≡ None) i.is g in
    let out : (among (Live w) (firsts i.active) || among (Live w) (service_refs i.depth i.serve)) ≡ false = or_false _ _ (act_none (Starts a i.depth i.k i.active i.serve) (Live w) k) (no_service w i.depth i.serve) in
    subst (λ m. members_after a dep m (Live w) ≡ false) (sym i.is) (subst (λ b. after_start b dep (firsts i.active) (service_refs i.depth i.serve) (Live w) ≡ false) (sym (true_eq a.0)) out)

-- a body's set has none that isn't passed from the set
given_out : (dep : Members) (f : ℕ → Bool) (p i : ℕ) (ps : List Ref) → all_given dep f i ps ≡ true → dep (Live p) ≡ false → given f i ps (Live p) ≡ false
given_out dep f p i [] h g = refl
given_out dep f p i (q ∷ qs) h g = go (f i) (ref_eq (Live p) q) refl h (given_out dep f p (suc i) qs)
  where
    go : (b d : Bool) → ref_eq (Live p) q ≡ d → ((if b then dep q else true) && all_given dep f (suc i) qs) ≡ true → (all_given dep f (suc i) qs ≡ true → dep (Live p) ≡ false → given f (suc i) qs (Live p) ≡ false) → ((b && d) || given f (suc i) qs (Live p)) ≡ false
    go true true e k ih = absurd (clash (ap dep (same_ref (Live p) q e) ∙ and_first (dep q) (all_given dep f (suc i) qs) k) g)
    go true false e k ih = ih (and_second (dep q) (all_given dep f (suc i) qs) k) g
    go false d e k ih = ih k g

module _ (procs : List Procedure) (a : NameId) (sets : ParameterSets) (ks : List Channel)
    (bodies : (sc : Scope) (f : NameId) (d : ℕ) (ps ss : List Ref) (c : Choreography) → body_of (procedure_named procs f) d ps ss ≡ Some c → CallFits procs sc f d ps ss → IsWellFormed ks procs sc c)
    (linear_bodies : (sc : Scope) (h : NameId) (d : ℕ) (ps ss : List Ref) (c : Choreography) → body_of (procedure_named procs h) d ps ss ≡ Some c → CallFits procs sc h d ps ss → IsLinear a sets (given (sets h) 0 ps) c) where
  -- a process that isn't in the set joins nothing
  absent : (r : NameId) (p : ℕ) (sc : Scope) (dep : Members) {c : Choreography} → IsWellFormed ks procs sc c → IsLinear a sets dep c → dep (Live p) ≡ false → Next procs (Live p) (JoinsAt a r (Live p)) NoTerm c → ⊥
  absent r p sc dep w l g (here {n = n} j) = clash (here_dep a r p dep n j l.0) g
  absent r p sc dep w l g (skip {n = n} i m) = absent r p (scope_after sc n) (members_after a dep n) w.1 l.1 (kept_out a dep p n (act_none n (Live p) i) g) m
  absent r p sc dep w l g (decides e k) = k
  absent r p sc dep w l g (fork e m m') = absent r p sc dep w.1 l.0 g m
  absent r p sc dep w l g (calls {f = h} {d = d} {ps = ps} {ss = ss} {c = c} b m) = absent r p sc (given (sets h) 0 ps) (bodies sc h d ps ss c b w) (linear_bodies sc h d ps ss c b w) (given_out dep (sets h) p 0 ps l g) m

  -- the others join here too
  here_all : (r : NameId) (p : ℕ) (sc : Scope) (dep : Members) (n : Node) (c : Choreography) → IsWellFormed ks procs sc (Then n c) → IsLinear a sets dep (Then n c) → JoinsAt a r (Live p) n → (ps : List (NameId × ℕ)) → AllNext procs a ps (Then n c) → AllHere a ps n
  here_all r p sc dep n c w l j [] k = tt
  here_all r p sc dep n c w l j ((t, q) ∷ ps) (k, ks) = (one k, here_all r p sc dep n c w l j ps ks)
    where
      one : Next procs (Live q) (JoinsAt a t (Live q)) NoTerm (Then n c) → JoinsAt a t (Live q) n
      one (here i) = i
      one (skip i m) = absurd (absent t q (scope_after sc n) (members_after a dep n) w.1 l.1 (out_of_start a r p q dep n j i) m)

  -- the others skip this node too
  record Skips (ps : List (NameId × ℕ)) (n : Node) (c : Choreography) : Type 0 where
    skips : AllSkip ps n
    next : AllNext procs a ps c

  skip_all : (r : NameId) (p : ℕ) (sc : Scope) (dep : Members) (n : Node) (c : Choreography) → IsWellFormed ks procs sc (Then n c) → IsLinear a sets dep (Then n c) → act_of n (Live p) ≡ None → Next procs (Live p) (JoinsAt a r (Live p)) NoTerm c → (ps : List (NameId × ℕ)) → AllNext procs a ps (Then n c) → Skips ps n c
  skip_all r p sc dep n c w l i m [] k = record { skips = tt; next = tt }
  skip_all r p sc dep n c w l i m ((t, q) ∷ ps) (k, ks) = one k (skip_all r p sc dep n c w l i m ps ks)
    where
      one : Next procs (Live q) (JoinsAt a t (Live q)) NoTerm (Then n c) → Skips ps n c → Skips ((t, q) ∷ ps) n c
      one (here j) f = absurd (absent r p (scope_after sc n) (members_after a dep n) w.1 l.1 (out_of_start a t q p dep n j i) m)
      one (skip e m') f = record { skips = (e, f.skips); next = (m', f.next) }

  record ForksAt (ps : List (NameId × ℕ)) (r : Ref) (c d : Choreography) : Type 0 where
    apart : AllApart ps r
    first : AllNext procs a ps c
    second : AllNext procs a ps d

  fork_all : (r : Ref) (x : Term) (c d : Choreography) (ps : List (NameId × ℕ)) → AllNext procs a ps (Either r x c d) → ForksAt ps r c d
  fork_all r x c d [] k = record { apart = tt; first = tt; second = tt }
  fork_all r x c d ((t, q) ∷ ps) (k, ks) = one k (fork_all r x c d ps ks)
    where
      one : Next procs (Live q) (JoinsAt a t (Live q)) NoTerm (Either r x c d) → ForksAt ps r c d → ForksAt ((t, q) ∷ ps) r c d
      one (decides e k) f = absurd k
      one (fork e m m') f = record { apart = (e, f.apart); first = (m, f.first); second = (m', f.second) }

  body_all : (h : NameId) (k : ℕ) (qs ss : List Ref) (c : Choreography) → body_of (procedure_named procs h) k qs ss ≡ Some c → (ps : List (NameId × ℕ)) → AllNext procs a ps (Calls h k qs ss) → AllNext procs a ps c
  body_all h k qs ss c b [] n = tt
  body_all h k qs ss c b ((t, q) ∷ ps) (n, ns) = (one n, body_all h k qs ss c b ps ns)
    where
      one : Next procs (Live q) (JoinsAt a t (Live q)) NoTerm (Calls h k qs ss) → Next procs (Live q) (JoinsAt a t (Live q)) NoTerm c
      one (calls {c = d} b' m) = let same : d ≡ c = cc in subst (λ y. Next procs (Live q) (JoinsAt a t (Live q)) NoTerm y) same m

  -- they are together
  pub joint : (r : NameId) (p : ℕ) (ps : List (NameId × ℕ)) (sc : Scope) (dep : Members) {c : Choreography} → IsWellFormed ks procs sc c → IsLinear a sets dep c → Next procs (Live p) (JoinsAt a r (Live p)) NoTerm c → AllNext procs a ps c → Joint procs a ((r, p) ∷ ps) c
  joint r p ps sc dep w l (here {n = n} {c = c} j) ks = at_start (j, here_all r p sc dep n c w l j ps ks)
  joint r p ps sc dep w l (skip {n = n} {c = c} i m) ks =
      let f = skip_all r p sc dep n c w l i m ps ks in
      past (i, f.skips) (joint r p ps (scope_after sc n) (members_after a dep n) w.1 l.1 m f.next)
  joint r p ps sc dep w l (decides e k) ks = absurd k
  joint r p ps sc dep w l (fork {r = t} {x = x} {c = c} {d = d} e m m') ks =
      let f = fork_all t x c d ps ks in
      in_both (e, f.apart) (joint r p ps sc dep w.1 l.0 m f.first) (joint r p ps sc dep w.2 l.1 m' f.second)
  joint r p ps sc dep w l (calls {f = h} {d = d} {ps = qs} {ss = ss} {c = c} b m) ks =
      in_body b (joint r p ps sc (given (sets h) 0 qs) (bodies sc h d qs ss c b w) (linear_bodies sc h d qs ss c b w) m (body_all h d qs ss c b ps ks))

-- a channel with one active role
pub alone_joint : (procs : List Procedure) (a r : NameId) (p : ℕ) {c : Choreography} → Next procs (Live p) (JoinsAt a r (Live p)) NoTerm c → Joint procs a ((r, p) ∷ []) c
alone_joint procs a r p (here j) = at_start (j, tt)
alone_joint procs a r p (skip i m) = past (i, tt) (alone_joint procs a r p m)
alone_joint procs a r p (decides e k) = absurd k
alone_joint procs a r p (fork e m m') = in_both (e, tt) (alone_joint procs a r p m) (alone_joint procs a r p m')
alone_joint procs a r p (calls b m) = in_body b (alone_joint procs a r p m)

-- ---- the start can be made

abbrev AllRoles : List (NameId × ℕ) → List (Ref × NameId) → Type 0
AllRoles [] active = Unit {0}
AllRoles ((r, p) ∷ ps) active = (role_in (Live p) active ≡ Some r) × AllRoles ps active

roles_there : (c a : NameId) (d k : ℕ) (active : List (Ref × NameId)) (serve : List (ℕ × NameId)) (ps : List (NameId × ℕ)) → AllHere a ps (Starts c d k active serve) → AllRoles ps active
roles_there c a d k active serve [] h = tt
roles_there c a d k active serve ((r, p) ∷ ps) ((s, j), hs) = (go (role_in (Live p) active) j, roles_there c a d k active serve ps hs)
  where
    go : (o : Option NameId) → joins c (Named k d) o ≡ Some (Joins a r s) → o ≡ Some r
    go None i = absurd cc
    go (Some t) i = let e : t ≡ r = cc in ap Some e

role_is_among : (w : ℕ) (r : NameId) (active : List (Ref × NameId)) → role_in (Live w) active ≡ Some r → role_among r (map (λ p. p.1) active) ≡ true
role_is_among w r [] h = absurd cc
role_is_among w r (q ∷ qs) h = go (ref_eq (Live w) q.0) h (role_is_among w r qs)
  where
    go : (b : Bool) → (if b then Some q.1 else role_in (Live w) qs) ≡ Some r → (role_in (Live w) qs ≡ Some r → role_among r (map (λ p. p.1) qs) ≡ true) → ((r.0 == q.1.0) || role_among r (map (λ p. p.1) qs)) ≡ true
    go true i ih = let e : q.1 ≡ r = cc in rw e (rw (true_eq r.0) refl)
    go false i ih = rw (ih i) (or_true (r.0 == q.1.0))
      where
        or_true : (x : Bool) → (x || true) ≡ true
        or_true true = refl
        or_true false = refl

roles_after : (x : Ref × NameId) (xs : List (Ref × NameId)) (ps : List (NameId × ℕ)) → role_among x.1 (map (λ p. p.0) ps) ≡ false → AllRoles ps (x ∷ xs) → AllRoles ps xs
roles_after x xs [] h k = tt
roles_after x xs ((r, p) ∷ ps) h (k, ks) = go (ref_eq (Live p) x.0) (x.1.0 == r.0) refl k h (λ j. roles_after x xs ps j ks)
  where
    go : (b d : Bool) → (x.1.0 == r.0) ≡ d → (if b then Some x.1 else role_in (Live p) xs) ≡ Some r → (d || role_among x.1 (map (λ q. q.0) ps)) ≡ false → (role_among x.1 (map (λ q. q.0) ps) ≡ false → AllRoles ps xs) → AllRoles ((r, p) ∷ ps) xs
    go b true e i j ih = absurd cc
    go true false e i j ih =
        let same : x.1 ≡ r = cc in
        let t : (r.0 == r.0) ≡ false = subst (λ y. (y.0 == r.0) ≡ false) same e in
        absurd (clash (true_eq r.0) t)
    go false false e i j ih = (i, ih j)

abbrev pub parts_as : List (NameId × ℕ) → List (Ref × NameId)
parts_as ps = map (λ q. (Live q.1, q.0)) ps

-- these are the active processes
chosen : (active : List (Ref × NameId)) (ps : List (NameId × ℕ)) → map (λ p. p.1) active ≡ map (λ p. p.0) ps → AreDistinctRoles (map (λ p. p.0) ps) → AllRoles ps active → active ≡ parts_as ps
chosen [] [] h n k = refl
chosen [] (p ∷ ps) h n k = absurd cc
chosen (x ∷ xs) [] h n k = absurd cc
chosen ((y, t) ∷ xs) ((r, p) ∷ ps) h (n, ns) (k, ks) =
    let first : t ≡ r = cc in
    let rest : map (λ q. q.1) xs ≡ map (λ q. q.0) ps = cc in
    let twice : role_among t (map (λ q. q.0) ps) ≡ false = subst (λ z. role_among z (map (λ q. q.0) ps) ≡ false) (sym first) n in
    let tail = chosen xs ps rest ns (roles_after (y, t) xs ps twice ks) in
    let proc : y ≡ Live p = go (ref_eq (Live p) y) refl k rest in
    ap (λ z. (z, t) ∷ xs) proc ∙ ap (λ z. (Live p, z) ∷ xs) first ∙ ap (λ z. (Live p, r) ∷ z) tail
  where
    go : (b : Bool) → ref_eq (Live p) y ≡ b → (if b then Some t else role_in (Live p) xs) ≡ Some r → map (λ q. q.1) xs ≡ map (λ q. q.0) ps → y ≡ Live p
    go true e i j = sym (same_ref (Live p) y e)
    go false e i j =
        let u = role_is_among p r xs i in
        let v : role_among r (map (λ q. q.1) xs) ≡ false = rw j n in absurd (clash u v)

live_as : (ps : List (NameId × ℕ)) → live_parts (parts_as ps) ≡ Some ps
live_as [] = refl
live_as ((r, p) ∷ ps) = rw (live_as ps) refl

pub new_as : (serve : List (ℕ × NameId)) (n : ℕ) → new_parts serve n ≡ served_parts (map (λ s. s.1) serve) n
new_as [] n = refl
new_as (s ∷ ss) n = ap (λ r. (s.1, n) ∷ r) (new_as ss (suc n))

-- the actors aren't named
meets_both : (ps qs : List (NameId × ℕ)) (rs : List Ref) → meets (map (λ q. q.1) ps) rs ≡ false → meets (map (λ q. q.1) qs) rs ≡ false → meets (map (λ q. q.1) (ps ++ qs)) rs ≡ false
meets_both [] qs rs h g = g
meets_both (p ∷ ps) qs rs h g = or_false _ _ (left_or (among (Live p.1) rs) (meets (map (λ q. q.1) ps) rs) h) (meets_both ps qs rs (right_or (among (Live p.1) rs) (meets (map (λ q. q.1) ps) rs) h) g)

skip_meets : (ps : List (NameId × ℕ)) (n : Node) → AllSkip ps n → meets (map (λ q. q.1) ps) (named_in n) ≡ false
skip_meets [] n h = refl
skip_meets ((r, p) ∷ ps) n (h, hs) = or_false _ _ (act_none n (Live p) h) (skip_meets ps n hs)

apart_meets : (ps : List (NameId × ℕ)) (r : Ref) → AllApart ps r → meets (map (λ q. q.1) ps) (r ∷ []) ≡ false
apart_meets [] r h = refl
apart_meets ((a, p) ∷ ps) r (h, hs) = or_false _ _ (or_false _ _ h refl) (apart_meets ps r hs)

-- new numbers are named nowhere
pub new_apart : (n m : ℕ) (bs rs : List Ref) → n ≤ m → AllIn n bs rs → among (Live m) rs ≡ false
new_apart n m bs [] h b = refl
new_apart n m bs (Live k ∷ rs) h (b, bs') = let e : (m == k) ≡ false = grind (arith, nat_tests) in or_false _ _ e (new_apart n m bs rs h bs')
new_apart n m bs (Named x d ∷ rs) h (b, bs') = new_apart n m bs rs h bs'

pub named_known : (ks : List Channel) (sc : Scope) (n : Node) → NodeFits ks sc n → AllIn sc.pid sc.processes (named_in n)
named_known ks sc (Starts c d k active serve) w = w.known
named_known ks sc (Communicates s p a q b z) w = (w.sender, (w.receiver, tt))
named_known ks sc (InTransit s a b m q) w = (w.receiver, tt)
named_known ks sc (Alone p o) w = (w.0, tt)

pub new_meets : (n : ℕ) (ss : List NameId) (m : ℕ) (bs rs : List Ref) → n ≤ m → AllIn n bs rs → meets (map (λ q. q.1) (served_parts ss m)) rs ≡ false
new_meets n [] m bs rs h b = refl
new_meets n (s ∷ ss) m bs rs h b = or_false _ _ (new_apart n m bs rs h b) (new_meets n ss (suc m) bs rs (omega (arith, h)) b)

at_most : (n m : ℕ) → n ≡ m → n ≤ m
at_most n m h = omega (arith, h)

module _ (ks : List Channel) (procs : List Procedure) (hosts : Hosts) (vars : List Variables) (sid : ℕ) (a : NameId) (ch : Channel) (declared : channel_of ks a ≡ Some ch) (r : NameId) (p : ℕ) (ps : List (NameId × ℕ)) (roles : ch.active ≡ map (λ q. q.0) ((r, p) ∷ ps))
    (once : AreDistinctRoles (map (λ q. q.0) ((r, p) ∷ ps)))
    (bodies : (sc : Scope) (f : NameId) (d : ℕ) (ps ss : List Ref) (c : Choreography) → body_of (procedure_named procs f) d ps ss ≡ Some c → CallFits procs sc f d ps ss → IsWellFormed ks procs sc c) where
  abbrev pub started_event : Event
  started_event = Start a sid ((r, p) ∷ (ps ++ served_parts ch.serve (length vars)))

  pub record Started (c : Choreography) : Type 0 where
    pub left : Choreography
    pub moves : Moves procs hosts vars sid c started_event Keeps left

  start_here : (sc : Scope) (n : Node) (rest : Choreography) → AllHere a ((r, p) ∷ ps) n → NodeFits ks sc n → Started (Then n rest)
  start_here sc n rest h w =
      let i = joins_start n a r p (h.0.0) (h.0.1) in
      let here' : AllHere a ((r, p) ∷ ps) (Starts a i.depth i.k i.active i.serve) = subst (λ m. AllHere a ((r, p) ∷ ps) m) i.is h in
      let fit : StartFits ks sc a i.depth i.k i.active i.serve = subst (NodeFits ks sc) i.is w in
      let found : Some fit.channel ≡ Some ch = sym fit.declared ∙ declared in
      let ch' : fit.channel ≡ ch = cc in
      let as' = chosen i.active ((r, p) ∷ ps) (fit.active_roles ∙ ap (λ y. y.active) ch' ∙ roles) once (roles_there a a i.depth i.k i.active i.serve ((r, p) ∷ ps) here') in
      let lives : live_parts i.active ≡ Some ((r, p) ∷ ps) = ap live_parts as' ∙ live_as ((r, p) ∷ ps) in
      let news : new_parts i.serve (length vars) ≡ served_parts ch.serve (length vars) = new_as i.serve (length vars) ∙ ap (λ y. served_parts y (length vars)) (fit.service_roles ∙ ap (λ y. y.serve) ch') in
      let d = put (numbers_for i.depth i.serve (length vars)) (number_for i.k i.depth sid) rest in
      let made : begun a i.depth i.k i.serve rest sid (length vars) (live_parts i.active) ≡ Some (Makes started_event Keeps d) = rw lives (rw news refl) in
      record { left = d; moves = subst (λ m. Moves procs hosts vars sid (Then m rest) started_event Keeps d) (sym i.is) (head (pos 0) tt made) }

  pub started : (sc : Scope) → sc.pid ≡ length vars → {c : Choreography} → IsWellFormed ks procs sc c → Joint procs a ((r, p) ∷ ps) c → Started c
  started sc next w (at_start {n = n} {c = c} h) = start_here sc n c h w.0
  started sc next w (past {n = n} {c = c} h j) =
      let f = started (scope_after sc n) (same_pid sc n ∙ next) w.1 j in
      record { left = Then n f.left; moves = delay (meets_both ((r, p) ∷ ps) (served_parts ch.serve (length vars)) (named_in n) (skip_meets ((r, p) ∷ ps) n h) (new_meets sc.pid ch.serve (length vars) sc.processes (named_in n) (at_most sc.pid (length vars) next) (named_known ks sc n w.0))) f.moves }
  started sc next w (in_both {r = t} {x = x} {c = c} {d = d} h j k) =
      let f = started sc next w.1 j in
      let g = started sc next w.2 k in
      record { left = Either t x f.left g.left; moves = both (meets_both ((r, p) ∷ ps) (served_parts ch.serve (length vars)) (t ∷ []) (apart_meets ((r, p) ∷ ps) t h) (new_meets sc.pid ch.serve (length vars) sc.processes (t ∷ []) (at_most sc.pid (length vars) next) (w.0.0, tt))) f.moves g.moves }
  started sc next w (in_body {f = h} {k = k} {qs = qs} {ss = ss} {c = c} b j) =
      let f = started sc next (bodies sc h k qs ss c b w) j in
      record { left = f.left; moves = unfolded b f.moves }
