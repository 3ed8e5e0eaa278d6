-- A start leaves the code of those who aren't in it.
use Rattle.std.proofs.Common.{◌≡◌, ℕ, zero, suc, ◌+◌, Bool, true, false, List, [], ◌∷◌, ◌++◌, length, Option, Some, None, refl, sym, ap, ◌∙◌, subst, ℤ}
use Rattle.std.specs.Prelude.{map}
use Rattle.chor_base.specs.declared.names.NameId.{NameId}
use Rattle.chor_base.specs.declared.event.Event.{Event}
use Rattle.chor_base.specs.declared.event.Event.TheVariants.{Start, Send, Recv, Test}
use Rattle.chor_base.specs.Expr.{Term, value_of, truth_of}
use Rattle.chor_base.specs.NameMap.{Variables}
use Rattle.chor_base.specs.Meaning.{Hosts}
use Rattle.chor_semantics.specs.Choreography.{Ref, Live, Named, ref_eq, among, named_in, Node, Starts, Communicates, InTransit, Alone, Choreography, Then, Either, Calls, Ends, put, put_node, numbers_for, number_for}
use Rattle.chor_semantics.specs.Sources.{Procedure}
use Rattle.chor_semantics.specs.Steps.{Effect, Moves, head, test, delay, both, unfolded, live_parts, with_live, new_parts, load_of, vars_of, procedure_named, body_of}
use Rattle.endpoint_code.specs.declared.code.CodeId.{CodeId}
use Rattle.endpoint_code.specs.declared.endpoints.Channel.{Channel}
use Rattle.endpoint_code.specs.declared.endpoints.Endpoints.{Endpoints}
use Rattle.endpoint_code.specs.Network.{node_at}
use Rattle.well_formed.specs.Follows.{SessionMap, Act, act_of, Agrees, Place, Nowhere, Here, HoldsAt, place_after, Fork, NoFork, Forks, fork_of, BothHold, Standing, Nothing, Body, Stands, standing, HoldsOf, follows_act, follows_test, follows_call, Follows}
use Rattle.well_formed.specs.WellFormed.{Scope, IsIn, AllIn, IsProcess, firsts, entered, scope_after, StartFits, CallFits, IsWellFormed}
use Rattle.well_formed.proofs.Absent.{IsNoDeeper, IsAbsent}
use Rattle.well_formed.proofs.References.{left_or, right_or, or_false, none_act, NotStart}
use Rattle.well_formed.proofs.Heads.{Headed, sends, gets, owns, starts, headed, owned_event, Decided, decided}
use Rattle.correspondence.proofs.Calls.{one_less}
use Rattle.well_formed.proofs.Renames.{Renames, opens, opens_all, processes_after, sessions_after}
use Rattle.well_formed.proofs.Members.{firsts_put}
use Rattle.correspondence.proofs.Together.{named_known}
use Rattle.correspondence.proofs.Renamed.{put_map, BodiesRenamed, put_follows, tells}
use Rattle.correspondence.proofs.Others.{still_process, absent_follows, no_deeper}
use Rattle.well_formed.proofs.LinearKept.{same_pid, same_sid, live_on, old_stays}
use Rattle.correspondence.proofs.Known.{KnownMap, known_more, known_act, KnownPlace, known_place, KnownStanding, known_standing, unchanged}

-- what a start's head is
pub record StartsHere (vars : List Variables) (sid : ℕ) (n : Node) (c d : Choreography) (a : NameId) (s : ℕ) (parts : List (NameId × ℕ)) : Type 0 where
  pub depth : ℕ
  pub k : ℕ
  pub active : List (Ref × NameId)
  pub serve : List (ℕ × NameId)
  pub first : NameId × ℕ
  pub others : List (NameId × ℕ)
  pub is : n ≡ Starts a depth k active serve
  pub lives : live_parts active ≡ Some (first ∷ others)
  pub parts_are : parts ≡ first ∷ (others ++ new_parts serve (length vars))
  pub same_sid : s ≡ sid
  pub left : d ≡ put (numbers_for depth serve (length vars)) (number_for k depth sid) c

pub starts_here : (vars : List Variables) (sid : ℕ) (v : ℤ) (n : Node) (c d : Choreography) (x : Event) (f : Effect) (a : NameId) (s : ℕ) (parts : List (NameId × ℕ)) → x ≡ Start a s parts → Headed vars sid v n c x f d → StartsHere vars sid n c d a s parts
starts_here vars sid v n c d x f a s parts e (sends t p y z q u m is made ev k left) = let w : Start a s parts ≡ Send p t y z (load_of m) = sym e ∙ ev in absurd cc
starts_here vars sid v n c d x f a s parts e (gets t q y z m is ev k left) = let w : Start a s parts ≡ Recv q t y z (load_of m) = sym e ∙ ev in absurd cc
starts_here vars sid v n c d x f a s parts e (owns p o is made) = absurd (subst NotStart e (owned_event vars sid v (vars_of vars p) p o c d x f made).0)
starts_here vars sid v n c d x f a s parts e (starts h j k active serve q ps is lives ev g left) =
    let same : Start h sid (q ∷ (ps ++ new_parts serve (length vars))) ≡ Start a s parts = sym ev ∙ e in
    let hs : h ≡ a = cc in
    record { depth = j; k = k; active = active; serve = serve; first = q; others = ps; is = is ∙ ap (λ y. Starts y j k active serve) hs; lives = lives; parts_are = cc; same_sid = cc; left = left }

pub no_test : (vars : List Variables) (r : Ref) (g : Term) (c c' d : Choreography) (x : Event) (f : Effect) (a : NameId) (s : ℕ) (parts : List (NameId × ℕ)) → x ≡ Start a s parts → Decided vars r g c c' x f d → ⊥
no_test vars r g c c' d x f a s parts e i = let w : Start a s parts ≡ Test i.p (truth_of (value_of g (vars_of vars i.p))) = sym e ∙ i.event in cc

-- a process isn't in a start
abbrev pub NotIn : Ref → List (NameId × ℕ) → Type 0
NotIn p [] = Unit {0}
NotIn p (q ∷ qs) = (ref_eq p (Live q.1) ≡ false) × NotIn p qs

front_out : (p : Ref) (ps qs : List (NameId × ℕ)) → NotIn p (ps ++ qs) → NotIn p ps
front_out p [] qs h = tt
front_out p (x ∷ xs) qs h = (h.0, front_out p xs qs h.1)

active_out : (p : Ref) (active : List (Ref × NameId)) (ps : List (NameId × ℕ)) → live_parts active ≡ Some ps → NotIn p ps → among p (firsts active) ≡ false
active_out p [] ps h o = refl
active_out p ((Named x k, b) ∷ as') ps h o = absurd cc
active_out p ((Live m, b) ∷ as') ps h o = go (live_parts as') refl h (active_out p as')
  where
    go : (z : Option (List (NameId × ℕ))) → live_parts as' ≡ z → with_live (Live m) b z ≡ Some ps → ((qs : List (NameId × ℕ)) → live_parts as' ≡ Some qs → NotIn p qs → among p (firsts as') ≡ false) → among p ((Live m) ∷ firsts as') ≡ false
    go None e i ih = absurd cc
    go (Some qs) e i ih =
        let k : (b, m) ∷ qs ≡ ps = cc in
        let o' : NotIn p ((b, m) ∷ qs) = subst (NotIn p) (sym k) o in
        or_false _ _ o'.0 (ih qs e o'.1)

-- the renamings of a start
pub process_renaming : (ks : List Channel) (vars : List Variables) (sc : Scope) → sc.pid ≡ length vars → (a : NameId) (d k : ℕ) (active : List (Ref × NameId)) (serve : List (ℕ × NameId)) → StartFits ks sc a d k active serve → Renames (numbers_for d serve (length vars)) sc.pid (sc.pid + length serve) (entered d serve sc.processes) sc.processes
process_renaming ks vars sc next a d k active serve w = subst (λ y. Renames (numbers_for d serve y) sc.pid (sc.pid + length serve) (entered d serve sc.processes) sc.processes) next (opens_all d serve sc.pid sc.processes w.new_processes)

pub session_renaming : (ks : List Channel) (sid : ℕ) (sc : Scope) → sc.sid ≡ sid → (a : NameId) (d k : ℕ) (active : List (Ref × NameId)) (serve : List (ℕ × NameId)) → StartFits ks sc a d k active serve → Renames (number_for k d sid) sc.sid (suc sc.sid) (Named k d ∷ sc.sessions) sc.sessions
session_renaming ks sid sc next a d k active serve w = subst (λ y. Renames (number_for k d y) sc.sid (suc sc.sid) (Named k d ∷ sc.sessions) sc.sessions) next (opens k d sc.sid sc.sessions w.new_session)

-- who was in scope keeps its name or number
pub same_process : (sc : Scope) (d n : ℕ) (ss : List (ℕ × NameId)) (ks : List Channel) (a : NameId) (k : ℕ) (active : List (Ref × NameId)) → StartFits ks sc a d k active ss → (p : Ref) → IsProcess sc p → numbers_for d ss n p ≡ p
same_process sc d n ss ks a k active w (Live m) h = live_on d ss n m
same_process sc d n ss ks a k active w (Named x y) h = old_stays d ss n sc.processes x y w.new_processes h

abbrev pub opened_scope : Scope → ℕ → Scope
opened_scope sc k = record { pid = sc.pid + k; processes = sc.processes; sid = suc sc.sid; sessions = sc.sessions }

module _ (ks : List Channel) (e : Endpoints) (procs : List Procedure) (hosts : Hosts) (vars : List Variables) (sid : ℕ)
    (bodies : (sc : Scope) (f : NameId) (d : ℕ) (ps ss : List Ref) (c : Choreography) → body_of (procedure_named procs f) d ps ss ≡ Some c → CallFits procs sc f d ps ss → IsWellFormed ks procs sc c)
    (outside : (sc : Scope) (p : Ref) (f : NameId) (d : ℕ) (ps ss : List Ref) (c : Choreography) → body_of (procedure_named procs f) d ps ss ≡ Some c → CallFits procs sc f d ps ss → among p ps ≡ false → IsNoDeeper d p → IsAbsent p c)
    (renamed : BodiesRenamed ks procs) (p : Ref) where
  -- below the start that is made, code follows what is left
  pub below_start : (sc : Scope) → sc.pid ≡ length vars → sc.sid ≡ sid → (a : NameId) (d k : ℕ) (active : List (Ref × NameId)) (serve : List (ℕ × NameId)) → StartFits ks sc a d k active serve → (q : Ref) → IsIn sc.pid (entered d serve sc.processes) q → (n : ℕ) (c : Choreography) → IsWellFormed ks procs (scope_after sc (Starts a d k active serve)) c → (at : CodeId) (m : SessionMap) → Follows e procs n q c at m → Follows e procs n (numbers_for d serve (length vars) q) (put (numbers_for d serve (length vars)) (number_for k d sid) c) at (put_map (number_for k d sid) m)
  below_start sc pid_is sid_is a d k active serve w q h n c wc at m f =
      put_follows ks procs (numbers_for d serve (length vars)) (number_for k d sid) e bodies renamed q n (scope_after sc (Starts a d k active serve)) (record { pid = sc.pid + length serve; processes = sc.processes; sid = suc sc.sid; sessions = sc.sessions }) (process_renaming ks vars sc pid_is a d k active serve w) (session_renaming ks sid sc sid_is a d k active serve w) h c wc at m f

  -- numbers in place of names name no old process
  refs_absent : (f : Ref → Ref) (sc sc' : Scope) → Renames f sc.pid sc'.pid sc.processes sc'.processes → f p ≡ p → IsProcess sc p → (rs : List Ref) → AllIn sc.pid sc.processes rs → among p rs ≡ false → among p (map f rs) ≡ false
  refs_absent f sc sc' r same pr [] k h = refl
  refs_absent f sc sc' r same pr (q ∷ qs) k h = or_false _ _ (ap (λ y. ref_eq y (f q)) (sym same) ∙ tells f sc.pid sc'.pid sc.processes sc'.processes r p q pr k.0 ∙ left_or _ _ h) (refs_absent f sc sc' r same pr qs k.1 (right_or _ _ h))

  named_put : (f g : Ref → Ref) (n : Node) → named_in (put_node f g n) ≡ map f (named_in n)
  named_put f g (Starts c d k active serve) = firsts_put f active
  named_put f g (Communicates s q a t b w) = refl
  named_put f g (InTransit s a b m q) = refl
  named_put f g (Alone q o) = refl

  put_absent : (f g : Ref → Ref) (sc sc' : Scope) → Renames f sc.pid sc'.pid sc.processes sc'.processes → Renames g sc.sid sc'.sid sc.sessions sc'.sessions → f p ≡ p → IsProcess sc p → (c : Choreography) → IsWellFormed ks procs sc c → IsAbsent p c → IsAbsent p (put f g c)
  put_absent f g sc sc' r s same pr (Then n rest) w out =
      (subst (λ y. among p y ≡ false) (sym (named_put f g n)) (refs_absent f sc sc' r same pr (named_in n) (named_known ks sc n w.0) out.0), put_absent f g (scope_after sc n) (scope_after sc' (put_node f g n)) (processes_after ks procs f g sc sc' r n w.0) (sessions_after ks procs f g sc sc' s n w.0) same (still_process sc n p pr) rest w.1 out.1)
  put_absent f g sc sc' r s same pr (Either t x c d) w out = (ap (λ y. ref_eq y (f t)) (sym same) ∙ tells f sc.pid sc'.pid sc.processes sc'.processes r p t pr w.0.0 ∙ out.0, put_absent f g sc sc' r s same pr c w.1 out.1, put_absent f g sc sc' r s same pr d w.2 out.2)
  put_absent f g sc sc' r s same pr (Calls h d ps ss) w out = (refs_absent f sc sc' r same pr ps w.processes out.0, out.1)
  put_absent f g sc sc' r s same pr Ends w out = tt

  module _ (a : NameId) (s : ℕ) (parts : List (NameId × ℕ)) (f : Effect) (free : NotIn p parts) where
    pub absent_started : (sc : Scope) → sc.pid ≡ length vars → sc.sid ≡ sid → IsProcess sc p → {c d : Choreography} {x : Event} → x ≡ Start a s parts → IsWellFormed ks procs sc c → IsAbsent p c → Moves procs hosts vars sid c x f d → IsAbsent p d
    absent_started sc pid_is sid_is pr is w out (head {n = node} {c = c} {d = d} {e = x} v z made) =
        let i = starts_here vars sid v node c d x f a s parts is (headed vars sid v node c x f d made) in
        let w' : IsWellFormed ks procs sc (Then (Starts a i.depth i.k i.active i.serve) c) = subst (λ y. IsWellFormed ks procs sc (Then y c)) i.is w in
        let same = same_process sc i.depth (length vars) i.serve ks a i.k i.active w'.0 p pr in
        subst (IsAbsent p) (sym i.left) (put_absent (numbers_for i.depth i.serve (length vars)) (number_for i.k i.depth sid) (scope_after sc (Starts a i.depth i.k i.active i.serve)) (opened_scope sc (length i.serve)) (process_renaming ks vars sc pid_is a i.depth i.k i.active i.serve w'.0) (session_renaming ks sid sc sid_is a i.depth i.k i.active i.serve w'.0) same (still_process sc (Starts a i.depth i.k i.active i.serve) p pr) c w'.1 out.1)
    absent_started sc pid_is sid_is pr is w out (test {p = r} {x = g} {c = c} {c' = c'} {d = d} {e = x} made) = absurd (no_test vars r g c c' d x f a s parts is (decided vars r g c c' x f d made))
    absent_started sc pid_is sid_is pr is w out (delay {n = n} u mv) = (out.0, absent_started (scope_after sc n) (same_pid sc n ∙ pid_is) (same_sid sc n ∙ sid_is) (still_process sc n p pr) is w.1 out.1 mv)
    absent_started sc pid_is sid_is pr is w out (both u mv mw) = (out.0, absent_started sc pid_is sid_is pr is w.1 out.1 mv, absent_started sc pid_is sid_is pr is w.2 out.2 mw)
    absent_started sc pid_is sid_is pr is w out (unfolded {h = h} {k = k} {ps = ps} {ss = ss} {c = c} u mv) = absent_started sc pid_is sid_is pr is (bodies sc h k ps ss c u w) (outside sc p h k ps ss c u w out.0 out.1) mv

    abbrev Stays : ℕ → Choreography → Choreography → Type 0
    Stays n c d = (sc : Scope) → sc.pid ≡ length vars → sc.sid ≡ sid → IsProcess sc p → IsWellFormed ks procs sc c → (q : CodeId) (m : SessionMap) → KnownMap sc m → ((k : ℕ) → Follows e procs k p c q m) → Follows e procs n p d q m

    module _ (n : ℕ) (before : (c d : Choreography) (x : Event) → x ≡ Start a s parts → Moves procs hosts vars sid c x f d → Stays n c d) where
      head_stays : (v : ℤ) (node : Node) (c d : Choreography) (x : Event) → x ≡ Start a s parts → Headed vars sid v node c x f d → Stays (suc n) (Then node c) d
      head_stays v node c d x is made sc pid_is sid_is pr w q m km every =
          let i = starts_here vars sid v node c d x f a s parts is made in
          let w' : IsWellFormed ks procs sc (Then (Starts a i.depth i.k i.active i.serve) c) = subst (λ y. IsWellFormed ks procs sc (Then y c)) i.is w in
          let free' : NotIn p ((i.first ∷ i.others) ++ new_parts i.serve (length vars)) = subst (NotIn p) i.parts_are free in
          let none : act_of node p ≡ None = ap (λ y. act_of y p) i.is ∙ none_act (Starts a i.depth i.k i.active i.serve) p (active_out p i.active (i.first ∷ i.others) i.lives (front_out p (i.first ∷ i.others) (new_parts i.serve (length vars)) free')) in
          let inner : Follows e procs (suc n) p c q m = subst (λ o. follows_act e o (Follows e procs n p (Then node c)) (Follows e procs (suc n) p c) q m) none (every (suc n)) in
          let after = below_start sc pid_is sid_is a i.depth i.k i.active i.serve w'.0 p (still_process sc (Starts a i.depth i.k i.active i.serve) p pr) (suc n) c w'.1 q m inner in
          subst (λ y. Follows e procs (suc n) p y q m) (sym i.left)
          (subst (λ y. Follows e procs (suc n) p (put (numbers_for i.depth i.serve (length vars)) (number_for i.k i.depth sid) c) q y) (unchanged sc i.k i.depth sid m w'.0.new_session km)
          (subst (λ y. Follows e procs (suc n) y (put (numbers_for i.depth i.serve (length vars)) (number_for i.k i.depth sid) c) q (put_map (number_for i.k i.depth sid) m)) (same_process sc i.depth (length vars) i.serve ks a i.k i.active w'.0 p pr) after))

      delay_stays : (node : Node) (c d : Choreography) (sc : Scope) → sc.pid ≡ length vars → sc.sid ≡ sid → IsProcess sc p → (o : Option Act) → act_of node p ≡ o → Stays n (Then node c) (Then node d) → IsWellFormed ks procs sc (Then node c) → ((q : CodeId) (m : SessionMap) → KnownMap (scope_after sc node) m → ((k : ℕ) → Follows e procs k p c q m) → Follows e procs (suc n) p d q m) → (q : CodeId) (m : SessionMap) → KnownMap sc m → ((k : ℕ) → follows_act e o (Follows e procs k p (Then node c)) (Follows e procs (suc k) p c) q m) → follows_act e o (Follows e procs n p (Then node d)) (Follows e procs (suc n) p d) q m
      delay_stays node c d sc pid_is sid_is pr None i same w rest q m km every = rest q m (known_more sc node m km) (one_less e procs p q m c every)
      delay_stays node c d sc pid_is sid_is pr (Some g) i same w rest q m km every = at_standing (standing e (node_at e q) m) (known_standing e sc (node_at e q) m km) every
        where
          at_place : (o : Place) → KnownPlace (scope_after sc node) o → ((k : ℕ) → HoldsAt (Follows e procs (suc k) p c) o) → HoldsAt (Follows e procs (suc n) p d) o
          at_place Nowhere kp h = h 0
          at_place (Here r u) kp h = rest r u kp (one_less e procs p r u c h)

          at_standing : (o : Standing) → KnownStanding sc o → ((k : ℕ) → HoldsOf (Follows e procs k p (Then node c)) (λ y. Agrees m y g × HoldsAt (Follows e procs (suc k) p c) (place_after m y g)) o) → HoldsOf (Follows e procs n p (Then node d)) (λ y. Agrees m y g × HoldsAt (Follows e procs (suc n) p d) (place_after m y g)) o
          at_standing Nothing z h = h 0
          at_standing (Body r u) z h = same sc pid_is sid_is pr w r u z h
          at_standing (Stands y) z h = ((h 0).0, at_place (place_after m y g) (known_place (scope_after sc node) m y g (known_more sc node m km) (known_act ks sc node p g w.0 i)) (λ k. (h k).1))

      fork_stays : (t : Ref) (x : Term) (c d c' d' : Choreography) (sc : Scope) → sc.pid ≡ length vars → sc.sid ≡ sid → IsProcess sc p → (b : Bool) → Stays n (Either t x c d) (Either t x c' d') → IsWellFormed ks procs sc (Either t x c d) → ((q : CodeId) (m : SessionMap) → KnownMap sc m → ((k : ℕ) → Follows e procs k p c q m) → Follows e procs (suc n) p c' q m) → ((q : CodeId) (m : SessionMap) → KnownMap sc m → ((k : ℕ) → Follows e procs k p d q m) → Follows e procs (suc n) p d' q m) → (q : CodeId) (m : SessionMap) → KnownMap sc m → ((k : ℕ) → follows_test e b x (Follows e procs k p (Either t x c d)) (Follows e procs (suc k) p c) (Follows e procs (suc k) p d) q m) → follows_test e b x (Follows e procs n p (Either t x c' d')) (Follows e procs (suc n) p c') (Follows e procs (suc n) p d') q m
      fork_stays t x c d c' d' sc pid_is sid_is pr false same w first second q m km every = (first q m km (one_less e procs p q m c (λ k. (every k).0)), second q m km (one_less e procs p q m d (λ k. (every k).1)))
      fork_stays t x c d c' d' sc pid_is sid_is pr true same w first second q m km every = at_standing (standing e (node_at e q) m) (known_standing e sc (node_at e q) m km) every
        where
          at_fork : (o : Fork) → ((k : ℕ) → BothHold (Follows e procs (suc k) p c) (Follows e procs (suc k) p d) m x o) → BothHold (Follows e procs (suc n) p c') (Follows e procs (suc n) p d') m x o
          at_fork NoFork h = h 0
          at_fork (Forks y g g') h = ((h 0).0, first g m km (one_less e procs p g m c (λ k. (h k).1)), second g' m km (one_less e procs p g' m d (λ k. (h k).2)))

          at_standing : (o : Standing) → KnownStanding sc o → ((k : ℕ) → HoldsOf (Follows e procs k p (Either t x c d)) (λ y. BothHold (Follows e procs (suc k) p c) (Follows e procs (suc k) p d) m x (fork_of y)) o) → HoldsOf (Follows e procs n p (Either t x c' d')) (λ y. BothHold (Follows e procs (suc n) p c') (Follows e procs (suc n) p d') m x (fork_of y)) o
          at_standing Nothing z h = h 0
          at_standing (Body r u) z h = same sc pid_is sid_is pr w r u z h
          at_standing (Stands y) z h = at_fork (fork_of y) h

      stays_over : {c d : Choreography} {x : Event} → x ≡ Start a s parts → Moves procs hosts vars sid c x f d → Stays (suc n) c d
      stays_over is (head {n = node} {c = c} {d = d} {e = x} v z made) sc pid_is sid_is pr w q m km every = head_stays v node c d x is (headed vars sid v node c x f d made) sc pid_is sid_is pr w q m km every
      stays_over is (test {p = r} {x = g} {c = c} {c' = c'} {d = d} {e = x} made) sc pid_is sid_is pr w q m km every = absurd (no_test vars r g c c' d x f a s parts is (decided vars r g c c' x f d made))
      stays_over is (delay {n = node} {c = c} {d = d} u mv) sc pid_is sid_is pr w q m km every =
          delay_stays node c d sc pid_is sid_is pr (act_of node p) refl (before _ _ _ is (delay u mv)) w (stays_over is mv (scope_after sc node) (same_pid sc node ∙ pid_is) (same_sid sc node ∙ sid_is) (still_process sc node p pr) w.1) q m km (λ k. every (suc k))
      stays_over is (both {p = t} {x = g} {c = c} {c' = c'} {d = d} {d' = d'} u mv mw) sc pid_is sid_is pr w q m km every =
          fork_stays t g c d c' d' sc pid_is sid_is pr (ref_eq p t) (before _ _ _ is (both u mv mw)) w (stays_over is mv sc pid_is sid_is pr w.1) (stays_over is mw sc pid_is sid_is pr w.2) q m km (λ k. every (suc k))
      stays_over is (unfolded {h = g} {k = j} {ps = ps} {ss = ss} {c = c} {d = d} u mv) sc pid_is sid_is pr w q m km every =
          by (among p ps) refl (stays_over is mv sc pid_is sid_is pr (bodies sc g j ps ss c u w) q m km) (λ k. every (suc k))
        where
          by : (b : Bool) → among p ps ≡ b → (((k : ℕ) → Follows e procs k p c q m) → Follows e procs (suc n) p d q m) → ((k : ℕ) → follows_call e b (body_of (procedure_named procs g) j ps ss) (Follows e procs k p) q m) → Follows e procs (suc n) p d q m
          by false i z h = absent_follows e procs p (suc n) d (absent_started sc pid_is sid_is pr is (bodies sc g j ps ss c u w) (outside sc p g j ps ss c u w i (no_deeper sc j p pr w.processes_above)) mv) q m (one_less e procs p q m Ends h)
          by true i z h = z (λ k. subst (λ o. follows_call e true o (Follows e procs k p) q m) u (h k))

    -- at every fuel
    pub stays : (n : ℕ) (c d : Choreography) (x : Event) → x ≡ Start a s parts → Moves procs hosts vars sid c x f d → Stays n c d
    stays zero c d x is mv sc pid_is sid_is pr w q m km every = tt
    stays (suc n) c d x is mv sc pid_is sid_is pr w q m km every = stays_over n (stays n) is mv sc pid_is sid_is pr w q m km every
