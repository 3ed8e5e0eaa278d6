-- Services, queues and holders, by a start.
use Rattle.std.proofs.Common.{◌≡◌, ℕ, ◌<◌, Bool, true, false, List, [], ◌∷◌, length, Some, refl, sym, ap, ◌∙◌, subst, if◌then◌else◌, ◌==◌, ◌&&◌, arith}
use Rattle.std.proofs.lemmas.Bool.Decides.{nat_tests}
use Rattle.std.proofs.lemmas.Bool.{eqb-true}
use Rattle.chor_base.specs.declared.names.NameId.{NameId}
use Rattle.chor_base.specs.declared.value.Load.{Load}
use Rattle.chor_base.specs.declared.event.Event.{Event}
use Rattle.chor_base.specs.declared.event.Event.TheVariants.{Start}
use Rattle.chor_base.specs.NameMap.{Variables}
use Rattle.chor_base.specs.Meaning.{Hosts}
use Rattle.chor_base.specs.Events.{Triple}
use Rattle.chor_semantics.specs.Choreography.{Ref, Live, Named, ref_eq, among, Node, Starts, Communicates, InTransit, Alone, Choreography, Then, Either, Calls, Ends, put, put_node, numbers_for, number_for}
use Rattle.chor_semantics.specs.Sources.{Procedure}
use Rattle.chor_semantics.specs.Steps.{Effect, Moves, head, test, delay, both, unfolded, procedure_named, body_of}
use Rattle.endpoint_code.specs.declared.endpoints.Channel.{Channel}
use Rattle.endpoint_code.specs.declared.endpoints.Endpoints.{Endpoints}
use Rattle.endpoint_code.specs.Network.{service_of}
use Rattle.well_formed.specs.Follows.{SessionMap, no_sessions, with_session, Follows}
use Rattle.well_formed.specs.WellFormed.{Scope, IsSession, AllNew, entered, scope_after, NodeFits, CallFits, IsWellFormed}
use Rattle.well_formed.proofs.Absent.{IsNoDeeper, IsAbsent}
use Rattle.correspondence.specs.Services.{EachServiceFollows, ServicesFollowAt, ServicesFollow}
use Rattle.well_formed.specs.Transit.{is_on, AreInTransitAt, AreInTransit}
use Rattle.well_formed.proofs.References.{right_or, clash, and_first, among_self}
use Rattle.well_formed.proofs.Heads.{headed, decided}
use Rattle.well_formed.proofs.Renames.{in_entered, Renames, processes_after, sessions_after}
use Rattle.correspondence.proofs.Renamed.{put_map, put_with, BodiesRenamed, put_follows}
use Rattle.correspondence.proofs.Queues.{loads_more}
use Rattle.well_formed.proofs.LinearKept.{same_pid, same_sid}
use Rattle.correspondence.proofs.Known.{known_with, known_none}
use Rattle.correspondence.proofs.Bystanders.{starts_here, no_test, NotIn, stays, opened_scope, process_renaming, session_renaming}

module _ (ks : List Channel) (e : Endpoints) (procs : List Procedure) (hosts : Hosts) (vars : List Variables) (sid : ℕ)
    (bodies : (sc : Scope) (f : NameId) (d : ℕ) (ps ss : List Ref) (c : Choreography) → body_of (procedure_named procs f) d ps ss ≡ Some c → CallFits procs sc f d ps ss → IsWellFormed ks procs sc c)
    (outside : (sc : Scope) (p : Ref) (f : NameId) (d : ℕ) (ps ss : List Ref) (c : Choreography) → body_of (procedure_named procs f) d ps ss ≡ Some c → CallFits procs sc f d ps ss → among p ps ≡ false → IsNoDeeper d p → IsAbsent p c)
    (renamed : BodiesRenamed ks procs) where
  -- ---- services

  serves_put : (f g : Ref → Ref) (sc sc' : Scope) → Renames f sc.pid sc'.pid sc.processes sc'.processes → Renames g sc.sid sc'.sid sc.sessions sc'.sessions → (c : Choreography) → IsWellFormed ks procs sc c → (a : NameId) (d k : ℕ) (bs : List Ref) (serve : List (ℕ × NameId)) → ((p : Ref) → among p (entered d serve bs) ≡ true → among p sc.processes ≡ true) → ((x : ℕ) → among (Named x d) bs ≡ false → f (Named x d) ≡ Named x d) → g (Named k d) ≡ Named k d → AllNew d serve bs → EachServiceFollows e procs c a d k serve → EachServiceFollows e procs (put f g c) a d k serve
  serves_put f g sc sc' r s c w a d k bs [] i fixed kept new h = tt
  serves_put f g sc sc' r s c w a d k bs (t ∷ ts) i fixed kept new h = (
    λ n. subst (λ y. Follows e procs n (Named t.0 d) (put f g c) (service_of e.services a t.1) y) names
        (subst (λ y. Follows e procs n y (put f g c) (service_of e.services a t.1) (put_map g (with_session no_sessions a (Named k d, t.1)))) (fixed t.0 new.0)
        (put_follows ks procs f g e bodies renamed (Named t.0 d) n sc sc' r s (i (Named t.0 d) (in_entered d ts (Named t.0 d ∷ bs) (Named t.0 d) (among_self (Named t.0 d) bs))) c w (service_of e.services a t.1) (with_session no_sessions a (Named k d, t.1)) (h.0 n))),
    serves_put f g sc sc' r s c w a d k (Named t.0 d ∷ bs) ts i (λ x z. fixed x (right_or _ _ z)) kept new.1 h.1,
  )
    where
      names : ◌≡◌ {A = SessionMap} (put_map g (with_session no_sessions a (Named k d, t.1))) (with_session no_sessions a (Named k d, t.1))
      names = put_with g no_sessions a (Named k d) t.1 (Named k d) kept

  served_put : (f g : Ref → Ref) (sc sc' : Scope) → Renames f sc.pid sc'.pid sc.processes sc'.processes → Renames g sc.sid sc'.sid sc.sessions sc'.sessions → (c : Choreography) → IsWellFormed ks procs sc c → ServicesFollow e procs c → ServicesFollow e procs (put f g c)
  served_put f g sc sc' r s (Then n rest) w h = (at n w.0 w.1 h.0, served_put f g (scope_after sc n) (scope_after sc' (put_node f g n)) (processes_after ks procs f g sc sc' r n w.0) (sessions_after ks procs f g sc sc' s n w.0) rest w.1 h.1)
    where
      at : (n : Node) → NodeFits ks sc n → IsWellFormed ks procs (scope_after sc n) rest → ServicesFollowAt e procs rest n → ServicesFollowAt e procs (put f g rest) (put_node f g n)
      at (Starts a d k active serve) u v z =
          serves_put f g (scope_after sc (Starts a d k active serve)) (scope_after sc' (put_node f g (Starts a d k active serve))) (processes_after ks procs f g sc sc' r (Starts a d k active serve) u) (sessions_after ks procs f g sc sc' s (Starts a d k active serve) u) rest v a d k sc.processes serve (λ p i. i) (λ x i. r.fixed x d i) (s.fixed k d u.new_session) u.new_processes z
      at (Communicates t p a q b x) u v z = tt
      at (InTransit t a b m q) u v z = tt
      at (Alone p o) u v z = tt
  served_put f g sc sc' r s (Either p x c d) w h = (served_put f g sc sc' r s c w.1 h.0, served_put f g sc sc' r s d w.2 h.1)
  served_put f g sc sc' r s (Calls h' d ps ss) w h = tt
  served_put f g sc sc' r s Ends w h = tt

  module _ (a : NameId) (s : ℕ) (parts : List (NameId × ℕ)) (f : Effect) where
    named_out : (x d : ℕ) (ps : List (NameId × ℕ)) → NotIn (Named x d) ps
    named_out x d [] = tt
    named_out x d (p ∷ ps) = (refl, named_out x d ps)

    serves_past : (sc : Scope) → sc.pid ≡ length vars → sc.sid ≡ sid → (c d : Choreography) (x : Event) (ch : NameId) (j k : ℕ) (serve : List (ℕ × NameId)) (bs : List Ref) → x ≡ Start a s parts → IsWellFormed ks procs sc c → Moves procs hosts vars sid c x f d → IsSession sc (Named k j) → ((p : Ref) → among p (entered j serve bs) ≡ true → among p sc.processes ≡ true) → EachServiceFollows e procs c ch j k serve → EachServiceFollows e procs d ch j k serve
    serves_past sc pid_is sid_is c d x ch j k [] bs is w mv known i h = tt
    serves_past sc pid_is sid_is c d x ch j k (t ∷ ts) bs is w mv known i h = (
      λ n. stays ks e procs hosts vars sid bodies outside renamed (Named t.0 j) a s parts f (named_out t.0 j parts) n c d x is mv sc pid_is sid_is (i (Named t.0 j) (in_entered j ts (Named t.0 j ∷ bs) (Named t.0 j) (among_self (Named t.0 j) bs))) w (service_of e.services ch t.1) (with_session no_sessions ch (Named k j, t.1)) (known_with sc no_sessions ch (Named k j) t.1 (known_none sc) known) h.0,
      serves_past sc pid_is sid_is c d x ch j k ts (Named t.0 j ∷ bs) is w mv known i h.1,
    )

    at_node : (sc : Scope) → sc.pid ≡ length vars → sc.sid ≡ sid → (n : Node) (c d : Choreography) (x : Event) → x ≡ Start a s parts → IsWellFormed ks procs (scope_after sc n) c → Moves procs hosts vars sid c x f d → ServicesFollowAt e procs c n → ServicesFollowAt e procs d n
    at_node sc pid_is sid_is (Starts ch j k active serve) c d x is w mv h = serves_past (scope_after sc (Starts ch j k active serve)) pid_is sid_is c d x ch j k serve sc.processes is w mv (among_self (Named k j) sc.sessions) (λ p i. i) h
    at_node sc pid_is sid_is (Communicates t p b q z y) c d x is w mv h = tt
    at_node sc pid_is sid_is (InTransit t b z m q) c d x is w mv h = tt
    at_node sc pid_is sid_is (Alone p o) c d x is w mv h = tt

    pub served_started : (served_bodies : (sc : Scope) (f : NameId) (d : ℕ) (ps ss : List Ref) (c : Choreography) → body_of (procedure_named procs f) d ps ss ≡ Some c → CallFits procs sc f d ps ss → ServicesFollow e procs c) → (sc : Scope) → sc.pid ≡ length vars → sc.sid ≡ sid → {c d : Choreography} {x : Event} → x ≡ Start a s parts → IsWellFormed ks procs sc c → ServicesFollow e procs c → Moves procs hosts vars sid c x f d → ServicesFollow e procs d
    served_started sb sc pid_is sid_is is w h (head {n = n} {c = c} {d = d} {e = x} v z made) =
        let i = starts_here vars sid v n c d x f a s parts is (headed vars sid v n c x f d made) in
        let w' : IsWellFormed ks procs sc (Then (Starts a i.depth i.k i.active i.serve) c) = subst (λ y. IsWellFormed ks procs sc (Then y c)) i.is w in
        subst (ServicesFollow e procs) (sym i.left) (served_put (numbers_for i.depth i.serve (length vars)) (number_for i.k i.depth sid) (scope_after sc (Starts a i.depth i.k i.active i.serve)) (opened_scope sc (length i.serve)) (process_renaming ks vars sc pid_is a i.depth i.k i.active i.serve w'.0) (session_renaming ks sid sc sid_is a i.depth i.k i.active i.serve w'.0) c w'.1 h.1)
    served_started sb sc pid_is sid_is is w h (test {p = t} {x = g} {c = c} {c' = c'} {d = d} {e = x} made) = absurd (no_test vars t g c c' d x f a s parts is (decided vars t g c c' x f d made))
    served_started sb sc pid_is sid_is is w h (delay {n = n} {c = c} {d = d} {e = x} m mv) = (at_node sc pid_is sid_is n c d x is w.1 mv h.0, served_started sb (scope_after sc n) (same_pid sc n ∙ pid_is) (same_sid sc n ∙ sid_is) is w.1 h.1 mv)
    served_started sb sc pid_is sid_is is w h (both m mv mw) = (served_started sb sc pid_is sid_is is w.1 h.0 mv, served_started sb sc pid_is sid_is is w.2 h.1 mw)
    served_started sb sc pid_is sid_is is w h (unfolded {h = g} {k = k} {ps = ps} {ss = ss} {c = c} u mv) = served_started sb sc pid_is sid_is is (bodies sc g k ps ss c u w) (sb sc g k ps ss c u w) mv

  -- ---- queues

  -- an open session's triples
  module _ (t : Triple) (off : (t.0 == sid) ≡ false) (k d : ℕ) (f : Ref → Ref) where
    older : (u : Ref) → ref_eq (Live t.0) (number_for k d sid u) ≡ ref_eq (Live t.0) u
    older (Live m) = refl
    older (Named y c) = go ((k == y) && (d == c))
      where
        go : (b : Bool) → ref_eq (Live t.0) (if b then Live sid else Named y c) ≡ false
        go true = off
        go false = refl

    on_same : (n : Node) → is_on t (put_node f (number_for k d sid) n) ≡ is_on t n
    on_same (Starts c j i active serve) = refl
    on_same (Communicates u p x q y w) = ap (λ z. z && ((t.1.0 == x.0) && (t.2.0 == y.0))) (older u)
    on_same (InTransit u x y m q) = refl
    on_same (Alone p o) = refl

    at_put : (n : Node) (y : Bool) (K L : List Load → Type 0) → ((ls : List Load) → K ls → L ls) → (ls : List Load) → AreInTransitAt n y K ls → AreInTransitAt (put_node f (number_for k d sid) n) y L ls
    at_put n false K L j ls h = j ls h
    at_put (Starts c i z active serve) true K L j ls h = j ls h
    at_put (Communicates u p x q y w) true K L j ls h = (h.0, j [] h.1)
    at_put (InTransit u x y m q) true K L j [] h = h
    at_put (InTransit u x y m q) true K L j (z ∷ ls) h = (h.0, j ls h.1)
    at_put (Alone p o) true K L j ls h = j ls h

    loads_put : (c : Choreography) (ls : List Load) → AreInTransit t c ls → AreInTransit t (put f (number_for k d sid) c) ls
    loads_put (Then n rest) ls h = subst (λ y. AreInTransitAt (put_node f (number_for k d sid) n) y (AreInTransit t (put f (number_for k d sid) rest)) ls) (sym (on_same n)) (at_put n (is_on t n) (AreInTransit t rest) (AreInTransit t (put f (number_for k d sid) rest)) (loads_put rest) ls h)
    loads_put (Either p e c d') ls h = (loads_put c ls h.0, loads_put d' ls h.1)
    loads_put (Calls h' j ps ss) ls h = h
    loads_put Ends ls h = h

  -- a session that isn't open has no message in transit
  not_it : (s n : ℕ) → s < n → (n == s) ≡ false
  not_it s n h = grind (arith, nat_tests)

  no_transit : (t : Triple) (sc : Scope) → t.0 ≡ sc.sid → (n : Node) → NodeFits ks sc n → (y : Bool) → is_on t n ≡ y → (K : List Load → Type 0) → ((ls : List Load) → K ls → ls ≡ []) → (ls : List Load) → AreInTransitAt n y K ls → ls ≡ []
  no_transit t sc i n w false j K z ls h = z ls h
  no_transit t sc i (Starts c d k active serve) w true j K z ls h = absurd cc
  no_transit t sc i (Communicates u p a q b x) w true j K z ls h = h.0
  no_transit t sc i (InTransit u a b m q) w true j K z ls h = absurd (clash (and_first (t.0 == u) _ j) (ap (λ y. y == u) i ∙ not_it u sc.sid w.session))
  no_transit t sc i (Alone p o) w true j K z ls h = absurd cc

  none_waits : (t : Triple) (sc : Scope) → t.0 ≡ sc.sid → (c : Choreography) → IsWellFormed ks procs sc c → (ls : List Load) → AreInTransit t c ls → ls ≡ []
  none_waits t sc i (Then n rest) w ls h = no_transit t sc i n w.0 (is_on t n) refl (AreInTransit t rest) (none_waits t (scope_after sc n) (i ∙ sym (same_sid sc n)) rest w.1) ls h
  none_waits t sc i (Either p x c d) w ls h = none_waits t sc i c w.1 ls h.0
  none_waits t sc i (Calls f d ps ss) w ls h = h
  none_waits t sc i Ends w ls h = h

  no_load : (t : Triple) (sc : Scope) → t.0 ≡ sc.sid → (n : Node) → NodeFits ks sc n → (f g : Ref → Ref) (y : Bool) → is_on t (put_node f g n) ≡ y → (K : List Load → Type 0) → K [] → AreInTransitAt (put_node f g n) y K []
  no_load t sc i n w f g false j K z = z
  no_load t sc i (Starts c d k active serve) w f g true j K z = z
  no_load t sc i (Communicates u p a q b x) w f g true j K z = (refl, z)
  no_load t sc i (InTransit u a b m q) w f g true j K z = absurd (clash (and_first (t.0 == u) _ j) (ap (λ y. y == u) i ∙ not_it u sc.sid w.session))
  no_load t sc i (Alone p o) w f g true j K z = z

  put_empty : (t : Triple) (sc : Scope) → t.0 ≡ sc.sid → (f g : Ref → Ref) (c : Choreography) → IsWellFormed ks procs sc c → AreInTransit t (put f g c) []
  put_empty t sc i f g (Then n rest) w = no_load t sc i n w.0 f g (is_on t (put_node f g n)) refl (AreInTransit t (put f g rest)) (put_empty t (scope_after sc n) (i ∙ sym (same_sid sc n)) f g rest w.1)
  put_empty t sc i f g (Either p x c d) w = (put_empty t sc i f g c w.1, put_empty t sc i f g d w.2)
  put_empty t sc i f g (Calls h d ps ss) w = refl
  put_empty t sc i f g Ends w = refl

  node_empty : (t : Triple) (sc : Scope) → t.0 ≡ sc.sid → (n : Node) → NodeFits ks sc n → (y : Bool) → is_on t n ≡ y → (K : List Load → Type 0) → K [] → AreInTransitAt n y K []
  node_empty t sc i n w false j K z = z
  node_empty t sc i (Starts c d k active serve) w true j K z = z
  node_empty t sc i (Communicates u p a q b x) w true j K z = (refl, z)
  node_empty t sc i (InTransit u a b m q) w true j K z = absurd (clash (and_first (t.0 == u) _ j) (ap (λ y. y == u) i ∙ not_it u sc.sid w.session))
  node_empty t sc i (Alone p o) w true j K z = z

  module _ (a : NameId) (s : ℕ) (parts : List (NameId × ℕ)) (f : Effect)
      (empty_bodies : (t : Triple) (f : NameId) (d : ℕ) (ps ss : List Ref) (c : Choreography) → body_of (procedure_named procs f) d ps ss ≡ Some c → AreInTransit t c []) where
    new_empty : (t : Triple) → t.0 ≡ sid → (sc : Scope) → sc.sid ≡ sid → {c d : Choreography} {x : Event} → x ≡ Start a s parts → IsWellFormed ks procs sc c → Moves procs hosts vars sid c x f d → AreInTransit t d []
    new_empty t i sc sid_is is w (head {n = n} {c = c} {d = d} {e = x} v z made) =
        let h = starts_here vars sid v n c d x f a s parts is (headed vars sid v n c x f d made) in
        subst (λ y. AreInTransit t y []) (sym h.left) (put_empty t (scope_after sc n) (i ∙ sym sid_is ∙ sym (same_sid sc n)) (numbers_for h.depth h.serve (length vars)) (number_for h.k h.depth sid) c w.1)
    new_empty t i sc sid_is is w (test {p = r} {x = g} {c = c} {c' = c'} {d = d} {e = x} made) = absurd (no_test vars r g c c' d x f a s parts is (decided vars r g c c' x f d made))
    new_empty t i sc sid_is is w (delay {n = n} {d = d} u mv) = node_empty t sc (i ∙ sym sid_is) n w.0 (is_on t n) refl (AreInTransit t d) (new_empty t i (scope_after sc n) (same_sid sc n ∙ sid_is) is w.1 mv)
    new_empty t i sc sid_is is w (both u mv mw) = (new_empty t i sc sid_is is w.1 mv, new_empty t i sc sid_is is w.2 mw)
    new_empty t i sc sid_is is w (unfolded {h = g} {k = k} {ps = ps} {ss = ss} {c = c} u mv) = new_empty t i sc sid_is is (bodies sc g k ps ss c u w) mv

    old_loads : (t : Triple) → (t.0 == sid) ≡ false → {c d : Choreography} {x : Event} → x ≡ Start a s parts → (ls : List Load) → AreInTransit t c ls → Moves procs hosts vars sid c x f d → AreInTransit t d ls
    old_loads t off is ls h (head {n = n} {c = c} {d = d} {e = x} v z made) =
        let i = starts_here vars sid v n c d x f a s parts is (headed vars sid v n c x f d made) in
        subst (λ y. AreInTransit t y ls) (sym i.left) (loads_put t off i.k i.depth (numbers_for i.depth i.serve (length vars)) c ls (subst (λ y. AreInTransitAt y (is_on t y) (AreInTransit t c) ls) i.is h))
    old_loads t off is ls h (test {p = r} {x = g} {c = c} {c' = c'} {d = d} {e = x} made) = absurd (no_test vars r g c c' d x f a s parts is (decided vars r g c c' x f d made))
    old_loads t off is ls h (delay {n = n} {c = c} {d = d} u mv) = loads_more n (is_on t n) (AreInTransit t c) (AreInTransit t d) (λ js j. old_loads t off is js j mv) ls h
    old_loads t off is ls h (both u mv mw) = (old_loads t off is ls h.0 mv, old_loads t off is ls h.1 mw)
    old_loads t off is ls h (unfolded {h = g} {k = k} {ps = ps} {ss = ss} {c = c} {d = d} u mv) = subst (AreInTransit t d) (sym h) (old_loads t off is [] (empty_bodies t g k ps ss c u) mv)

    -- a start leaves the queues
    pub loads_started : (t : Triple) (sc : Scope) → sc.sid ≡ sid → {c d : Choreography} {x : Event} → x ≡ Start a s parts → IsWellFormed ks procs sc c → (ls : List Load) → AreInTransit t c ls → Moves procs hosts vars sid c x f d → AreInTransit t d ls
    loads_started t sc sid_is {c = c} {d = d} is w ls h mv = go (t.0 == sid) refl
      where
        go : (b : Bool) → (t.0 == sid) ≡ b → AreInTransit t d ls
        go false i = old_loads t i is ls h mv
        go true i = let j = eqb-true t.0 sid i in subst (AreInTransit t d) (sym (none_waits t sc (j ∙ sym sid_is) c w ls h)) (new_empty t j sc sid_is is w mv)
