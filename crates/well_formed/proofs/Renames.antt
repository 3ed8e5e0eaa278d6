-- Numbers in place of names, in a scope.
use Rattle.std.proofs.Common.{◌≡◌, ℕ, suc, ◌+◌, ◌<◌, ◌≤◌, Bool, true, false, List, [], ◌∷◌, length, refl, sym, ap, ◌∙◌, subst, if◌then◌else◌, ◌==◌, ◌||◌, arith}
use Rattle.std.specs.Prelude.{map}
use Rattle.std.proofs.lemmas.Bool.Decides.{nat_tests}
use Rattle.chor_base.specs.declared.names.NameId.{NameId}
use Rattle.chor_semantics.specs.Choreography.{Ref, Live, Named, ref_eq, among, Content, OfValue, OfLabel, OfPart, Message, ValueSent, LabelSent, PartSent, Node, Starts, Communicates, InTransit, Alone, Choreography, Then, Either, Calls, Ends, put, put_content, put_node, put_part, number_for, numbers_for}
use Rattle.chor_semantics.specs.Sources.{Procedure}
use Rattle.endpoint_code.specs.declared.endpoints.Channel.{Channel}
use Rattle.well_formed.specs.WellFormed.{Scope, IsIn, AllIn, AreDistinctRefs, AreNoDeeper, AllNew, entered, firsts, scope_after, ContentFits, MessageFits, NodeFits, IsWellFormed}
use Rattle.well_formed.proofs.References.{left_or, right_or, or_false, or_left, or_rights, clash, same_ref, self_ref, not_same, differ_ref, turned_ref}
use Rattle.well_formed.proofs.Members.{firsts_put, Stay, StayAt, AllStay}

-- names in scope stay in scope
pub in_entered : (d : ℕ) (serve : List (ℕ × NameId)) (bs : List Ref) (p : Ref) → among p bs ≡ true → among p (entered d serve bs) ≡ true
in_entered d [] bs p h = h
in_entered d (s ∷ ss) bs p h = in_entered d ss (Named s.0 d ∷ bs) p (or_rights _ _ h)

-- from one scope to another
pub record Renames (f : Ref → Ref) (n n' : ℕ) (bs bs' : List Ref) : Type 0 where
  pub keeps : (r : Ref) → IsIn n bs r → IsIn n' bs' (f r)
  pub new : (y d : ℕ) → among (Named y d) bs ≡ false → among (Named y d) bs' ≡ false
  pub apart : (r q : Ref) → IsIn n bs r → IsIn n bs q → ref_eq r q ≡ false → ref_eq (f r) (f q) ≡ false
  pub fixed : (y d : ℕ) → among (Named y d) bs ≡ false → f (Named y d) ≡ Named y d
  pub above : (d : ℕ) → AreNoDeeper d bs → AreNoDeeper d bs'
  pub live : (m : ℕ) → f (Live m) ≡ Live m

-- what is in a scope isn't what is new there
in_not_new : (n : ℕ) (bs : List Ref) (y d : ℕ) (r : Ref) → among (Named y d) bs ≡ false → IsIn n bs r → ref_eq r (Named y d) ≡ false
in_not_new n bs y d (Live m) h k = refl
in_not_new n bs y d (Named x c) h k = differ_ref (Named x c) (Named y d) (λ e. clash k (ap (λ z. among z bs) e ∙ h))

in_more : (n : ℕ) (bs : List Ref) (q r : Ref) → IsIn n bs r → IsIn n (q ∷ bs) r
in_more n bs q (Live m) h = h
in_more n bs q (Named x c) h = or_rights _ _ h

-- past a binder
pub deeper : (f : Ref → Ref) (n n' : ℕ) (bs bs' : List Ref) (y d : ℕ) → among (Named y d) bs ≡ false → Renames f n n' bs bs' → Renames f n n' (Named y d ∷ bs) (Named y d ∷ bs')
deeper f n n' bs bs' y d fresh r = record {
  keeps = keep;
  new = λ x c h. or_false _ _ (left_or _ _ h) (r.new x c (right_or _ _ h));
  apart = off;
  fixed = λ x c h. r.fixed x c (right_or _ _ h);
  above = λ c h. (h.0, r.above c h.1);
  live = r.live;
}
  where
    mine : f (Named y d) ≡ Named y d
    mine = r.fixed y d fresh

    one : (x : Ref) → IsIn n (Named y d ∷ bs) x → (b : Bool) → ref_eq x (Named y d) ≡ b → IsIn n' (Named y d ∷ bs') (f x)
    one x h true e = subst (IsIn n' (Named y d ∷ bs')) (sym (ap f (same_ref x (Named y d) e) ∙ mine)) (or_left _ _ (self_ref (Named y d)))
    one (Live m) h false e = in_more n' bs' (Named y d) (f (Live m)) (r.keeps (Live m) h)
    one (Named x c) h false e = in_more n' bs' (Named y d) (f (Named x c)) (r.keeps (Named x c) (other (among (Named x c) bs) (ref_eq (Named x c) (Named y d)) e h))
      where
        other : (z b : Bool) → b ≡ false → (b || z) ≡ true → z ≡ true
        other z false i j = j
        other z true i j = absurd cc

    keep : (x : Ref) → IsIn n (Named y d ∷ bs) x → IsIn n' (Named y d ∷ bs') (f x)
    keep x h = one x h (ref_eq x (Named y d)) refl

    older : (x : Ref) → IsIn n (Named y d ∷ bs) x → ref_eq x (Named y d) ≡ false → IsIn n bs x
    older (Live m) h e = h
    older (Named x c) h e = other (among (Named x c) bs) (ref_eq (Named x c) (Named y d)) e h
      where
        other : (z b : Bool) → b ≡ false → (b || z) ≡ true → z ≡ true
        other z false i j = j
        other z true i j = absurd cc

    -- the binder's name is no other's
    apart_mine : (x : Ref) → IsIn n (Named y d ∷ bs) x → ref_eq x (Named y d) ≡ false → ref_eq (f x) (f (Named y d)) ≡ false
    apart_mine x h e = ap (ref_eq (f x)) mine ∙ in_not_new n' bs' y d (f x) (r.new y d fresh) (r.keeps x (older x h e))

    off : (x q : Ref) → IsIn n (Named y d ∷ bs) x → IsIn n (Named y d ∷ bs) q → ref_eq x q ≡ false → ref_eq (f x) (f q) ≡ false
    off x q h k e = go (ref_eq x (Named y d)) refl (ref_eq q (Named y d)) refl
      where
        go : (a : Bool) → ref_eq x (Named y d) ≡ a → (b : Bool) → ref_eq q (Named y d) ≡ b → ref_eq (f x) (f q) ≡ false
        go true i true j = absurd (not_same x q e (same_ref x (Named y d) i ∙ sym (same_ref q (Named y d) j)))
        go true i false j = turned_ref (f q) (f x) (ap (λ z. ref_eq (f q) (f z)) (same_ref x (Named y d) i) ∙ apart_mine q k j)
        go false i true j = ap (λ z. ref_eq (f x) (f z)) (same_ref q (Named y d) j) ∙ apart_mine x h i
        go false i false j = r.apart x q (older x h i) (older q k j) e

pub past_services : (f : Ref → Ref) (n n' : ℕ) (d : ℕ) (ss : List (ℕ × NameId)) (bs bs' : List Ref) → AllNew d ss bs → Renames f n n' bs bs' → Renames f n n' (entered d ss bs) (entered d ss bs')
past_services f n n' d [] bs bs' h r = r
past_services f n n' d (s ∷ ss) bs bs' h r = past_services f n n' d ss (Named s.0 d ∷ bs) (Named s.0 d ∷ bs') h.1 (deeper f n n' bs bs' s.0 d h.0 r)

pub one_after : (f g : Ref → Ref) (n n' n'' : ℕ) (bs bs' bs'' : List Ref) → Renames f n n' bs bs' → Renames g n' n'' bs' bs'' → Renames (λ r. g (f r)) n n'' bs bs''
one_after f g n n' n'' bs bs' bs'' r s = record {
  keeps = λ x h. s.keeps (f x) (r.keeps x h);
  new = λ y d h. s.new y d (r.new y d h);
  apart = λ x q h k e. s.apart (f x) (f q) (r.keeps x h) (r.keeps q k) (r.apart x q h k e);
  fixed = λ y d h. ap g (r.fixed y d h) ∙ s.fixed y d (r.new y d h);
  above = λ d h. s.above d (r.above d h);
  live = λ m. ap g (r.live m) ∙ s.live m;
}

-- higher counters
pub counted : (n n' : ℕ) (bs : List Ref) → n ≤ n' → Renames (λ r. r) n n' bs bs
counted n n' bs le = record { keeps = keep; new = λ y d h. h; apart = λ x q h k e. e; fixed = λ y d h. refl; above = λ d h. h; live = λ m. refl }
  where
    keep : (r : Ref) → IsIn n bs r → IsIn n' bs r
    keep (Live m) h = omega (arith, h, le)
    keep (Named x d) h = h

-- the next number for one name
pub opens : (x d n : ℕ) (bs : List Ref) → among (Named x d) bs ≡ false → Renames (number_for x d n) n (suc n) (Named x d ∷ bs) bs
opens x d n bs fresh = record {
  keeps = keep;
  new = λ y c h. right_or _ _ h;
  apart = off;
  fixed = λ y c h. stays y c (ap (λ z. z) (turned_ref (Named y c) (Named x d) (left_or _ _ h)));
  above = λ c h. h.1;
  live = λ m. refl;
}
  where
    stays : (y c : ℕ) → ref_eq (Named x d) (Named y c) ≡ false → number_for x d n (Named y c) ≡ Named y c
    stays y c e = ap (λ b. if b then Live n else Named y c) e

    goes : (y c : ℕ) → ref_eq (Named x d) (Named y c) ≡ true → number_for x d n (Named y c) ≡ Live n
    goes y c e = ap (λ b. if b then Live n else Named y c) e

    known : (y c : ℕ) → among (Named y c) (Named x d ∷ bs) ≡ true → ref_eq (Named x d) (Named y c) ≡ false → among (Named y c) bs ≡ true
    known y c h e = other (among (Named y c) bs) (ref_eq (Named y c) (Named x d)) (turned_ref (Named x d) (Named y c) e) h
      where
        other : (z b : Bool) → b ≡ false → (b || z) ≡ true → z ≡ true
        other z false i j = j
        other z true i j = absurd cc

    keep : (r : Ref) → IsIn n (Named x d ∷ bs) r → IsIn (suc n) bs (number_for x d n r)
    keep (Live m) h = omega (arith, h)
    keep (Named y c) h = go (ref_eq (Named x d) (Named y c)) refl
      where
        go : (b : Bool) → ref_eq (Named x d) (Named y c) ≡ b → IsIn (suc n) bs (number_for x d n (Named y c))
        go true e = subst (IsIn (suc n) bs) (sym (goes y c e)) (omega arith)
        go false e = subst (IsIn (suc n) bs) (sym (stays y c e)) (known y c h e)

    below : (m : ℕ) → m < n → (m == n) ≡ false
    below m h = grind (arith, nat_tests)

    off : (r q : Ref) → IsIn n (Named x d ∷ bs) r → IsIn n (Named x d ∷ bs) q → ref_eq r q ≡ false → ref_eq (number_for x d n r) (number_for x d n q) ≡ false
    off (Live m) (Live k) h i e = e
    off (Live m) (Named y c) h i e = go (ref_eq (Named x d) (Named y c)) refl
      where
        go : (b : Bool) → ref_eq (Named x d) (Named y c) ≡ b → ref_eq (Live m) (number_for x d n (Named y c)) ≡ false
        go true j = ap (ref_eq (Live m)) (goes y c j) ∙ below m h
        go false j = ap (ref_eq (Live m)) (stays y c j)
    off (Named y c) (Live m) h i e = turned_ref (Live m) (number_for x d n (Named y c)) (go (ref_eq (Named x d) (Named y c)) refl)
      where
        go : (b : Bool) → ref_eq (Named x d) (Named y c) ≡ b → ref_eq (Live m) (number_for x d n (Named y c)) ≡ false
        go true j = ap (ref_eq (Live m)) (goes y c j) ∙ below m i
        go false j = ap (ref_eq (Live m)) (stays y c j)
    off (Named y c) (Named z k) h i e = go (ref_eq (Named x d) (Named y c)) refl (ref_eq (Named x d) (Named z k)) refl
      where
        go : (a : Bool) → ref_eq (Named x d) (Named y c) ≡ a → (b : Bool) → ref_eq (Named x d) (Named z k) ≡ b → ref_eq (number_for x d n (Named y c)) (number_for x d n (Named z k)) ≡ false
        go true u true v = absurd (not_same (Named y c) (Named z k) e (sym (same_ref (Named x d) (Named y c) u) ∙ same_ref (Named x d) (Named z k) v))
        go true u false v = ap (λ w. ref_eq w (number_for x d n (Named z k))) (goes y c u) ∙ ap (ref_eq (Live n)) (stays z k v)
        go false u true v = ap (λ w. ref_eq w (number_for x d n (Named z k))) (stays y c u) ∙ ap (ref_eq (Named y c)) (goes z k v)
        go false u false v = ap (λ w. ref_eq w (number_for x d n (Named z k))) (stays y c u) ∙ ap (ref_eq (Named y c)) (stays z k v) ∙ e

new_less : (d : ℕ) (ss : List (ℕ × NameId)) (bs bs' : List Ref) → ((y c : ℕ) → among (Named y c) bs ≡ false → among (Named y c) bs' ≡ false) → AllNew d ss bs → AllNew d ss bs'
new_less d [] bs bs' j h = tt
new_less d (s ∷ ss) bs bs' j h = (j s.0 d h.0, new_less d ss (Named s.0 d ∷ bs) (Named s.0 d ∷ bs') (λ y c k. or_false _ _ (left_or _ _ k) (j y c (right_or _ _ k))) h.1)

one_more : (n k : ℕ) → suc n + k ≡ n + suc k
one_more n k = omega arith

-- the next numbers for the services' names
pub opens_all : (d : ℕ) (ss : List (ℕ × NameId)) (n : ℕ) (bs : List Ref) → AllNew d ss bs → Renames (numbers_for d ss n) n (n + length ss) (entered d ss bs) bs
opens_all d [] n bs h = subst (λ k. Renames (λ r. r) n k bs bs) (omega arith) (counted n n bs (omega arith))
opens_all d (s ∷ ss) n bs h =
    let first = past_services (number_for s.0 d n) n (suc n) d ss (Named s.0 d ∷ bs) bs h.1 (opens s.0 d n bs h.0) in
    let rest = opens_all d ss (suc n) bs (new_less d ss (Named s.0 d ∷ bs) bs (λ y c k. right_or _ _ k) h.1) in
    subst (λ k. Renames (numbers_for d (s ∷ ss) n) n k (entered d (s ∷ ss) bs) bs) (one_more n (length ss)) (one_after (number_for s.0 d n) (numbers_for d ss (suc n)) n (suc n) (suc n + length ss) (entered d ss (Named s.0 d ∷ bs)) (entered d ss bs) bs first rest)

-- ---- what keeps its form

pub all_in_put : (f : Ref → Ref) (n n' : ℕ) (bs bs' : List Ref) → Renames f n n' bs bs' → (rs : List Ref) → AllIn n bs rs → AllIn n' bs' (map f rs)
all_in_put f n n' bs bs' r [] h = tt
all_in_put f n n' bs bs' r (x ∷ xs) h = (r.keeps x h.0, all_in_put f n n' bs bs' r xs h.1)

none_among : (f : Ref → Ref) (n n' : ℕ) (bs bs' : List Ref) → Renames f n n' bs bs' → (x : Ref) → IsIn n bs x → (rs : List Ref) → AllIn n bs rs → among x rs ≡ false → among (f x) (map f rs) ≡ false
none_among f n n' bs bs' r x h [] k e = refl
none_among f n n' bs bs' r x h (q ∷ qs) k e = or_false _ _ (r.apart x q h k.0 (left_or _ _ e)) (none_among f n n' bs bs' r x h qs k.1 (right_or _ _ e))

pub none_twice_put : (f : Ref → Ref) (n n' : ℕ) (bs bs' : List Ref) → Renames f n n' bs bs' → (rs : List Ref) → AllIn n bs rs → AreDistinctRefs rs → AreDistinctRefs (map f rs)
none_twice_put f n n' bs bs' r [] k h = tt
none_twice_put f n n' bs bs' r (x ∷ xs) k h = (none_among f n n' bs bs' r x k.0 xs k.1 h.0, none_twice_put f n n' bs bs' r xs k.1 h.1)

pub seconds_put : (f : Ref → Ref) (active : List (Ref × NameId)) → map (λ p. p.1) (put_part f active) ≡ map (λ p. p.1) active
seconds_put f [] = refl
seconds_put f (q ∷ qs) = ap (λ y. q.1 ∷ y) (seconds_put f qs)

length_map : (f : Ref → Ref) (rs : List Ref) → length (map f rs) ≡ length rs
length_map f [] = refl
length_map f (r ∷ rs) = ap suc (length_map f rs)

module _ (ks : List Channel) (procs : List Procedure) (f g : Ref → Ref) where
  content_put : (sc sc' : Scope) → Renames g sc.sid sc'.sid sc.sessions sc'.sessions → (w : Content) → ContentFits sc w → ContentFits sc' (put_content g w)
  content_put sc sc' s (OfValue e x) h = h
  content_put sc sc' s (OfLabel l) h = h
  content_put sc sc' s (OfPart u r) h = s.keeps u h

  live_put : (sc sc' : Scope) → Renames g sc.sid sc'.sid sc.sessions sc'.sessions → (s : ℕ) → s < sc.sid → s < sc'.sid
  live_put sc sc' r s h = subst (IsIn sc'.sid sc'.sessions) (r.live s) (r.keeps (Live s) h)

  message_put : (sc sc' : Scope) → Renames g sc.sid sc'.sid sc.sessions sc'.sessions → (m : Message) → MessageFits sc m → MessageFits sc' m
  message_put sc sc' s (ValueSent v x) h = h
  message_put sc sc' s (LabelSent l) h = h
  message_put sc sc' s (PartSent u r) h = live_put sc sc' s u h

  pub node_put : (sc sc' : Scope) → Renames f sc.pid sc'.pid sc.processes sc'.processes → Renames g sc.sid sc'.sid sc.sessions sc'.sessions → (n : Node) → NodeFits ks sc n → NodeFits ks sc' (put_node f g n)
  node_put sc sc' r s (Starts c d k active serve) h = record {
    channel = h.channel;
    declared = h.declared;
    active_roles = seconds_put f active ∙ h.active_roles;
    service_roles = h.service_roles;
    known = subst (AllIn sc'.pid sc'.processes) (sym (firsts_put f active)) (all_in_put f sc.pid sc'.pid sc.processes sc'.processes r (firsts active) h.known);
    apart = subst AreDistinctRefs (sym (firsts_put f active)) (none_twice_put f sc.pid sc'.pid sc.processes sc'.processes r (firsts active) h.known h.apart);
    new_processes = new_less d serve sc.processes sc'.processes r.new h.new_processes;
    new_session = s.new k d h.new_session;
  }
  node_put sc sc' r s (Communicates u p a q b w) h = record {
    session = s.keeps u h.session;
    sender = r.keeps p h.sender;
    receiver = r.keeps q h.receiver;
    differ = r.apart p q h.sender h.receiver h.differ;
    content = content_put sc sc' s w h.content;
  }
  node_put sc sc' r s (InTransit u a b m q) h = record { session = live_put sc sc' s u h.session; message = message_put sc sc' s m h.message; receiver = r.keeps q h.receiver }
  node_put sc sc' r s (Alone p o) h = (r.keeps p h.0, h.1)

  pub processes_after : (sc sc' : Scope) → Renames f sc.pid sc'.pid sc.processes sc'.processes → (n : Node) → NodeFits ks sc n → Renames f (scope_after sc n).pid (scope_after sc' (put_node f g n)).pid (scope_after sc n).processes (scope_after sc' (put_node f g n)).processes
  processes_after sc sc' r (Starts c d k active serve) h = past_services f sc.pid sc'.pid d serve sc.processes sc'.processes h.new_processes r
  processes_after sc sc' r (Communicates u p a q b w) h = r
  processes_after sc sc' r (InTransit u a b m q) h = r
  processes_after sc sc' r (Alone p o) h = r

  pub sessions_after : (sc sc' : Scope) → Renames g sc.sid sc'.sid sc.sessions sc'.sessions → (n : Node) → NodeFits ks sc n → Renames g (scope_after sc n).sid (scope_after sc' (put_node f g n)).sid (scope_after sc n).sessions (scope_after sc' (put_node f g n)).sessions
  sessions_after sc sc' s (Starts c d k active serve) h = deeper g sc.sid sc'.sid sc.sessions sc'.sessions k d h.new_session s
  sessions_after sc sc' s (Communicates u p a q b w) h = s
  sessions_after sc sc' s (InTransit u a b m q) h = s
  sessions_after sc sc' s (Alone p o) h = s

  pub fits_put : (sc sc' : Scope) → Renames f sc.pid sc'.pid sc.processes sc'.processes → Renames g sc.sid sc'.sid sc.sessions sc'.sessions → (c : Choreography) → IsWellFormed ks procs sc c → IsWellFormed ks procs sc' (put f g c)
  fits_put sc sc' r s (Then n rest) w = (node_put sc sc' r s n w.0, fits_put (scope_after sc n) (scope_after sc' (put_node f g n)) (processes_after sc sc' r n w.0) (sessions_after sc sc' s n w.0) rest w.1)
  fits_put sc sc' r s (Either p e c d) w = ((r.keeps p w.0.0, w.0.1), fits_put sc sc' r s c w.1, fits_put sc sc' r s d w.2)
  fits_put sc sc' r s (Calls h d ps ss) w = record {
    procedure = w.procedure;
    declared = w.declared;
    processes = all_in_put f sc.pid sc'.pid sc.processes sc'.processes r ps w.processes;
    sessions = all_in_put g sc.sid sc'.sid sc.sessions sc'.sessions s ss w.sessions;
    process_count = length_map f ps ∙ w.process_count;
    session_count = length_map g ss ∙ w.session_count;
    processes_apart = none_twice_put f sc.pid sc'.pid sc.processes sc'.processes r ps w.processes w.processes_apart;
    sessions_apart = none_twice_put g sc.sid sc'.sid sc.sessions sc'.sessions s ss w.sessions w.sessions_apart;
    processes_above = r.above d w.processes_above;
    sessions_above = s.above d w.sessions_above;
  }
  fits_put sc sc' r s Ends w = tt

  serve_stays : (d : ℕ) (serve : List (ℕ × NameId)) (bs : List Ref) → ((y c : ℕ) → among (Named y c) bs ≡ false → f (Named y c) ≡ Named y c) → AllNew d serve bs → Stay f d serve
  serve_stays d [] bs j h = tt
  serve_stays d (s ∷ ss) bs j h = (j s.0 d h.0, serve_stays d ss (Named s.0 d ∷ bs) (λ y c k. j y c (right_or _ _ k)) h.1)

  -- services' names below are new
  pub all_stay : (sc sc' : Scope) → Renames f sc.pid sc'.pid sc.processes sc'.processes → (c : Choreography) → IsWellFormed ks procs sc c → AllStay f c
  all_stay sc sc' r (Then n rest) w = (at n w.0, all_stay (scope_after sc n) (scope_after sc' (put_node f g n)) (processes_after sc sc' r n w.0) rest w.1)
    where
      at : (n : Node) → NodeFits ks sc n → StayAt f n
      at (Starts c d k active serve) h = serve_stays d serve sc.processes r.fixed h.new_processes
      at (Communicates u p a q b z) h = tt
      at (InTransit u a b m q) h = tt
      at (Alone p o) h = tt
  all_stay sc sc' r (Either p e c d) w = (all_stay sc sc' r c w.1, all_stay sc sc' r d w.2)
  all_stay sc sc' r (Calls h d ps ss) w = tt
  all_stay sc sc' r Ends w = tt
