-- Renaming keeps who holds a role.
use Rattle.std.proofs.Common.{◌≡◌, ℕ, zero, suc, Bool, true, false, List, [], ◌∷◌, ◌++◌, Option, Some, None, refl, sym, ap, ◌∙◌, subst, if◌then◌else◌, ◌==◌, ◌||◌, ◌&&◌}
use Rattle.std.specs.Prelude.{map, slice_get}
use Rattle.chor_base.specs.declared.names.NameId.{NameId}
use Rattle.chor_semantics.specs.Choreography.{Ref, Live, Named, ref_eq, among, Content, OfValue, OfLabel, OfPart, Message, ValueSent, LabelSent, PartSent, Node, Starts, Communicates, InTransit, Alone, Choreography, Then, Either, Calls, Ends, put, put_content, put_node, put_part, numbers_for}
use Rattle.chor_semantics.specs.Sources.{Procedure}
use Rattle.chor_semantics.specs.Steps.{live_parts, with_live, new_parts}
use Rattle.endpoint_code.specs.declared.endpoints.Channel.{Channel}
use Rattle.well_formed.specs.WellFormed.{Scope, AllIn, IsProcess, IsSession, AllNew, service_refs, scope_after, NodeFits, MessageFits, ContentFits, IsWellFormed}
use Rattle.well_formed.specs.Holders.{is_role, hands_over, carries, first_with, as_parts, HolderFits, holder_after, ListedHolders, HeldBy, PassedHeld, HoldersFit, HolderIn}
use Rattle.well_formed.proofs.References.{right_or, or_false, or_left, clash, self_ref, same_ref, differ_ref, among_self}
use Rattle.well_formed.proofs.Renames.{Renames, processes_after, sessions_after}
use Rattle.correspondence.proofs.Others.{still_process}
use Rattle.well_formed.proofs.LinearKept.{live_on, service_entered}
use Rattle.correspondence.proofs.Together.{parts_as}

abbrev pub put_holder : (Ref → Ref) → Option Ref → Option Ref
put_holder f None = None
put_holder f (Some p) = Some (f p)

-- ---- holders in scope

first_in : (sc : Scope) (r : NameId) (parts : List (Ref × NameId)) → AllIn sc.pid sc.processes (map (λ p. p.0) parts) → HolderIn sc (first_with r parts)
first_in sc r [] h = tt
first_in sc r (q ∷ qs) h = go (q.1.0 == r.0) (first_in sc r qs h.1)
  where
    go : (b : Bool) → HolderIn sc (first_with r qs) → HolderIn sc (if b then Some q.0 else first_with r qs)
    go true i = h.0
    go false i = i

still_holder : (sc : Scope) (n : Node) (o : Option Ref) → HolderIn sc o → HolderIn (scope_after sc n) o
still_holder sc n None h = tt
still_holder sc n (Some q) h = still_process sc n q h

all_parts : (sc sc' : Scope) → ((q : Ref) → IsProcess sc q → IsProcess sc' q) → (d : ℕ) (active : List (Ref × NameId)) (serve : List (ℕ × NameId)) → AllIn sc.pid sc.processes (map (λ p. p.0) active) → ((q : Ref) → among q (service_refs d serve) ≡ true → IsProcess sc' q) → AllIn sc'.pid sc'.processes (map (λ p. p.0) (active ++ as_parts d serve))
all_parts sc sc' i d [] serve h j = services serve j
  where
    services : (ss : List (ℕ × NameId)) → ((q : Ref) → among q (service_refs d ss) ≡ true → IsProcess sc' q) → AllIn sc'.pid sc'.processes (map (λ p. p.0) (as_parts d ss))
    services [] j = tt
    services (s ∷ ss) j = (j (Named s.0 d) (or_left _ _ (self_ref (Named s.0 d))), services ss (λ q k. j q (later (ref_eq q (Named s.0 d)) _ k)))
      where
        later : (x y : Bool) → y ≡ true → (x || y) ≡ true
        later true y h = refl
        later false y h = h
all_parts sc sc' i d (q ∷ qs) serve h j = (i q.0 h.0, all_parts sc sc' i d qs serve h.1 j)

pub holder_in : (ks : List Channel) (sc : Scope) (u : Ref) (r : NameId) (n : Node) → NodeFits ks sc n → (o : Option Ref) → HolderIn sc o → HolderIn (scope_after sc n) (holder_after u r n o)
holder_in ks sc u r (Starts c d k active serve) w o h = go (ref_eq u (Named k d))
  where
    inner : Scope
    inner = scope_after sc (Starts c d k active serve)

    go : (b : Bool) → HolderIn (scope_after sc (Starts c d k active serve)) (if b then first_with r (active ++ as_parts d serve) else o)
    go true = first_in (scope_after sc (Starts c d k active serve)) r (active ++ as_parts d serve) (all_parts sc (scope_after sc (Starts c d k active serve)) (λ q i. still_process sc (Starts c d k active serve) q i) d active serve w.known (λ q i. service q i))
      where
        service : (q : Ref) → among q (service_refs d serve) ≡ true → IsProcess (scope_after sc (Starts c d k active serve)) q
        service (Live m) i = absurd (not_service m serve i)
          where
            not_service : (m : ℕ) (ss : List (ℕ × NameId)) → among (Live m) (service_refs d ss) ≡ true → ⊥
            not_service m [] i = cc
            not_service m (s ∷ ss) i = not_service m ss i
        service (Named x y) i = service_entered d serve sc.processes (Named x y) i
    go false = still_holder sc (Starts c d k active serve) o h
holder_in ks sc u r (Communicates s p a q b x) w o h = go (hands_over u r x)
  where
    go : (y : Bool) → HolderIn sc (if y then Some q else o)
    go true = w.receiver
    go false = h
holder_in ks sc u r (InTransit s a b m q) w o h = go (carries u r m)
  where
    go : (y : Bool) → HolderIn sc (if y then Some q else o)
    go true = w.receiver
    go false = h
holder_in ks sc u r (Alone p o') w o h = h

pub same_holder : (f : Ref → Ref) (sc : Scope) → ((q : Ref) → IsProcess sc q → f q ≡ q) → (o : Option Ref) → HolderIn sc o → put_holder f o ≡ o
same_holder f sc j None h = refl
same_holder f sc j (Some q) h = ap Some (j q h)

module _ (ks : List Channel) (procs : List Procedure) (lists : ListedHolders) (f g : Ref → Ref) (u u' : Ref) (r : NameId) where
  -- u' is, among renamed sessions, what u is among sessions
  abbrev Same : Scope → Type 0
  Same sc = (t : Ref) → IsSession sc t → ref_eq u' (g t) ≡ ref_eq u t

  abbrev SameNew : Scope → Type 0
  SameNew sc = (x d : ℕ) → among (Named x d) sc.sessions ≡ false → ref_eq u' (Named x d) ≡ ref_eq u (Named x d)

  role_same : (t : Ref) (c : NameId) → ref_eq u' (g t) ≡ ref_eq u t → is_role u' r (g t) c ≡ is_role u r t c
  role_same t c i = ap (λ y. y && (r.0 == c.0)) i

  hands_same : (sc : Scope) → Same sc → (w : Content) → ContentFits sc w → hands_over u' r (put_content g w) ≡ hands_over u r w
  hands_same sc i (OfValue e x) k = refl
  hands_same sc i (OfLabel l) k = refl
  hands_same sc i (OfPart t c) k = role_same t c (i t k)

  carries_same : (sc : Scope) → ((m : ℕ) → g (Live m) ≡ Live m) → Same sc → (m : Message) → MessageFits sc m → carries u' r m ≡ carries u r m
  carries_same sc fixed i (ValueSent v x) k = refl
  carries_same sc fixed i (LabelSent l) k = refl
  carries_same sc fixed i (PartSent t c) k = ap (λ y. is_role u' r y c) (sym (fixed t)) ∙ role_same (Live t) c (i (Live t) k)

  holder_is : (o : Option Ref) (p : Ref) → o ≡ Some p → put_holder f o ≡ Some (f p)
  holder_is o p e = ap (put_holder f) e

  node_holder : (sc : Scope) → ((m : ℕ) → g (Live m) ≡ Live m) → Same sc → (n : Node) → NodeFits ks sc n → (o : Option Ref) → HolderFits u r n o → HolderFits u' r (put_node f g n) (put_holder f o)
  node_holder sc fixed i (Starts c d k active serve) w o h = tt
  node_holder sc fixed i (Communicates s p a q b x) w o h =
      (λ j. holder_is o p (h.0 (sym (role_same s a (i s w.session)) ∙ j)), λ j. holder_is o q (h.1 (sym (role_same s b (i s w.session)) ∙ j)), λ j. holder_is o p (h.2 (sym (hands_same sc i x w.content) ∙ j)))
  node_holder sc fixed i (InTransit s a b m q) w o h =
      (λ j. holder_is o q (h.0 (sym (ap (λ y. is_role u' r y b) (sym (fixed s)) ∙ role_same (Live s) b (i (Live s) w.session)) ∙ j)), λ j. ap (put_holder f) (h.1 (sym (carries_same sc fixed i m w.message) ∙ j)))
  node_holder sc fixed i (Alone p v) w o h = tt

  pub put_first : (active : List (Ref × NameId)) → first_with r (put_part f active) ≡ put_holder f (first_with r active)
  put_first [] = refl
  put_first (q ∷ qs) = ap (λ y. if q.1.0 == r.0 then Some (f q.0) else y) (put_first qs) ∙ go (q.1.0 == r.0)
    where
      go : (b : Bool) → (if b then Some (f q.0) else put_holder f (first_with r qs)) ≡ put_holder f (if b then Some q.0 else first_with r qs)
      go true = refl
      go false = refl

  put_parts : (d : ℕ) (active : List (Ref × NameId)) (serve : List (ℕ × NameId)) → ((x : ℕ) → among (Named x d) (service_refs d serve) ≡ true → f (Named x d) ≡ Named x d) → put_part f (active ++ as_parts d serve) ≡ put_part f active ++ as_parts d serve
  put_parts d [] serve i = services serve i
    where
      services : (ss : List (ℕ × NameId)) → ((x : ℕ) → among (Named x d) (service_refs d ss) ≡ true → f (Named x d) ≡ Named x d) → put_part f (as_parts d ss) ≡ as_parts d ss
      services [] i = refl
      services (s ∷ ss) i = ap (λ y. (y, s.1) ∷ put_part f (as_parts d ss)) (i s.0 (or_left _ _ (self_ref (Named s.0 d)))) ∙ ap (λ y. (Named s.0 d, s.1) ∷ y) (services ss (λ x k. i x (later (ref_eq (Named x d) (Named s.0 d)) _ k)))
        where
          later : (x y : Bool) → y ≡ true → (x || y) ≡ true
          later true y h = refl
          later false y h = h
  put_parts d (q ∷ qs) serve i = ap (λ y. (f q.0, q.1) ∷ y) (put_parts d qs serve i)

  serves_fixed : (sc sc' : Scope) → Renames f sc.pid sc'.pid sc.processes sc'.processes → (d : ℕ) (serve : List (ℕ × NameId)) (bs : List Ref) → ((y c : ℕ) → among (Named y c) bs ≡ false → f (Named y c) ≡ Named y c) → AllNew d serve bs → (x : ℕ) → among (Named x d) (service_refs d serve) ≡ true → f (Named x d) ≡ Named x d
  serves_fixed sc sc' re d [] bs j h x i = absurd cc
  serves_fixed sc sc' re d (s ∷ ss) bs j h x i = go (ref_eq (Named x d) (Named s.0 d)) refl i (serves_fixed sc sc' re d ss (Named s.0 d ∷ bs) (λ y c z. j y c (right_or _ _ z)) h.1 x)
    where
      go : (b : Bool) → ref_eq (Named x d) (Named s.0 d) ≡ b → (b || among (Named x d) (service_refs d ss)) ≡ true → (among (Named x d) (service_refs d ss) ≡ true → f (Named x d) ≡ Named x d) → f (Named x d) ≡ Named x d
      go true e k ih = let same : Named x d ≡ Named s.0 d = same_ref (Named x d) (Named s.0 d) e in ap f same ∙ j s.0 d h.0 ∙ sym same
      go false e k ih = ih k

  after_holder : (sc sc' : Scope) → Renames f sc.pid sc'.pid sc.processes sc'.processes → ((m : ℕ) → g (Live m) ≡ Live m) → Same sc → SameNew sc → (n : Node) → NodeFits ks sc n → (o : Option Ref) → holder_after u' r (put_node f g n) (put_holder f o) ≡ put_holder f (holder_after u r n o)
  after_holder sc sc' re fixed i j (Starts c d k active serve) w o =
      ap (λ y. if y then first_with r (put_part f active ++ as_parts d serve) else put_holder f o) (j k d w.new_session) ∙ ap (λ y. if ref_eq u (Named k d) then first_with r y else put_holder f o) (sym (put_parts d active serve (serves_fixed sc sc' re d serve sc.processes re.fixed w.new_processes))) ∙ ap (λ y. if ref_eq u (Named k d) then y else put_holder f o) (put_first (active ++ as_parts d serve)) ∙ go (ref_eq u (Named k d))
    where
      go : (b : Bool) → (if b then put_holder f (first_with r (active ++ as_parts d serve)) else put_holder f o) ≡ put_holder f (if b then first_with r (active ++ as_parts d serve) else o)
      go true = refl
      go false = refl
  after_holder sc sc' re fixed i j (Communicates s p a q b x) w o = ap (λ y. if y then Some (f q) else put_holder f o) (hands_same sc i x w.content) ∙ go (hands_over u r x)
    where
      go : (y : Bool) → (if y then Some (f q) else put_holder f o) ≡ put_holder f (if y then Some q else o)
      go true = refl
      go false = refl
  after_holder sc sc' re fixed i j (InTransit s a b m q) w o = ap (λ y. if y then Some (f q) else put_holder f o) (carries_same sc fixed i m w.message) ∙ go (carries u r m)
    where
      go : (y : Bool) → (if y then Some (f q) else put_holder f o) ≡ put_holder f (if y then Some q else o)
      go true = refl
      go false = refl
  after_holder sc sc' re fixed i j (Alone p v) w o = refl

  same_after : (sc sc' : Scope) → Renames g sc.sid sc'.sid sc.sessions sc'.sessions → Same sc → SameNew sc → (n : Node) → NodeFits ks sc n → Same (scope_after sc n)
  same_after sc sc' re i j (Starts c d k active serve) w (Live m) h = i (Live m) h
  same_after sc sc' re i j (Starts c d k active serve) w (Named x y) h = go (ref_eq (Named x y) (Named k d)) refl h
    where
      go : (b : Bool) → ref_eq (Named x y) (Named k d) ≡ b → (b || among (Named x y) sc.sessions) ≡ true → ref_eq u' (g (Named x y)) ≡ ref_eq u (Named x y)
      go true e z = let same : Named x y ≡ Named k d = same_ref (Named x y) (Named k d) e in ap (λ t. ref_eq u' (g t)) same ∙ ap (ref_eq u') (re.fixed k d w.new_session) ∙ j k d w.new_session ∙ ap (ref_eq u) (sym same)
      go false e z = i (Named x y) z
  same_after sc sc' re i j (Communicates s p a q b x) w t h = i t h
  same_after sc sc' re i j (InTransit s a b m q) w t h = i t h
  same_after sc sc' re i j (Alone p v) w t h = i t h

  new_after : (sc : Scope) → SameNew sc → (n : Node) → SameNew (scope_after sc n)
  new_after sc j (Starts c d k active serve) x y h = j x y (right_or _ _ h)
  new_after sc j (Communicates s p a q b w) x y h = j x y h
  new_after sc j (InTransit s a b m q) x y h = j x y h
  new_after sc j (Alone p v) x y h = j x y h

  slice_map : (ps : List Ref) (j : ℕ) → slice_get (map f ps) j ≡ put_holder f (slice_get ps j)
  slice_map [] j = refl
  slice_map (p ∷ ps) zero = refl
  slice_map (p ∷ ps) (suc j) = slice_map ps j

  held_put : (x : Option ℕ) (ps : List Ref) (o : Option Ref) → HeldBy x ps o → HeldBy x (map f ps) (put_holder f o)
  held_put None ps o h = tt
  held_put (Some j) ps o h = ap (put_holder f) h ∙ sym (slice_map ps j)

  passed_put : (sc : Scope) → Same sc → (ls : ℕ → NameId → Option ℕ) (o : Option Ref) (ps : List Ref) (i : ℕ) (ss : List Ref) → AllIn sc.sid sc.sessions ss → PassedHeld ls u r o ps i ss → PassedHeld ls u' r (put_holder f o) (map f ps) i (map g ss)
  passed_put sc same ls o ps i [] w h = tt
  passed_put sc same ls o ps i (s ∷ ss) w h = (λ j. held_put (ls i r) ps o (h.0 (sym (same s w.0) ∙ j)), passed_put sc same ls o ps (suc i) ss w.1 h.1)

  -- a role keeps its holder, renamed
  pub owned_put : (sc sc' : Scope) → Renames f sc.pid sc'.pid sc.processes sc'.processes → Renames g sc.sid sc'.sid sc.sessions sc'.sessions → Same sc → SameNew sc → (c : Choreography) → IsWellFormed ks procs sc c → (o : Option Ref) → HoldersFit lists u r c o → HoldersFit lists u' r (put f g c) (put_holder f o)
  owned_put sc sc' re se i j (Then n rest) w o h =
      (node_holder sc se.live i n w.0 o h.0, subst (HoldersFit lists u' r (put f g rest)) (sym (after_holder sc sc' re se.live i j n w.0 o)) (owned_put (scope_after sc n) (scope_after sc' (put_node f g n)) (processes_after ks procs f g sc sc' re n w.0) (sessions_after ks procs f g sc sc' se n w.0) (same_after sc sc' se i j n w.0) (new_after sc j n) rest w.1 (holder_after u r n o) h.1))
  owned_put sc sc' re se i j (Either p x c d) w o h = (owned_put sc sc' re se i j c w.1 o h.0, owned_put sc sc' re se i j d w.2 o h.1)
  owned_put sc sc' re se i j (Calls h' d ps ss) w o h = passed_put sc i (lists h') o ps 0 ss w.sessions h
  owned_put sc sc' re se i j Ends w o h = tt

-- ---- a session that isn't mentioned

module _ (ks : List Channel) (procs : List Procedure) (lists : ListedHolders) (f g : Ref → Ref) (u : Ref) (r : NameId) where
  abbrev Never : Scope → Type 0
  Never sc = (t : Ref) → IsSession sc t → ref_eq u (g t) ≡ false

  abbrev NeverNew : Scope → Type 0
  NeverNew sc = (x d : ℕ) → among (Named x d) sc.sessions ≡ false → ref_eq u (Named x d) ≡ false

  off_role : (t : Ref) (c : NameId) → ref_eq u (g t) ≡ false → is_role u r (g t) c ≡ false
  off_role t c i = ap (λ y. y && (r.0 == c.0)) i

  off_hands : (sc : Scope) → Never sc → (w : Content) → ContentFits sc w → hands_over u r (put_content g w) ≡ false
  off_hands sc i (OfValue e x) k = refl
  off_hands sc i (OfLabel l) k = refl
  off_hands sc i (OfPart t c) k = off_role t c (i t k)

  off_carries : (sc : Scope) → ((m : ℕ) → g (Live m) ≡ Live m) → Never sc → (m : Message) → MessageFits sc m → carries u r m ≡ false
  off_carries sc fixed i (ValueSent v x) k = refl
  off_carries sc fixed i (LabelSent l) k = refl
  off_carries sc fixed i (PartSent t c) k = ap (λ y. is_role u r y c) (sym (fixed t)) ∙ off_role (Live t) c (i (Live t) k)

  -- such a node asks nothing of the role and leaves it
  pub off_node : (sc : Scope) → ((m : ℕ) → g (Live m) ≡ Live m) → Never sc → NeverNew sc → (n : Node) → NodeFits ks sc n → (o : Option Ref) → HolderFits u r (put_node f g n) o × (holder_after u r (put_node f g n) o ≡ o)
  off_node sc fixed i j (Starts c d k active serve) w o = (tt, ap (λ y. if y then first_with r (put_part f active ++ as_parts d serve) else o) (j k d w.new_session))
  off_node sc fixed i j (Communicates s p a q b x) w o =
      ((λ z. absurd (clash z (off_role s a (i s w.session))), λ z. absurd (clash z (off_role s b (i s w.session))), λ z. absurd (clash z (off_hands sc i x w.content))), ap (λ y. if y then Some (f q) else o) (off_hands sc i x w.content))
  off_node sc fixed i j (InTransit s a b m q) w o =
      ((λ z. absurd (clash z (ap (λ y. is_role u r y b) (sym (fixed s)) ∙ off_role (Live s) b (i (Live s) w.session))), λ z. absurd (clash z (off_carries sc fixed i m w.message))), ap (λ y. if y then Some (f q) else o) (off_carries sc fixed i m w.message))
  off_node sc fixed i j (Alone p v) w o = (tt, refl)

  never_after : (sc sc' : Scope) → Renames g sc.sid sc'.sid sc.sessions sc'.sessions → Never sc → NeverNew sc → (n : Node) → NodeFits ks sc n → Never (scope_after sc n)
  never_after sc sc' re i j (Starts c d k active serve) w (Live m) h = i (Live m) h
  never_after sc sc' re i j (Starts c d k active serve) w (Named x y) h = go (ref_eq (Named x y) (Named k d)) refl h
    where
      go : (b : Bool) → ref_eq (Named x y) (Named k d) ≡ b → (b || among (Named x y) sc.sessions) ≡ true → ref_eq u (g (Named x y)) ≡ false
      go true e z = let same : Named x y ≡ Named k d = same_ref (Named x y) (Named k d) e in ap (λ t. ref_eq u (g t)) same ∙ ap (ref_eq u) (re.fixed k d w.new_session) ∙ j k d w.new_session
      go false e z = i (Named x y) z
  never_after sc sc' re i j (Communicates s p a q b x) w t h = i t h
  never_after sc sc' re i j (InTransit s a b m q) w t h = i t h
  never_after sc sc' re i j (Alone p v) w t h = i t h

  never_new : (sc : Scope) → NeverNew sc → (n : Node) → NeverNew (scope_after sc n)
  never_new sc j (Starts c d k active serve) x y h = j x y (right_or _ _ h)
  never_new sc j (Communicates s p a q b w) x y h = j x y h
  never_new sc j (InTransit s a b m q) x y h = j x y h
  never_new sc j (Alone p v) x y h = j x y h

  not_passed : (sc : Scope) → Never sc → (ls : ℕ → NameId → Option ℕ) (o : Option Ref) (ps : List Ref) (i : ℕ) (ss : List Ref) → AllIn sc.sid sc.sessions ss → PassedHeld ls u r o ps i (map g ss)
  not_passed sc j ls o ps i [] w = tt
  not_passed sc j ls o ps i (s ∷ ss) w = (λ z. absurd (clash z (j s w.0)), not_passed sc j ls o ps (suc i) ss w.1)

  pub owned_never : (sc sc' : Scope) → Renames g sc.sid sc'.sid sc.sessions sc'.sessions → Never sc → NeverNew sc → (c : Choreography) → IsWellFormed ks procs sc c → (o : Option Ref) → HoldersFit lists u r (put f g c) o
  owned_never sc sc' se i j (Then n rest) w o =
      let h = off_node sc se.live i j n w.0 o in
      (h.0, subst (HoldersFit lists u r (put f g rest)) (sym h.1) (owned_never (scope_after sc n) (scope_after sc' (put_node f g n)) (after_sessions n w.0) (never_after sc sc' se i j n w.0) (never_new sc j n) rest w.1 o))
    where
      after_sessions : (n : Node) → NodeFits ks sc n → Renames g (scope_after sc n).sid (scope_after sc' (put_node f g n)).sid (scope_after sc n).sessions (scope_after sc' (put_node f g n)).sessions
      after_sessions n w = sessions_after ks procs f g sc sc' se n w
  owned_never sc sc' se i j (Either p x c d) w o = (owned_never sc sc' se i j c w.1 o, owned_never sc sc' se i j d w.2 o)
  owned_never sc sc' se i j (Calls h d ps ss) w o = not_passed sc i (lists h) o (map f ps) 0 ss w.sessions
  owned_never sc sc' se i j Ends w o = tt

-- ---- a start

-- the parts of a start as its active and service processes
pub parts_first : (r : NameId) (d : ℕ) (active : List (Ref × NameId)) (serve : List (ℕ × NameId)) (n : ℕ) (f : Ref → Ref) (ps : List (NameId × ℕ)) → ((m : ℕ) → f (Live m) ≡ Live m) → live_parts active ≡ Some ps → first_with r (put_part f (as_parts d serve)) ≡ first_with r (parts_as (new_parts serve n)) → first_with r (put_part f (active ++ as_parts d serve)) ≡ first_with r (parts_as (ps ++ new_parts serve n))
parts_first r d [] serve n f ps j h g = let e : ◌≡◌ {A = List (NameId × ℕ)} [] ps = cc in g ∙ ap (λ y. first_with r (parts_as (y ++ new_parts serve n))) e
parts_first r d ((Named x k, b) ∷ as') serve n f ps j h g = absurd cc
parts_first r d ((Live m, b) ∷ as') serve n f ps j h g = go (live_parts as') refl h (λ qs e. parts_first r d as' serve n f qs j e g)
  where
    go : (z : Option (List (NameId × ℕ))) → live_parts as' ≡ z → with_live (Live m) b z ≡ Some ps → ((qs : List (NameId × ℕ)) → live_parts as' ≡ Some qs → first_with r (put_part f (as' ++ as_parts d serve)) ≡ first_with r (parts_as (qs ++ new_parts serve n))) → first_with r (put_part f (((Live m, b) ∷ as') ++ as_parts d serve)) ≡ first_with r (parts_as (ps ++ new_parts serve n))
    go None e i ih = absurd cc
    go (Some qs) e i ih =
        let k : (b, m) ∷ qs ≡ ps = cc in
        ap (λ y. if b.0 == r.0 then Some y else first_with r (put_part f (as' ++ as_parts d serve))) (j m) ∙ ap (λ y. if b.0 == r.0 then Some (Live m) else y) (ih qs e) ∙ ap (λ y. first_with r (parts_as (y ++ new_parts serve n))) k

new_not_old : (d : ℕ) (ss : List (ℕ × NameId)) (bs : List Ref) → AllNew d ss bs → (q : Ref) → among q bs ≡ true → among q (service_refs d ss) ≡ false
new_not_old d [] bs h q i = refl
new_not_old d (s ∷ ss) bs h q i = or_false _ _ (differ_ref q (Named s.0 d) (λ e. clash (ap (λ y. among y bs) (sym e) ∙ i) h.0)) (new_not_old d ss (Named s.0 d ∷ bs) h.1 q (later (ref_eq q (Named s.0 d)) _ i))
  where
    later : (x y : Bool) → y ≡ true → (x || y) ≡ true
    later true y h = refl
    later false y h = h

pub services_are : (d : ℕ) (ss : List (ℕ × NameId)) (bs : List Ref) (n : ℕ) (g : Ref → Ref) → ((x : ℕ) → among (Named x d) (service_refs d ss) ≡ true → g (Named x d) ≡ numbers_for d ss n (Named x d)) → AllNew d ss bs → put_part g (as_parts d ss) ≡ parts_as (new_parts ss n)
services_are d [] bs n g j h = refl
services_are d (s ∷ ss) bs n g j h =
    ap (λ y. (y, s.1) ∷ put_part g (as_parts d ss)) (j s.0 (or_left _ _ (self_ref (Named s.0 d))) ∙ ap (λ y. numbers_for d ss (suc n) (if y then Live n else Named s.0 d)) (self_ref (Named s.0 d)) ∙ live_on d ss (suc n) n)
    ∙ ap (λ y. (Live n, s.1) ∷ y) (services_are d ss (Named s.0 d ∷ bs) (suc n) g (λ x k. j x (later (ref_eq (Named x d) (Named s.0 d)) _ k) ∙ ap (λ y. numbers_for d ss (suc n) (if y then Live n else Named x d)) (off x k)) h.1)
  where
    later : (x y : Bool) → y ≡ true → (x || y) ≡ true
    later true y h = refl
    later false y h = h

    off : (x : ℕ) → among (Named x d) (service_refs d ss) ≡ true → ref_eq (Named s.0 d) (Named x d) ≡ false
    off x k = differ_ref (Named s.0 d) (Named x d) (λ e. clash k (ap (λ y. among y (service_refs d ss)) (sym e) ∙ new_not_old d ss (Named s.0 d ∷ bs) h.1 (Named s.0 d) (among_self (Named s.0 d) bs)))
