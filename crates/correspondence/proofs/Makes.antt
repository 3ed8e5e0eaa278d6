-- What a process does next, the choreography can make, past all that stands above.
use Rattle.std.proofs.Common.{◌≡◌, ℕ, Bool, true, false, List, [], ◌∷◌, Option, Some, None, refl, sym, ap, ◌∙◌, subst, if◌then◌else◌, pos}
use Rattle.chor_base.specs.declared.names.NameId.{NameId}
use Rattle.chor_base.specs.declared.value.Load.{Load}
use Rattle.chor_base.specs.declared.event.Event.{Event}
use Rattle.chor_base.specs.declared.event.Event.TheVariants.{Recv}
use Rattle.chor_base.specs.Expr.{Term}
use Rattle.chor_base.specs.NameMap.{Variables}
use Rattle.chor_base.specs.Meaning.{Hosts}
use Rattle.chor_base.specs.Events.{Triple, actors_of}
use Rattle.chor_semantics.specs.Choreography.{Ref, Live, Named, ref_eq, among, meets, named_in, Content, Message, Own, Node, Starts, Communicates, InTransit, Alone, Choreography, Then, Either}
use Rattle.chor_semantics.specs.Sources.{Procedure}
use Rattle.chor_semantics.specs.Steps.{Effect, Moves, head, delay, both, unfolded, load_of, receipt, procedure_named, body_of}
use Rattle.endpoint_code.specs.declared.endpoints.Channel.{Channel}
use Rattle.well_formed.specs.Follows.{Puts, Gets, Does, Received, received_of, message_received, act_of, joins, role_in}
use Rattle.well_formed.specs.WellFormed.{Scope, scope_after, CallFits, IsWellFormed}
use Rattle.correspondence.proofs.Next.{Next, here, skip, decides, fork, calls}
use Rattle.well_formed.specs.Holders.{is_role, HolderFits, holder_after, ListedHolders, PassedHeld, HoldersFit}
use Rattle.well_formed.specs.Transit.{is_on, AreInTransitAt, AreInTransit}
use Rattle.well_formed.proofs.References.{or_false, true_and, true_eq, same_ref, act_none, NotStart, actor_of, may_pass}
use Rattle.correspondence.proofs.Holders.{held_before, none_at}
use Rattle.correspondence.proofs.Queues.{off_it}

-- who sends at a node is its sender
pub act_puts : (n : Node) (p : ℕ) (s : Ref) (a b : NameId) (w : Content) → act_of n (Live p) ≡ Some (Puts s a b w) → (q : Ref) × (n ≡ Communicates s (Live p) a q b w)
act_puts (Starts c d k active serve) p s a b w h = go (role_in (Live p) active) h
  where
    go : (o : Option NameId) → joins c (Named k d) o ≡ Some (Puts s a b w) → (q : Ref) × (Starts c d k active serve ≡ Communicates s (Live p) a q b w)
    go None i = absurd cc
    go (Some r) i = absurd cc
act_puts (Communicates t q c r d u) p s a b w h = go (ref_eq (Live p) q) refl (ref_eq (Live p) r) h
  where
    go : (x : Bool) → ref_eq (Live p) q ≡ x → (y : Bool) → (if x then Some (Puts t c d u) else (if y then Some (Gets t c d (received_of u)) else None)) ≡ Some (Puts s a b w) → (q' : Ref) × (Communicates t q c r d u ≡ Communicates s (Live p) a q' b w)
    go true e y i = let f = same_ref (Live p) q e in (r, cc)
    go false e true i = absurd cc
    go false e false i = absurd cc
act_puts (InTransit t c d m q) p s a b w h = go (ref_eq (Live p) q) h
  where
    go : (y : Bool) → (if y then Some (Gets (Live t) c d (message_received m)) else None) ≡ Some (Puts s a b w) → (q' : Ref) × (InTransit t c d m q ≡ Communicates s (Live p) a q' b w)
    go true i = absurd cc
    go false i = absurd cc
act_puts (Alone q o) p s a b w h = go (ref_eq (Live p) q) h
  where
    go : (y : Bool) → (if y then Some (Does o) else None) ≡ Some (Puts s a b w) → (q' : Ref) × (Alone q o ≡ Communicates s (Live p) a q' b w)
    go true i = absurd cc
    go false i = absurd cc

pub act_does : (n : Node) (p : ℕ) (o : Own) → act_of n (Live p) ≡ Some (Does o) → n ≡ Alone (Live p) o
act_does (Starts c d k active serve) p o h = go (role_in (Live p) active) h
  where
    go : (z : Option NameId) → joins c (Named k d) z ≡ Some (Does o) → Starts c d k active serve ≡ Alone (Live p) o
    go None i = absurd cc
    go (Some r) i = absurd cc
act_does (Communicates t q c r d u) p o h = go (ref_eq (Live p) q) (ref_eq (Live p) r) h
  where
    go : (x y : Bool) → (if x then Some (Puts t c d u) else (if y then Some (Gets t c d (received_of u)) else None)) ≡ Some (Does o) → Communicates t q c r d u ≡ Alone (Live p) o
    go true y i = absurd cc
    go false true i = absurd cc
    go false false i = absurd cc
act_does (InTransit t c d m q) p o h = go (ref_eq (Live p) q) h
  where
    go : (y : Bool) → (if y then Some (Gets (Live t) c d (message_received m)) else None) ≡ Some (Does o) → InTransit t c d m q ≡ Alone (Live p) o
    go true i = absurd cc
    go false i = absurd cc
act_does (Alone q o') p o h = go (ref_eq (Live p) q) refl h
  where
    go : (y : Bool) → ref_eq (Live p) q ≡ y → (if y then Some (Does o') else None) ≡ Some (Does o) → Alone q o' ≡ Alone (Live p) o
    go true e i = let f = same_ref (Live p) q e in cc
    go false e i = absurd cc

-- who receives at a node is its receiver: of a communication, or of a message in transit
pub data Getting (s : Ref) (a b : NameId) (p : ℕ) (g : Received) (n : Node) : Type 0 where
  unsent : (q : Ref) (w : Content) → n ≡ Communicates s q a (Live p) b w → Getting s a b p g n
  sent : (t : ℕ) (m : Message) → s ≡ Live t → message_received m ≡ g → n ≡ InTransit t a b m (Live p) → Getting s a b p g n

pub act_gets : (n : Node) (p : ℕ) (s : Ref) (a b : NameId) (g : Received) → act_of n (Live p) ≡ Some (Gets s a b g) → Getting s a b p g n
act_gets (Starts c d k active serve) p s a b g h = go (role_in (Live p) active) h
  where
    go : (o : Option NameId) → joins c (Named k d) o ≡ Some (Gets s a b g) → Getting s a b p g (Starts c d k active serve)
    go None i = absurd cc
    go (Some r) i = absurd cc
act_gets (Communicates t q c r d u) p s a b g h = go (ref_eq (Live p) q) (ref_eq (Live p) r) refl h
  where
    go : (x y : Bool) → ref_eq (Live p) r ≡ y → (if x then Some (Puts t c d u) else (if y then Some (Gets t c d (received_of u)) else None)) ≡ Some (Gets s a b g) → Getting s a b p g (Communicates t q c r d u)
    go true y e i = absurd cc
    go false true e i = let f = same_ref (Live p) r e in unsent q u (cc)
    go false false e i = absurd cc
act_gets (InTransit t c d m q) p s a b g h = go (ref_eq (Live p) q) refl h
  where
    go : (y : Bool) → ref_eq (Live p) q ≡ y → (if y then Some (Gets (Live t) c d (message_received m)) else None) ≡ Some (Gets s a b g) → Getting s a b p g (InTransit t c d m q)
    go true e i = let f = same_ref (Live p) q e in sent t m (cc) (cc) (cc)
    go false e i = absurd cc
act_gets (Alone q o) p s a b g h = go (ref_eq (Live p) q) h
  where
    go : (y : Bool) → (if y then Some (Does o) else None) ≡ Some (Gets s a b g) → Getting s a b p g (Alone q o)
    go true i = absurd cc
    go false i = absurd cc

module _ (procs : List Procedure) (hosts : Hosts) (vars : List Variables) (sid p : ℕ) (x : Event) (f : Effect) (ns : NotStart x) (mine : actor_of x ≡ p) where
  pub record CanMove (c : Choreography) : Type 0 where
    pub left : Choreography
    pub moves : Moves procs hosts vars sid c x f left

  passes : (rs : List Ref) → among (Live p) rs ≡ false → meets (actors_of x) rs ≡ false
  passes rs h = may_pass x rs ns (subst (λ y. among (Live y) rs ≡ false) (sym mine) h)

  -- what it does next can be made, if it can be made where it stands
  pub by_next : (Q : Node → Type 0) (T : Term → Type 0) → ((n : Node) (c : Choreography) → Q n → CanMove (Then n c)) → ((r : Ref) (y : Term) (c d : Choreography) → ref_eq (Live p) r ≡ true → T y → CanMove (Either r y c d)) → {c : Choreography} → Next procs (Live p) Q T c → CanMove c
  by_next Q T i j (here {n = n} {c = c} k) = i n c k
  by_next Q T i j (skip {n = n} {c = c} e m) =
      let z = by_next Q T i j m in
      record { left = Then n z.left; moves = delay (passes (named_in n) (act_none n (Live p) e)) z.moves }
  by_next Q T i j (decides {r = r} {x = y} {c = c} {d = d} e k) = j r y c d e k
  by_next Q T i j (fork {r = r} {x = y} e m m') =
      let z = by_next Q T i j m in
      let z' = by_next Q T i j m' in
      record { left = Either r y z.left z'.left; moves = both (passes (r ∷ []) (or_false _ _ e refl)) z.moves z'.moves }
  by_next Q T i j (calls b m) = let z = by_next Q T i j m in record { left = z.left; moves = unfolded b z.moves }

module _ (ks : List Channel) (procs : List Procedure) (lists : ListedHolders)
    (bodies : (sc : Scope) (f : NameId) (d : ℕ) (ps ss : List Ref) (c : Choreography) → body_of (procedure_named procs f) d ps ss ≡ Some c → CallFits procs sc f d ps ss → IsWellFormed ks procs sc c)
    (owned_bodies : (sc : Scope) (u : Ref) (r : NameId) (o : Option Ref) (f : NameId) (d : ℕ) (ps ss : List Ref) (c : Choreography) → body_of (procedure_named procs f) d ps ss ≡ Some c → CallFits procs sc f d ps ss → PassedHeld (lists f) u r o ps 0 ss → HoldersFit lists u r c o)
    (p s : ℕ) (a b : NameId) where
  abbrev it : Triple
  it = (s, a, b)

  live_s : (y j : ℕ) → Live s ≡ Named y j → ⊥
  live_s y j e = cc

  its_role : is_role (Live s) b (Live s) b ≡ true
  its_role = true_and _ _ (true_eq s) (true_eq b.0)

  -- p receives there
  abbrev pub GetsAt : Node → Type 0
  GetsAt n = (g : Received) × (act_of n (Live p) ≡ Some (Gets (Live s) a b g))

  abbrev pub NoTest : Term → Type 0
  NoTest y = ⊥

  same_number : (t : ℕ) → Live s ≡ Live t → t ≡ s
  same_number t e = cc

  -- who receives next as a role holds it now: a new holder is blocked until it has gained it
  pub holds_now : (sc : Scope) (o : Option Ref) {c : Choreography} → IsWellFormed ks procs sc c → HoldersFit lists (Live s) b c o → Next procs (Live p) GetsAt NoTest c → o ≡ Some (Live p)
  holds_now sc o w h (here {n = n} (g, i)) = at (act_gets n p (Live s) a b g i)
    where
      at : Getting (Live s) a b p g n → o ≡ Some (Live p)
      at (unsent q z e) = let k : HolderFits (Live s) b (Communicates (Live s) q a (Live p) b z) o = subst (λ y. HolderFits (Live s) b y o) e h.0 in k.1 its_role
      at (sent t m e k e') = let k' : HolderFits (Live s) b (InTransit t a b m (Live p)) o = subst (λ y. HolderFits (Live s) b y o) e' h.0 in k'.0 (ap (λ y. is_role (Live s) b (Live y) b) (same_number t e) ∙ its_role)
  holds_now sc o w h (skip {n = n} i m) = held_before (Live s) b live_s (Live p) n o (act_none n (Live p) i) (holds_now (scope_after sc n) (holder_after (Live s) b n o) w.1 h.1 m)
  holds_now sc o w h (decides e k) = absurd k
  holds_now sc o w h (fork i m m') = holds_now sc o w.1 h.0 m
  holds_now sc o w h (calls {f = f} {d = d} {ps = ps} {ss = ss} {c = c} i m) = holds_now sc o (bodies sc f d ps ss c i w) (owned_bodies sc (Live s) b o f d ps ss c i w h) m

  module _ (hosts : Hosts) (vars : List Variables) (sid : ℕ) (l : Load) (f : Effect) where
    -- p receives there, and this is what the receipt does to variables
    abbrev pub GetsFor : Node → Type 0
    GetsFor n = (g : Received) × (act_of n (Live p) ≡ Some (Gets (Live s) a b g)) × ((m : Message) → message_received m ≡ g → load_of m ≡ l → receipt p m ≡ f)

    abbrev pub Got : Choreography → Type 0
    Got c = CanMove procs hosts vars sid p (Recv p s a b l) f tt refl c

    got_here : (n : Node) (rest : Choreography) (g : Received) (ls : List Load) → Getting (Live s) a b p g n → ((m : Message) → message_received m ≡ g → load_of m ≡ l → receipt p m ≡ f) → AreInTransit it (Then n rest) (l ∷ ls) → Got (Then n rest)
    got_here n rest g ls (unsent q w e) j k =
        let k' : AreInTransitAt (Communicates (Live s) q a (Live p) b w) (is_on it (Communicates (Live s) q a (Live p) b w)) (AreInTransit it rest) (l ∷ ls) = subst (λ y. AreInTransitAt y (is_on it y) (AreInTransit it rest) (l ∷ ls)) e k in
        let z : (◌≡◌ {A = List Load} (l ∷ ls) []) × AreInTransit it rest [] = subst (λ y. AreInTransitAt (Communicates (Live s) q a (Live p) b w) y (AreInTransit it rest) (l ∷ ls)) (true_and _ _ (true_eq s) (true_and _ _ (true_eq a.0) (true_eq b.0))) k' in
        absurd (nil z.0)
      where
        nil : ◌≡◌ {A = List Load} (l ∷ ls) [] → ⊥
        nil i = cc
    got_here n rest g ls (sent t m u i e) j k =
        let e' : n ≡ InTransit s a b m (Live p) = e ∙ ap (λ y. InTransit y a b m (Live p)) (same_number t u) in
        let k' : AreInTransitAt (InTransit s a b m (Live p)) (is_on it (InTransit s a b m (Live p))) (AreInTransit it rest) (l ∷ ls) = subst (λ y. AreInTransitAt y (is_on it y) (AreInTransit it rest) (l ∷ ls)) e' k in
        let z : (load_of m ≡ l) × AreInTransit it rest ls = subst (λ y. AreInTransitAt (InTransit s a b m (Live p)) y (AreInTransit it rest) (l ∷ ls)) (true_and _ _ (true_eq s) (true_and _ _ (true_eq a.0) (true_eq b.0))) k' in
        record {
          left = rest;
          moves = subst (λ y. Moves procs hosts vars sid (Then y rest) (Recv p s a b l) f rest) (sym e')
              (subst (λ y. Moves procs hosts vars sid (Then (InTransit s a b m (Live p)) rest) (Recv p s a b l) y rest) (j m i z.0)
              (subst (λ y. Moves procs hosts vars sid (Then (InTransit s a b m (Live p)) rest) (Recv p s a b y) (receipt p m) rest) z.0 (head (pos 0) tt refl)));
        }

    -- the first message of the queue is for the process that receives next on its triple, on every path
    pub takes_next : (sc : Scope) {c : Choreography} → IsWellFormed ks procs sc c → HoldersFit lists (Live s) b c (Some (Live p)) → (ls : List Load) → AreInTransit it c (l ∷ ls) → Next procs (Live p) GetsFor NoTest c → Got c
    takes_next sc w h ls k (here {n = n} {c = rest} (g, i, j)) = got_here n rest g ls (act_gets n p (Live s) a b g i) j k
    takes_next sc w h ls k (skip {n = n} {c = rest} i m) =
        let out = act_none n (Live p) i in
        let same = none_at (Live s) b live_s (Live p) n out h.0 in
        let off = off_it p s a b n (is_on it n) refl out h.0 in
        let k' : AreInTransit it rest (l ∷ ls) = subst (λ y. AreInTransitAt n y (AreInTransit it rest) (l ∷ ls)) off k in
        let z = takes_next (scope_after sc n) w.1 (subst (HoldersFit lists (Live s) b rest) (same (Some (Live p))).1 h.1) ls k' m in
        record { left = Then n z.left; moves = delay (passes procs hosts vars sid p (Recv p s a b l) f tt refl (named_in n) out) z.moves }
    takes_next sc w h ls k (decides e z) = absurd z
    takes_next sc w h ls k (fork {r = r} {x = y} i m m') =
        let z = takes_next sc w.1 h.0 ls k.0 m in
        let z' = takes_next sc w.2 h.1 ls k.1 m' in
        record { left = Either r y z.left z'.left; moves = both (passes procs hosts vars sid p (Recv p s a b l) f tt refl (r ∷ []) (or_false _ _ i refl)) z.moves z'.moves }
    takes_next sc w h ls k (calls i m) = absurd (nil k)
      where
        nil : ◌≡◌ {A = List Load} (l ∷ ls) [] → ⊥
        nil e = cc
