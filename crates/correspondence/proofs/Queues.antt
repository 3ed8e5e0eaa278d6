-- The messages in transit, by an event of one process.
use Rattle.std.proofs.Common.{◌≡◌, ℕ, Bool, true, false, List, [], ◌∷◌, ◌++◌, Option, Some, refl, subst, ap, sym, ◌∙◌, ℤ, if◌then◌else◌, ◌&&◌, ◌==◌}
use Rattle.chor_base.specs.declared.names.NameId.{NameId}
use Rattle.chor_base.specs.declared.value.Load.{Load}
use Rattle.chor_base.specs.declared.event.Event.{Event}
use Rattle.chor_base.specs.declared.event.Event.TheVariants.{Send, Recv, Test}
use Rattle.chor_base.specs.Expr.{Term, value_of, truth_of}
use Rattle.chor_base.specs.NameMap.{Variables}
use Rattle.chor_base.specs.Meaning.{Hosts}
use Rattle.chor_base.specs.Events.{Triple, triple_eq, actors_of}
use Rattle.chor_semantics.specs.Choreography.{Ref, Live, Named, ref_eq, among, meets, named_in, Message, Node, Starts, Communicates, InTransit, Alone, Choreography, Then}
use Rattle.chor_semantics.specs.Sources.{Procedure}
use Rattle.chor_semantics.specs.Steps.{Effect, Moves, head, test, delay, both, unfolded, load_of, vars_of, procedure_named, body_of}
use Rattle.endpoint_code.specs.declared.endpoints.Channel.{Channel}
use Rattle.well_formed.specs.WellFormed.{Scope, scope_after, CallFits, IsWellFormed, ArePlain}
use Rattle.well_formed.specs.Holders.{is_role, HolderFits, ListedHolders, PassedHeld, HoldersFit}
use Rattle.well_formed.specs.Transit.{is_on, FirstIs, AreInTransitAt, AreInTransit}
use Rattle.well_formed.proofs.References.{left_or, right_or, or_left, and_first, and_second, true_and, true_eq, NotStart, actor_of, passed_over}
use Rattle.well_formed.proofs.Heads.{Headed, sends, gets, owns, starts, headed, owned_event, Decided, decided}
use Rattle.correspondence.proofs.Holders.{other, none_at, sends_here, gets_here, sender_now, receiver_now}

pub loads_more : (n : Node) (b : Bool) (K L : List Load → Type 0) → ((ls : List Load) → K ls → L ls) → (ls : List Load) → AreInTransitAt n b K ls → AreInTransitAt n b L ls
loads_more n false K L j ls h = j ls h
loads_more (Starts c d k active serve) true K L j ls h = j ls h
loads_more (Communicates s p a q b w) true K L j ls h = (h.0, j [] h.1)
loads_more (InTransit s a b m q) true K L j [] h = h
loads_more (InTransit s a b m q) true K L j (k ∷ ks) h = (h.0, j ks h.1)
loads_more (Alone p o) true K L j ls h = j ls h

-- this event sends or receives on the triple
abbrev pub touches : Triple → Event → Bool
touches t (Send p s a b l) = triple_eq t (s, a, b)
touches t (Recv p s a b l) = triple_eq t (s, a, b)
touches t _ = false

pub triple_self : (t : Triple) → triple_eq t t ≡ true
triple_self t = true_and _ _ (true_eq t.0) (true_and _ _ (true_eq t.1.0) (true_eq t.2.0))

-- a node that is on a triple is of its roles
from_role : (x y z : Bool) → (x && (y && z)) ≡ true → (x && y) ≡ true
from_role x y z h = true_and x y (and_first _ _ h) (and_first _ _ (and_second _ _ h))

to_role : (x y z : Bool) → (x && (y && z)) ≡ true → (x && z) ≡ true
to_role x y z h = true_and x z (and_first _ _ h) (and_second _ _ (and_second _ _ h))

-- a node that doesn't name the holder of the receiver's role isn't on the triple
pub off_it : (p s : ℕ) (a b : NameId) (n : Node) (y : Bool) → is_on (s, a, b) n ≡ y → among (Live p) (named_in n) ≡ false → HolderFits (Live s) b n (Some (Live p)) → is_on (s, a, b) n ≡ false
off_it p s a b n false e out w = e
off_it p s a b (Starts c d k active serve) true e out w = absurd cc
off_it p s a b (Communicates u q c r d z) true e out w = absurd (other (Live p) r (Some (Live p)) (left_or _ _ (right_or (ref_eq (Live p) q) _ out)) (w.1 (to_role (ref_eq (Live s) u) (a.0 == c.0) (b.0 == d.0) e)) refl)
off_it p s a b (InTransit u c d m q) true e out w = absurd (other (Live p) q (Some (Live p)) (left_or _ _ out) (w.0 (to_role (s == u) (a.0 == c.0) (b.0 == d.0) e)) refl)
off_it p s a b (Alone q o) true e out w = absurd cc

module _ (ks : List Channel) (procs : List Procedure) (hosts : Hosts) (vars : List Variables) (sid : ℕ) (lists : ListedHolders)
    (bodies : (sc : Scope) (f : NameId) (d : ℕ) (ps ss : List Ref) (c : Choreography) → body_of (procedure_named procs f) d ps ss ≡ Some c → CallFits procs sc f d ps ss → IsWellFormed ks procs sc c)
    (owned_bodies : (sc : Scope) (u : Ref) (r : NameId) (o : Option Ref) (f : NameId) (d : ℕ) (ps ss : List Ref) (c : Choreography) → body_of (procedure_named procs f) d ps ss ≡ Some c → CallFits procs sc f d ps ss → PassedHeld (lists f) u r o ps 0 ss → HoldersFit lists u r c o)
    (empty_bodies : (t : Triple) (f : NameId) (d : ℕ) (ps ss : List Ref) (c : Choreography) → body_of (procedure_named procs f) d ps ss ≡ Some c → AreInTransit t c [])
    (plain : (p : ℕ) → ArePlain (vars_of vars p)) where
  untouched_head : (t : Triple) (v : ℤ) (n : Node) (c d : Choreography) (x : Event) (f : Effect) (ls : List Load) → NotStart x → touches t x ≡ false → AreInTransit t (Then n c) ls → Headed vars sid v n c x f d → AreInTransit t d ls
  untouched_head t v n c d x f ls ns off h (sends s p a b q w m is made ev k left) =
      let off' : triple_eq t (s, a, b) ≡ false = subst (λ y. touches t y ≡ false) ev off in
      let here : AreInTransitAt (Communicates (Live s) (Live p) a q b w) (triple_eq t (s, a, b)) (AreInTransit t c) ls = subst (λ y. AreInTransitAt y (is_on t y) (AreInTransit t c) ls) is h in
      let rest : AreInTransit t c ls = subst (λ y. AreInTransitAt (Communicates (Live s) (Live p) a q b w) y (AreInTransit t c) ls) off' here in
      subst (λ y. AreInTransit t y ls) (sym left) (subst (λ y. AreInTransitAt (InTransit s a b m q) y (AreInTransit t c) ls) (sym off') rest)
  untouched_head t v n c d x f ls ns off h (gets s q a b m is ev k left) =
      let off' : triple_eq t (s, a, b) ≡ false = subst (λ y. touches t y ≡ false) ev off in
      let here : AreInTransitAt (InTransit s a b m (Live q)) (triple_eq t (s, a, b)) (AreInTransit t c) ls = subst (λ y. AreInTransitAt y (is_on t y) (AreInTransit t c) ls) is h in
      subst (λ y. AreInTransit t y ls) (sym left) (subst (λ y. AreInTransitAt (InTransit s a b m (Live q)) y (AreInTransit t c) ls) off' here)
  untouched_head t v n c d x f ls ns off h (owns p o is made) =
      subst (λ y. AreInTransit t y ls) (sym (owned_event vars sid v (vars_of vars p) p o c d x f made).2) (subst (λ y. AreInTransitAt y (is_on t y) (AreInTransit t c) ls) is h)
  untouched_head t v n c d x f ls ns off h (starts ch k s active serve q ps is lives ev g left) = absurd (subst NotStart ev ns)

  -- other queues stay
  pub untouched : (t : Triple) (x : Event) → NotStart x → touches t x ≡ false → {c d : Choreography} {f : Effect} (ls : List Load) → AreInTransit t c ls → Moves procs hosts vars sid c x f d → AreInTransit t d ls
  untouched t x ns off ls h (head {n = n} {c = c} {d = d} {f = f} v a made) = untouched_head t v n c d x f ls ns off h (headed vars sid v n c x f d made)
  untouched t x ns off ls h (test {p = r} {x = g} {c = c} {c' = c'} {d = d} {f = f} made) =
      let i = decided vars r g c c' x f d made in
      subst (λ y. AreInTransit t y ls) (sym i.left) (branch (truth_of (value_of g (vars_of vars i.p))))
    where
      branch : (b : Bool) → AreInTransit t (if b then c else c') ls
      branch true = h.0
      branch false = h.1
  untouched t x ns off ls h (delay {n = n} {c = c} {d = d} m mv) = loads_more n (is_on t n) (AreInTransit t c) (AreInTransit t d) (λ ks k. untouched t x ns off ks k mv) ls h
  untouched t x ns off ls h (both m mv mw) = (untouched t x ns off ls h.0 mv, untouched t x ns off ls h.1 mw)
  untouched t x ns off ls h (unfolded {h = g} {k = k} {ps = ps} {ss = ss} {c = c} {d = d} m mv) =
      subst (λ y. AreInTransit t d y) (sym h) (untouched t x ns off [] (empty_bodies t g k ps ss c m) mv)

  module _ (p s : ℕ) (a b : NameId) (l : Load) where
    abbrev it : Triple
    it = (s, a, b)

    live_s : (y j : ℕ) → Live s ≡ Named y j → ⊥
    live_s y j e = cc

    its_role : (r : NameId) → is_role (Live s) r (Live s) r ≡ true
    its_role r = true_and _ _ (true_eq s) (true_eq r.0)

    passed : (x : Event) (rs : List Ref) → NotStart x → actor_of x ≡ p → meets (actors_of x) rs ≡ false → among (Live p) rs ≡ false
    passed x rs ns mine m = subst (λ y. among (Live y) rs ≡ false) mine (passed_over x rs ns m)

    -- a node on the triple that doesn't name its sender is a message in transit
    sent_at : (n : Node) (y : Bool) → is_on it n ≡ y → among (Live p) (named_in n) ≡ false → HolderFits (Live s) a n (Some (Live p)) → (K L : List Load → Type 0) → ((ls : List Load) → K ls → L (ls ++ l ∷ [])) → (ls : List Load) → AreInTransitAt n y K ls → AreInTransitAt n y L (ls ++ l ∷ [])
    sent_at n false e out w K L j ls h = j ls h
    sent_at (Starts c d k active serve) true e out w K L j ls h = absurd cc
    sent_at (Communicates u q c r d z) true e out w K L j ls h = absurd (other (Live p) q (Some (Live p)) (left_or _ _ out) (w.0 (from_role (ref_eq (Live s) u) (a.0 == c.0) (b.0 == d.0) e)) refl)
    sent_at (InTransit u c d m q) true e out w K L j [] h = absurd h
    sent_at (InTransit u c d m q) true e out w K L j (k ∷ ks) h = (h.0, j ks h.1)
    sent_at (Alone q o) true e out w K L j ls h = absurd cc

    no_send : (r : Ref) (g : Term) (c c' d : Choreography) (x : Event) (f : Effect) → Decided vars r g c c' x f d → x ≡ Send p s a b l → ⊥
    no_send r g c c' d x f i is = let z : Test i.p (truth_of (value_of g (vars_of vars i.p))) ≡ Send p s a b l = sym i.event ∙ is in cc

    no_receipt : (r : Ref) (g : Term) (c c' d : Choreography) (x : Event) (f : Effect) → Decided vars r g c c' x f d → x ≡ Recv p s a b l → ⊥
    no_receipt r g c c' d x f i is = let z : Test i.p (truth_of (value_of g (vars_of vars i.p))) ≡ Recv p s a b l = sym i.event ∙ is in cc

    -- a message that is sent is the last of its queue
    sent_over : (x : Event) → x ≡ Send p s a b l → (sc : Scope) {c d : Choreography} {f : Effect} → IsWellFormed ks procs sc c → HoldersFit lists (Live s) a c (Some (Live p)) → (ls : List Load) → AreInTransit it c ls → Moves procs hosts vars sid c x f d → AreInTransit it d (ls ++ l ∷ [])
    sent_over x is sc w o ls h (head {n = n} {c = c} {d = d} {f = f} v z made) =
        let i = sends_here vars sid p s a b l v n c d x f is (headed vars sid v n c x f d made) in
        let here : AreInTransitAt (Communicates (Live s) (Live p) a i.q b i.w) (triple_eq it it) (AreInTransit it c) ls = subst (λ y. AreInTransitAt y (is_on it y) (AreInTransit it c) ls) i.is h in
        let two : (ls ≡ []) × AreInTransit it c [] = subst (λ y. AreInTransitAt (Communicates (Live s) (Live p) a i.q b i.w) y (AreInTransit it c) ls) (triple_self it) here in
        subst (λ y. AreInTransit it y (ls ++ l ∷ [])) (sym i.left)
        (subst (λ y. AreInTransitAt (InTransit s a b i.m i.q) y (AreInTransit it c) (ls ++ l ∷ [])) (sym (triple_self it))
        (subst (λ y. FirstIs (load_of i.m) (AreInTransit it c) (y ++ l ∷ [])) (sym two.0) (sym i.load, two.1)))
    sent_over x is sc w o ls h (test {p = r} {x = g} {c = c} {c' = c'} {d = d} {f = f} made) = absurd (no_send r g c c' d x f (decided vars r g c c' x f d made) is)
    sent_over x is sc w o ls h (delay {n = n} {c = c} {d = d} m mv) =
        let out = passed x (named_in n) (subst NotStart (sym is) tt) (ap actor_of is) m in
        let same = none_at (Live s) a live_s (Live p) n out o.0 in
        let rest : HoldersFit lists (Live s) a c (Some (Live p)) = subst (HoldersFit lists (Live s) a c) (same (Some (Live p))).1 o.1 in
        sent_at n (is_on it n) refl out o.0 (AreInTransit it c) (AreInTransit it d) (λ js j. sent_over x is (scope_after sc n) w.1 rest js j mv) ls h
    sent_over x is sc w o ls h (both m mv mw) = (sent_over x is sc w.1 o.0 ls h.0 mv, sent_over x is sc w.2 o.1 ls h.1 mw)
    sent_over x is sc w o ls h (unfolded {h = g} {k = k} {ps = ps} {ss = ss} {c = c} {d = d} m mv) =
        subst (λ y. AreInTransit it d (y ++ l ∷ [])) (sym h) (sent_over x is sc (bodies sc g k ps ss c m w) (owned_bodies sc (Live s) a (Some (Live p)) g k ps ss c m w o) [] (empty_bodies it g k ps ss c m) mv)

    pub sent_last : (sc : Scope) (o : Option Ref) {c d : Choreography} {f : Effect} → IsWellFormed ks procs sc c → HoldersFit lists (Live s) a c o → (ls : List Load) → AreInTransit it c ls → Moves procs hosts vars sid c (Send p s a b l) f d → AreInTransit it d (ls ++ l ∷ [])
    sent_last sc o {c = c} w h ls k mv =
        let now = sender_now ks procs hosts vars sid lists bodies owned_bodies plain (Live s) a live_s p s a b l (or_left _ _ (its_role a)) (Send p s a b l) refl sc o w h mv in
        sent_over (Send p s a b l) refl sc w (subst (HoldersFit lists (Live s) a c) now h) ls k mv

    pub record First (ls : List Load) (d : Choreography) : Type 0 where
      pub rest : List Load
      pub is : ls ≡ l ∷ rest
      pub in_transit : AreInTransit it d rest

    first_here : (m : Message) (c : Choreography) (ls : List Load) → l ≡ load_of m → FirstIs (load_of m) (AreInTransit it c) ls → First ls c
    first_here m c [] i h = absurd h
    first_here m c (k ∷ ks') i h = record { rest = ks'; is = ap (λ y. y ∷ ks') (sym (i ∙ h.0)); in_transit = h.1 }

    -- a message that is received is the first of its queue
    got_over : (x : Event) → x ≡ Recv p s a b l → (sc : Scope) {c d : Choreography} {f : Effect} → IsWellFormed ks procs sc c → HoldersFit lists (Live s) b c (Some (Live p)) → (ls : List Load) → AreInTransit it c ls → Moves procs hosts vars sid c x f d → First ls d
    got_over x is sc w o ls h (head {n = n} {c = c} {d = d} {f = f} v z made) =
        let i = gets_here vars sid p s a b l v n c d x f is (headed vars sid v n c x f d made) in
        let here : AreInTransitAt (InTransit s a b i.m (Live p)) (triple_eq it it) (AreInTransit it c) ls = subst (λ y. AreInTransitAt y (is_on it y) (AreInTransit it c) ls) i.is h in
        subst (First ls) (sym i.left) (first_here i.m c ls i.load (subst (λ y. AreInTransitAt (InTransit s a b i.m (Live p)) y (AreInTransit it c) ls) (triple_self it) here))
    got_over x is sc w o ls h (test {p = r} {x = g} {c = c} {c' = c'} {d = d} {f = f} made) = absurd (no_receipt r g c c' d x f (decided vars r g c c' x f d made) is)
    got_over x is sc w o ls h (delay {n = n} {c = c} {d = d} m mv) =
        let out = passed x (named_in n) (subst NotStart (sym is) tt) (ap actor_of is) m in
        let same = none_at (Live s) b live_s (Live p) n out o.0 in
        let off = off_it p s a b n (is_on it n) refl out o.0 in
        let k : AreInTransit it c ls = subst (λ y. AreInTransitAt n y (AreInTransit it c) ls) off h in
        let f = got_over x is (scope_after sc n) w.1 (subst (HoldersFit lists (Live s) b c) (same (Some (Live p))).1 o.1) ls k mv in
        record { rest = f.rest; is = f.is; in_transit = subst (λ y. AreInTransitAt n y (AreInTransit it d) f.rest) (sym off) f.in_transit }
    got_over x is sc w o ls h (both {d' = d'} m mv mw) =
        let f = got_over x is sc w.1 o.0 ls h.0 mv in
        let g = got_over x is sc w.2 o.1 ls h.1 mw in
        let both' : l ∷ g.rest ≡ l ∷ f.rest = sym g.is ∙ f.is in
        let same : g.rest ≡ f.rest = cc in
        record { rest = f.rest; is = f.is; in_transit = (f.in_transit, subst (λ y. AreInTransit it d' y) same g.in_transit) }
    got_over x is sc w o ls h (unfolded {h = g} {k = k} {ps = ps} {ss = ss} {c = c} {d = d} m mv) =
        subst (λ y. First y d) (sym h) (got_over x is sc (bodies sc g k ps ss c m w) (owned_bodies sc (Live s) b (Some (Live p)) g k ps ss c m w o) [] (empty_bodies it g k ps ss c m) mv)

    pub got_first : (sc : Scope) (o : Option Ref) {c d : Choreography} {f : Effect} → IsWellFormed ks procs sc c → HoldersFit lists (Live s) b c o → (ls : List Load) → AreInTransit it c ls → Moves procs hosts vars sid c (Recv p s a b l) f d → First ls d
    got_first sc o {c = c} w h ls k mv =
        let now = receiver_now ks procs hosts vars sid lists bodies owned_bodies plain (Live s) b live_s p s a b l (its_role b) (Recv p s a b l) refl sc o w h mv in
        got_over (Recv p s a b l) refl sc w (subst (HoldersFit lists (Live s) b c) now h) ls k mv
