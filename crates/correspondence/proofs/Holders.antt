-- Who holds a role, by an event of one process.
use Rattle.std.proofs.Common.{◌≡◌, ℕ, Bool, true, false, List, ◌++◌, Option, Some, None, refl, subst, ap, sym, ◌∙◌, ℤ, if◌then◌else◌, ◌||◌}
use Rattle.chor_base.specs.declared.names.NameId.{NameId}
use Rattle.chor_base.specs.declared.value.Value.TheVariants.{Int, Bool as Truth, Text, Part as Endpoint}
use Rattle.chor_base.specs.declared.value.Load.{Load}
use Rattle.chor_base.specs.declared.value.Load.TheVariants.{Value as Carries, Label as Picks}
use Rattle.chor_base.specs.declared.event.Event.{Event}
use Rattle.chor_base.specs.declared.event.Event.TheVariants.{Start, Send, Recv, Test, Set, Show, Host}
use Rattle.chor_base.specs.Expr.{Term, value_of, truth_of}
use Rattle.chor_base.specs.NameMap.{Variables}
use Rattle.chor_base.specs.Meaning.{Hosts}
use Rattle.chor_base.specs.Events.{actors_of}
use Rattle.chor_semantics.specs.Choreography.{Ref, Live, Named, ref_eq, among, meets, named_in, Content, OfValue, OfLabel, OfPart, Message, ValueSent, LabelSent, PartSent, Sets, Shows, Asks, Node, Starts, Communicates, InTransit, Alone, Choreography, Then}
use Rattle.chor_semantics.specs.Sources.{Procedure}
use Rattle.chor_semantics.specs.Steps.{Effect, Moves, head, test, delay, both, unfolded, message_of, load_of, vars_of, procedure_named, body_of}
use Rattle.endpoint_code.specs.declared.endpoints.Channel.{Channel}
use Rattle.well_formed.specs.WellFormed.{Scope, scope_after, NodeFits, CommunicationFits, TransitFits, MessageFits, CallFits, IsWellFormed, ArePlain}
use Rattle.correspondence.proofs.Acts.{own_event}
use Rattle.well_formed.specs.Holders.{is_role, hands_over, carries, first_with, as_parts, HolderFits, holder_after, ListedHolders, PassedHeld, HoldersFit, load_hands, holder_by}
use Rattle.well_formed.proofs.References.{left_or, right_or, clash, not_same, NotStart, actor_of, passed_over}
use Rattle.well_formed.proofs.Heads.{Headed, sends, gets, owns, starts, headed, owned_event, Decided, decided}
use Rattle.well_formed.proofs.Fits.{message_fits}

-- a message and its load hand over the same
load_carries : (u : Ref) (r : NameId) (sc : Scope) (m : Message) → MessageFits sc m → load_hands u r (load_of m) ≡ carries u r m
load_carries u r sc (ValueSent (Int z) x) h = refl
load_carries u r sc (ValueSent (Truth b) x) h = refl
load_carries u r sc (ValueSent (Text t) x) h = refl
load_carries u r sc (ValueSent (Endpoint s c) x) h = absurd h
load_carries u r sc (LabelSent l) h = refl
load_carries u r sc (PartSent s c) h = refl

-- and so do a content and its message
content_carries : (u : Ref) (r : NameId) (m : Variables) (w : Content) (msg : Message) → message_of m w ≡ Some msg → carries u r msg ≡ hands_over u r w
content_carries u r m (OfValue e x) msg h = let i : ValueSent (value_of e m) x ≡ msg = cc in ap (carries u r) (sym i)
content_carries u r m (OfLabel l) msg h = let i : LabelSent l ≡ msg = cc in ap (carries u r) (sym i)
content_carries u r m (OfPart (Live s) c) msg h = let i : PartSent s c ≡ msg = cc in ap (carries u r) (sym i)
content_carries u r m (OfPart (Named s d) c) msg h = absurd cc

-- only a live session's role is handed over
hands_live : (u : Ref) (r : NameId) (l : Load) → load_hands u r l ≡ true → (x d : ℕ) → u ≡ Named x d → ⊥
hands_live u r (Carries (Int z)) h x d e = cc
hands_live u r (Carries (Truth b)) h x d e = cc
hands_live u r (Carries (Text t)) h x d e = cc
hands_live u r (Carries (Endpoint s c)) h x d e = let i : is_role (Named x d) r (Live s) c ≡ true = ap (λ y. is_role y r (Live s) c) (sym e) ∙ h in cc
hands_live u r (Picks l) h x d e = cc

-- nobody else is a holder that is known
pub other : (p q : Ref) (o : Option Ref) → ref_eq p q ≡ false → o ≡ Some q → o ≡ Some p → ⊥
other p q o out e k = not_same p q out (same (sym k ∙ e))
  where
    same : ◌≡◌ {A = Option Ref} (Some p) (Some q) → p ≡ q
    same i = cc

nobody : (q : Ref) (o : Option Ref) → o ≡ None → o ≡ Some q → ⊥
nobody q o e k = cc

not_opened : (u : Ref) (k d : ℕ) → ((x j : ℕ) → u ≡ Named x j → ⊥) → ref_eq u (Named k d) ≡ false
not_opened (Live m) k d h = refl
not_opened (Named x j) k d h = absurd (h x j refl)

module _ (u : Ref) (r : NameId) (live : (x j : ℕ) → u ≡ Named x j → ⊥) where
  -- whom a node doesn't name, it makes no holder
  pub held_before : (p : Ref) (n : Node) (o : Option Ref) → among p (named_in n) ≡ false → holder_after u r n o ≡ Some p → o ≡ Some p
  held_before p (Starts c d k active serve) o out h = subst (λ b. (if b then first_with r (active ++ as_parts d serve) else o) ≡ Some p) (not_opened u k d live) h
  held_before p (Communicates s q a t b w) o out h = go (hands_over u r w) h
    where
      go : (y : Bool) → (if y then Some t else o) ≡ Some p → o ≡ Some p
      go false i = i
      go true i = absurd (other p t (Some t) (left_or _ _ (right_or _ _ out)) refl i)
  held_before p (InTransit s a b m q) o out h = go (carries u r m) h
    where
      go : (y : Bool) → (if y then Some q else o) ≡ Some p → o ≡ Some p
      go false i = i
      go true i = absurd (other p q (Some q) (left_or _ _ out) refl i)
  held_before p (Alone q v) o out h = h

  -- a node that doesn't name the holder asks nothing of its role, and leaves it
  pub none_at : (p : Ref) (n : Node) → among p (named_in n) ≡ false → HolderFits u r n (Some p) → (o : Option Ref) → HolderFits u r n o × (holder_after u r n o ≡ o)
  none_at p (Starts c d k active serve) out h o = (tt, ap (λ b. if b then first_with r (active ++ as_parts d serve) else o) (not_opened u k d live))
  none_at p (Communicates s q a t b w) out h o =
      ((λ i. absurd (other p q (Some p) (left_or _ _ out) (h.0 i) refl), λ i. absurd (other p t (Some p) (left_or _ _ (right_or _ _ out)) (h.1 i) refl), λ i. absurd (other p q (Some p) (left_or _ _ out) (h.2 i) refl)), go (hands_over u r w) h.2)
    where
      go : (y : Bool) → (y ≡ true → ◌≡◌ {A = Option Ref} (Some p) (Some q)) → (if y then Some t else o) ≡ o
      go false i = refl
      go true i = absurd (other p q (Some p) (left_or _ _ out) (i refl) refl)
  none_at p (InTransit s a b m q) out h o =
      ((λ i. absurd (other p q (Some p) (left_or _ _ out) (h.0 i) refl), λ i. absurd (nobody p (Some p) (h.1 i) refl)), go (carries u r m) h.1)
    where
      go : (y : Bool) → (y ≡ true → ◌≡◌ {A = Option Ref} (Some p) None) → (if y then Some q else o) ≡ o
      go false i = refl
      go true i = absurd (nobody p (Some p) (i refl) refl)
  none_at p (Alone q v) out h o = (tt, refl)

  -- while the role is in transit, a node that doesn't end this asks nothing of it
  pub free_at : (n : Node) (o : Option Ref) → HolderFits u r n o → holder_after u r n o ≡ None → (o ≡ None) × ((o' : Option Ref) → HolderFits u r n o' × (holder_after u r n o' ≡ o'))
  free_at (Starts c d k active serve) o h g = (subst (λ b. (if b then first_with r (active ++ as_parts d serve) else o) ≡ None) (not_opened u k d live) g, λ o'. (tt, ap (λ b. if b then first_with r (active ++ as_parts d serve) else o') (not_opened u k d live)))
  free_at (Communicates s q a t b w) o h g = go (hands_over u r w) refl g
    where
      go : (y : Bool) → hands_over u r w ≡ y → (if y then Some t else o) ≡ None → (o ≡ None) × ((o' : Option Ref) → HolderFits u r (Communicates s q a t b w) o' × (holder_after u r (Communicates s q a t b w) o' ≡ o'))
      go true e i = absurd cc
      go false e i = (i, λ o'. ((λ j. absurd (nobody q o i (h.0 j)), λ j. absurd (nobody t o i (h.1 j)), λ j. absurd (clash j e)), ap (λ y. if y then Some t else o') e))
  free_at (InTransit s a b m q) o h g = go (carries u r m) refl g
    where
      go : (y : Bool) → carries u r m ≡ y → (if y then Some q else o) ≡ None → (o ≡ None) × ((o' : Option Ref) → HolderFits u r (InTransit s a b m q) o' × (holder_after u r (InTransit s a b m q) o' ≡ o'))
      go true e i = absurd cc
      go false e i = (i, λ o'. ((λ j. absurd (nobody q o i (h.0 j)), λ j. absurd (clash j e)), ap (λ y. if y then Some q else o') e))
  free_at (Alone q v) o h g = (g, λ o'. (tt, refl))

-- what a send's head is
pub record SendsHere (vars : List Variables) (p s : ℕ) (a b : NameId) (l : Load) (n : Node) (c d : Choreography) : Type 0 where
  pub q : Ref
  pub w : Content
  pub m : Message
  pub is : n ≡ Communicates (Live s) (Live p) a q b w
  pub made : message_of (vars_of vars p) w ≡ Some m
  pub load : l ≡ load_of m
  pub left : d ≡ Then (InTransit s a b m q) c

-- what a receipt's head is
pub record GetsHere (p s : ℕ) (a b : NameId) (l : Load) (n : Node) (c d : Choreography) : Type 0 where
  pub m : Message
  pub is : n ≡ InTransit s a b m (Live p)
  pub load : l ≡ load_of m
  pub left : d ≡ c

module _ (vars : List Variables) (sid : ℕ) (p s : ℕ) (a b : NameId) (l : Load) where
  pub sends_here : (v : ℤ) (n : Node) (c d : Choreography) (x : Event) (f : Effect) → x ≡ Send p s a b l → Headed vars sid v n c x f d → SendsHere vars p s a b l n c d
  sends_here v n c d x f is (sends s' p' a' b' q w m here made ev k left) =
      let z : Send p s a b l ≡ Send p' s' a' b' (load_of m) = sym is ∙ ev in
      let ps : p' ≡ p = cc in let ss : s' ≡ s = cc in let as' : a' ≡ a = cc in let bs : b' ≡ b = cc in
      record {
        q = q;
        w = w;
        m = m;
        is = here ∙ ap (λ y. Communicates (Live y) (Live p') a' q b' w) ss ∙ ap (λ y. Communicates (Live s) (Live y) a' q b' w) ps ∙ ap (λ y. Communicates (Live s) (Live p) y q b' w) as' ∙ ap (λ y. Communicates (Live s) (Live p) a q y w) bs;
        made = ap (λ y. message_of (vars_of vars y) w) (sym ps) ∙ made;
        load = cc;
        left = left ∙ ap (λ y. Then (InTransit y a' b' m q) c) ss ∙ ap (λ y. Then (InTransit s y b' m q) c) as' ∙ ap (λ y. Then (InTransit s a y m q) c) bs;
      }
  sends_here v n c d x f is (gets s' q a' b' m here ev k left) = let z : Send p s a b l ≡ Recv q s' a' b' (load_of m) = sym is ∙ ev in absurd cc
  sends_here v n c d x f is (owns p' (Sets y g) here made) = let z : x ≡ Set p' y (value_of g (vars_of vars p')) = cc in let w : Send p s a b l ≡ Set p' y (value_of g (vars_of vars p')) = sym is ∙ z in absurd cc
  sends_here v n c d x f is (owns p' (Shows g) here made) = let z : x ≡ Show p' (value_of g (vars_of vars p')) = cc in let w : Send p s a b l ≡ Show p' (value_of g (vars_of vars p')) = sym is ∙ z in absurd cc
  sends_here v n c d x f is (owns p' (Asks y g e e') here made) = let z : x ≡ own_event (vars_of vars p') p' v (Asks y g e e') = cc in let w : Send p s a b l ≡ own_event (vars_of vars p') p' v (Asks y g e e') = sym is ∙ z in absurd cc
  sends_here v n c d x f is (starts ch k s' active serve q ps here lives ev g left) = absurd (subst NotStart (sym is ∙ ev) tt)

  pub gets_here : (v : ℤ) (n : Node) (c d : Choreography) (x : Event) (f : Effect) → x ≡ Recv p s a b l → Headed vars sid v n c x f d → GetsHere p s a b l n c d
  gets_here v n c d x f is (gets s' p' a' b' m here ev k left) =
      let z : Recv p s a b l ≡ Recv p' s' a' b' (load_of m) = sym is ∙ ev in
      let ps : p' ≡ p = cc in let ss : s' ≡ s = cc in let as' : a' ≡ a = cc in let bs : b' ≡ b = cc in
      record {
        m = m;
        is = here ∙ ap (λ y. InTransit y a' b' m (Live p')) ss ∙ ap (λ y. InTransit s a' b' m (Live y)) ps ∙ ap (λ y. InTransit s y b' m (Live p)) as' ∙ ap (λ y. InTransit s a y m (Live p)) bs;
        load = cc;
        left = left;
      }
  gets_here v n c d x f is (sends s' q a' b' t w m here made ev k left) = let z : Recv p s a b l ≡ Send q s' a' b' (load_of m) = sym is ∙ ev in absurd cc
  gets_here v n c d x f is (owns p' (Sets y g) here made) = let z : x ≡ Set p' y (value_of g (vars_of vars p')) = cc in let w : Recv p s a b l ≡ Set p' y (value_of g (vars_of vars p')) = sym is ∙ z in absurd cc
  gets_here v n c d x f is (owns p' (Shows g) here made) = let z : x ≡ Show p' (value_of g (vars_of vars p')) = cc in let w : Recv p s a b l ≡ Show p' (value_of g (vars_of vars p')) = sym is ∙ z in absurd cc
  gets_here v n c d x f is (owns p' (Asks y g e e') here made) = let z : x ≡ own_event (vars_of vars p') p' v (Asks y g e e') = cc in let w : Recv p s a b l ≡ own_event (vars_of vars p') p' v (Asks y g e e') = sym is ∙ z in absurd cc
  gets_here v n c d x f is (starts ch k s' active serve q ps here lives ev g left) = absurd (subst NotStart (sym is ∙ ev) tt)

-- this event hands over the role
abbrev pub hands_by : Ref → NameId → Event → Bool
hands_by u r (Send p s a b l) = load_hands u r l
hands_by u r (Recv p s a b l) = load_hands u r l
hands_by u r _ = false

module _ (ks : List Channel) (procs : List Procedure) (hosts : Hosts) (vars : List Variables) (sid : ℕ) (lists : ListedHolders)
    (bodies : (sc : Scope) (f : NameId) (d : ℕ) (ps ss : List Ref) (c : Choreography) → body_of (procedure_named procs f) d ps ss ≡ Some c → CallFits procs sc f d ps ss → IsWellFormed ks procs sc c)
    (owned_bodies : (sc : Scope) (u : Ref) (r : NameId) (o : Option Ref) (f : NameId) (d : ℕ) (ps ss : List Ref) (c : Choreography) → body_of (procedure_named procs f) d ps ss ≡ Some c → CallFits procs sc f d ps ss → PassedHeld (lists f) u r o ps 0 ss → HoldersFit lists u r c o)
    (plain : (p : ℕ) → ArePlain (vars_of vars p)) (u : Ref) (r : NameId) where
  -- a role that an event doesn't hand over keeps its holder
  unhanded_head : (sc : Scope) (o : Option Ref) (v : ℤ) (n : Node) (c d : Choreography) (x : Event) (f : Effect) → NotStart x → hands_by u r x ≡ false → NodeFits ks sc n → HoldersFit lists u r (Then n c) o → Headed vars sid v n c x f d → HoldersFit lists u r d o
  unhanded_head sc o v n c d x f ns off w h (sends s p a b q t m is made ev k left) =
      let fit : CommunicationFits sc (Live s) (Live p) q t = subst (NodeFits ks sc) is w in
      let off' : carries u r m ≡ false = sym (load_carries u r sc m (message_fits sc (vars_of vars p) t m (plain p) fit.content made)) ∙ subst (λ y. hands_by u r y ≡ false) ev off in
      let off'' : hands_over u r t ≡ false = sym (content_carries u r (vars_of vars p) t m made) ∙ off' in
      let k' : HolderFits u r (Communicates (Live s) (Live p) a q b t) o = subst (λ y. HolderFits u r y o) is h.0 in
      let rest : HoldersFit lists u r c o = subst (λ y. HoldersFit lists u r c (if y then Some q else o)) off'' (subst (λ y. HoldersFit lists u r c (holder_after u r y o)) is h.1) in
      subst (λ y. HoldersFit lists u r y o) (sym left) ((k'.1, λ i. absurd (clash i off')), subst (λ y. HoldersFit lists u r c (if y then Some q else o)) (sym off') rest)
  unhanded_head sc o v n c d x f ns off w h (gets s q a b m is ev k left) =
      let fit : TransitFits sc s m (Live q) = subst (NodeFits ks sc) is w in
      let off' : carries u r m ≡ false = sym (load_carries u r sc m fit.message) ∙ subst (λ y. hands_by u r y ≡ false) ev off in
      subst (λ y. HoldersFit lists u r y o) (sym left) (subst (λ y. HoldersFit lists u r c (if y then Some (Live q) else o)) off' (subst (λ y. HoldersFit lists u r c (holder_after u r y o)) is h.1))
  unhanded_head sc o v n c d x f ns off w h (owns p t is made) = subst (λ y. HoldersFit lists u r y o) (sym (owned_event vars sid v (vars_of vars p) p t c d x f made).2) (subst (λ y. HoldersFit lists u r c (holder_after u r y o)) is h.1)
  unhanded_head sc o v n c d x f ns off w h (starts ch k s active serve q ps is lives ev g left) = absurd (subst NotStart ev ns)

  pub unhanded : (x : Event) → NotStart x → hands_by u r x ≡ false → (sc : Scope) (o : Option Ref) {c d : Choreography} {f : Effect} → IsWellFormed ks procs sc c → HoldersFit lists u r c o → Moves procs hosts vars sid c x f d → HoldersFit lists u r d o
  unhanded x ns off sc o w h (head {n = n} {c = c} {d = d} {f = f} v a made) = unhanded_head sc o v n c d x f ns off w.0 h (headed vars sid v n c x f d made)
  unhanded x ns off sc o w h (test {p = t} {x = g} {c = c} {c' = c'} {d = d} {f = f} made) =
      let i = decided vars t g c c' x f d made in
      subst (λ y. HoldersFit lists u r y o) (sym i.left) (branch (truth_of (value_of g (vars_of vars i.p))))
    where
      branch : (b : Bool) → HoldersFit lists u r (if b then c else c') o
      branch true = h.0
      branch false = h.1
  unhanded x ns off sc o w h (delay {n = n} m mv) = (h.0, unhanded x ns off (scope_after sc n) (holder_after u r n o) w.1 h.1 mv)
  unhanded x ns off sc o w h (both m mv mw) = (unhanded x ns off sc o w.1 h.0 mv, unhanded x ns off sc o w.2 h.1 mw)
  unhanded x ns off sc o w h (unfolded {h = g} {k = k} {ps = ps} {ss = ss} {c = c} m mv) = unhanded x ns off sc o (bodies sc g k ps ss c m w) (owned_bodies sc u r o g k ps ss c m w h) mv

  module _ (live : (y j : ℕ) → u ≡ Named y j → ⊥) (p s : ℕ) (a b : NameId) (l : Load) where
    passed : (x : Event) (rs : List Ref) → NotStart x → actor_of x ≡ p → meets (actors_of x) rs ≡ false → among (Live p) rs ≡ false
    passed x rs ns mine m = subst (λ y. among (Live y) rs ≡ false) mine (passed_over x rs ns m)

    sending : (x : Event) → x ≡ Send p s a b l → NotStart x
    sending x is = subst NotStart (sym is) tt

    receiving : (x : Event) → x ≡ Recv p s a b l → NotStart x
    receiving x is = subst NotStart (sym is) tt

    no_send : (t : Ref) (g : Term) (c c' d : Choreography) (x : Event) (f : Effect) → Decided vars t g c c' x f d → x ≡ Send p s a b l → ⊥
    no_send t g c c' d x f i is = let z : Test i.p (truth_of (value_of g (vars_of vars i.p))) ≡ Send p s a b l = sym i.event ∙ is in cc

    no_receipt : (t : Ref) (g : Term) (c c' d : Choreography) (x : Event) (f : Effect) → Decided vars t g c c' x f d → x ≡ Recv p s a b l → ⊥
    no_receipt t g c c' d x f i is = let z : Test i.p (truth_of (value_of g (vars_of vars i.p))) ≡ Recv p s a b l = sym i.event ∙ is in cc

    -- who sends as this role, or hands it over, holds it now
    pub sender_now : (is_role u r (Live s) a || load_hands u r l) ≡ true → (x : Event) → x ≡ Send p s a b l → (sc : Scope) (o : Option Ref) {c d : Choreography} {f : Effect} → IsWellFormed ks procs sc c → HoldersFit lists u r c o → Moves procs hosts vars sid c x f d → o ≡ Some (Live p)
    sender_now on x is sc o w h (head {n = n} {c = c} {d = d} {f = f} v z made) =
        let i = sends_here vars sid p s a b l v n c d x f is (headed vars sid v n c x f d made) in
        let fit : CommunicationFits sc (Live s) (Live p) i.q i.w = subst (NodeFits ks sc) i.is w.0 in
        let k : HolderFits u r (Communicates (Live s) (Live p) a i.q b i.w) o = subst (λ y. HolderFits u r y o) i.is h.0 in
        let same : load_hands u r l ≡ hands_over u r i.w = ap (load_hands u r) i.load ∙ load_carries u r sc i.m (message_fits sc (vars_of vars p) i.w i.m (plain p) fit.content i.made) ∙ content_carries u r (vars_of vars p) i.w i.m i.made in
        at i.w i.q (is_role u r (Live s) a) refl k same on
      where
        at : (w : Content) (q : Ref) (y : Bool) → is_role u r (Live s) a ≡ y → HolderFits u r (Communicates (Live s) (Live p) a q b w) o → load_hands u r l ≡ hands_over u r w → (y || load_hands u r l) ≡ true → o ≡ Some (Live p)
        at w q true e k same i = k.0 e
        at w q false e k same i = k.2 (sym same ∙ i)
    sender_now on x is sc o w h (test {p = t} {x = g} {c = c} {c' = c'} {d = d} {f = f} made) = absurd (no_send t g c c' d x f (decided vars t g c c' x f d made) is)
    sender_now on x is sc o w h (delay {n = n} m mv) = held_before u r live (Live p) n o (passed x (named_in n) (sending x is) (ap actor_of is) m) (sender_now on x is (scope_after sc n) (holder_after u r n o) w.1 h.1 mv)
    sender_now on x is sc o w h (both m mv mw) = sender_now on x is sc o w.1 h.0 mv
    sender_now on x is sc o w h (unfolded {h = g} {k = k} {ps = ps} {ss = ss} {c = c} m mv) = sender_now on x is sc o (bodies sc g k ps ss c m w) (owned_bodies sc u r o g k ps ss c m w h) mv

    -- who receives as this role holds it now
    pub receiver_now : is_role u r (Live s) b ≡ true → (x : Event) → x ≡ Recv p s a b l → (sc : Scope) (o : Option Ref) {c d : Choreography} {f : Effect} → IsWellFormed ks procs sc c → HoldersFit lists u r c o → Moves procs hosts vars sid c x f d → o ≡ Some (Live p)
    receiver_now on x is sc o w h (head {n = n} {c = c} {d = d} {f = f} v z made) =
        let i = gets_here vars sid p s a b l v n c d x f is (headed vars sid v n c x f d made) in
        let k : HolderFits u r (InTransit s a b i.m (Live p)) o = subst (λ y. HolderFits u r y o) i.is h.0 in k.0 on
    receiver_now on x is sc o w h (test {p = t} {x = g} {c = c} {c' = c'} {d = d} {f = f} made) = absurd (no_receipt t g c c' d x f (decided vars t g c c' x f d made) is)
    receiver_now on x is sc o w h (delay {n = n} m mv) = held_before u r live (Live p) n o (passed x (named_in n) (receiving x is) (ap actor_of is) m) (receiver_now on x is (scope_after sc n) (holder_after u r n o) w.1 h.1 mv)
    receiver_now on x is sc o w h (both m mv mw) = receiver_now on x is sc o w.1 h.0 mv
    receiver_now on x is sc o w h (unfolded {h = g} {k = k} {ps = ps} {ss = ss} {c = c} m mv) = receiver_now on x is sc o (bodies sc g k ps ss c m w) (owned_bodies sc u r o g k ps ss c m w h) mv

    -- a role that is handed over is in transit now
    pub free_now : load_hands u r l ≡ true → (x : Event) → x ≡ Recv p s a b l → (sc : Scope) (o : Option Ref) {c d : Choreography} {f : Effect} → IsWellFormed ks procs sc c → HoldersFit lists u r c o → Moves procs hosts vars sid c x f d → o ≡ None
    free_now on x is sc o w h (head {n = n} {c = c} {d = d} {f = f} v z made) =
        let i = gets_here vars sid p s a b l v n c d x f is (headed vars sid v n c x f d made) in
        let fit : TransitFits sc s i.m (Live p) = subst (NodeFits ks sc) i.is w.0 in
        let k : HolderFits u r (InTransit s a b i.m (Live p)) o = subst (λ y. HolderFits u r y o) i.is h.0 in
        k.1 (sym (load_carries u r sc i.m fit.message) ∙ ap (load_hands u r) (sym i.load) ∙ on)
    free_now on x is sc o w h (test {p = t} {x = g} {c = c} {c' = c'} {d = d} {f = f} made) = absurd (no_receipt t g c c' d x f (decided vars t g c c' x f d made) is)
    free_now on x is sc o w h (delay {n = n} m mv) = (free_at u r live n o h.0 (free_now on x is (scope_after sc n) (holder_after u r n o) w.1 h.1 mv)).0
    free_now on x is sc o w h (both m mv mw) = free_now on x is sc o w.1 h.0 mv
    free_now on x is sc o w h (unfolded {h = g} {k = k} {ps = ps} {ss = ss} {c = c} m mv) = free_now on x is sc o (bodies sc g k ps ss c m w) (owned_bodies sc u r o g k ps ss c m w h) mv

    -- once it is sent, nobody holds it
    pub sent_away : load_hands u r l ≡ true → (x : Event) → x ≡ Send p s a b l → (sc : Scope) {c d : Choreography} {f : Effect} → IsWellFormed ks procs sc c → HoldersFit lists u r c (Some (Live p)) → Moves procs hosts vars sid c x f d → HoldersFit lists u r d None
    sent_away on x is sc w h (head {n = n} {c = c} {d = d} {f = f} v z made) =
        let i = sends_here vars sid p s a b l v n c d x f is (headed vars sid v n c x f d made) in
        let fit : CommunicationFits sc (Live s) (Live p) i.q i.w = subst (NodeFits ks sc) i.is w.0 in
        let k : HolderFits u r (Communicates (Live s) (Live p) a i.q b i.w) (Some (Live p)) = subst (λ y. HolderFits u r y (Some (Live p))) i.is h.0 in
        let carried : carries u r i.m ≡ true = sym (load_carries u r sc i.m (message_fits sc (vars_of vars p) i.w i.m (plain p) fit.content i.made)) ∙ ap (load_hands u r) (sym i.load) ∙ on in
        let over : hands_over u r i.w ≡ true = sym (content_carries u r (vars_of vars p) i.w i.m i.made) ∙ carried in
        let rest : HoldersFit lists u r c (Some i.q) = subst (λ y. HoldersFit lists u r c (if y then Some i.q else Some (Live p))) over (subst (λ y. HoldersFit lists u r c (holder_after u r y (Some (Live p)))) i.is h.1) in
        subst (λ y. HoldersFit lists u r y None) (sym i.left) ((λ j. absurd (other (Live p) i.q (Some (Live p)) fit.differ (k.1 j) refl), λ j. refl), subst (λ y. HoldersFit lists u r c (if y then Some i.q else None)) (sym carried) rest)
    sent_away on x is sc w h (test {p = t} {x = g} {c = c} {c' = c'} {d = d} {f = f} made) = absurd (no_send t g c c' d x f (decided vars t g c c' x f d made) is)
    sent_away on x is sc w h (delay {n = n} {c = c} {d = d} m mv) =
        let out = passed x (named_in n) (sending x is) (ap actor_of is) m in
        let same = none_at u r live (Live p) n out h.0 in
        ((same None).0, subst (HoldersFit lists u r d) (sym (same None).1) (sent_away on x is (scope_after sc n) w.1 (subst (HoldersFit lists u r c) (same (Some (Live p))).1 h.1) mv))
    sent_away on x is sc w h (both m mv mw) = (sent_away on x is sc w.1 h.0 mv, sent_away on x is sc w.2 h.1 mw)
    sent_away on x is sc w h (unfolded {h = g} {k = k} {ps = ps} {ss = ss} {c = c} m mv) = sent_away on x is sc (bodies sc g k ps ss c m w) (owned_bodies sc u r (Some (Live p)) g k ps ss c m w h) mv

    -- once it is received, the receiver holds it
    pub gained : load_hands u r l ≡ true → (x : Event) → x ≡ Recv p s a b l → (sc : Scope) {c d : Choreography} {f : Effect} → IsWellFormed ks procs sc c → HoldersFit lists u r c None → Moves procs hosts vars sid c x f d → HoldersFit lists u r d (Some (Live p))
    gained on x is sc w h (head {n = n} {c = c} {d = d} {f = f} v z made) =
        let i = gets_here vars sid p s a b l v n c d x f is (headed vars sid v n c x f d made) in
        let fit : TransitFits sc s i.m (Live p) = subst (NodeFits ks sc) i.is w.0 in
        let carried : carries u r i.m ≡ true = sym (load_carries u r sc i.m fit.message) ∙ ap (load_hands u r) (sym i.load) ∙ on in
        subst (λ y. HoldersFit lists u r y (Some (Live p))) (sym i.left) (subst (λ y. HoldersFit lists u r c (if y then Some (Live p) else None)) carried (subst (λ y. HoldersFit lists u r c (holder_after u r y None)) i.is h.1))
    gained on x is sc w h (test {p = t} {x = g} {c = c} {c' = c'} {d = d} {f = f} made) = absurd (no_receipt t g c c' d x f (decided vars t g c c' x f d made) is)
    gained on x is sc w h (delay {n = n} {c = c} {d = d} m mv) =
        let after = free_now on x is (scope_after sc n) (holder_after u r n None) w.1 h.1 mv in
        let same = (free_at u r live n None h.0 after).1 in
        ((same (Some (Live p))).0, subst (HoldersFit lists u r d) (sym (same (Some (Live p))).1) (gained on x is (scope_after sc n) w.1 (subst (HoldersFit lists u r c) (same None).1 h.1) mv))
    gained on x is sc w h (both m mv mw) = (gained on x is sc w.1 h.0 mv, gained on x is sc w.2 h.1 mw)
    gained on x is sc w h (unfolded {h = g} {k = k} {ps = ps} {ss = ss} {c = c} m mv) = gained on x is sc (bodies sc g k ps ss c m w) (owned_bodies sc u r None g k ps ss c m w h) mv

  -- each role has the holder that the event leaves it
  pub owned_kept : (x : Event) → NotStart x → (sc : Scope) (o : Option Ref) {c d : Choreography} {f : Effect} → IsWellFormed ks procs sc c → HoldersFit lists u r c o → Moves procs hosts vars sid c x f d → HoldersFit lists u r d (holder_by u r x o)
  owned_kept (Start c s parts) ns sc o w h mv = absurd ns
  owned_kept (Send p s a b l) ns sc o {c = c} {d = d} w h mv = go (load_hands u r l) refl
    where
      go : (y : Bool) → load_hands u r l ≡ y → HoldersFit lists u r d (if y then None else o)
      go false e = unhanded (Send p s a b l) tt e sc o w h mv
      go true e =
          let now = sender_now (hands_live u r l e) p s a b l (right (is_role u r (Live s) a) e) (Send p s a b l) refl sc o w h mv in
          sent_away (hands_live u r l e) p s a b l e (Send p s a b l) refl sc w (subst (HoldersFit lists u r c) now h) mv
        where
          right : (y : Bool) → load_hands u r l ≡ true → (y || load_hands u r l) ≡ true
          right true i = refl
          right false i = i
  owned_kept (Recv p s a b l) ns sc o {c = c} {d = d} w h mv = go (load_hands u r l) refl
    where
      go : (y : Bool) → load_hands u r l ≡ y → HoldersFit lists u r d (if y then Some (Live p) else o)
      go false e = unhanded (Recv p s a b l) tt e sc o w h mv
      go true e =
          let now = free_now (hands_live u r l e) p s a b l e (Recv p s a b l) refl sc o w h mv in
          gained (hands_live u r l e) p s a b l e (Recv p s a b l) refl sc w (subst (HoldersFit lists u r c) now h) mv
  owned_kept (Test p t) ns sc o w h mv = unhanded (Test p t) tt refl sc o w h mv
  owned_kept (Set p y v) ns sc o w h mv = unhanded (Set p y v) tt refl sc o w h mv
  owned_kept (Show p v) ns sc o w h mv = unhanded (Show p v) tt refl sc o w h mv
  owned_kept (Host p y f v z t) ns sc o w h mv = unhanded (Host p y f v z t) tt refl sc o w h mv
