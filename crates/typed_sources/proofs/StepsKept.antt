-- A typed choreography stays typed by each step other than a start.
use Rattle.std.proofs.Common.{◌≡◌, ℕ, List, [], ◌∷◌, ◌++◌, length, refl, sym, ap, ◌∙◌, subst, Some, None, Option, Bool, true, false, ℤ, if◌then◌else◌}
use Rattle.chor_base.specs.declared.names.NameId.{NameId}
use Rattle.chor_base.specs.declared.value.Sort.{Sort}
use Rattle.chor_base.specs.declared.value.Value.{Value}
use Rattle.chor_base.specs.declared.value.Value.TheVariants.{Int, Bool as Truth, Text, Part}
use Rattle.chor_base.specs.declared.value.Load.{Load}
use Rattle.chor_base.specs.declared.value.Load.TheVariants.{Value as Carries, Label as Picks}
use Rattle.chor_base.specs.declared.event.Event.{Event}
use Rattle.chor_base.specs.declared.event.Event.TheVariants.{Start, Send, Recv, Test, Set, Show, Host}
use Rattle.chor_base.specs.Expr.{Term, value_of, number_of, truth_of}
use Rattle.chor_base.specs.NameMap.{Variables}
use Rattle.chor_base.specs.Meaning.{Hosts}
use Rattle.chor_base.specs.Events.{actors_of}
use Rattle.chor_base.specs.Sorts.{Sorts}
use Rattle.chor_base.specs.declared.value.Sort.TheVariants as sort
use Rattle.chor_tree.specs.declared.protocol.State.{State}
use Rattle.chor_semantics.specs.Choreography.{Ref, Live, Named, ref_eq, among, meets, named_in, Message, Sets, Shows, Asks, Node, Starts, Communicates, InTransit, Alone, Choreography, Then, put, numbers_for, number_for}
use Rattle.chor_semantics.specs.Sources.{Procedure}
use Rattle.chor_semantics.specs.Steps.{Effect, Keeps, Assigns, Made, Makes, Moves, head, test, delay, both, unfolded, head_makes, branch_makes, vars_of, message_of, load_of, receipt, sent, live_parts, begun, new_parts, procedure_named, body_of}
use Rattle.well_formed.proofs.References.{left_or, right_or}
use Rattle.typed_sources.specs.Context.{Context, Setting, NoSet, SetsSort, with_setting, put_sort, after, protocols_after, content_setting, message_setting, own_setting, told_value, told_load}
use Rattle.typed_sources.specs.Told.{sending, receiving}
use Rattle.typed_sources.specs.Typing.{HasSort, AtCalls, IsTypedIn}
use Rattle.typed_sources.specs.Changes.{changed, change_of, IsChangeBy}
use Rattle.typed_sources.proofs.SortedValues.{Agrees}
use Rattle.typed_sources.proofs.PastNodes.{setting_out, content_setting_at, message_setting_at, own_setting_at, past, not_service}
use Rattle.typed_sources.proofs.AtHead.{Kept, send_kept, recv_kept, set_kept, show_kept, host_kept, test_kept}

abbrev pub is_start : Event → Bool
is_start (Start c s parts) = true
is_start _ = false

-- ---- what an event changes doesn't depend on names

told_value_same : (k l : Ref → Option NameId) → ((j : ℕ) → k (Live j) ≡ l (Live j)) → (v : Value) → told_value k v ≡ told_value l v
told_value_same k l s (Int z) = refl
told_value_same k l s (Truth b) = refl
told_value_same k l s (Text t) = refl
told_value_same k l s (Part j r) = ap (λ o. told_value (λ u. o) (Part j r)) (s j)

told_load_same : (k l : Ref → Option NameId) → ((j : ℕ) → k (Live j) ≡ l (Live j)) → (v : Load) → told_load k v ≡ told_load l v
told_load_same k l s (Carries v) = told_value_same k l s v
told_load_same k l s (Picks x) = refl

pub change_same : (k l : Ref → Option NameId) → ((j : ℕ) → k (Live j) ≡ l (Live j)) → (x : Event) (f : Effect) → change_of k x f ≡ change_of l x f
change_same k l s (Start c n parts) f = refl
change_same k l s (Send p n a b v) f = ap (λ o. record (change_of k (Send p n a b v) f) { acts = λ t r. if ref_eq t (Live n) then sending a b o r else [] }) (told_load_same k l s v)
change_same k l s (Recv p n a b v) f = ap (λ o. record (change_of k (Recv p n a b v) f) { acts = λ t r. if ref_eq t (Live n) then receiving a b o r else [] }) (told_load_same k l s v)
change_same k l s (Test p b) f = refl
change_same k l s (Set p x v) f = refl
change_same k l s (Show p v) f = refl
change_same k l s (Host p x g a b v) f = refl

module _ (kind : NameId → Option NameId) where
  live_protocols : (n : Node) (k : Ref → Option NameId) (j : ℕ) → protocols_after kind n k (Live j) ≡ k (Live j)
  live_protocols (Starts c d s active serve) k j = refl
  live_protocols (Communicates s p a q b w) k j = refl
  live_protocols (InTransit s a b m q) k j = refl
  live_protocols (Alone p o) k j = refl

  -- a node that doesn't name p leaves its variables alone
  stays : (p : ℕ) (m : Ref → Sorts) (t : Ref) → ref_eq (Live p) t ≡ false → (s : Setting) → ((r : Ref) (x : NameId) (o : Option Sort) → s ≡ SetsSort r x o → r ≡ t) → with_setting s m (Live p) ≡ m (Live p)
  stays p m t out NoSet k = refl
  stays p m t out (SetsSort r x o) k = ap (λ b. if b then put_sort x o (m (Live p)) else m (Live p)) (ap (ref_eq (Live p)) (k r x o refl) ∙ out)

  sorts_stay : (p : ℕ) (e : Context) (n : Node) → among (Live p) (named_in n) ≡ false → (after kind e n).sorts (Live p) ≡ e.sorts (Live p)
  sorts_stay p e (Starts c d s active serve) out = ap (λ b. if b then (λ x. None) else e.sorts (Live p)) (not_service p d serve)
  sorts_stay p e (Communicates s q a t b w) out = stays p e.sorts t (left_or _ _ (right_or _ _ out)) (content_setting (e.sorts q) t w) (content_setting_at kind p (e.sorts q) t w)
  sorts_stay p e (InTransit s a b m t) out = stays p e.sorts t (left_or _ _ out) (message_setting t m) (message_setting_at kind p t m)
  sorts_stay p e (Alone q o) out = stays p e.sorts q (left_or _ _ out) (own_setting (e.sorts q) q o) (own_setting_at kind p (e.sorts q) q o)

  module _ (states : NameId → List State) (called : AtCalls) (procs : List Procedure) (hosts : Hosts) (vars : List Variables) (sid : ℕ)
      (bodies : (e : Context) (h : NameId) (k : ℕ) (ps ss : List Ref) (c : Choreography) → body_of (procedure_named procs h) k ps ss ≡ Some c → called e h k ps ss → IsTypedIn kind states called e c) where
    -- what is made is kept, whoever makes it
    abbrev MadeKept : Context → Made → Type 0
    MadeKept e (Makes x f d) = is_start x ≡ false → (p : ℕ) → actors_of x ≡ p ∷ [] → Agrees (vars_of vars p) (e.sorts (Live p)) → Kept kind states called e x f d p

    made_is : (a b : Made) → Some a ≡ Some b → a ≡ b
    made_is a b h = cc

    one_actor : (p q : ℕ) → ◌≡◌ {A = List ℕ} (p ∷ []) (q ∷ []) → p ≡ q
    one_actor p q h = cc

    -- for process q, where p is the one that acts
    as_actor : (e : Context) (x : Event) (f : Effect) (d : Choreography) (p : ℕ) → (Agrees (vars_of vars p) (e.sorts (Live p)) → Kept kind states called e x f d p)
        → (q : ℕ) → ◌≡◌ {A = List ℕ} (p ∷ []) (q ∷ []) → Agrees (vars_of vars q) (e.sorts (Live q)) → Kept kind states called e x f d q
    as_actor e x f d p k q h = subst (λ y. Agrees (vars_of vars y) (e.sorts (Live y)) → Kept kind states called e x f d y) (one_actor p q h) k

    head_kept : (e : Context) (n : Node) (c : Choreography) (v : ℤ) (m : Made) → IsTypedIn kind states called e (Then n c) → head_makes vars sid v n c ≡ Some m → MadeKept e m
    head_kept e (Communicates (Live s) (Live p) a q b w) c v m t h = go (message_of (vars_of vars p) w) refl h
      where
        go : (o : Option Message) → message_of (vars_of vars p) w ≡ o → sent s p a q b c o ≡ Some m → MadeKept e m
        go None i j = absurd cc
        go (Some y) i j = subst (MadeKept e) (made_is _ m j) (λ ns. as_actor e (Send p s a b (load_of y)) Keeps (Then (InTransit s a b y q) c) p (λ ag. send_kept kind states called e s p a b q w y c (vars_of vars p) ag t i))
    head_kept e (Communicates (Live s) (Named x d) a q b w) c v m t h = absurd cc
    head_kept e (Communicates (Named y d) p a q b w) c v m t h = absurd cc
    head_kept e (InTransit s a b y (Live p)) c v m t h = subst (MadeKept e) (made_is (Makes (Recv p s a b (load_of y)) (receipt p y) c) m h) (λ ns. as_actor e (Recv p s a b (load_of y)) (receipt p y) c p (λ ag. recv_kept kind states called e s p a b y c t))
    head_kept e (InTransit s a b y (Named x d)) c v m t h = absurd cc
    head_kept e (Alone (Live p) (Sets x g)) c v m t h = subst (MadeKept e) (made_is _ m h) (λ ns. as_actor e (Set p x (value_of g (vars_of vars p))) (Assigns p x (value_of g (vars_of vars p))) c p (λ ag. set_kept kind states called e p x g c (vars_of vars p) ag t))
    head_kept e (Alone (Live p) (Shows g)) c v m t h = subst (MadeKept e) (made_is _ m h) (λ ns. as_actor e (Show p (value_of g (vars_of vars p))) Keeps c p (λ ag. show_kept kind states called e p g (value_of g (vars_of vars p)) c t))
    head_kept e (Alone (Live p) (Asks x g a b)) c v m t h = subst (MadeKept e) (made_is _ m h) (λ ns. as_actor e (Host p x g (number_of (value_of a (vars_of vars p))) (number_of (value_of b (vars_of vars p))) v) (Assigns p x (Int v)) c p (λ ag. host_kept kind states called e p x g a b (number_of (value_of a (vars_of vars p))) (number_of (value_of b (vars_of vars p))) v c t))
    head_kept e (Alone (Named x d) o) c v m t h = absurd cc
    head_kept e (Starts ch d k active serve) c v m t h = go (live_parts active) h
      where
        go : (o : Option (List (NameId × ℕ))) → begun ch d k serve c sid (length vars) o ≡ Some m → MadeKept e m
        go None j = absurd cc
        go (Some []) j = absurd cc
        go (Some (q ∷ ps)) j = subst (MadeKept e) (made_is (Makes (Start ch sid (q ∷ (ps ++ new_parts serve (length vars)))) Keeps (put (numbers_for d serve (length vars)) (number_for k d sid) c)) m j) (λ ns. absurd cc)

    branch_kept : (e : Context) (r : Ref) (g : Term) (c d : Choreography) (m : Made) → e.known r ≡ true → IsTypedIn kind states called e c → IsTypedIn kind states called e d → branch_makes vars r g c d ≡ Some m → MadeKept e m
    branch_kept e (Named x k) g c d m n t u h = absurd cc
    branch_kept e (Live p) g c d m n t u h =
        let b = truth_of (value_of g (vars_of vars p)) in
        subst (MadeKept e) (made_is _ m h) (λ ns. as_actor e (Test p b) Keeps (if b then c else d) p (λ ag. test_kept kind states called e p b (if b then c else d) n (go b)))
      where
        go : (b : Bool) → IsTypedIn kind states called e (if b then c else d)
        go true = t
        go false = u

    -- Each step of one process keeps a choreography typed, and changes what that process holds alone
    pub kept : (e : Context) {c d : Choreography} {x : Event} {f : Effect} → Moves procs hosts vars sid c x f d → is_start x ≡ false → (p : ℕ) → actors_of x ≡ p ∷ []
        → Agrees (vars_of vars p) (e.sorts (Live p)) → IsTypedIn kind states called e c → Kept kind states called e x f d p
    kept e (head {n = n} {c = c} {d = d} {e = x} {f = f} v a h) ns p act ag t = head_kept e n c v (Makes x f d) t h ns p act ag
    kept e (test {p = r} {x = g} {c = c} {c' = c'} {d = d} {e = x} {f = f} h) ns p act ag t = branch_kept e r g c c' (Makes x f d) t.0 t.2 t.3 h ns p act ag
    kept e (delay {n = n} {d = d} {e = x} {f = f} g m) ns p act ag t =
        let out : among (Live p) (named_in n) ≡ false = left_or _ _ (subst (λ l. meets l (named_in n) ≡ false) act g) in
        let next = after kind e n in
        let i = kept next m ns p act (subst (Agrees (vars_of vars p)) (sym (sorts_stay p e n out)) ag) t.2 in
        let same = change_same next.protocol e.protocol (live_protocols n e.protocol) x f in
        let w = past kind p e n (change_of e.protocol x f) out t.1 (subst (IsChangeBy p next) same i.0) in
        (w.by, (t.0, w.fits, subst (λ y. IsTypedIn kind states called y d) (sym w.same) (subst (λ y. IsTypedIn kind states called (changed next y) d) same i.1)))
    kept e (both {p = r} {x = g} {e = x} {f = f} h m n) ns p act ag t =
        let out : ref_eq (Live p) r ≡ false = left_or _ _ (left_or _ _ (subst (λ l. meets l (r ∷ []) ≡ false) act h)) in
        let i = kept e m ns p act ag t.2 in
        let j = kept e n ns p act ag t.3 in
        (i.0, (t.0, subst (λ y. HasSort y g sort.Bool) (sym (setting_out p (change_of e.protocol x f).setting e.sorts i.0.setting r out)) t.1, i.1, j.1))
    kept e (unfolded {h = h} {k = k} {ps = ps} {ss = ss} {c = c} b m) ns p act ag t = kept e m ns p act ag (bodies e h k ps ss c b t)
