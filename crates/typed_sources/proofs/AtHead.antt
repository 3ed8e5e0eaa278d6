-- What the node at the head makes, in a typed choreography.
use Rattle.std.proofs.Common.{◌≡◌, ℕ, List, [], ◌++◌, refl, sym, ap, ◌∙◌, subst, Some, None, Option, Bool, true, false, ◌==◌, ◌&&◌, ◌⊎◌, inl, inr, append_assoc, ℤ, if◌then◌else◌}
use Rattle.chor_base.specs.declared.names.NameId.{NameId}
use Rattle.chor_base.specs.declared.value.Sort.{Sort}
use Rattle.chor_base.specs.declared.value.Value.{Value}
use Rattle.chor_base.specs.declared.value.Value.TheVariants.{Int, Bool as Truth, Text, Part}
use Rattle.chor_base.specs.declared.event.Event.{Event}
use Rattle.chor_base.specs.declared.event.Event.TheVariants.{Send, Recv, Test, Set, Show, Host}
use Rattle.chor_base.specs.Expr.{Term, value_of}
use Rattle.chor_base.specs.NameMap.{Variables}
use Rattle.chor_base.specs.Sorts.{sort_of, sort_of_value}
use Rattle.chor_tree.specs.declared.protocol.State.{State}
use Rattle.chor_semantics.specs.Choreography.{Ref, Live, Named, ref_eq, Content, OfValue, OfLabel, OfPart, Message, ValueSent, LabelSent, PartSent, Sets, Shows, Asks, Communicates, InTransit, Alone, Choreography, Then}
use Rattle.chor_semantics.specs.Steps.{Effect, Keeps, Assigns, message_of, load_of, receipt}
use Rattle.well_formed.specs.Holders.{is_role}
use Rattle.well_formed.proofs.References.{true_eq, self_ref, same_ref, same_name}
use Rattle.typed_sources.specs.Told.{Act, sending, receiving, put_to, got_from}
use Rattle.typed_sources.specs.Context.{Context, Hand, NoHand, Hands, handed, SetsSort, with_setting, content_hand, message_hand, content_setting, message_setting, after, told_content, told_load, told_value, told_sort, sort_in}
use Rattle.typed_sources.specs.Typing.{HasSort, HasProtocol, IsTypedContent, IsTypedMessage, AtCalls, IsTypedIn}
use Rattle.typed_sources.specs.Changes.{Change, changed, change_of, effect_setting, load_hand, value_hand, IsHandBy, IsSettingBy, AreActsBy, IsChangeBy}
use Rattle.typed_sources.proofs.SortedValues.{Agrees, value_sorted}
use Rattle.typed_sources.proofs.PastNodes.{Holders, still_held, same_context}
use Rattle.typed_sources.proofs.Small.{append_nil}

-- a value of a sort is no endpoint
pub no_hand : (o : Option Ref) (v : Value) (s : Sort) → sort_of_value v ≡ Some s → value_hand o v ≡ NoHand
no_hand o (Int z) s h = refl
no_hand o (Truth b) s h = refl
no_hand o (Text t) s h = refl
no_hand o (Part j r) s h = absurd cc

told_of_sort : (pr : Ref → Option NameId) (v : Value) (s : Sort) → sort_of_value v ≡ Some s → told_value pr v ≡ told_sort (Some s)
told_of_sort pr (Int z) s h = ap told_sort h
told_of_sort pr (Truth b) s h = ap told_sort h
told_of_sort pr (Text t) s h = ap told_sort h
told_of_sort pr (Part j r) s h = absurd cc

again : (u : Ref) (r : NameId) (o z : Option Ref) (h : Holders) → handed (Hands u r o) (handed (Hands u r z) h) ≡ handed (Hands u r o) h
again u r o z h = λ i s a. go s a (is_role s a u r) i
  where
    go : (s : Ref) (a : NameId) (x : Bool) → (if x then o else (if x then z else h s a)) ≡ (if x then o else h s a)
    go s a true = refl
    go s a false = refl

role_self : (u : Ref) (r : NameId) → is_role u r u r ≡ true
role_self u r = ap (λ x. x && (r.0 == r.0)) (self_ref u) ∙ true_eq r.0

-- what becomes of a content that is sent
pub record Sent (e : Context) (p : ℕ) (q : Ref) (w : Content) (m : Message) : Type 0 where
  pub told : told_load e.protocol (load_of m) ≡ told_content e.protocol (e.sorts (Live p)) w
  pub hand : IsHandBy p e.holder (load_hand None (load_of m))
  pub none : (j : ℕ) (r : NameId) → m ≡ PartSent j r → handed (load_hand None (load_of m)) e.holder (Live j) r ≡ None
  pub sorted : (v : Value) (x : NameId) → m ≡ ValueSent v x → (s : Sort) × (sort_of_value v ≡ Some s)
  pub known : (j : ℕ) (r : NameId) → m ≡ PartSent j r → HasProtocol (e.protocol (Live j))
  pub gains : (j : ℕ) (r : NameId) (o : Option Ref) → load_hand None (load_of m) ≡ Hands (Live j) r o → HasProtocol (e.protocol (Live j)) × ((o ≡ None) ⊎ (o ≡ Some (Live p)))
  pub holders : handed (message_hand q m) (handed (load_hand None (load_of m)) e.holder) ≡ handed (content_hand q w) e.holder
  pub settings : message_setting q m ≡ content_setting (e.sorts (Live p)) q w

message_is : (a b : Message) → Some a ≡ Some b → a ≡ b
message_is a b h = cc

sent_value : (e : Context) (p : ℕ) (q : Ref) (g : Term) (x : NameId) (s : Sort) (v : Value) → HasSort (e.sorts (Live p)) g s → sort_of_value v ≡ Some s → Sent e p q (OfValue g x) (ValueSent v x)
sent_value e p q g x s v k h =
    let none = no_hand None v s h in
    let is : sort_in (sort_of g (e.sorts (Live p))) ≡ Some s = ap sort_in k in
    record {
      told = told_of_sort e.protocol v s h ∙ ap told_sort (sym is);
      hand = subst (IsHandBy p e.holder) (sym none) tt;
      none = λ j r i. absurd cc;
      sorted = λ u y i. (s, (let same : v ≡ u = cc in subst (λ t. sort_of_value t ≡ Some s) same h));
      known = λ j r i. absurd cc;
      gains = λ j r o i. absurd (clash (value_hand None v) none i);
      holders = ap (λ t. handed t e.holder) none;
      settings = ap (λ o. SetsSort q x o) (h ∙ sym is);
    }
  where
    clash : (c : Hand) → c ≡ NoHand → {u : Ref} {r : NameId} {o : Option Ref} → c ≡ Hands u r o → ⊥
    clash c i j = cc

sent_label : (e : Context) (p : ℕ) (q : Ref) (l : NameId) → Sent e p q (OfLabel l) (LabelSent l)
sent_label e p q l = record { told = refl; hand = tt; none = λ j r i. absurd cc; sorted = λ u y i. absurd cc; known = λ j r i. absurd cc; gains = λ j r o i. absurd cc; holders = refl; settings = refl }

sent_part : (e : Context) (p : ℕ) (q : Ref) (j : ℕ) (r : NameId) → e.holder (Live j) r ≡ Some (Live p) → HasProtocol (e.protocol (Live j)) → Sent e p q (OfPart (Live j) r) (PartSent j r)
sent_part e p q j r k n = record {
  told = refl;
  hand = inl k;
  none = λ i c same. let a : j ≡ i = cc in let b : r ≡ c = cc in
      subst (λ t. handed (Hands (Live j) r None) e.holder (Live t) c ≡ None) a (subst (λ t. handed (Hands (Live j) r None) e.holder (Live j) t ≡ None) b (ap (λ x. if x then None else e.holder (Live j) r) (role_self (Live j) r)));
  sorted = λ u y i. absurd cc;
  known = λ i c same. let a : j ≡ i = cc in subst (λ t. HasProtocol (e.protocol (Live t))) a n;
  gains = λ i c o same. let a : j ≡ i = cc in (subst (λ t. HasProtocol (e.protocol (Live t))) a n, inl cc);
  holders = again (Live j) r (Some q) None e.holder;
  settings = refl;
}

pub is_sent : (e : Context) (p : ℕ) (q : Ref) (w : Content) (m : Message) (vs : Variables) → Agrees vs (e.sorts (Live p)) → IsTypedContent e (Live p) w → message_of vs w ≡ Some m → Sent e p q w m
is_sent e p q (OfValue g x) m vs ag f h = subst (Sent e p q (OfValue g x)) (message_is (ValueSent (value_of g vs) x) m h) (sent_value e p q g x f.0 (value_of g vs) f.1 (value_sorted vs (e.sorts (Live p)) ag g f.0 f.1))
is_sent e p q (OfLabel l) m vs ag f h = subst (Sent e p q (OfLabel l)) (message_is (LabelSent l) m h) (sent_label e p q l)
is_sent e p q (OfPart (Live j) r) m vs ag f h = subst (Sent e p q (OfPart (Live j) r)) (message_is (PartSent j r) m h) (sent_part e p q j r f.0 f.1)
is_sent e p q (OfPart (Named x d) r) m vs ag f h = absurd cc

acts_by : (p : ℕ) (h : Holders) (s : ℕ) (a : NameId) (l : List Act) → h (Live s) a ≡ Some (Live p) → AreActsBy p h (λ t r. if ref_eq t (Live s) then (if a.0 == r.0 then l else []) else [])
acts_by p h s a l k = record { named = λ x d r. refl; live = λ n r. go n r (ref_eq (Live n) (Live s)) (a.0 == r.0) refl refl }
  where
    go : (n : ℕ) (r : NameId) (x y : Bool) → ref_eq (Live n) (Live s) ≡ x → (a.0 == r.0) ≡ y → ((if x then (if y then l else []) else []) ≡ []) ⊎ (h (Live n) r ≡ Some (Live p))
    go n r false y i j = inl refl
    go n r true false i j = inl refl
    go n r true true i j = inr (subst (λ u. h u r ≡ Some (Live p)) (sym (same_ref (Live n) (Live s) i)) (subst (λ u. h (Live s) u ≡ Some (Live p)) (same_name a r j) k))

module _ (kind : NameId → Option NameId) where
  after_sent : (e : Context) (s p : ℕ) (a b : NameId) (q : Ref) (w : Content) (m : Message) → Sent e p q w m
      → after kind (changed e (change_of e.protocol (Send p s a b (load_of m)) Keeps)) (InTransit s a b m q) ≡ after kind e (Communicates (Live s) (Live p) a q b w)
  after_sent e s p a b q w m k = same_context _ _ refl (λ i t r. done t r i) k.holders (ap (λ x. with_setting x e.sorts) k.settings) refl
    where
      split : (xs ys zs : List Act) (x : Bool) → (xs ++ (if x then ys else [])) ++ (if x then zs else []) ≡ xs ++ (if x then ys ++ zs else [])
      split xs ys zs true = append_assoc xs ys zs
      split xs ys zs false = append_nil (xs ++ [])

      done : (t : Ref) (r : NameId) → (e.done t r ++ (if ref_eq t (Live s) then sending a b (told_load e.protocol (load_of m)) r else [])) ++ (if ref_eq t (Live s) then receiving a b (told_load e.protocol (load_of m)) r else [])
          ≡ e.done t r ++ (if ref_eq t (Live s) then sending a b (told_content e.protocol (e.sorts (Live p)) w) r ++ receiving a b (told_content e.protocol (e.sorts (Live p)) w) r else [])
      done t r = ap (λ o. (e.done t r ++ (if ref_eq t (Live s) then sending a b o r else [])) ++ (if ref_eq t (Live s) then receiving a b o r else [])) k.told
          ∙ split (e.done t r) _ _ (ref_eq t (Live s))

  -- ---- the message that is sent fits

  pub message_fits : (e : Context) (p : ℕ) (q : Ref) (w : Content) (m : Message) (c : Change) → c.hand ≡ load_hand None (load_of m) → Sent e p q w m → IsTypedMessage (changed e c) m
  message_fits e p q w (ValueSent v x) c h k = k.sorted v x refl
  message_fits e p q w (LabelSent l) c h k = tt
  message_fits e p q w (PartSent j r) c h k = (ap (λ t. handed t e.holder (Live j) r) h ∙ k.none j r refl, k.known j r refl)

  module _ (states : NameId → List State) (called : AtCalls) where
    -- what is asked of a step of process p
    abbrev pub Kept : Context → Event → Effect → Choreography → ℕ → Type 0
    Kept e x f d p = IsChangeBy p e (change_of e.protocol x f) × IsTypedIn kind states called (changed e (change_of e.protocol x f)) d

    pub send_kept : (e : Context) (s p : ℕ) (a b : NameId) (q : Ref) (w : Content) (m : Message) (rest : Choreography) (vs : Variables) → Agrees vs (e.sorts (Live p))
        → IsTypedIn kind states called e (Then (Communicates (Live s) (Live p) a q b w) rest) → message_of vs w ≡ Some m
        → Kept e (Send p s a b (load_of m)) Keeps (Then (InTransit s a b m q) rest) p
    send_kept e s p a b q w m rest vs ag (n, f, t) h =
        let k = is_sent e p q w m vs ag f.3 h in
        let c = change_of e.protocol (Send p s a b (load_of m)) Keeps in
        let acts : AreActsBy p e.holder c.acts = acts_by p e.holder s a (put_to b (told_load e.protocol (load_of m))) f.0 in (
          record { acts = acts; hand = k.hand; setting = tt; known = n.0; gains = k.gains },
          (
            (n.1.0, tt),
            (still_held p c.hand e.holder k.hand (Live s) b q f.2 f.1, message_fits e p q w m c refl k),
            subst (λ x. IsTypedIn kind states called x rest) (sym (after_sent e s p a b q w m k)) t,
          ),
        )

    received_hand : (e : Context) (p : ℕ) (m : Message) → IsTypedMessage e m → handed (load_hand (Some (Live p)) (load_of m)) e.holder ≡ handed (message_hand (Live p) m) e.holder
    received_hand e p (ValueSent v x) f = ap (λ t. handed t e.holder) (no_hand (Some (Live p)) v f.0 f.1)
    received_hand e p (LabelSent l) f = refl
    received_hand e p (PartSent j r) f = refl

    received_by : (e : Context) (p : ℕ) (m : Message) → IsTypedMessage e m → IsHandBy p e.holder (load_hand (Some (Live p)) (load_of m))
    received_by e p (ValueSent v x) f = subst (IsHandBy p e.holder) (sym (no_hand (Some (Live p)) v f.0 f.1)) tt
    received_by e p (LabelSent l) f = tt
    received_by e p (PartSent j r) f = inr f.0

    received_gains : (e : Context) (p : ℕ) (m : Message) → IsTypedMessage e m → (j : ℕ) (r : NameId) (o : Option Ref) → load_hand (Some (Live p)) (load_of m) ≡ Hands (Live j) r o → HasProtocol (e.protocol (Live j)) × ((o ≡ None) ⊎ (o ≡ Some (Live p)))
    received_gains e p (ValueSent v x) f j r o i = absurd (clash (value_hand (Some (Live p)) v) (no_hand (Some (Live p)) v f.0 f.1) i)
      where
        clash : (c : Hand) → c ≡ NoHand → c ≡ Hands (Live j) r o → ⊥
        clash c a b = cc
    received_gains e p (LabelSent l) f j r o i = absurd cc
    received_gains e p (PartSent k c) f j r o i = let a : k ≡ j = cc in (subst (λ t. HasProtocol (e.protocol (Live t))) a f.1, inr cc)

    receipt_setting : (p : ℕ) (m : Message) → effect_setting (receipt p m) ≡ message_setting (Live p) m
    receipt_setting p (ValueSent v x) = refl
    receipt_setting p (LabelSent l) = refl
    receipt_setting p (PartSent j r) = refl

    setting_by : (p : ℕ) (m : Message) → IsSettingBy p (effect_setting (receipt p m))
    setting_by p (ValueSent v x) = refl
    setting_by p (LabelSent l) = tt
    setting_by p (PartSent j r) = tt

    pub recv_kept : (e : Context) (s p : ℕ) (a b : NameId) (m : Message) (rest : Choreography)
        → IsTypedIn kind states called e (Then (InTransit s a b m (Live p)) rest)
        → Kept e (Recv p s a b (load_of m)) (receipt p m) rest p
    recv_kept e s p a b m rest (n, f, t) =
        let same : changed e (change_of e.protocol (Recv p s a b (load_of m)) (receipt p m)) ≡ after kind e (InTransit s a b m (Live p)) =
        same_context _ _ refl refl (received_hand e p m f.1) (ap (λ x. with_setting x e.sorts) (receipt_setting p m)) refl in (
          record { acts = acts_by p e.holder s b (got_from a (told_load e.protocol (load_of m))) f.0; hand = received_by e p m f.1; setting = setting_by p m; known = n.0; gains = received_gains e p m f.1 },
          subst (λ x. IsTypedIn kind states called x rest) (sym same) t,
        )

    no_acts : (p : ℕ) (h : Holders) → AreActsBy p h (λ t r. [])
    no_acts p h = record { named = λ x d r. refl; live = λ n r. inl refl }

    pub set_kept : (e : Context) (p : ℕ) (x : NameId) (g : Term) (rest : Choreography) (vs : Variables) → Agrees vs (e.sorts (Live p))
        → IsTypedIn kind states called e (Then (Alone (Live p) (Sets x g)) rest)
        → Kept e (Set p x (value_of g vs)) (Assigns p x (value_of g vs)) rest p
    set_kept e p x g rest vs ag (n, f, t) =
        let same : SetsSort (Live p) x (sort_of_value (value_of g vs)) ≡ SetsSort (Live p) x (sort_in (sort_of g (e.sorts (Live p)))) =
        ap (λ o. SetsSort (Live p) x o) (value_sorted vs (e.sorts (Live p)) ag g f.0 f.1 ∙ ap sort_in (sym f.1)) in (
          record { acts = no_acts p e.holder; hand = tt; setting = refl; known = n.0; gains = λ j r o i. absurd cc },
          subst (λ y. IsTypedIn kind states called y rest) (same_context _ _ refl (λ i u r. sym (append_nil (e.done u r)) i) refl (ap (λ y. with_setting y e.sorts) (sym same)) refl) t,
        )

    pub show_kept : (e : Context) (p : ℕ) (g : Term) (v : Value) (rest : Choreography)
        → IsTypedIn kind states called e (Then (Alone (Live p) (Shows g)) rest) → Kept e (Show p v) Keeps rest p
    show_kept e p g v rest (n, f, t) = (
      record { acts = no_acts p e.holder; hand = tt; setting = tt; known = n.0; gains = λ j r o i. absurd cc },
      subst (λ y. IsTypedIn kind states called y rest) (same_context _ _ refl (λ i u r. sym (append_nil (e.done u r)) i) refl refl refl) t,
    )

    pub host_kept : (e : Context) (p : ℕ) (x g : NameId) (a b : Term) (y z v : ℤ) (rest : Choreography)
        → IsTypedIn kind states called e (Then (Alone (Live p) (Asks x g a b)) rest) → Kept e (Host p x g y z v) (Assigns p x (Int v)) rest p
    host_kept e p x g a b y z v rest (n, f, t) = (
      record { acts = no_acts p e.holder; hand = tt; setting = refl; known = n.0; gains = λ j r o i. absurd cc },
      subst (λ y. IsTypedIn kind states called y rest) (same_context _ _ refl (λ i u r. sym (append_nil (e.done u r)) i) refl refl refl) t,
    )

    pub test_kept : (e : Context) (p : ℕ) (b : Bool) (c : Choreography) → e.known (Live p) ≡ true → IsTypedIn kind states called e c → Kept e (Test p b) Keeps c p
    test_kept e p b c n t = (
      record { acts = no_acts p e.holder; hand = tt; setting = tt; known = n; gains = λ j r o i. absurd cc },
      subst (λ y. IsTypedIn kind states called y c) (same_context _ _ refl (λ i u r. sym (append_nil (e.done u r)) i) refl refl refl) t,
    )
