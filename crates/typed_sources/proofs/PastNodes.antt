-- What one process changes and a node that doesn't name it: the order doesn't matter.
use Rattle.std.proofs.Common.{◌≡◌, ℕ, List, [], ◌∷◌, ◌++◌, refl, sym, ap, ◌∙◌, subst, Some, None, Option, Bool, true, false, ◌==◌, ◌&&◌, ◌||◌, ◌⊎◌, inl, inr, if◌then◌else◌}
use Rattle.std.proofs.lemmas.Bool.{and_parts}
use Rattle.chor_base.specs.declared.names.NameId.{NameId}
use Rattle.chor_base.specs.declared.value.Sort.{Sort}
use Rattle.chor_base.specs.Sorts.{Sorts}
use Rattle.chor_semantics.specs.Choreography.{Ref, Live, Named, ref_eq, among, named_in, Content, OfValue, OfLabel, OfPart, Message, ValueSent, LabelSent, PartSent, Own, Sets, Shows, Asks, Node, Starts, Communicates, InTransit, Alone}
use Rattle.chor_semantics.specs.Steps.{load_of}
use Rattle.well_formed.specs.Holders.{is_role, as_parts}
use Rattle.well_formed.specs.WellFormed.{service_refs}
use Rattle.well_formed.proofs.References.{self_ref, same_ref, same_name, true_eq, left_or, right_or}
use Rattle.typed_sources.specs.Told.{Told, Act, sending, receiving, put_to, got_from}
use Rattle.typed_sources.specs.Context.{Context, Hand, NoHand, Hands, handed, Setting, NoSet, SetsSort, put_sort, with_setting, opened, content_hand, message_hand, content_setting, message_setting, own_setting, unset, after, told_content, told_load}
use Rattle.typed_sources.specs.Typing.{HasSort, IsTypedContent, IsTypedMessage, IsTypedOwn, IsTypedNode}
use Rattle.typed_sources.specs.Changes.{Change, changed, IsHandBy, IsSettingBy, AreActsBy, IsChangeBy}
use Rattle.typed_sources.proofs.Small.{append_nil}

abbrev pub Holders : Type 0
Holders = Ref → NameId → Option Ref

-- ---- references

pub role_same : (u : Ref) (r : NameId) (s : Ref) (a : NameId) → is_role s a u r ≡ true → (s ≡ u) × (a ≡ r)
role_same u r s a h = let b = and_parts _ _ h in (same_ref s u b.0, same_name a r b.1)

-- who isn't named isn't the holder that is
pub other : (p : ℕ) (q : Ref) (o : Option Ref) → ref_eq (Live p) q ≡ false → o ≡ Some q → o ≡ Some (Live p) → ⊥
other p q o out e k = let f : q ≡ Live p = same (sym e ∙ k) in let t : ref_eq (Live p) q ≡ true = ap (ref_eq (Live p)) f ∙ self_ref (Live p) in cc
  where
    same : ◌≡◌ {A = Option Ref} (Some q) (Some (Live p)) → q ≡ Live p
    same i = cc

pub nobody : (q : Ref) (o : Option Ref) → o ≡ Some q → o ≡ None → ⊥
nobody q o e k = absurd cc

-- ---- holders

-- who holds a role that somebody else hands over to q
pub held_before : (p : ℕ) (q u : Ref) (r : NameId) (h : Holders) → ref_eq (Live p) q ≡ false → (s : Ref) (a : NameId) → handed (Hands u r (Some q)) h s a ≡ Some (Live p) → h s a ≡ Some (Live p)
held_before p q u r h out s a k = go (is_role s a u r) k
  where
    go : (b : Bool) → (if b then Some q else h s a) ≡ Some (Live p) → h s a ≡ Some (Live p)
    go true i = absurd (other p q (Some q) out refl i)
    go false i = i

pub none_before : (q u : Ref) (r : NameId) (h : Holders) → (s : Ref) (a : NameId) → handed (Hands u r (Some q)) h s a ≡ None → h s a ≡ None
none_before q u r h s a k = go (is_role s a u r) k
  where
    go : (b : Bool) → (if b then Some q else h s a) ≡ None → h s a ≡ None
    go true i = absurd cc
    go false i = i

-- what p hands over, or gains, leaves another's role
pub still_held : (p : ℕ) (c : Hand) (h : Holders) → IsHandBy p h c → (s : Ref) (a : NameId) (q : Ref) → ref_eq (Live p) q ≡ false → h s a ≡ Some q → handed c h s a ≡ Some q
still_held p NoHand h b s a q out k = k
still_held p (Hands (Named x d) r o) h b s a q out k = elim b [ ]
still_held p (Hands (Live n) r o) h b s a q out k = go (is_role s a (Live n) r) refl
  where
    clash : s ≡ Live n → a ≡ r → ⊥
    clash i j =
        let l : h (Live n) r ≡ Some q = subst (λ t. h t r ≡ Some q) i (subst (λ t. h s t ≡ Some q) j k) in
        elim b [ inl e ↦ other p q _ out l e | inr e ↦ nobody q _ l e ]

    go : (x : Bool) → is_role s a (Live n) r ≡ x → (if x then o else h s a) ≡ Some q
    go false i = k
    go true i = let w = role_same (Live n) r s a i in absurd (clash w.0 w.1)

-- two hands on different roles
pub hands_apart : (u : Ref) (r : NameId) (o : Option Ref) (v : Ref) (c : NameId) (l : Option Ref) (h : Holders) → (is_role v c u r ≡ true → ⊥)
    → handed (Hands u r o) (handed (Hands v c l) h) ≡ handed (Hands v c l) (handed (Hands u r o) h)
hands_apart u r o v c l h apart = λ i s a. go s a (is_role s a u r) (is_role s a v c) refl refl i
  where
    go : (s : Ref) (a : NameId) (x y : Bool) → is_role s a u r ≡ x → is_role s a v c ≡ y → (if x then o else (if y then l else h s a)) ≡ (if y then l else (if x then o else h s a))
    go s a true false i j = refl
    go s a false true i j = refl
    go s a false false i j = refl
    go s a true true i j =
        let w = role_same v c s a j in
        absurd (apart (subst (λ t. is_role t c u r ≡ true) w.0 (subst (λ t. is_role s t u r ≡ true) w.1 i)))

pub hands_swap : (p : ℕ) (c : Hand) (h : Holders) → IsHandBy p h c → (u : Ref) (r : NameId) (q : Ref) (z : Option Ref) → h u r ≡ z → (z ≡ Some (Live p) → ⊥) → (IsHandBy p (handed (Hands u r (Some q)) h) c) → ref_eq (Live p) q ≡ false
    → handed (Hands u r (Some q)) (handed c h) ≡ handed c (handed (Hands u r (Some q)) h)
hands_swap p NoHand h b u r q z e k b' out = refl
hands_swap p (Hands (Named x d) v o) h b u r q z e k b' out = elim b [ ]
hands_swap p (Hands (Live n) v o) h b u r q z e k b' out = hands_apart u r (Some q) (Live n) v o h clash
  where
    -- after the node the role is q's
    clash : is_role (Live n) v u r ≡ true → ⊥
    clash i =
        let now : handed (Hands u r (Some q)) h (Live n) v ≡ Some q = ap (λ t. if t then Some q else h (Live n) v) i in
        elim b' [ inl j ↦ other p q _ out now j | inr j ↦ nobody q _ now j ]

-- a session that a name stands for, and one that is live
pub opened_swap : (p : ℕ) (c : Hand) (h : Holders) → IsHandBy p h c → (k d : ℕ) (parts : List (Ref × NameId)) → opened (Named k d) parts (handed c h) ≡ handed c (opened (Named k d) parts h)
opened_swap p NoHand h b k d parts = refl
opened_swap p (Hands (Named x e) v o) h b k d parts = elim b [ ]
opened_swap p (Hands (Live n) v o) h b k d parts = λ i s a. go s a i
  where
    go : (s : Ref) (a : NameId) → opened (Named k d) parts (handed (Hands (Live n) v o) h) s a ≡ handed (Hands (Live n) v o) (opened (Named k d) parts h) s a
    go (Live m) a = refl
    go (Named x e) a = refl

-- ---- sorts

pub setting_out : (p : ℕ) (c : Setting) (m : Ref → Sorts) → IsSettingBy p c → (q : Ref) → ref_eq (Live p) q ≡ false → with_setting c m q ≡ m q
setting_out p NoSet m b q out = refl
setting_out p (SetsSort r x o) m b q out = go (ref_eq q r) refl
  where
    go : (y : Bool) → ref_eq q r ≡ y → (if y then put_sort x o (m q) else m q) ≡ m q
    go false i = refl
    go true i =
        let s : q ≡ Live p = same_ref q r i ∙ b in
        let t : ref_eq (Live p) q ≡ true = ap (ref_eq (Live p)) s ∙ self_ref (Live p) in absurd cc

pub settings_swap : (p : ℕ) (c : Setting) (m : Ref → Sorts) → IsSettingBy p c → (q : Ref) (x : NameId) (o : Option Sort) → ref_eq (Live p) q ≡ false
    → with_setting (SetsSort q x o) (with_setting c m) ≡ with_setting c (with_setting (SetsSort q x o) m)
settings_swap p NoSet m b q x o out = refl
settings_swap p (SetsSort r y l) m b q x o out = λ i z. go z (ref_eq z q) (ref_eq z r) refl refl i
  where
    go : (z : Ref) (f g : Bool) → ref_eq z q ≡ f → ref_eq z r ≡ g
        → (if f then put_sort x o (if g then put_sort y l (m z) else m z) else (if g then put_sort y l (m z) else m z))
        ≡ (if g then put_sort y l (if f then put_sort x o (m z) else m z) else (if f then put_sort x o (m z) else m z))
    go z true false i j = refl
    go z false true i j = refl
    go z false false i j = refl
    go z true true i j =
        let s : q ≡ Live p = sym (same_ref z q i) ∙ same_ref z r j ∙ b in
        let t : ref_eq (Live p) q ≡ true = ap (ref_eq (Live p)) s ∙ self_ref (Live p) in absurd cc

pub not_service : (p d : ℕ) (serve : List (ℕ × NameId)) → among (Live p) (service_refs d serve) ≡ false
not_service p d [] = refl
not_service p d (s ∷ ss) = not_service p d ss

pub unset_swap : (p : ℕ) (c : Setting) (m : Ref → Sorts) → IsSettingBy p c → (d : ℕ) (serve : List (ℕ × NameId)) → unset (service_refs d serve) (with_setting c m) ≡ with_setting c (unset (service_refs d serve) m)
unset_swap p NoSet m b d serve = refl
unset_swap p (SetsSort q x o) m b d serve = λ i z. go z (among z (service_refs d serve)) (ref_eq z q) refl refl i
  where
    go : (z : Ref) (f g : Bool) → among z (service_refs d serve) ≡ f → ref_eq z q ≡ g
        → (if f then (λ y. None) else (if g then put_sort x o (m z) else m z)) ≡ (if g then put_sort x o (if f then (λ y. None) else m z) else (if f then (λ y. None) else m z))
    go z false g i j = refl
    go z true false i j = refl
    go z true true i j =
        let s : z ≡ Live p = same_ref z q j ∙ b in
        let t : among (Live p) (service_refs d serve) ≡ true = subst (λ y. among y (service_refs d serve) ≡ true) s i in
        let u = not_service p d serve in absurd cc

-- ---- acts

-- of two parts one is empty
pub swap_ends : {A : Type 0} (xs ys zs : List A) → (ys ≡ []) ⊎ (zs ≡ []) → (xs ++ ys) ++ zs ≡ (xs ++ zs) ++ ys
swap_ends xs ys zs (inl e) = ap (λ l. (xs ++ l) ++ zs) e ∙ ap (λ l. l ++ zs) (append_nil xs) ∙ sym (append_nil (xs ++ zs)) ∙ ap (λ l. (xs ++ zs) ++ l) (sym e)
swap_ends xs ys zs (inr e) = ap (λ l. (xs ++ ys) ++ l) e ∙ append_nil (xs ++ ys) ∙ ap (λ l. l ++ ys) (sym (append_nil xs)) ∙ ap (λ l. (xs ++ l) ++ ys) (sym e)

-- another's role gets no act
none_sent : (p : ℕ) (h : Holders) (t : Ref) (r : NameId) → h t r ≡ Some (Live p) → (s q : Ref) (a b : NameId) (o : Option Told) → ref_eq (Live p) q ≡ false → h s a ≡ Some q → ref_eq t s ≡ true → sending a b o r ≡ []
none_sent p h t r k s q a b o out e i = go (a.0 == r.0) refl
  where
    go : (x : Bool) → (a.0 == r.0) ≡ x → (if x then put_to b o else []) ≡ []
    go false j = refl
    go true j =
        let l : h t r ≡ Some q = subst (λ u. h u r ≡ Some q) (sym (same_ref t s i)) (subst (λ u. h s u ≡ Some q) (same_name a r j) e) in
        absurd (other p q _ out l k)

none_got : (p : ℕ) (h : Holders) (t : Ref) (r : NameId) → h t r ≡ Some (Live p) → (s q : Ref) (a b : NameId) (o : Option Told) → ref_eq (Live p) q ≡ false → h s b ≡ Some q → ref_eq t s ≡ true → receiving a b o r ≡ []
none_got p h t r k s q a b o out e i = go (b.0 == r.0) refl
  where
    go : (x : Bool) → (b.0 == r.0) ≡ x → (if x then got_from a o else []) ≡ []
    go false j = refl
    go true j =
        let l : h t r ≡ Some q = subst (λ u. h u r ≡ Some q) (sym (same_ref t s i)) (subst (λ u. h s u ≡ Some q) (same_name b r j) e) in
        absurd (other p q _ out l k)

pub same_context : (d e : Context) → d.protocol ≡ e.protocol → d.done ≡ e.done → d.holder ≡ e.holder → d.sorts ≡ e.sorts → d.known ≡ e.known → d ≡ e
same_context d e p q r s k = λ i. record { protocol = p i; done = q i; holder = r i; sorts = s i; known = k i }

-- the acts of one process, and those of a node
apart_acts : (p : ℕ) (h : Holders) (acts more : Ref → NameId → List Act) → AreActsBy p h acts → ((n : ℕ) (r : NameId) → h (Live n) r ≡ Some (Live p) → more (Live n) r ≡ []) → (t : Ref) (r : NameId) → (acts t r ≡ []) ⊎ (more t r ≡ [])
apart_acts p h acts more b out (Named x d) r = inl (b.named x d r)
apart_acts p h acts more b out (Live n) r = elim (b.live n r) [ inl e ↦ inl e | inr e ↦ inr (out n r e) ]

-- what is known past a node that doesn't name p
pub record Past (kind : NameId → Option NameId) (p : ℕ) (e : Context) (n : Node) (c : Change) : Type 0 where
  pub by : IsChangeBy p e c
  pub fits : IsTypedNode kind (changed e c) n
  pub same : after kind (changed e c) n ≡ changed (after kind e n) c

module _ (kind : NameId → Option NameId) (p : ℕ) where
  acts_before : (e : Context) (h : Holders) (acts : Ref → NameId → List Act) → AreActsBy p h acts → ((n : ℕ) (r : NameId) → h (Live n) r ≡ Some (Live p) → e.holder (Live n) r ≡ Some (Live p)) → AreActsBy p e.holder acts
  acts_before e h acts b back = record { named = b.named; live = λ n r. elim (b.live n r) [ inl i ↦ inl i | inr i ↦ inr (back n r i) ] }

  hand_before : (g h : Holders) (c : Hand) → IsHandBy p h c → ((n : ℕ) (r : NameId) → h (Live n) r ≡ Some (Live p) → g (Live n) r ≡ Some (Live p)) → ((n : ℕ) (r : NameId) → h (Live n) r ≡ None → g (Live n) r ≡ None) → IsHandBy p g c
  hand_before g h NoHand b back none = tt
  hand_before g h (Hands (Live n) r o) b back none = elim b [ inl i ↦ inl (back n r i) | inr i ↦ inr (none n r i) ]
  hand_before g h (Hands (Named x d) r o) b back none = elim b [ ]

  content_back : (q : Ref) (w : Content) (h : Holders) → ref_eq (Live p) q ≡ false → (s : Ref) (a : NameId) → handed (content_hand q w) h s a ≡ Some (Live p) → h s a ≡ Some (Live p)
  content_back q (OfValue g x) h out s a k = k
  content_back q (OfLabel l) h out s a k = k
  content_back q (OfPart u r) h out s a k = held_before p q u r h out s a k

  content_none : (q : Ref) (w : Content) (h : Holders) → (s : Ref) (a : NameId) → handed (content_hand q w) h s a ≡ None → h s a ≡ None
  content_none q (OfValue g x) h s a k = k
  content_none q (OfLabel l) h s a k = k
  content_none q (OfPart u r) h s a k = none_before q u r h s a k

  message_back : (q : Ref) (w : Message) (h : Holders) → ref_eq (Live p) q ≡ false → (s : Ref) (a : NameId) → handed (message_hand q w) h s a ≡ Some (Live p) → h s a ≡ Some (Live p)
  message_back q (ValueSent v x) h out s a k = k
  message_back q (LabelSent l) h out s a k = k
  message_back q (PartSent j r) h out s a k = held_before p q (Live j) r h out s a k

  message_none : (q : Ref) (w : Message) (h : Holders) → (s : Ref) (a : NameId) → handed (message_hand q w) h s a ≡ None → h s a ≡ None
  message_none q (ValueSent v x) h s a k = k
  message_none q (LabelSent l) h s a k = k
  message_none q (PartSent j r) h s a k = none_before q (Live j) r h s a k

  content_fits : (e : Context) (c : Change) → IsChangeBy p e c → (q : Ref) (w : Content) → ref_eq (Live p) q ≡ false → IsTypedContent e q w → IsTypedContent (changed e c) q w
  content_fits e c b q (OfValue g x) out k = (k.0, subst (λ m. HasSort m g k.0) (sym (setting_out p c.setting e.sorts b.setting q out)) k.1)
  content_fits e c b q (OfLabel l) out k = tt
  content_fits e c b q (OfPart u r) out k = (still_held p c.hand e.holder b.hand u r q out k.0, k.1)

  content_swap : (e : Context) (c : Change) → IsChangeBy p e c → (q t : Ref) (w : Content) → ref_eq (Live p) q ≡ false → ref_eq (Live p) t ≡ false → IsTypedContent e q w → IsHandBy p (handed (content_hand t w) e.holder) c.hand
      → handed (content_hand t w) (handed c.hand e.holder) ≡ handed c.hand (handed (content_hand t w) e.holder)
  content_swap e c b q t (OfValue g x) oq ot k b' = refl
  content_swap e c b q t (OfLabel l) oq ot k b' = refl
  content_swap e c b q t (OfPart u r) oq ot k b' = hands_swap p c.hand e.holder b.hand u r t (Some q) k.0 (λ j. other p q (Some q) oq refl j) b' ot

  message_swap : (e : Context) (c : Change) → IsChangeBy p e c → (t : Ref) (w : Message) → ref_eq (Live p) t ≡ false → IsTypedMessage e w → IsHandBy p (handed (message_hand t w) e.holder) c.hand
      → handed (message_hand t w) (handed c.hand e.holder) ≡ handed c.hand (handed (message_hand t w) e.holder)
  message_swap e c b t (ValueSent v x) ot k b' = refl
  message_swap e c b t (LabelSent l) ot k b' = refl
  message_swap e c b t (PartSent j r) ot k b' = hands_swap p c.hand e.holder b.hand (Live j) r t None k.0 (λ i. absurd cc) b' ot

  still_none : (c : Hand) (h : Holders) (u : Ref) (r : NameId) (t : Ref) → ref_eq (Live p) t ≡ false → IsHandBy p (handed (Hands u r (Some t)) h) c → h u r ≡ None → handed c h u r ≡ None
  still_none NoHand h u r t out b k = k
  still_none (Hands (Named x d) v o) h u r t out b k = elim b [ ]
  still_none (Hands (Live n) v o) h u r t out b k = go (is_role u r (Live n) v) refl
    where
      clash : u ≡ Live n → r ≡ v → ⊥
      clash i j =
          let on : is_role u r u r ≡ true = ap (λ x. x && (r.0 == r.0)) (self_ref u) ∙ true_eq r.0 in
          let at : handed (Hands u r (Some t)) h u r ≡ Some t = ap (λ x. if x then Some t else h u r) on in
          let now : handed (Hands u r (Some t)) h (Live n) v ≡ Some t = subst (λ w. handed (Hands u r (Some t)) h w v ≡ Some t) i (subst (λ w. handed (Hands u r (Some t)) h u w ≡ Some t) j at) in
          elim b [ inl e ↦ other p t _ out now e | inr e ↦ nobody t _ now e ]

      go : (x : Bool) → is_role u r (Live n) v ≡ x → (if x then o else h u r) ≡ None
      go false i = k
      go true i = let w = role_same (Live n) v u r i in absurd (clash w.0 w.1)

  message_fits : (e : Context) (c : Change) (t : Ref) (w : Message) → ref_eq (Live p) t ≡ false → IsTypedMessage e w → IsHandBy p (handed (message_hand t w) e.holder) c.hand → IsTypedMessage (changed e c) w
  message_fits e c t (ValueSent v x) ot k b = k
  message_fits e c t (LabelSent l) ot k b = k
  message_fits e c t (PartSent j r) ot k b = (still_none c.hand e.holder (Live j) r t ot b k.0, k.1)

  setting_swap : (c : Setting) (m : Ref → Sorts) → IsSettingBy p c → (t : Ref) → ref_eq (Live p) t ≡ false → (s : Setting) → ((r : Ref) (x : NameId) (o : Option Sort) → s ≡ SetsSort r x o → r ≡ t)
      → with_setting s (with_setting c m) ≡ with_setting c (with_setting s m)
  setting_swap c m b t out NoSet k = refl
  setting_swap c m b t out (SetsSort r x o) k = settings_swap p c m b r x o (ap (ref_eq (Live p)) (k r x o refl) ∙ out)

  pub content_setting_at : (m : Sorts) (t : Ref) (w : Content) (r : Ref) (x : NameId) (o : Option Sort) → content_setting m t w ≡ SetsSort r x o → r ≡ t
  content_setting_at m t (OfValue g y) r x o h = cc
  content_setting_at m t (OfLabel l) r x o h = absurd cc
  content_setting_at m t (OfPart u v) r x o h = absurd cc

  pub message_setting_at : (t : Ref) (w : Message) (r : Ref) (x : NameId) (o : Option Sort) → message_setting t w ≡ SetsSort r x o → r ≡ t
  message_setting_at t (ValueSent v y) r x o h = cc
  message_setting_at t (LabelSent l) r x o h = absurd cc
  message_setting_at t (PartSent u v) r x o h = absurd cc

  pub own_setting_at : (m : Sorts) (t : Ref) (w : Own) (r : Ref) (x : NameId) (o : Option Sort) → own_setting m t w ≡ SetsSort r x o → r ≡ t
  own_setting_at m t (Sets y g) r x o h = cc
  own_setting_at m t (Shows g) r x o h = absurd cc
  own_setting_at m t (Asks y f a b) r x o h = cc

  own_fits : (m k : Sorts) → m ≡ k → (o : Own) → IsTypedOwn k o → IsTypedOwn m o
  own_fits m k e o h = subst (λ y. IsTypedOwn y o) (sym e) h

  known_before : {a c : Bool} → a ≡ false → (a || c) ≡ true → c ≡ true
  known_before {a} {c} i h = sym (ap (λ x. x || c) i) ∙ h

  pub past : (e : Context) (n : Node) (c : Change) → among (Live p) (named_in n) ≡ false → IsTypedNode kind e n → IsChangeBy p (after kind e n) c → Past kind p e n c
  past e (Starts ch d k active serve) c out f b =
      let h' = opened (Named k d) (active ++ as_parts d serve) e.holder in
      let hand : IsHandBy p e.holder c.hand = hand_before e.holder h' c.hand b.hand (λ n r i. i) (λ n r i. i) in
      record {
        by = record { acts = acts_before e h' c.acts b.acts (λ n r i. i); hand = hand; setting = b.setting; known = known_before (not_service p d serve) b.known; gains = b.gains };
        fits = f;
        same = same_context _ _ refl (λ i t r. reset t r i) (opened_swap p c.hand e.holder hand k d (active ++ as_parts d serve)) (unset_swap p c.setting e.sorts b.setting d serve) refl;
      }
    where
      reset : (t : Ref) (r : NameId) → (if ref_eq t (Named k d) then [] else e.done t r ++ c.acts t r) ≡ (if ref_eq t (Named k d) then [] else e.done t r) ++ c.acts t r
      reset (Live n) r = refl
      reset (Named x y) r = go (ref_eq (Named x y) (Named k d))
        where
          go : (z : Bool) → (if z then [] else e.done (Named x y) r ++ c.acts (Named x y) r) ≡ (if z then [] else e.done (Named x y) r) ++ c.acts (Named x y) r
          go true = sym (b.acts.named x y r)
          go false = refl
  past e (Communicates s q a t g w) c out f b =
      let oq = left_or _ _ out in
      let ot = left_or _ _ (right_or _ _ out) in
      let h' = handed (content_hand t w) e.holder in
      let by : IsChangeBy p e c = record {
        acts = acts_before e h' c.acts b.acts (λ n r. content_back t w e.holder ot (Live n) r);
        hand = hand_before e.holder h' c.hand b.hand (λ n r. content_back t w e.holder ot (Live n) r) (λ n r. content_none t w e.holder (Live n) r);
        setting = b.setting;
        known = b.known;
        gains = b.gains;
      } in
      let sorts_q : with_setting c.setting e.sorts q ≡ e.sorts q = setting_out p c.setting e.sorts b.setting q oq in
      let now = told_content e.protocol (e.sorts q) w in
      let part : Option Told → Ref → NameId → List Act = λ o u r. if ref_eq u s then sending a g o r ++ receiving a g o r else [] in
      let none : (n : ℕ) (r : NameId) → e.holder (Live n) r ≡ Some (Live p) → part now (Live n) r ≡ [] = λ n r i. go n r i (ref_eq (Live n) s) refl in
      record {
        by = by;
        fits = (still_held p c.hand e.holder by.hand s a q oq f.0, still_held p c.hand e.holder by.hand s g t ot f.1, f.2, content_fits e c by q w oq f.3);
        same = same_context _ _ refl
            (λ i u r. (ap (λ m. (e.done u r ++ c.acts u r) ++ part (told_content e.protocol m w) u r) sorts_q
            ∙ swap_ends (e.done u r) (c.acts u r) (part now u r) (apart_acts p e.holder c.acts (part now) by.acts none u r)) i)
            (content_swap e c by q t w oq ot f.3 b.hand)
            (ap (λ m. with_setting (content_setting m t w) (with_setting c.setting e.sorts)) sorts_q
            ∙ setting_swap c.setting e.sorts b.setting t ot (content_setting (e.sorts q) t w) (content_setting_at (e.sorts q) t w)) refl;
      }
    where
      go : (n : ℕ) (r : NameId) → e.holder (Live n) r ≡ Some (Live p) → (x : Bool) → ref_eq (Live n) s ≡ x
          → (if x then sending a g (told_content e.protocol (e.sorts q) w) r ++ receiving a g (told_content e.protocol (e.sorts q) w) r else []) ≡ []
      go n r i false j = refl
      go n r i true j =
          let x = none_sent p e.holder (Live n) r i s q a g (told_content e.protocol (e.sorts q) w) (left_or _ _ out) f.0 j in
          let y = none_got p e.holder (Live n) r i s t a g (told_content e.protocol (e.sorts q) w) (left_or _ _ (right_or _ _ out)) f.1 j in
          ap (λ l. l ++ receiving a g (told_content e.protocol (e.sorts q) w) r) x ∙ y
  past e (InTransit s a g w t) c out f b =
      let ot = left_or _ _ out in
      let h' = handed (message_hand t w) e.holder in
      let by : IsChangeBy p e c = record {
        acts = acts_before e h' c.acts b.acts (λ n r. message_back t w e.holder ot (Live n) r);
        hand = hand_before e.holder h' c.hand b.hand (λ n r. message_back t w e.holder ot (Live n) r) (λ n r. message_none t w e.holder (Live n) r);
        setting = b.setting;
        known = b.known;
        gains = b.gains;
      } in
      let now = told_load e.protocol (load_of w) in
      let part : Ref → NameId → List Act = λ u r. if ref_eq u (Live s) then receiving a g now r else [] in
      let none : (n : ℕ) (r : NameId) → e.holder (Live n) r ≡ Some (Live p) → part (Live n) r ≡ [] = λ n r i. go n r i (ref_eq (Live n) (Live s)) refl in
      record {
        by = by;
        fits = (still_held p c.hand e.holder by.hand (Live s) g t ot f.0, message_fits e c t w ot f.1 b.hand);
        same = same_context _ _ refl
            (λ i u r. swap_ends (e.done u r) (c.acts u r) (part u r) (apart_acts p e.holder c.acts part by.acts none u r) i)
            (message_swap e c by t w ot f.1 b.hand)
            (setting_swap c.setting e.sorts b.setting t ot (message_setting t w) (message_setting_at t w)) refl;
      }
    where
      go : (n : ℕ) (r : NameId) → e.holder (Live n) r ≡ Some (Live p) → (x : Bool) → ref_eq (Live n) (Live s) ≡ x
          → (if x then receiving a g (told_load e.protocol (load_of w)) r else []) ≡ []
      go n r i false j = refl
      go n r i true j = none_got p e.holder (Live n) r i (Live s) t a g (told_load e.protocol (load_of w)) (left_or _ _ out) f.0 j
  past e (Alone q o) c out f b =
      let oq = left_or _ _ out in
      let sorts_q : with_setting c.setting e.sorts q ≡ e.sorts q = setting_out p c.setting e.sorts b.setting q oq in
      record {
        by = b_same;
        fits = own_fits _ _ sorts_q o f;
        same = same_context _ _ refl refl refl
            (ap (λ m. with_setting (own_setting m q o) (with_setting c.setting e.sorts)) sorts_q
            ∙ setting_swap c.setting e.sorts b.setting q oq (own_setting (e.sorts q) q o) (own_setting_at (e.sorts q) q o)) refl;
      }
    where
      b_same : IsChangeBy p e c
      b_same = record { acts = b.acts; hand = b.hand; setting = b.setting; known = b.known; gains = b.gains }
