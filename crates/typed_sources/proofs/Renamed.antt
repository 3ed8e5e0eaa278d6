-- A typed choreography stays typed under other references.
use Rattle.std.proofs.Common.{◌≡◌, ℕ, List, [], ◌∷◌, ◌++◌, map, refl, sym, ap, ◌∙◌, subst, Some, None, Option, Bool, true, false, ◌==◌, ◌&&◌, ◌⊎◌, inl, inr, if◌then◌else◌}
use Rattle.std.specs.Prelude.{Result, Ok, Err}
use Rattle.chor_base.specs.declared.names.NameId.{NameId}
use Rattle.chor_base.specs.declared.rule.Rule.{Rule}
use Rattle.chor_base.specs.declared.rule.Rule.TheVariants.{T8}
use Rattle.chor_base.specs.declared.value.Sort.{Sort}
use Rattle.chor_base.specs.declared.value.Value.{Value}
use Rattle.chor_base.specs.declared.value.Value.TheVariants.{Int, Bool as Truth, Text, Part}
use Rattle.chor_base.specs.declared.expr.UnOp.{UnOp}
use Rattle.chor_base.specs.declared.expr.BinOp.{BinOp}
use Rattle.chor_base.specs.Expr.{Term, Constant, Variable, Unary, Binary}
use Rattle.chor_base.specs.Sorts.{Sorts, sort_of, sort_of_value, or_rule, sort_of_unary, sort_of_binary}
use Rattle.chor_base.specs.declared.value.Sort.TheVariants as sort
use Rattle.chor_tree.specs.declared.protocol.State.{State}
use Rattle.chor_semantics.specs.Choreography.{Ref, Live, ref_eq, Content, OfValue, OfLabel, OfPart, Message, ValueSent, LabelSent, PartSent, Own, Sets, Shows, Asks, Communicates, InTransit, Alone, put_node}
use Rattle.chor_semantics.specs.Steps.{load_of}
use Rattle.well_formed.proofs.References.{self_ref, same_ref}
use Rattle.typed_sources.specs.Told.{Told, Act, receiving}
use Rattle.typed_sources.specs.Context.{Context, Hands, handed, SetsSort, put_sort, with_setting, after, exchanged, more_in, told_content, told_load, told_value, told_sort, told_part, sort_in}
use Rattle.typed_sources.specs.Typing.{HasProtocol, AllKnown, IsTypedNode, AllEnded, HasEnded}
use Rattle.typed_sources.proofs.Small.{append_nil}
use Rattle.typed_sources.specs.Renames.{Renames}

-- ---- sorts

-- the second knows what the first knows
abbrev pub Within : Sorts → Sorts → Type 0
Within m k = (x : NameId) (s : Sort) → m x ≡ Some s → k x ≡ Some s

sort_unary : (o : UnOp) (a b : Result Sort Rule) (t : Sort) → ((s : Sort) → a ≡ Ok s → b ≡ Ok s) → sort_of_unary o a ≡ Ok t → sort_of_unary o b ≡ Ok t
sort_unary o (Err r) b t i h = absurd cc
sort_unary o (Ok s) b t i h = ap (sort_of_unary o) (i s refl) ∙ h

sort_binary : (o : BinOp) (a b c d : Result Sort Rule) (t : Sort) → ((s : Sort) → a ≡ Ok s → b ≡ Ok s) → ((s : Sort) → c ≡ Ok s → d ≡ Ok s) → sort_of_binary o a c ≡ Ok t → sort_of_binary o b d ≡ Ok t
sort_binary o (Err r) b c d t i j h = absurd cc
sort_binary o (Ok s) b (Err r) d t i j h = absurd cc
sort_binary o (Ok s) b (Ok u) d t i j h = ap (λ y. sort_of_binary o y d) (i s refl) ∙ ap (λ y. sort_of_binary o (Ok s) y) (j u refl) ∙ h

variable_more : (a b : Option Sort) (t : Sort) → ((s : Sort) → a ≡ Some s → b ≡ Some s) → or_rule a T8 ≡ Ok t → or_rule b T8 ≡ Ok t
variable_more None b t i h = absurd cc
variable_more (Some s) b t i h = ap (λ o. or_rule o T8) (i s refl) ∙ h

pub sort_more : (m k : Sorts) → Within m k → (e : Term) (t : Sort) → sort_of e m ≡ Ok t → sort_of e k ≡ Ok t
sort_more m k w (Constant v) t h = h
sort_more m k w (Variable x) t h = variable_more (m x) (k x) t (w x) h
sort_more m k w (Unary o e) t h = sort_unary o (sort_of e m) (sort_of e k) t (sort_more m k w e) h
sort_more m k w (Binary o e f) t h = sort_binary o (sort_of e m) (sort_of e k) (sort_of f m) (sort_of f k) t (sort_more m k w e) (sort_more m k w f) h

pub value_told : (k l : Ref → Option NameId) (v : Value) (s : Sort) → sort_of_value v ≡ Some s → told_value k v ≡ told_value l v
value_told k l (Int z) s h = refl
value_told k l (Truth b) s h = refl
value_told k l (Text t) s h = refl
value_told k l (Part j r) s h = absurd cc

known_is : (o : Option NameId) (k : NameId) → o ≡ Some k → HasProtocol o
known_is o k h = (k, h)

module _ (kind : NameId → Option NameId) (states : NameId → List State) (f g : Ref → Ref) where
  all_known : (d e : Context) → Renames states f g d e → (rs : List Ref) → AllKnown d.known rs → AllKnown e.known (map f rs)
  all_known d e n [] k = tt
  all_known d e n (r ∷ rs) k = (n.known r k.0, all_known d e n rs k.1)

  -- ---- hands

  -- a role that a node hands over, on both sides
  pub hands : (d e : Context) → Renames states f g d e → (u : Ref) (r : NameId) (q : Ref) → HasProtocol (d.protocol u)
      → Renames states f g (record d { holder = handed (Hands u r (Some q)) d.holder }) (record e { holder = handed (Hands (g u) r (Some (f q))) e.holder })
  hands d e n u r q ku = record {
    live = n.live;
    known = n.known;
    apart = n.apart;
    sorts = n.sorts;
    protocol = n.protocol;
    apart_sessions = n.apart_sessions;
    done = n.done;
    others = n.others;
    holder = λ s a z h. there s a z (ref_eq s u) (a.0 == r.0) refl refl h;
    none = λ j a k h. gone j a k (ref_eq (Live j) u) (a.0 == r.0) refl refl h;
    held = λ s a z h. is_held s a z (ref_eq s u) (a.0 == r.0) refl h;
  }
    where
      some_is : (a b : Ref) → ◌≡◌ {A = Option Ref} (Some a) (Some b) → a ≡ b
      some_is a b h = cc

      is_held : (s : Ref) (a : NameId) (z : Ref) (x y : Bool) → ref_eq s u ≡ x → (if x && y then Some q else d.holder s a) ≡ Some z → HasProtocol (d.protocol s)
      is_held s a z true y i h = subst (λ t. HasProtocol (d.protocol t)) (sym (same_ref s u i)) ku
      is_held s a z false y i h = n.held s a z h

      there : (s : Ref) (a : NameId) (z : Ref) (x y : Bool) → ref_eq s u ≡ x → (a.0 == r.0) ≡ y → (if x && y then Some q else d.holder s a) ≡ Some z → (if ref_eq (g s) (g u) && (a.0 == r.0) then Some (f q) else e.holder (g s) a) ≡ Some (f z)
      there s a z true true i j h =
          let same : ref_eq (g s) (g u) ≡ true = ap (λ t. ref_eq (g t) (g u)) (same_ref s u i) ∙ self_ref (g u) in
          ap (λ t. if t && (a.0 == r.0) then Some (f q) else e.holder (g s) a) same ∙ ap (λ t. if t then Some (f q) else e.holder (g s) a) j ∙ ap (λ t. Some (f t)) (some_is q z h)
      there s a z true false i j h =
          let off : (b c : Bool) → c ≡ false → (if b && c then Some (f q) else e.holder (g s) a) ≡ e.holder (g s) a = λ b c k. drop b c k in
          off (ref_eq (g s) (g u)) (a.0 == r.0) j ∙ n.holder s a z h
        where
          drop : (b c : Bool) → c ≡ false → (if b && c then Some (f q) else e.holder (g s) a) ≡ e.holder (g s) a
          drop true true k = absurd cc
          drop true false k = refl
          drop false c k = refl
      there s a z false y i j h =
          let same : ref_eq (g s) (g u) ≡ false = n.apart_sessions s u (n.held s a z h) ku ∙ i in
          ap (λ t. if t && (a.0 == r.0) then Some (f q) else e.holder (g s) a) same ∙ n.holder s a z h

      gone : (j : ℕ) (a : NameId) → HasProtocol (d.protocol (Live j)) → (x y : Bool) → ref_eq (Live j) u ≡ x → (a.0 == r.0) ≡ y → (if x && y then Some q else d.holder (Live j) a) ≡ None → (if ref_eq (Live j) (g u) && (a.0 == r.0) then Some (f q) else e.holder (Live j) a) ≡ None
      gone j a k true true i l h = absurd cc
      gone j a k true false i l h = drop (ref_eq (Live j) (g u)) (a.0 == r.0) l ∙ n.none j a k h
        where
          drop : (b c : Bool) → c ≡ false → (if b && c then Some (f q) else e.holder (Live j) a) ≡ e.holder (Live j) a
          drop true true k = absurd cc
          drop true false k = refl
          drop false c k = refl
      gone j a k false y i l h =
          let same : ref_eq (Live j) (g u) ≡ false = ap (λ t. ref_eq t (g u)) (sym (n.live j)) ∙ n.apart_sessions (Live j) u k ku ∙ i in
          ap (λ t. if t && (a.0 == r.0) then Some (f q) else e.holder (Live j) a) same ∙ n.none j a k h

  -- ---- settings

  pub sets : (d e : Context) → Renames states f g d e → (q : Ref) (x : NameId) (o : Option Sort) → d.known q ≡ true
      → Renames states f g (record d { sorts = with_setting (SetsSort q x o) d.sorts }) (record e { sorts = with_setting (SetsSort (f q) x o) e.sorts })
  sets d e n q x o kq = record {
    live = n.live;
    known = n.known;
    apart = n.apart;
    protocol = n.protocol;
    apart_sessions = n.apart_sessions;
    done = n.done;
    others = n.others;
    holder = n.holder;
    none = n.none;
    held = n.held;
    sorts = λ p k y s h. go p k y s (ref_eq p q) refl h;
  }
    where
      at : (m l : Sorts) → Within m l → (y : NameId) (s : Sort) (b : Bool) → (if b then o else m y) ≡ Some s → (if b then o else l y) ≡ Some s
      at m l w y s true h = h
      at m l w y s false h = w y s h

      go : (p : Ref) → d.known p ≡ true → (y : NameId) (s : Sort) (b : Bool) → ref_eq p q ≡ b → (if b then put_sort x o (d.sorts p) else d.sorts p) y ≡ Some s → (if ref_eq (f p) (f q) then put_sort x o (e.sorts (f p)) else e.sorts (f p)) y ≡ Some s
      go p k y s true i h =
          let same : ref_eq (f p) (f q) ≡ true = n.apart p q k kq ∙ i in
          ap (λ t. (if t then put_sort x o (e.sorts (f p)) else e.sorts (f p)) y) same ∙ at (d.sorts p) (e.sorts (f p)) (n.sorts p k) y s (y.0 == x.0) h
      go p k y s false i h =
          let same : ref_eq (f p) (f q) ≡ false = n.apart p q k kq ∙ i in
          ap (λ t. (if t then put_sort x o (e.sorts (f p)) else e.sorts (f p)) y) same ∙ n.sorts p k y s h

  -- ---- acts

  -- the same is added on both sides, in a session in scope
  pub adds : (d e : Context) → Renames states f g d e → (s : Ref) (more : NameId → List Act) → HasProtocol (d.protocol s)
      → Renames states f g (record d { done = λ t r. d.done t r ++ (if ref_eq t s then more r else []) }) (record e { done = λ t r. e.done t r ++ (if ref_eq t (g s) then more r else []) })
  adds d e n s more ks = record {
    live = n.live;
    known = n.known;
    apart = n.apart;
    sorts = n.sorts;
    protocol = n.protocol;
    apart_sessions = n.apart_sessions;
    holder = n.holder;
    none = n.none;
    held = n.held;
    done = λ t k r. ap (λ l. l ++ (if ref_eq (g t) (g s) then more r else [])) (n.done t k r) ∙ ap (λ b. d.done t r ++ (if b then more r else [])) (n.apart_sessions t s k ks);
    others = λ t k h. go t k h (n.others t k h) (ref_eq t (g s)) refl;
  }
    where
      go : (t : Ref) (k : NameId) → e.protocol t ≡ Some k → ((u : Ref) × (g u ≡ t) × (d.protocol u ≡ Some k)) ⊎ HasEnded (states k) (e.done t) → (b : Bool) → ref_eq t (g s) ≡ b
          → ((u : Ref) × (g u ≡ t) × (d.protocol u ≡ Some k)) ⊎ HasEnded (states k) (λ r. e.done t r ++ (if ref_eq t (g s) then more r else []))
      go t k h o true i =
          let back : e.protocol (g s) ≡ Some k = subst (λ u. e.protocol u ≡ Some k) (same_ref t (g s) i) h in
          inl (s, sym (same_ref t (g s) i), same_protocol ks (n.protocol s ks.0 ks.1) back)
        where
          same_protocol : (w : HasProtocol (d.protocol s)) → e.protocol (g s) ≡ Some w.0 → e.protocol (g s) ≡ Some k → d.protocol s ≡ Some k
          same_protocol w a b = w.1 ∙ sym a ∙ b
      go t k h (inl u) false i = inl u
      go t k h (inr w) false i = inr (subst (HasEnded (states k)) (λ j r. (sym (append_nil (e.done t r)) ∙ ap (λ b. e.done t r ++ (if b then more r else [])) (sym i)) j) w)

  -- ---- nodes

  told_known : (a b : Option NameId) → HasProtocol a → ((k : NameId) → a ≡ Some k → b ≡ Some k) → a ≡ b
  told_known a b k i = k.1 ∙ sym (i k.0 k.1)

  some_sort : (a b : Result Sort Rule) (s : Sort) → a ≡ Ok s → b ≡ Ok s → b ≡ a
  some_sort a b s h k = k ∙ sym h

  abbrev with_exchange : Context → Ref → NameId → NameId → Option Told → Context
  with_exchange d s a b o = record d { done = more_in s (exchanged a b o) d.done }

  value_in : (d e : Context) → Renames states f g d e → (s q : Ref) (a b x : NameId) (z : Result Sort Rule) → HasProtocol (d.protocol s) → d.known q ≡ true
      → Renames states f g (record (with_exchange d s a b (told_sort (sort_in z))) { sorts = with_setting (SetsSort q x (sort_in z)) d.sorts })
      (record (with_exchange e (g s) a b (told_sort (sort_in z))) { sorts = with_setting (SetsSort (f q) x (sort_in z)) e.sorts })
  value_in d e n s q a b x z ks kq = sets _ _ (adds d e n s (exchanged a b (told_sort (sort_in z))) ks) q x (sort_in z) kq

  part_in : (d e : Context) → Renames states f g d e → (s q u : Ref) (a b r : NameId) (z : Option NameId) → HasProtocol (d.protocol s) → HasProtocol (d.protocol u)
      → Renames states f g (record (with_exchange d s a b (told_part r z)) { holder = handed (Hands u r (Some q)) d.holder })
      (record (with_exchange e (g s) a b (told_part r z)) { holder = handed (Hands (g u) r (Some (f q))) e.holder })
  part_in d e n s q u a b r z ks ku = hands _ _ (adds d e n s (exchanged a b (told_part r z)) ks) u r q ku

  -- a communication fits on the other side, and what is known after it corresponds
  pub renamed_communication : (d e : Context) → Renames states f g d e → (s p : Ref) (a : NameId) (q : Ref) (b : NameId) (w : Content) → AllKnown d.known (p ∷ q ∷ [])
      → IsTypedNode kind d (Communicates s p a q b w)
      → IsTypedNode kind e (put_node f g (Communicates s p a q b w)) × Renames states f g (after kind d (Communicates s p a q b w)) (after kind e (put_node f g (Communicates s p a q b w)))
  renamed_communication d e n s p a q b (OfValue y x) k (hs, ht, away, fits) =
      let z = sort_more (d.sorts p) (e.sorts (f p)) (n.sorts p k.0) y fits.0 fits.1 in
      let ks = n.held s a p hs in (
        (n.holder s a p hs, n.holder s b q ht, n.apart p q k.0 k.1.0 ∙ away, (fits.0, z)),
        subst (λ t. Renames states f g (after kind d (Communicates s p a q b (OfValue y x)))
            (record (with_exchange e (g s) a b (told_sort (sort_in t))) { sorts = with_setting (SetsSort (f q) x (sort_in t)) e.sorts }))
            (sym (some_sort (sort_of y (d.sorts p)) (sort_of y (e.sorts (f p))) fits.0 fits.1 z))
            (value_in d e n s q a b x (sort_of y (d.sorts p)) ks k.1.0),
      )
  renamed_communication d e n s p a q b (OfLabel l) k (hs, ht, away, fits) =
      ((n.holder s a p hs, n.holder s b q ht, n.apart p q k.0 k.1.0 ∙ away, tt), adds d e n s (exchanged a b (told_content d.protocol (d.sorts p) (OfLabel l))) (n.held s a p hs))
  renamed_communication d e n s p a q b (OfPart u r) k (hs, ht, away, (hu, ku)) = (
    (n.holder s a p hs, n.holder s b q ht, n.apart p q k.0 k.1.0 ∙ away, (n.holder u r p hu, (ku.0, n.protocol u ku.0 ku.1))),
    subst (λ t. Renames states f g (after kind d (Communicates s p a q b (OfPart u r)))
        (record (with_exchange e (g s) a b (told_part r t)) { holder = handed (Hands (g u) r (Some (f q))) e.holder }))
        (told_known (d.protocol u) (e.protocol (g u)) ku (n.protocol u))
        (part_in d e n s q u a b r (d.protocol u) (n.held s a p hs) ku),
  )

  abbrev with_receipt : Context → Ref → NameId → NameId → Option Told → Context
  with_receipt d s a b o = record d { done = more_in s (receiving a b o) d.done }

  receipt_in : (d e : Context) → Renames states f g d e → (s : ℕ) (a b : NameId) (o : Option Told) → HasProtocol (d.protocol (Live s)) → Renames states f g (with_receipt d (Live s) a b o) (with_receipt e (Live s) a b o)
  receipt_in d e n s a b o ks = subst (λ t. Renames states f g (with_receipt d (Live s) a b o) (with_receipt e t a b o)) (n.live s) (adds d e n (Live s) (receiving a b o) ks)

  live_hands : (d e : Context) → Renames states f g d e → (j : ℕ) (r : NameId) (q : Ref) → HasProtocol (d.protocol (Live j))
      → Renames states f g (record d { holder = handed (Hands (Live j) r (Some q)) d.holder }) (record e { holder = handed (Hands (Live j) r (Some (f q))) e.holder })
  live_hands d e n j r q kj = subst (λ t. Renames states f g (record d { holder = handed (Hands (Live j) r (Some q)) d.holder }) (record e { holder = handed (Hands t r (Some (f q))) e.holder })) (n.live j) (hands d e n (Live j) r q kj)

  pub renamed_transit : (d e : Context) → Renames states f g d e → (s : ℕ) (a b : NameId) (w : Message) (q : Ref) → AllKnown d.known (q ∷ [])
      → IsTypedNode kind d (InTransit s a b w q)
      → IsTypedNode kind e (put_node f g (InTransit s a b w q)) × Renames states f g (after kind d (InTransit s a b w q)) (after kind e (put_node f g (InTransit s a b w q)))
  renamed_transit d e n s a b (ValueSent v x) q k (hs, (t, is)) =
      let ks = n.held (Live s) b q hs in (
        (subst (λ u. e.holder u b ≡ Some (f q)) (n.live s) (n.holder (Live s) b q hs), (t, is)),
        subst (λ o. Renames states f g (after kind d (InTransit s a b (ValueSent v x) q)) (record (with_receipt e (Live s) a b o) { sorts = with_setting (SetsSort (f q) x (sort_of_value v)) e.sorts }))
            (value_told d.protocol e.protocol v t is)
            (sets _ _ (receipt_in d e n s a b (told_value d.protocol v) ks) q x (sort_of_value v) k.0),
      )
  renamed_transit d e n s a b (LabelSent l) q k (hs, t) =
      ((subst (λ u. e.holder u b ≡ Some (f q)) (n.live s) (n.holder (Live s) b q hs), tt), receipt_in d e n s a b (told_load d.protocol (load_of (LabelSent l))) (n.held (Live s) b q hs))
  renamed_transit d e n s a b (PartSent j r) q k (hs, (free, kj)) =
      let known_j : e.protocol (Live j) ≡ Some kj.0 = subst (λ u. e.protocol u ≡ Some kj.0) (n.live j) (n.protocol (Live j) kj.0 kj.1) in (
        (subst (λ u. e.holder u b ≡ Some (f q)) (n.live s) (n.holder (Live s) b q hs), (n.none j r kj free, (kj.0, known_j))),
        subst (λ o. Renames states f g (after kind d (InTransit s a b (PartSent j r) q)) (record (with_receipt e (Live s) a b (told_part r o)) { holder = handed (Hands (Live j) r (Some (f q))) e.holder }))
            (kj.1 ∙ sym known_j)
            (live_hands _ _ (receipt_in d e n s a b (told_part r (d.protocol (Live j))) (n.held (Live s) b q hs)) j r q kj),
      )

  pub renamed_own : (d e : Context) → Renames states f g d e → (p : Ref) (o : Own) → AllKnown d.known (p ∷ [])
      → IsTypedNode kind d (Alone p o)
      → IsTypedNode kind e (put_node f g (Alone p o)) × Renames states f g (after kind d (Alone p o)) (after kind e (put_node f g (Alone p o)))
  renamed_own d e n p (Sets x y) k fits =
      let z = sort_more (d.sorts p) (e.sorts (f p)) (n.sorts p k.0) y fits.0 fits.1 in (
        (fits.0, z),
        subst (λ t. Renames states f g (after kind d (Alone p (Sets x y))) (record e { sorts = with_setting (SetsSort (f p) x (sort_in t)) e.sorts }))
            (sym (some_sort (sort_of y (d.sorts p)) (sort_of y (e.sorts (f p))) fits.0 fits.1 z)) (sets d e n p x (sort_in (sort_of y (d.sorts p))) k.0),
      )
  renamed_own d e n p (Shows y) k fits = ((fits.0, sort_more (d.sorts p) (e.sorts (f p)) (n.sorts p k.0) y fits.0 fits.1), n)
  renamed_own d e n p (Asks x h a b) k fits =
      ((sort_more (d.sorts p) (e.sorts (f p)) (n.sorts p k.0) a sort.Int fits.0, sort_more (d.sorts p) (e.sorts (f p)) (n.sorts p k.0) b sort.Int fits.1), sets d e n p x (Some sort.Int) k.0)

  -- ---- the end

  ended_same : (ss : List State) (a b : NameId → List Act) → ((r : NameId) → a r ≡ b r) → HasEnded ss b → HasEnded ss a
  ended_same ss a b i w = subst (HasEnded ss) (λ j r. sym (i r) j) w

  pub renamed_end : (d e : Context) → Renames states f g d e → AllEnded states d → AllEnded states e
  renamed_end d e n a t k h = elim (n.others t k h) [
    | inl s ↦ subst (λ u. HasEnded (states k) (e.done u)) s.1 (ended_same (states k) (e.done (g s.0)) (d.done s.0) (n.done s.0 (k, s.2)) (a s.0 k s.2))
    | inr w ↦ w
  ]
