-- All types of one role are printed alike.
use Rattle.std.proofs.Common.{ℕ, ◌≡◌, ◌<◌, ◌≤◌, List, [], ◌∷◌, ◌++◌, map, false, refl, ap, sym, subst, ◌∙◌, arith, inl, inr, zero, suc, length, take, append_assoc}
use Rattle.std.specs.Prelude.{◌⊎◌, ◌↔◌, ◌≢◌, Some, slice_get, AllPairs}
use Rattle.std.specs.List.{flat_map}
use Rattle.std.specs.declared.cmp.Ordering.{Ordering}
use Rattle.std.specs.declared.cmp.Ordering.TheVariants.{Less, Equal, Greater}
use Rattle.std.specs.Ordering.{is_lt, nat_cmp, ordering_reverse}
use Rattle.std.specs.Cmp.Lexicographic.{slice_cmp, nat_list_cmp_total}
use Rattle.std.proofs.lemmas.Map.Lookups.{exact_bytes}
use Rattle.std.proofs.lemmas.Bool.{cases_lt}
use Rattle.std.proofs.lemmas.Option.{slice_get-get_or}
use Rattle.chor_base.specs.declared.names.NameId.{NameId}
use Rattle.chor_base.specs.Words.{AllDistinct}
use Rattle.chor_base.specs.Writing.{name_in}
use Rattle.chor_tree.specs.declared.protocol.Payload.{Payload}
use Rattle.chor_tree.specs.declared.protocol.Payload.TheVariants.{Plain, Endpoint}
use Rattle.global_types.specs.Moves.{IsIn, Content, content_of}
use Rattle.global_types.specs.Paths.{Action, sends, receives, selects, offers}
use Rattle.local_types.specs.declared.local_type.LocalState.{LocalState}
use Rattle.local_types.specs.declared.local_type.LocalState.TheVariants.{End, Send, Recv, Pick, Branch}
use Rattle.state_sets.specs.Ascending.{Ascend}
use Rattle.local_types.specs.Reading.{acts_of, nexts_of, AreInOrder, labels_in, label_words}
use Rattle.state_sets.specs.Table.{Counts}
use Rattle.local_types.specs.Text.{payload_text, message_text, state_text}
use Rattle.state_sets.proofs.Lists.{in_left, in_right, in_either, in_map, in_map_back}
use Rattle.state_sets.proofs.Pairs.{pairs_first, pairs_rest}

-- ---- lists

nothing_in : {A : Type 0} (xs : List A) → ((x : A) → IsIn x xs → ⊥) → xs ≡ []
nothing_in [] none = refl
nothing_in (x ∷ xs) none = absurd (none x (inl refl))

pub get_left : {A : Type 0} (xs ys : List A) (i : ℕ) (x : A) → i < length xs → slice_get (xs ++ ys) i ≡ Some x → slice_get xs i ≡ Some x
get_left [] ys i x h e = absurd (omega (arith, h))
get_left (y ∷ xs) ys zero x h e = e
get_left (y ∷ xs) ys (suc i) x h e = get_left xs ys i x (omega (arith, h)) e

pub get_next : {A : Type 0} (xs : List A) (x : A) (ys : List A) → slice_get (xs ++ x ∷ ys) (length xs) ≡ Some x
get_next [] x ys = refl
get_next (y ∷ xs) x ys = get_next xs x ys

pub in_flat : {A B : Type 0} (f : A → List B) (x : A) (y : B) (xs : List A) → IsIn x xs → IsIn y (f x) → IsIn y (flat_map f xs)
in_flat f x y [] h k = absurd h
in_flat {A} {B} f x y (z ∷ xs) (inl e) k = let P : A → Type 0 = λ v. IsIn y (f v) in in_left y (f z) (flat_map f xs) (subst P (sym e) k)
in_flat f x y (z ∷ xs) (inr h) k = in_right y (f z) (flat_map f xs) (in_flat f x y xs h k)

-- ---- words

same_word : (v w : List ℕ) → is_lt (slice_cmp nat_cmp v w) ≡ false → is_lt (slice_cmp nat_cmp w v) ≡ false → v ≡ w
same_word v w p q = go (slice_cmp nat_cmp v w) refl p (ap is_lt (sym (nat_list_cmp_total.antisymm w v)) ∙ q) where
  go : (o : Ordering) → slice_cmp nat_cmp v w ≡ o → is_lt o ≡ false → is_lt (ordering_reverse o) ≡ false → v ≡ w
  go Less e h k = absurd (cc)
  go Equal e h k = exact_bytes v w e
  go Greater e h k = absurd (cc)

same_label : (names : List (List ℕ)) → AllDistinct names → (k l : NameId) → k.0 < length names → l.0 < length names → name_in names k ≡ name_in names l → k ≡ l
same_label names apart k l h g e =
    let n : k.0 ≡ l.0 = apart k.0 l.0 (name_in names k) (slice_get-get_or names k.0 [] h) (slice_get-get_or names l.0 [] g ∙ ap (λ (w : List ℕ). Some w) (sym e)) in
    ap (λ v. record { 0 = v }) n

-- ---- numbers in the order in which they are found

pub counts_up : (c d : ℕ) (ns : List ℕ) → Counts c ns d → c ≤ d
counts_up c d [] h = omega (arith, h)
counts_up c d (n ∷ ns) (inl h) = counts_up c d ns h.1
counts_up c d (n ∷ ns) (inr h) = let g = counts_up (suc c) d ns h.1 in omega (arith, g)

pub counts_below : (c d n : ℕ) (ns : List ℕ) → Counts c ns d → IsIn n ns → n < d
counts_below c d n [] h m = absurd m
counts_below c d n (x ∷ ns) (inl h) (inl e) = let g = counts_up c d ns h.1 in let f = h.0 in omega (arith, e, f, g)
counts_below c d n (x ∷ ns) (inl h) (inr m) = counts_below c d n ns h.1 m
counts_below c d n (x ∷ ns) (inr h) (inl e) = let g = counts_up (suc c) d ns h.1 in let f = h.0 in omega (arith, e, f, g)
counts_below c d n (x ∷ ns) (inr h) (inr m) = counts_below (suc c) d n ns h.1 m

-- as far as the numbers are those of a front and of what stands before
counted : (front ns : List ℕ) (c : ℕ) → ((m : ℕ) → IsIn m front → m < c) → 0 < c → ((i n m : ℕ) → slice_get ns i ≡ Some n → 0 < m → m < n → IsIn m (front ++ take i ns)) → (d : ℕ) × Counts c ns d
counted front [] c below low order = (c, refl)
counted front (x ∷ ns) c below low order = go (cases_lt x c) (λ e b l. counted (front ++ x ∷ []) ns e b l later) where
  later : (i n m : ℕ) → slice_get ns i ≡ Some n → 0 < m → m < n → IsIn m ((front ++ x ∷ []) ++ take i ns)
  later i n m at a b = subst (λ l. IsIn m l) (sym (append_assoc front (x ∷ []) (take i ns))) (order (suc i) n m at a b)

  below_more : (d : ℕ) → c ≤ d → x < d → (m : ℕ) → IsIn m (front ++ x ∷ []) → m < d
  below_more d up less m among = old_or_new (in_either m front (x ∷ []) among) where
    old_or_new : IsIn m front ⊎ IsIn m (x ∷ []) → m < d
    old_or_new (inl o) = let f = below m o in omega (arith, f, up)
    old_or_new (inr (inl e)) = omega (arith, e, less)
    old_or_new (inr (inr h)) = absurd h

  go : (x < c) ⊎ (c ≤ x) → ((e : ℕ) → ((m : ℕ) → IsIn m (front ++ x ∷ []) → m < e) → 0 < e → (d : ℕ) × Counts e ns d) → (d : ℕ) × Counts c (x ∷ ns) d
  go (inl less) hyp = let p = hyp c (below_more c (omega arith) less) low in (p.0, inl (less, p.1))
  go (inr more) hyp = here (cases_lt c x) where
    here : (c < x) ⊎ (x ≤ c) → (d : ℕ) × Counts c (x ∷ ns) d
    here (inl less) = absurd (old_or_none (in_either c front [] (order 0 x c refl low less))) where
      old_or_none : IsIn c front ⊎ IsIn c [] → ⊥
      old_or_none (inl o) = let f = below c o in omega (arith, f)
      old_or_none (inr h) = h
    here (inr most) =
        let e : x ≡ c = omega (arith, more, most) in
        let p = hyp (suc c) (below_more (suc c) (omega arith) (omega (arith, e))) (omega arith) in
        (p.0, inr (e, p.1))

pub counts_from_order : (ns : List ℕ) → AreInOrder ns → (d : ℕ) × Counts 1 ns d
counts_from_order ns order = counted [] ns 1 (λ m h. absurd h) (omega arith) order

-- ---- payloads and labels

same_content : (names : List (List ℕ)) (c d : Payload) → content_of c ≡ content_of d → payload_text names c ≡ payload_text names d
same_content names (Plain s) (Plain s') e = let f : s ≡ s' = cc in ap (λ v. payload_text names (Plain v)) f
same_content names (Plain s) (Endpoint q s' r) e = absurd (cc)
same_content names (Endpoint q s r) (Plain s') e = absurd (cc)
same_content names (Endpoint q s r) (Endpoint q' s' r') e =
    let f : q.name ≡ q'.name = cc in
    let g : s.name ≡ s'.name = cc in
    let h : r.name ≡ r'.name = cc in
    rw (f, g, h) refl

same_labels : (ls ks : List (NameId × ℕ)) → map (λ l. l.0) ls ≡ map (λ l. l.0) ks → map (λ l. l.1) ls ≡ map (λ l. l.1) ks → ls ≡ ks
same_labels [] [] e f = refl
same_labels [] (k ∷ ks) e f = absurd (cc)
same_labels (l ∷ ls) [] e f = absurd (cc)
same_labels (l ∷ ls) (k ∷ ks) e f =
    let a : l.0 ≡ k.0 = cc in
    let b : l.1 ≡ k.1 = cc in
    let g : map (λ l. l.0) ls ≡ map (λ l. l.0) ks = cc in
    let h : map (λ l. l.1) ls ≡ map (λ l. l.1) ks = cc in
    let rest = same_labels ls ks g h in
    ap (λ v. (v, l.1) ∷ ls) a ∙ ap (λ v. (k.0, v) ∷ ls) b ∙ ap (λ v. k ∷ v) rest

pick_nexts : (b : NameId) (ls : List (NameId × ℕ)) → nexts_of (Pick b ls) ≡ map (λ l. l.1) ls
pick_nexts b [] = refl
pick_nexts b (l ∷ ls) = ap (λ v. l.1 ∷ v) (pick_nexts b ls)

branch_nexts : (b : NameId) (ls : List (NameId × ℕ)) → nexts_of (Branch b ls) ≡ map (λ l. l.1) ls
branch_nexts b [] = refl
branch_nexts b (l ∷ ls) = ap (λ v. l.1 ∷ v) (branch_nexts b ls)

-- ---- states by their actions

sender : (b : NameId) (c : Content) (n : ℕ) (u : LocalState) → IsIn (sends b c, n) (acts_of u) → (d : Payload) × (u ≡ Send b d n) × (content_of d ≡ c)
sender b c n End h = absurd h
sender b c n (Send b' d m) (inl e) =
    let f : sends b' (content_of d) ≡ sends b c = ap (λ (p : Action × ℕ). p.0) e in
    let g : m ≡ n = ap (λ (p : Action × ℕ). p.1) e in
    let k : b' ≡ b = cc in
    (d, ap (λ v. Send v d m) k ∙ ap (λ v. Send b d v) g, cc)
sender b c n (Send b' d m) (inr h) = absurd h
sender b c n (Recv a d m) (inl e) = absurd (let f : receives a (content_of d) ≡ sends b c = ap (λ (p : Action × ℕ). p.0) e in cc)
sender b c n (Recv a d m) (inr h) = absurd h
sender b c n (Pick b' ls) h = let p = in_map_back (λ (l : NameId × ℕ). (selects b' l.0, l.1)) (sends b c, n) ls h in absurd (let f : selects b' p.0.0 ≡ sends b c = ap (λ (p : Action × ℕ). p.0) p.2 in cc)
sender b c n (Branch a ls) h = let p = in_map_back (λ (l : NameId × ℕ). (offers a l.0, l.1)) (sends b c, n) ls h in absurd (let f : offers a p.0.0 ≡ sends b c = ap (λ (p : Action × ℕ). p.0) p.2 in cc)

receiver : (a : NameId) (c : Content) (n : ℕ) (u : LocalState) → IsIn (receives a c, n) (acts_of u) → (d : Payload) × (u ≡ Recv a d n) × (content_of d ≡ c)
receiver a c n End h = absurd h
receiver a c n (Send b d m) (inl e) = absurd (let f : sends b (content_of d) ≡ receives a c = ap (λ (p : Action × ℕ). p.0) e in cc)
receiver a c n (Send b d m) (inr h) = absurd h
receiver a c n (Recv a' d m) (inl e) =
    let f : receives a' (content_of d) ≡ receives a c = ap (λ (p : Action × ℕ). p.0) e in
    let g : m ≡ n = ap (λ (p : Action × ℕ). p.1) e in
    let k : a' ≡ a = cc in
    (d, ap (λ v. Recv v d m) k ∙ ap (λ v. Recv a d v) g, cc)
receiver a c n (Recv a' d m) (inr h) = absurd h
receiver a c n (Pick b ls) h = let p = in_map_back (λ (l : NameId × ℕ). (selects b l.0, l.1)) (receives a c, n) ls h in absurd (let f : selects b p.0.0 ≡ receives a c = ap (λ (p : Action × ℕ). p.0) p.2 in cc)
receiver a c n (Branch a' ls) h = let p = in_map_back (λ (l : NameId × ℕ). (offers a' l.0, l.1)) (receives a c, n) ls h in absurd (let f : offers a' p.0.0 ≡ receives a c = ap (λ (p : Action × ℕ). p.0) p.2 in cc)

-- the label with the state after it is among the pairs
labelled : (l : NameId) (n : ℕ) (p : NameId × ℕ) (ls : List (NameId × ℕ)) → IsIn p ls → p.0 ≡ l → p.1 ≡ n → IsIn (l, n) ls
labelled l n p ls among e f = subst (λ v. IsIn (l, v) ls) f (subst (λ v. IsIn (v, p.1) ls) e among)

selector : (b l : NameId) (n : ℕ) (u : LocalState) → IsIn (selects b l, n) (acts_of u) → (ls : List (NameId × ℕ)) × (u ≡ Pick b ls) × IsIn (l, n) ls
selector b l n End h = absurd h
selector b l n (Send b' d m) (inl e) = absurd (let f : sends b' (content_of d) ≡ selects b l = ap (λ (p : Action × ℕ). p.0) e in cc)
selector b l n (Send b' d m) (inr h) = absurd h
selector b l n (Recv a d m) (inl e) = absurd (let f : receives a (content_of d) ≡ selects b l = ap (λ (p : Action × ℕ). p.0) e in cc)
selector b l n (Recv a d m) (inr h) = absurd h
selector b l n (Pick b' ls) h =
    let p = in_map_back (λ (k : NameId × ℕ). (selects b' k.0, k.1)) (selects b l, n) ls h in
    let f : selects b' p.0.0 ≡ selects b l = ap (λ (q : Action × ℕ). q.0) p.2 in
    let k : b' ≡ b = cc in
    let m : p.0.0 ≡ l = cc in
    (ls, ap (λ v. Pick v ls) k, labelled l n p.0 ls p.1 m (ap (λ (q : Action × ℕ). q.1) p.2))
selector b l n (Branch a ls) h = let p = in_map_back (λ (k : NameId × ℕ). (offers a k.0, k.1)) (selects b l, n) ls h in absurd (let f : offers a p.0.0 ≡ selects b l = ap (λ (q : Action × ℕ). q.0) p.2 in cc)

offerer : (a l : NameId) (n : ℕ) (u : LocalState) → IsIn (offers a l, n) (acts_of u) → (ls : List (NameId × ℕ)) × (u ≡ Branch a ls) × IsIn (l, n) ls
offerer a l n End h = absurd h
offerer a l n (Send b d m) (inl e) = absurd (let f : sends b (content_of d) ≡ offers a l = ap (λ (p : Action × ℕ). p.0) e in cc)
offerer a l n (Send b d m) (inr h) = absurd h
offerer a l n (Recv a' d m) (inl e) = absurd (let f : receives a' (content_of d) ≡ offers a l = ap (λ (p : Action × ℕ). p.0) e in cc)
offerer a l n (Recv a' d m) (inr h) = absurd h
offerer a l n (Pick b ls) h = let p = in_map_back (λ (k : NameId × ℕ). (selects b k.0, k.1)) (offers a l, n) ls h in absurd (let f : selects b p.0.0 ≡ offers a l = ap (λ (q : Action × ℕ). q.0) p.2 in cc)
offerer a l n (Branch a' ls) h =
    let p = in_map_back (λ (k : NameId × ℕ). (offers a' k.0, k.1)) (offers a l, n) ls h in
    let f : offers a' p.0.0 ≡ offers a l = ap (λ (q : Action × ℕ). q.0) p.2 in
    let k : a' ≡ a = cc in
    let m : p.0.0 ≡ l = cc in
    (ls, ap (λ v. Branch v ls) k, labelled l n p.0 ls p.1 m (ap (λ (q : Action × ℕ). q.1) p.2))

-- ---- states of two types that are matched

-- what a state keeps
pub record Fits (names : List (List ℕ)) (t : LocalState) : Type 0 where
  pub ends : (t ≡ End) ↔ (acts_of t ≡ [])
  pub ascend : Ascend (label_words names t)
  pub apart : AllPairs (λ k l. k ≢ l) (labels_in t)
  pub named : (l : NameId) → IsIn l (labels_in t) → l.0 < length names

module _ (names : List (List ℕ)) (distinct : AllDistinct names) (M : ℕ → ℕ → Type 0) (one : (n m k : ℕ) → M n m → M n k → m ≡ k) (other : (n m k : ℕ) → M n m → M k m → n ≡ k) where
  abbrev Pairwise : List ℕ → List ℕ → Type 0
  Pairwise [] [] = Unit {0}
  Pairwise [] (y ∷ ys) = ⊥
  Pairwise (x ∷ xs) [] = ⊥
  Pairwise (x ∷ xs) (y ∷ ys) = M x y × Pairwise xs ys

  -- the numbers are the same, and those found so far are matched with themselves
  pub record Same (xs ys : List ℕ) (d e : ℕ) : Type 0 where
    pub list : xs ≡ ys
    pub count : d ≡ e
    pub known : (j : ℕ) → j < d → M j j

  pub walk : (xs ys : List ℕ) (c d e : ℕ) → Pairwise xs ys → Counts c xs d → Counts c ys e → ((j : ℕ) → j < c → M j j) → Same xs ys d e
  walk [] [] c d e p h k known = record { list = refl; count = sym h ∙ k; known = λ j l. known j (omega (arith, h, l)) }
  walk [] (y ∷ ys) c d e p h k known = absurd p
  walk (x ∷ xs) [] c d e p h k known = absurd p
  walk (x ∷ xs) (y ∷ ys) c d e p (inl h) (inl k) known =
      let same : x ≡ y = one x x y (known x h.0) p.0 in
      let rest = walk xs ys c d e p.1 h.1 k.1 known in
      record { list = ap (λ v. v ∷ xs) same ∙ ap (λ l. y ∷ l) rest.list; count = rest.count; known = rest.known }
  walk (x ∷ xs) (y ∷ ys) c d e p (inl h) (inr k) known = absurd (let same : x ≡ y = one x x y (known x h.0) p.0 in let f = h.0 in let g = k.0 in omega (arith, same, f, g))
  walk (x ∷ xs) (y ∷ ys) c d e p (inr h) (inl k) known = absurd (let same : x ≡ y = other x y y p.0 (known y k.0) in let f = h.0 in let g = k.0 in omega (arith, same, f, g))
  walk (x ∷ xs) (y ∷ ys) c d e p (inr h) (inr k) known =
      let same : x ≡ y = h.0 ∙ sym k.0 in
      let rest = walk xs ys (suc c) d e p.1 h.1 k.1 more in
      record { list = ap (λ v. v ∷ xs) same ∙ ap (λ l. y ∷ l) rest.list; count = rest.count; known = rest.known }
    where
      here : M c c
      here = subst (λ v. M v c) h.0 (subst (λ v. M x v) k.0 p.0)

      more : (j : ℕ) → j < suc c → M j j
      more j less = go (cases_lt j c) where
        go : (j < c) ⊎ (c ≤ j) → M j j
        go (inl l) = known j l
        go (inr g) = let e : c ≡ j = omega (arith, less, g) in subst (λ v. M v v) e here

  -- the labels of two states
  record Paired (xs ys : List (NameId × ℕ)) : Type 0 where
    labels : map (λ l. l.0) xs ≡ map (λ l. l.0) ys
    nexts : Pairwise (map (λ l. l.1) xs) (map (λ l. l.1) ys)

  pairs : (xs ys : List (NameId × ℕ))
      → ((l : NameId) (k : ℕ) → IsIn (l, k) xs → (m : ℕ) × IsIn (l, m) ys × M k m)
      → ((l : NameId) (m : ℕ) → IsIn (l, m) ys → (k : ℕ) × IsIn (l, k) xs × M k m)
      → AllPairs (λ k l. k ≢ l) (map (λ l. l.0) xs) → AllPairs (λ k l. k ≢ l) (map (λ l. l.0) ys)
      → Ascend (map (name_in names) (map (λ l. l.0) xs)) → Ascend (map (name_in names) (map (λ l. l.0) ys))
      → ((l : NameId) → IsIn l (map (λ l. l.0) xs) → l.0 < length names) → ((l : NameId) → IsIn l (map (λ l. l.0) ys) → l.0 < length names)
      → Paired xs ys
  pairs [] [] there back a b up upper in_xs in_ys = record { labels = refl; nexts = tt }
  pairs [] (y ∷ ys) there back a b up upper in_xs in_ys = absurd (back y.0 y.1 (inl refl)).1
  pairs (x ∷ xs) [] there back a b up upper in_xs in_ys = absurd (there x.0 x.1 (inl refl)).1
  pairs (x ∷ xs) (y ∷ ys) there back a b up upper in_xs in_ys =
      let rest = pairs xs ys there_rest back_rest (pairs_rest (λ k l. k ≢ l) x.0 (map (λ l. l.0) xs) a) (pairs_rest (λ k l. k ≢ l) y.0 (map (λ l. l.0) ys) b) up.1 upper.1 (λ l h. in_xs l (inr h)) (λ l h. in_ys l (inr h)) in
      record { labels = ap (λ v. v ∷ map (λ l. l.0) xs) same ∙ ap (λ v. y.0 ∷ v) rest.labels; nexts = (matched (there x.0 x.1 (inl refl)), rest.nexts) }
    where
      label_in : (l : NameId) (n : ℕ) (ls : List (NameId × ℕ)) → IsIn (l, n) ls → IsIn l (map (λ l. l.0) ls)
      label_in l n ls h = in_map (λ (k : NameId × ℕ). k.0) (l, n) ls h

      first : {m k : ℕ} → IsIn (x.0, m) (y ∷ ys) → IsIn (y.0, k) (x ∷ xs) → x.0 ≡ y.0
      first (inl e) h = sym (ap (λ (p : NameId × ℕ). p.0) e)
      first (inr i) (inl e) = ap (λ (p : NameId × ℕ). p.0) e
      first {m} {k} (inr i) (inr j) =
          let p = label_in x.0 m ys i in
          let q = label_in y.0 k xs j in
          same_label names distinct x.0 y.0 (in_xs x.0 (inl refl)) (in_ys y.0 (inl refl))
          (same_word (name_in names x.0) (name_in names y.0) (upper.0 (name_in names x.0) (in_map (name_in names) x.0 (map (λ l. l.0) ys) p)) (up.0 (name_in names y.0) (in_map (name_in names) y.0 (map (λ l. l.0) xs) q)))

      same : x.0 ≡ y.0
      same = first (there x.0 x.1 (inl refl)).1 (back y.0 y.1 (inl refl)).1

      matched : ((m : ℕ) × IsIn (x.0, m) (y ∷ ys) × M x.1 m) → M x.1 y.1
      matched p = go p.1 p.2 where
        go : IsIn (x.0, p.0) (y ∷ ys) → M x.1 p.0 → M x.1 y.1
        go (inl e) h = subst (λ v. M x.1 v) (sym (ap (λ (q : NameId × ℕ). q.1) e)) h
        go (inr i) h = absurd (pairs_first (λ k l. k ≢ l) y.0 (map (λ l. l.0) ys) b x.0 (label_in x.0 p.0 ys i) (sym same))

      there_rest : (l : NameId) (k : ℕ) → IsIn (l, k) xs → (m : ℕ) × IsIn (l, m) ys × M k m
      there_rest l k h = go (there l k (inr h)) where
        go : ((m : ℕ) × IsIn (l, m) (y ∷ ys) × M k m) → (m : ℕ) × IsIn (l, m) ys × M k m
        go p = in_rest p.1 where
          in_rest : IsIn (l, p.0) (y ∷ ys) → (m : ℕ) × IsIn (l, m) ys × M k m
          in_rest (inl e) = absurd (pairs_first (λ k l. k ≢ l) x.0 (map (λ l. l.0) xs) a l (label_in l k xs h) (same ∙ ap (λ (q : NameId × ℕ). q.0) e))
          in_rest (inr i) = (p.0, i, p.2)

      back_rest : (l : NameId) (m : ℕ) → IsIn (l, m) ys → (k : ℕ) × IsIn (l, k) xs × M k m
      back_rest l m h = go (back l m (inr h)) where
        go : ((k : ℕ) × IsIn (l, k) (x ∷ xs) × M k m) → (k : ℕ) × IsIn (l, k) xs × M k m
        go p = in_rest p.1 where
          in_rest : IsIn (l, p.0) (x ∷ xs) → (k : ℕ) × IsIn (l, k) xs × M k m
          in_rest (inl e) = absurd (pairs_first (λ k l. k ≢ l) y.0 (map (λ l. l.0) ys) b l (label_in l m ys h) (sym same ∙ ap (λ (q : NameId × ℕ). q.0) e))
          in_rest (inr i) = (p.0, i, p.2)

  -- the states after are matched, and the text is the same as soon as they have the same numbers
  pub record Alike (t u : LocalState) : Type 0 where
    pub nexts : Pairwise (nexts_of t) (nexts_of u)
    pub text : nexts_of t ≡ nexts_of u → state_text names t ≡ state_text names u

  abbrev There : LocalState → LocalState → Type 0
  There t u = (a : Action) (k : ℕ) → IsIn (a, k) (acts_of t) → (m : ℕ) × IsIn (a, m) (acts_of u) × M k m

  abbrev Back : LocalState → LocalState → Type 0
  Back t u = (a : Action) (m : ℕ) → IsIn (a, m) (acts_of u) → (k : ℕ) × IsIn (a, k) (acts_of t) × M k m

  one_number : (n m : ℕ) → n ∷ [] ≡ m ∷ [] → n ≡ m
  one_number n m e = cc

  same_message : (b : NameId) (c d : Payload) (n m : ℕ) → content_of c ≡ content_of d → n ∷ [] ≡ m ∷ [] → message_text names b c n ≡ message_text names b d m
  same_message b c d n m e f = rw (same_content names c d e, one_number n m f) refl

  -- where each label has an act of its own, labels stand for each other as their acts do
  module _ (act : NameId → Action) (own : (k l : NameId) → act k ≡ act l → k ≡ l) where
    abbrev acted : List (NameId × ℕ) → List (Action × ℕ)
    acted us = map (λ k. (act k.0, k.1)) us

    found : (l : NameId) (n : ℕ) (us : List (NameId × ℕ)) → IsIn (act l, n) (acted us) → IsIn (l, n) us
    found l n us h =
        let p = in_map_back (λ (k : NameId × ℕ). (act k.0, k.1)) (act l, n) us h in
        labelled l n p.0 us p.1 (own p.0.0 l (ap (λ (q : Action × ℕ). q.0) p.2)) (ap (λ (q : Action × ℕ). q.1) p.2)

    for_labels : (N : ℕ → ℕ → Type 0) (us vs : List (NameId × ℕ)) → ((a : Action) (k : ℕ) → IsIn (a, k) (acted us) → (m : ℕ) × IsIn (a, m) (acted vs) × N k m) → (l : NameId) (k : ℕ) → IsIn (l, k) us → (m : ℕ) × IsIn (l, m) vs × N k m
    for_labels N us vs there l k h = let p = there (act l) k (in_map (λ (q : NameId × ℕ). (act q.0, q.1)) (l, k) us h) in (p.0, found l p.0 vs p.1, p.2)

  picks : (b : NameId) (ls ks : List (NameId × ℕ)) → Fits names (Pick b ls) → Fits names (Pick b ks) → There (Pick b ls) (Pick b ks) → Back (Pick b ls) (Pick b ks) → Alike (Pick b ls) (Pick b ks)
  picks b ls ks f g there back =
      let p = pairs ls ks (for_labels (selects b) (λ k l e. cc) M ls ks there) (for_labels (selects b) (λ k l e. cc) (λ m k. M k m) ks ls back) f.apart g.apart f.ascend g.ascend f.named g.named in
      record {
        nexts = subst (λ v. Pairwise v (nexts_of (Pick b ks))) (sym (pick_nexts b ls)) (subst (λ v. Pairwise (map (λ l. l.1) ls) v) (sym (pick_nexts b ks)) p.nexts);
        text = λ e. ap (λ v. state_text names (Pick b v)) (same_labels ls ks p.labels (sym (pick_nexts b ls) ∙ e ∙ pick_nexts b ks));
      }

  branches : (b : NameId) (ls ks : List (NameId × ℕ)) → Fits names (Branch b ls) → Fits names (Branch b ks) → There (Branch b ls) (Branch b ks) → Back (Branch b ls) (Branch b ks) → Alike (Branch b ls) (Branch b ks)
  branches b ls ks f g there back =
      let p = pairs ls ks (for_labels (offers b) (λ k l e. cc) M ls ks there) (for_labels (offers b) (λ k l e. cc) (λ m k. M k m) ks ls back) f.apart g.apart f.ascend g.ascend f.named g.named in
      record {
        nexts = subst (λ v. Pairwise v (nexts_of (Branch b ks))) (sym (branch_nexts b ls)) (subst (λ v. Pairwise (map (λ l. l.1) ls) v) (sym (branch_nexts b ks)) p.nexts);
        text = λ e. ap (λ v. state_text names (Branch b v)) (same_labels ls ks p.labels (sym (branch_nexts b ls) ∙ e ∙ branch_nexts b ks));
      }

  pub alike : (t u : LocalState) → Fits names t → Fits names u → There t u → Back t u → Alike t u
  alike End u f g there back =
      let e : u ≡ End = g.ends.1 (nothing_in (acts_of u) (λ p h. (back p.0 p.1 h).1)) in
      subst (λ v. Alike End v) (sym e) (record { nexts = tt; text = λ e. refl })
  alike (Send b c n) u f g there back =
      let p = there (sends b (content_of c)) n (inl refl) in
      let q = sender b (content_of c) p.0 u p.1 in
      subst (λ v. Alike (Send b c n) v) (sym q.1) (record { nexts = (p.2, tt); text = λ e. ap (λ v. codes_send ++ v) (same_message b c q.0 n p.0 (sym q.2) e) })
    where
      codes_send : List ℕ
      codes_send = 58 ∷ 32 ∷ 115 ∷ 101 ∷ 110 ∷ 100 ∷ 32 ∷ []
  alike (Recv a c n) u f g there back =
      let p = there (receives a (content_of c)) n (inl refl) in
      let q = receiver a (content_of c) p.0 u p.1 in
      subst (λ v. Alike (Recv a c n) v) (sym q.1) (record { nexts = (p.2, tt); text = λ e. ap (λ v. codes_recv ++ v) (same_message a c q.0 n p.0 (sym q.2) e) })
    where
      codes_recv : List ℕ
      codes_recv = 58 ∷ 32 ∷ 114 ∷ 101 ∷ 99 ∷ 118 ∷ 32 ∷ []
  alike (Pick b []) u f g there back = absurd (let e : Pick b [] ≡ End = f.ends.1 refl in cc)
  alike (Pick b (l ∷ ls)) u f g there back =
      let p = there (selects b l.0) l.1 (inl refl) in
      let q = selector b l.0 p.0 u p.1 in
      subst (λ v. Fits names v → There (Pick b (l ∷ ls)) v → Back (Pick b (l ∷ ls)) v → Alike (Pick b (l ∷ ls)) v) (sym q.1) (picks b (l ∷ ls) q.0 f) g there back
  alike (Branch b []) u f g there back = absurd (let e : Branch b [] ≡ End = f.ends.1 refl in cc)
  alike (Branch b (l ∷ ls)) u f g there back =
      let p = there (offers b l.0) l.1 (inl refl) in
      let q = offerer b l.0 p.0 u p.1 in
      subst (λ v. Fits names v → There (Branch b (l ∷ ls)) v → Back (Branch b (l ∷ ls)) v → Alike (Branch b (l ∷ ls)) v) (sym q.1) (branches b (l ∷ ls) q.0 f) g there back
