-- What a role does in states that it can't tell apart.
use Rattle.std.proofs.Common.{ℕ, ◌≡◌, List, [], ◌∷◌, Bool, true, false, refl, ap, sym, subst, ◌∙◌, arith, inl, inr}
use Rattle.std.specs.Prelude.{◌⊎◌, ◌==◌, ◌||◌, Some, slice_index_or, if◌then◌else◌}
use Rattle.std.proofs.lemmas.Bool.Decides.{nat_tests}
use Rattle.std.proofs.lemmas.Option.{slice_get-get_or, slice_get_within}
use Rattle.chor_base.specs.declared.names.NameId.{NameId}
use Rattle.chor_base.specs.declared.value.Sort.{Sort}
use Rattle.chor_base.specs.declared.value.Sort.TheVariants as sort
use Rattle.chor_tree.specs.declared.protocol.ProtoArm.{ProtoArm}
use Rattle.chor_tree.specs.declared.protocol.ProtoStep.{ProtoStep}
use Rattle.chor_tree.specs.declared.protocol.ProtoStep.TheVariants.{End, Value, Choice}
use Rattle.chor_tree.specs.declared.protocol.State.{State}
use Rattle.global_types.specs.Moves.{IsIn, Content, plain, endpoint, content_of, Exchange, passes, chooses, exchanges_of, is_named}
use Rattle.global_types.specs.Paths.{Action, sends, receives, selects, offers, action_in}
use Rattle.global_types.specs.Views.{labels_of, SameLabels, IsAlike, IsApart, Clashes}
use Rattle.state_sets.specs.declared.act.Act.{Act}
use Rattle.state_sets.specs.declared.act.Act.TheVariants.{Send, Recv, Pick, Branch}
use Rattle.state_sets.specs.declared.table.Row.{Row}
use Rattle.state_sets.specs.Moves.{action_of}
use Rattle.state_sets.specs.Kin.{IsKin, AreKin}
use Rattle.state_sets.specs.Table.{Target, IsWhole}
use Rattle.state_sets.proofs.Lists.{at_of_in, in_map_back}
use Rattle.state_sets.proofs.Sets.{set_alone}
use Rattle.state_sets.proofs.Verdicts.{row_actions}

-- ---- what can be decided

name_or_not : (a b : NameId) → (a ≡ b) ⊎ (a ≡ b → ⊥)
name_or_not a b = go (a.0 == b.0) refl where
  go : (t : Bool) → (a.0 == b.0) ≡ t → (a ≡ b) ⊎ (a ≡ b → ⊥)
  go true e = inl (let f : a.0 ≡ b.0 = grind (arith, nat_tests) in ap (λ n. record { 0 = n }) f)
  go false e = inr (λ h. let f : a.0 ≡ b.0 = ap (λ (n : NameId). n.0) h in grind (arith, nat_tests))

sort_or_not : (s t : Sort) → (s ≡ t) ⊎ (s ≡ t → ⊥)
sort_or_not sort.Int sort.Int = inl refl
sort_or_not sort.Int sort.Bool = inr (λ h. absurd (cc))
sort_or_not sort.Int sort.Text = inr (λ h. absurd (cc))
sort_or_not sort.Bool sort.Int = inr (λ h. absurd (cc))
sort_or_not sort.Bool sort.Bool = inl refl
sort_or_not sort.Bool sort.Text = inr (λ h. absurd (cc))
sort_or_not sort.Text sort.Int = inr (λ h. absurd (cc))
sort_or_not sort.Text sort.Bool = inr (λ h. absurd (cc))
sort_or_not sort.Text sort.Text = inl refl

content_or_not : (c d : Content) → (c ≡ d) ⊎ (c ≡ d → ⊥)
content_or_not (plain s) (plain t) = go (sort_or_not s t) where
  go : (s ≡ t) ⊎ (s ≡ t → ⊥) → (plain s ≡ plain t) ⊎ (plain s ≡ plain t → ⊥)
  go (inl e) = inl (ap plain e)
  go (inr n) = inr (λ h. n cc)
content_or_not (plain s) (endpoint q t r) = inr (λ h. absurd (cc))
content_or_not (endpoint q t r) (plain s) = inr (λ h. absurd (cc))
content_or_not (endpoint q t r) (endpoint q' t' r') = go (name_or_not q q') (name_or_not t t') (name_or_not r r') where
  go : (q ≡ q') ⊎ (q ≡ q' → ⊥) → (t ≡ t') ⊎ (t ≡ t' → ⊥) → (r ≡ r') ⊎ (r ≡ r' → ⊥) → (endpoint q t r ≡ endpoint q' t' r') ⊎ (endpoint q t r ≡ endpoint q' t' r' → ⊥)
  go (inl e) (inl f) (inl g) = inl (ap (λ v. endpoint v t r) e ∙ ap (λ v. endpoint q' v r) f ∙ ap (λ v. endpoint q' t' v) g)
  go (inr n) f g = inr (λ h. n cc)
  go (inl e) (inr n) g = inr (λ h. n cc)
  go (inl e) (inl f) (inr n) = inr (λ h. n cc)

in_or_not : (l : NameId) (vs : List NameId) → IsIn l vs ⊎ (IsIn l vs → ⊥)
in_or_not l [] = inr (λ h. h)
in_or_not l (v ∷ vs) = go (name_or_not v l) (in_or_not l vs) where
  go : (v ≡ l) ⊎ (v ≡ l → ⊥) → IsIn l vs ⊎ (IsIn l vs → ⊥) → IsIn l (v ∷ vs) ⊎ (IsIn l (v ∷ vs) → ⊥)
  go (inl e) k = inl (inl e)
  go (inr n) (inl h) = inl (inr h)
  go (inr n) (inr m) = inr (λ h. elim h [ inl e ↦ n e | inr i ↦ m i ])

all_or_not : (us vs : List NameId) → ((l : NameId) → IsIn l us → IsIn l vs) ⊎ (((l : NameId) → IsIn l us → IsIn l vs) → ⊥)
all_or_not [] vs = inl (λ l h. absurd h)
all_or_not (u ∷ us) vs = go (in_or_not u vs) (all_or_not us vs) where
  go : IsIn u vs ⊎ (IsIn u vs → ⊥) → ((l : NameId) → IsIn l us → IsIn l vs) ⊎ (((l : NameId) → IsIn l us → IsIn l vs) → ⊥) → ((l : NameId) → IsIn l (u ∷ us) → IsIn l vs) ⊎ (((l : NameId) → IsIn l (u ∷ us) → IsIn l vs) → ⊥)
  go (inl h) (inl f) = inl (λ l k. elim k [ inl e ↦ subst (λ v. IsIn v vs) e h | inr i ↦ f l i ])
  go (inr n) f = inr (λ g. n (g u (inl refl)))
  go (inl h) (inr n) = inr (λ g. n (λ l i. g l (inr i)))

labels_or_not : (xs ys : List ProtoArm) → SameLabels xs ys ⊎ (SameLabels xs ys → ⊥)
labels_or_not xs ys = go (all_or_not (labels_of xs) (labels_of ys)) (all_or_not (labels_of ys) (labels_of xs)) where
  go : ((l : NameId) → IsIn l (labels_of xs) → IsIn l (labels_of ys)) ⊎ (((l : NameId) → IsIn l (labels_of xs) → IsIn l (labels_of ys)) → ⊥) → ((l : NameId) → IsIn l (labels_of ys) → IsIn l (labels_of xs)) ⊎ (((l : NameId) → IsIn l (labels_of ys) → IsIn l (labels_of xs)) → ⊥) → SameLabels xs ys ⊎ (SameLabels xs ys → ⊥)
  go (inl f) (inl g) = inl (λ l. (f l, g l))
  go (inr n) g = inr (λ h. n (λ l. (h l).0))
  go (inl f) (inr n) = inr (λ h. n (λ l. (h l).1))

alike_or_not : (r : NameId) (s t : ProtoStep) → IsAlike r s t ⊎ (IsAlike r s t → ⊥)
alike_or_not r End t = inr (λ h. h)
alike_or_not r (Value a b c next) End = inr (λ h. h)
alike_or_not r (Value a b c next) (Choice a' b' arms) = inr (λ h. h)
alike_or_not r (Choice a b arms) End = inr (λ h. h)
alike_or_not r (Choice a b arms) (Value a' b' c next) = inr (λ h. h)
alike_or_not r (Value a b c next) (Value a' b' c' next') = go (name_or_not a.name a'.name) (name_or_not b.name b'.name) (content_or_not (content_of c) (content_of c')) where
  go : (a.name ≡ a'.name) ⊎ (a.name ≡ a'.name → ⊥) → (b.name ≡ b'.name) ⊎ (b.name ≡ b'.name → ⊥) → (content_of c ≡ content_of c') ⊎ (content_of c ≡ content_of c' → ⊥) → IsAlike r (Value a b c next) (Value a' b' c' next') ⊎ (IsAlike r (Value a b c next) (Value a' b' c' next') → ⊥)
  go (inl e) (inl f) (inl g) = inl (e, f, g)
  go (inr n) f g = inr (λ h. n h.0)
  go (inl e) (inr n) g = inr (λ h. n h.1)
  go (inl e) (inl f) (inr n) = inr (λ h. n h.2)
alike_or_not r (Choice a b arms) (Choice a' b' arms') = go (name_or_not a.name a'.name) (name_or_not b.name b'.name) (name_or_not a.name r) (labels_or_not arms arms') where
  go : (a.name ≡ a'.name) ⊎ (a.name ≡ a'.name → ⊥) → (b.name ≡ b'.name) ⊎ (b.name ≡ b'.name → ⊥) → (a.name ≡ r) ⊎ (a.name ≡ r → ⊥) → SameLabels arms arms' ⊎ (SameLabels arms arms' → ⊥) → IsAlike r (Choice a b arms) (Choice a' b' arms') ⊎ (IsAlike r (Choice a b arms) (Choice a' b' arms') → ⊥)
  go (inr n) f g k = inr (λ h. n h.0)
  go (inl e) (inr n) g k = inr (λ h. n h.1)
  go (inl e) (inl f) (inr n) k = inl (e, f, λ h. absurd (n h))
  go (inl e) (inl f) (inl g) (inl k) = inl (e, f, λ h. k)
  go (inl e) (inl f) (inl g) (inr n) = inr (λ h. n (h.2 g))

alike : (r : NameId) (s t : ProtoStep) → is_named r s ≡ true → is_named r t ≡ true → (IsApart r s t → ⊥) → IsAlike r s t
alike r s t a b not = go (alike_or_not r s t) where
  go : IsAlike r s t ⊎ (IsAlike r s t → ⊥) → IsAlike r s t
  go (inl h) = h
  go (inr n) = absurd (not (a, inr (b, n)))

-- ---- actions in such steps

abbrev KinActions : Action → Action → Type 0
KinActions (sends b c) (sends b' c') = (b ≡ b') × (c ≡ c')
KinActions (receives a c) (receives a' c') = (a ≡ a') × (c ≡ c')
KinActions (selects b l) (selects b' l') = b ≡ b'
KinActions (offers a l) (offers a' l') = a ≡ a'
KinActions _ _ = ⊥

kin_itself : (a : Action) → KinActions a a
kin_itself (sends b c) = (refl, refl)
kin_itself (receives a c) = (refl, refl)
kin_itself (selects b l) = refl
kin_itself (offers a l) = refl

one_same : (a b : Action) → a ∷ [] ≡ b ∷ [] → a ≡ b
one_same a b e = cc

choices_kin : (r a b l m : NameId) (x y : Action) → action_in r (chooses a b l) ≡ x ∷ [] → action_in r (chooses a b m) ≡ y ∷ [] → KinActions x y
choices_kin r a b l m x y e f = go (a.0 == r.0) (b.0 == r.0) e f where
  go : (p q : Bool) → (if p then selects b l ∷ [] else (if q then offers a l ∷ [] else [])) ≡ x ∷ [] → (if p then selects b m ∷ [] else (if q then offers a m ∷ [] else [])) ≡ y ∷ [] → KinActions x y
  go true q g h = subst (λ v. KinActions v y) (one_same (selects b l) x g) (subst (λ v. KinActions (selects b l) v) (one_same (selects b m) y h) refl)
  go false true g h = subst (λ v. KinActions v y) (one_same (offers a l) x g) (subst (λ v. KinActions (offers a l) v) (one_same (offers a m) y h) refl)
  go false false g h = absurd (cc)

steps_kin : (r : NameId) (s t : ProtoStep) (e f : Exchange) (n m : NameId) (x y : Action) → IsIn (e, n) (exchanges_of s) → IsIn (f, m) (exchanges_of t) → IsAlike r s t → action_in r e ≡ x ∷ [] → action_in r f ≡ y ∷ [] → KinActions x y
steps_kin r End t e f n m x y i j h d k = absurd i
steps_kin r (Value a b c next) End e f n m x y i j h d k = absurd h
steps_kin r (Value a b c next) (Choice a' b' arms) e f n m x y i j h d k = absurd h
steps_kin r (Choice a b arms) End e f n m x y i j h d k = absurd h
steps_kin r (Choice a b arms) (Value a' b' c next) e f n m x y i j h d k = absurd h
steps_kin r (Value a b c next) (Value a' b' c' next') e f n m x y (inl i) (inl j) h d k =
    let first : passes a.name b.name (content_of c) ≡ e = ap (λ (p : Exchange × NameId). p.0) i in
    let second : passes a'.name b'.name (content_of c') ≡ f = ap (λ (p : Exchange × NameId). p.0) j in
    let same : e ≡ f = sym first ∙ ap (λ v. passes v b.name (content_of c)) h.0 ∙ ap (λ v. passes a'.name v (content_of c)) h.1 ∙ ap (λ v. passes a'.name b'.name v) h.2 ∙ second in
    subst (λ v. KinActions x v) (one_same x y (sym d ∙ ap (λ v. action_in r v) same ∙ k)) (kin_itself x)
steps_kin r (Value a b c next) (Value a' b' c' next') e f n m x y (inr i) j h d k = absurd i
steps_kin r (Value a b c next) (Value a' b' c' next') e f n m x y (inl i) (inr j) h d k = absurd j
steps_kin r (Choice a b arms) (Choice a' b' arms') e f n m x y i j h d k =
    let p = in_map_back (λ (arm : ProtoArm). (chooses a.name b.name arm.label.name, arm.next.name)) (e, n) arms i in
    let q = in_map_back (λ (arm : ProtoArm). (chooses a'.name b'.name arm.label.name, arm.next.name)) (f, m) arms' j in
    let first : chooses a.name b.name p.0.label.name ≡ e = ap (λ (v : Exchange × NameId). v.0) p.2 in
    let second : chooses a.name b.name q.0.label.name ≡ f = ap (λ v. chooses v b.name q.0.label.name) h.0 ∙ ap (λ v. chooses a'.name v q.0.label.name) h.1 ∙ ap (λ (v : Exchange × NameId). v.0) q.2 in
    choices_kin r a.name b.name p.0.label.name q.0.label.name x y (ap (λ v. action_in r v) first ∙ d) (ap (λ v. action_in r v) second ∙ k)

-- a step in whose exchange the role acts names it
names_it : (r a b : NameId) → (p q : Bool) → ((p || q) ≡ false → ⊥) → (p || q) ≡ true
names_it r a b true q h = refl
names_it r a b false true h = refl
names_it r a b false false h = absurd (h refl)

step_named : (r : NameId) (s : ProtoStep) (e : Exchange) (n : NameId) (x : Action) → IsIn (e, n) (exchanges_of s) → action_in r e ≡ x ∷ [] → is_named r s ≡ true
step_named r End e n x i d = absurd i
step_named r (Value a b c next) e n x (inr i) d = absurd i
step_named r (Value a b c next) e n x (inl i) d = go (a.name.0 == r.0) (b.name.0 == r.0) (ap (λ v. action_in r v) (ap (λ (p : Exchange × NameId). p.0) i) ∙ d) where
  go : (p q : Bool) → (if p then sends b.name (content_of c) ∷ [] else (if q then receives a.name (content_of c) ∷ [] else [])) ≡ x ∷ [] → (p || q) ≡ true
  go true q g = refl
  go false true g = refl
  go false false g = absurd (cc)
step_named r (Choice a b arms) e n x i d =
    let p = in_map_back (λ (arm : ProtoArm). (chooses a.name b.name arm.label.name, arm.next.name)) (e, n) arms i in
    go p.0 (a.name.0 == r.0) (b.name.0 == r.0) (ap (λ v. action_in r v) (ap (λ (v : Exchange × NameId). v.0) p.2) ∙ d) where
      go : (arm : ProtoArm) (p q : Bool) → (if p then selects b.name arm.label.name ∷ [] else (if q then offers a.name arm.label.name ∷ [] else [])) ≡ x ∷ [] → (p || q) ≡ true
      go arm true q g = refl
      go arm false true g = refl
      go arm false false g = absurd (cc)

-- ---- arms of one row

kin_acts : (a b : Act) (n m : ℕ) → KinActions (action_of a) (action_of b) → (action_of a ≡ action_of b → n ≡ m) → IsKin a n b m
kin_acts (Send b c) (Send b' c') n m k f = (k.0, k.1, f (ap (λ v. sends v (content_of c)) k.0 ∙ ap (λ v. sends b' v) k.1))
kin_acts (Recv b c) (Recv b' c') n m k f = (k.0, k.1, f (ap (λ v. receives v (content_of c)) k.0 ∙ ap (λ v. receives b' v) k.1))
kin_acts (Pick b l) (Pick b' l') n m k f = k
kin_acts (Branch b l) (Branch b' l') n m k f = k
kin_acts (Send b c) (Recv b' c') n m k f = absurd k
kin_acts (Send b c) (Pick b' l') n m k f = absurd k
kin_acts (Send b c) (Branch b' l') n m k f = absurd k
kin_acts (Recv b c) (Send b' c') n m k f = absurd k
kin_acts (Recv b c) (Pick b' l') n m k f = absurd k
kin_acts (Recv b c) (Branch b' l') n m k f = absurd k
kin_acts (Pick b l) (Send b' c') n m k f = absurd k
kin_acts (Pick b l) (Recv b' c') n m k f = absurd k
kin_acts (Pick b l) (Branch b' l') n m k f = absurd k
kin_acts (Branch b l) (Send b' c') n m k f = absurd k
kin_acts (Branch b l) (Recv b' c') n m k f = absurd k
kin_acts (Branch b l) (Pick b' l') n m k f = absurd k

pub rows_kin : (ss : List State) (r : NameId) (n : ℕ) (rows : List Row) → IsWhole ss r n rows → (Clashes ss r → ⊥) → (row : Row) → IsIn row rows → AreKin row.arms.items
rows_kin ss r n rows whole clear row among x y i j =
    let p = at_of_in row rows among in
    let b = slice_get_within rows p.0 row p.1 in
    let at = slice_get-get_or whole.sets p.0 [] (let e = whole.whole in omega (arith, b, e)) in
    let f = whole.table.follows p.0 (slice_index_or whole.sets p.0 []) row p.1 at in
    let w = row_actions ss r n rows whole row among in
    let one = f.arms.sound x i in
    let other = f.arms.sound y j in
    let s = one.reached in
    let t = other.reached in
    let named_one = step_named r s.leads.state.step s.exchange s.leads.next (action_of x.act) s.leads.allowed s.does in
    let named_other = step_named r t.leads.state.step t.exchange t.leads.next (action_of y.act) t.leads.allowed t.does in
    let like = alike r s.leads.state.step t.leads.state.step named_one named_other
    (λ h. clear (record { actions = w.0; first = s.from; second = t.from; one = s.leads.state; other = t.leads.state; is_still = w.1.sound s.from s.is_still; also_still = w.1.sound t.from t.is_still; is_one = s.leads.here; is_other = t.leads.here; is_apart = h })) in
    let kin = steps_kin r s.leads.state.step t.leads.state.step s.exchange t.exchange s.leads.next t.leads.next (action_of x.act) (action_of y.act) s.leads.allowed t.leads.allowed like s.does t.does in
    kin_acts x.act y.act x.next y.next kin (λ e.
    let same : one.word ≡ other.word = set_alone n (Target ss r row.still.items (action_of x.act)) (Target ss r row.still.items (action_of y.act)) one.word other.word one.set other.set
    (λ v h. subst (λ a. Target ss r row.still.items a v) e h) (λ v h. subst (λ a. Target ss r row.still.items a v) (sym e) h) in
    whole.distinct x.next y.next other.word (one.at ∙ ap (λ (v : List ℕ). Some v) same) other.at)
