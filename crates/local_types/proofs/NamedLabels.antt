-- Labels of types are those of the protocol, and what follows of two types of one role.
use Rattle.std.proofs.Common.{ℕ, ◌≡◌, ◌+◌, ◌<◌, ◌≤◌, List, [], ◌∷◌, ◌++◌, Bool, true, false, refl, ap, sym, subst, ◌∙◌, arith, inl, inr, length, append_assoc, length-append}
use Rattle.std.specs.Prelude.{◌⊎◌, ◌==◌, Option, Some, None, slice_get, if◌then◌else◌}
use Rattle.std.specs.List.{flat_map}
use Rattle.std.proofs.lemmas.Bool.{cases_lt}
use Rattle.std.proofs.lemmas.Grind.{flat_map-append}
use Rattle.std.proofs.lemmas.Option.{slice_get_within}
use Rattle.std.specs.Fmt.{decimal}
use Rattle.chor_base.specs.declared.names.NameId.{NameId}
use Rattle.chor_base.specs.Words.{AllDistinct}
use Rattle.chor_base.specs.Writing.{name_in}
use Rattle.chor_tree.specs.declared.protocol.State.{State}
use Rattle.global_types.specs.Moves.{IsIn, Exchange, passes, chooses, Leads}
use Rattle.global_types.specs.Paths.{IsPath, Action, sends, receives, selects, offers, action_in, actions_of, IsView}
use Rattle.local_types.specs.declared.local_type.LocalState.{LocalState}
use Rattle.local_types.specs.declared.local_type.LocalState.TheVariants.{End, Send, Recv, Pick, Branch}
use Rattle.local_types.specs.Reading.{acts_of, nexts_of, LeadsTo, labels_in, IsRoleType}
use Rattle.local_types.specs.Numbers.{AreMatched, IsCarriedOver}
use Rattle.state_sets.specs.Table.{Counts}
use Rattle.local_types.specs.Text.{state_text, states_text, HasNamedLabels, HasOneText}
use Rattle.state_sets.proofs.Counts.{counts_append, counts_split}
use Rattle.state_sets.proofs.Lists.{in_left, in_right, in_either, in_map, in_map_back, in_of_at}
use Rattle.local_types.proofs.Numbers.{leads_append, carried_over}
use Rattle.local_types.proofs.Texts.{get_left, get_next, in_flat, counts_up, counts_below, counts_from_order, Fits, walk, Alike, alike}

-- ---- labels are those of the protocol

label_of : Action → Option NameId
label_of (sends b c) = None
label_of (receives a c) = None
label_of (selects b l) = Some l
label_of (offers a l) = Some l

record LabelAct (t : LocalState) (l : NameId) : Type 0 where
  action : Action
  next : ℕ
  among : IsIn (action, next) (acts_of t)
  is : label_of action ≡ Some l

label_act : (t : LocalState) (l : NameId) → IsIn l (labels_in t) → LabelAct t l
unfolding label_of
label_act End l h = absurd h
label_act (Send b c n) l h = absurd h
label_act (Recv a c n) l h = absurd h
label_act (Pick b ls) l h =
    let p = in_map_back (λ (k : NameId × ℕ). k.0) l ls h in
    record { action = selects b p.0.0; next = p.0.1; among = in_map (λ (k : NameId × ℕ). (selects b k.0, k.1)) p.0 ls p.1; is = ap (λ (v : NameId). Some v) p.2 }
label_act (Branch a ls) l h =
    let p = in_map_back (λ (k : NameId × ℕ). k.0) l ls h in
    record { action = offers a p.0.0; next = p.0.1; among = in_map (λ (k : NameId × ℕ). (offers a k.0, k.1)) p.0 ls p.1; is = ap (λ (v : NameId). Some v) p.2 }

some_same : {A : Type 0} (x y : A) → Some x ≡ Some y → x ≡ y
some_same x y e = cc

-- an action with a label is that of a choice
of_choice : (r : NameId) (x : Exchange) (a : Action) (l : NameId) → IsIn a (action_in r x) → label_of a ≡ Some l → (b c : NameId) × (x ≡ chooses b c l)
unfolding label_of
of_choice r (passes b c d) a l h e = absurd (go (b.0 == r.0) (c.0 == r.0) h) where
  go : (p q : Bool) → IsIn a (if p then sends c d ∷ [] else (if q then receives b d ∷ [] else [])) → ⊥
  go true q (inl f) = let g : label_of (sends c d) ≡ Some l = ap label_of f ∙ e in cc
  go true q (inr k) = k
  go false true (inl f) = let g : label_of (receives b d) ≡ Some l = ap label_of f ∙ e in cc
  go false true (inr k) = k
  go false false k = k
of_choice r (chooses b c m) a l h e = (b, c, ap (λ v. chooses b c v) (go (b.0 == r.0) (c.0 == r.0) h)) where
  go : (p q : Bool) → IsIn a (if p then selects c m ∷ [] else (if q then offers b m ∷ [] else [])) → m ≡ l
  go true q (inl f) = some_same m l (ap label_of f ∙ e)
  go true q (inr k) = absurd k
  go false true (inl f) = some_same m l (ap label_of f ∙ e)
  go false true (inr k) = absurd k
  go false false k = absurd k

record ActLeads (ss : List State) (r : NameId) (a : Action) : Type 0 where
  from : ℕ
  to : ℕ
  exchange : Exchange
  leads : Leads ss from exchange to
  does : IsIn a (action_in r exchange)

act_leads : (ss : List State) (r : NameId) (a : Action) (i : ℕ) (xs : List Exchange) (k : ℕ) → IsPath ss i xs k → IsIn a (actions_of r xs) → ActLeads ss r a
act_leads ss r a i [] k path h = absurd h
act_leads ss r a i (x ∷ xs) k path h = go (in_either a (action_in r x) (actions_of r xs) h) (λ m. act_leads ss r a path.0 xs k path.2 m) where
  go : IsIn a (action_in r x) ⊎ IsIn a (actions_of r xs) → (IsIn a (actions_of r xs) → ActLeads ss r a) → ActLeads ss r a
  go (inl m) hyp = record { from = i; to = path.0; exchange = x; leads = path.1; does = m }
  go (inr m) hyp = hyp m

view_label : (names : List (List ℕ)) (ss : List State) (r : NameId) (w : List Action) (a : Action) (l : NameId) → HasNamedLabels names ss → IsView ss r (w ++ a ∷ []) → label_of a ≡ Some l → l.0 < length names
view_label names ss r w a l named v e =
    let m : IsIn a (actions_of r v.path) = subst (λ u. IsIn a u) (sym v.begins) (in_left a (w ++ a ∷ []) v.rest (in_right a w (a ∷ []) (inl refl))) in
    let s = act_leads ss r a 0 v.path v.last v.is_path m in
    let c = of_choice r s.exchange a l s.does e in
    named s.from s.to c.0 c.1 l (subst (λ x. Leads ss s.from x s.to) c.2 s.leads)

-- ---- two types

module _ (names : List (List ℕ)) (ss : List State) (r : NameId) (named : HasNamedLabels names ss) where
  fits : (ts : List LocalState) → IsRoleType names ss r ts → (n : ℕ) (t : LocalState) → slice_get ts n ≡ Some t → Fits names t
  fits ts is n t at = record {
    ends = is.stands.ends n t at;
    ascend = is.ascend n t at;
    apart = is.distinct n t at;
    named = λ l h. label_named l (label_act t l h) (is.stands.led n t at);
  }
    where
      label_named : (l : NameId) → LabelAct t l → (w : List Action) × LeadsTo ts 0 w n → l.0 < length names
      label_named l k p =
          let read = leads_append ts 0 n k.next p.0 (k.action ∷ []) p.1 (t, at, k.next, k.among, refl) in
          view_label names ss r p.0 k.action l named ((is.stands.view (p.0 ++ k.action ∷ [])).0 (k.next, read)) k.is

-- a later state is led to from those before it
found : (ts done rest : List LocalState) (k c : ℕ) → ts ≡ done ++ rest → length done ≡ k → Counts 1 (flat_map nexts_of done) c
    → (w : List Action) (i n : ℕ) → LeadsTo ts i w n → i < k → k ≤ n → k < c
found ts done rest k c is size counts [] i n h less more = absurd (omega (arith, h, less, more))
found ts done rest k c is size counts (a ∷ w) i n h less more = go (cases_lt h.2 k) (λ l. found ts done rest k c is size counts w h.2 n h.4 l more) where
  go : (h.2 < k) ⊎ (k ≤ h.2) → (h.2 < k → k < c) → k < c
  go (inl l) hyp = hyp l
  go (inr g) hyp =
      let at : slice_get done i ≡ Some h.0 = get_left done rest i h.0 (omega (arith, less, size)) (subst (λ v. slice_get v i ≡ Some h.0) is h.1) in
      let next : IsIn h.2 (nexts_of h.0) = in_map (λ (p : Action × ℕ). p.1) (a, h.2) (acts_of h.0) h.3 in
      let b = counts_below 1 c h.2 (flat_map nexts_of done) counts (in_flat nexts_of h.0 h.2 done (in_of_at h.0 done i at) next) in
      omega (arith, b, g)

-- a state that comes next has been found
found_next : (ts done rest : List LocalState) (k c : ℕ) → ts ≡ done ++ rest → length done ≡ k → Counts 1 (flat_map nexts_of done) c
    → (w : List Action) → LeadsTo ts 0 w k → k < c
found_next ts done rest k c is size counts w h = go (cases_lt 0 k) where
  go : (0 < k) ⊎ (k ≤ 0) → k < c
  go (inl l) = found ts done rest k c is size counts w 0 k h l (omega arith)
  go (inr l) = let g = counts_up 1 c (flat_map nexts_of done) counts in omega (arith, l, g)

module _ (names : List (List ℕ)) (ss : List State) (r : NameId) (distinct : AllDistinct names) (named : HasNamedLabels names ss) (ts us : List LocalState) (one : IsRoleType names ss r ts) (other : IsRoleType names ss r us) where
  there : IsCarriedOver ts us
  there = carried_over ss r ts us one.stands other.stands

  back : IsCarriedOver us ts
  back = carried_over ss r us ts other.stands one.stands

  abbrev M : ℕ → ℕ → Type 0
  M n m = AreMatched ts us n m

  flipped : (n m : ℕ) → M n m → AreMatched us ts m n
  flipped n m p = (p.0, p.2, p.1)

  flipped_back : (n m : ℕ) → AreMatched us ts m n → M n m
  flipped_back n m p = (p.0, p.2, p.1)

  one_right : (n m k : ℕ) → M n m → M n k → m ≡ k
  one_right n m k p q = there.one n m k p q

  one_left : (n m k : ℕ) → M n m → M k m → n ≡ k
  one_left n m k p q = back.one m n k (flipped n m p) (flipped k m q)

  states_alike : (k : ℕ) (t u : LocalState) → slice_get ts k ≡ Some t → slice_get us k ≡ Some u → M k k → Alike names distinct M one_right one_left t u
  states_alike k t u at at_u match = alike names distinct M one_right one_left t u (fits names ss r named ts one k t at) (fits names ss r named us other k u at_u) forth again
    where
      forth : (a : Action) (n : ℕ) → IsIn (a, n) (acts_of t) → (m : ℕ) × IsIn (a, m) (acts_of u) × M n m
      forth a n h =
          let p = there.goes_on k k n t a match at h in
          (p.2, subst (λ v. IsIn (a, p.2) (acts_of v)) (some_same p.0 u (sym p.1 ∙ at_u)) p.3, p.4)

      again : (a : Action) (m : ℕ) → IsIn (a, m) (acts_of u) → (n : ℕ) × IsIn (a, n) (acts_of t) × M n m
      again a m h =
          let p = back.goes_on k k m u a (flipped k k match) at_u h in
          (p.2, subst (λ v. IsIn (a, p.2) (acts_of v)) (some_same p.0 t (sym p.1 ∙ at)) p.3, flipped_back p.2 m p.4)

  -- the text of the states that are left
  texts : (rest others done undone : List LocalState) (k c d e : ℕ) → ts ≡ done ++ rest → us ≡ undone ++ others → length done ≡ k → length undone ≡ k
      → Counts 1 (flat_map nexts_of done) c → Counts 1 (flat_map nexts_of undone) c → Counts c (flat_map nexts_of rest) d → Counts c (flat_map nexts_of others) e
      → ((j : ℕ) → j < c → M j j) → states_text names k rest ≡ states_text names k others
  texts [] [] done undone k c d e is is_u size size_u counts counts_u left left_u known = refl
  texts [] (u ∷ others) done undone k c d e is is_u size size_u counts counts_u left left_u known = absurd (
      let at : slice_get us k ≡ Some u = subst (λ v. slice_get v k ≡ Some u) (sym is_u) (subst (λ v. slice_get (undone ++ u ∷ others) v ≡ Some u) size_u (get_next undone u others)) in
      let w = other.stands.led k u at in
      let m = known k (found_next us undone (u ∷ others) k c is_u size_u counts_u w.0 w.1) in
      let t = one.stands.there m.0 k m.1 in
      let b = slice_get_within ts k t.0 t.1 in
      let l : length ts ≡ length done + 0 = ap (λ v. length v) is ∙ length-append done [] in
      omega (arith, b, l, size)
      )
  texts (t ∷ rest) [] done undone k c d e is is_u size size_u counts counts_u left left_u known = absurd (
      let at : slice_get ts k ≡ Some t = subst (λ v. slice_get v k ≡ Some t) (sym is) (subst (λ v. slice_get (done ++ t ∷ rest) v ≡ Some t) size (get_next done t rest)) in
      let w = one.stands.led k t at in
      let m = known k (found_next ts done (t ∷ rest) k c is size counts w.0 w.1) in
      let u = other.stands.there m.0 k m.2 in
      let b = slice_get_within us k u.0 u.1 in
      let l : length us ≡ length undone + 0 = ap (λ v. length v) is_u ∙ length-append undone [] in
      omega (arith, b, l, size_u)
      )
  texts (t ∷ rest) (u ∷ others) done undone k c d e is is_u size size_u counts counts_u left left_u known =
      let at : slice_get ts k ≡ Some t = subst (λ v. slice_get v k ≡ Some t) (sym is) (subst (λ v. slice_get (done ++ t ∷ rest) v ≡ Some t) size (get_next done t rest)) in
      let at_u : slice_get us k ≡ Some u = subst (λ v. slice_get v k ≡ Some u) (sym is_u) (subst (λ v. slice_get (undone ++ u ∷ others) v ≡ Some u) size_u (get_next undone u others)) in
      let w = one.stands.led k t at in
      let m = known k (found_next ts done (t ∷ rest) k c is size counts w.0 w.1) in
      let like = states_alike k t u at at_u m in
      let p = counts_split c d (nexts_of t) (flat_map nexts_of rest) left in
      let q = counts_split c e (nexts_of u) (flat_map nexts_of others) left_u in
      let s = walk names distinct M one_right one_left (nexts_of t) (nexts_of u) c p.0 q.0 like.nexts p.1 q.1 known in
      let counts_t = more done t c p.0 counts p.1 in
      let counts_o = more undone u c p.0 counts_u (subst (λ v. Counts c (nexts_of u) v) (sym s.count) q.1) in
      let after = texts rest others (done ++ t ∷ []) (undone ++ u ∷ []) (k + 1) p.0 d e (is ∙ sym (append_assoc done (t ∷ []) rest)) (is_u ∙ sym (append_assoc undone (u ∷ []) others))
      (longer done t k size) (longer undone u k size_u) counts_t counts_o p.2 (subst (λ v. Counts v (flat_map nexts_of others) e) (sym s.count) q.2) s.known in
      ap (λ v. (decimal k ++ v) ++ states_text names (k + 1) rest) (like.text s.list) ∙ ap (λ v. (decimal k ++ state_text names u) ++ v) after
    where
      longer : (xs : List LocalState) (x : LocalState) (n : ℕ) → length xs ≡ n → length (xs ++ x ∷ []) ≡ n + 1
      longer xs x n h = let l : length (xs ++ x ∷ []) ≡ length xs + 1 = length-append xs (x ∷ []) in omega (arith, l, h)

      more : (xs : List LocalState) (x : LocalState) (a b : ℕ) → Counts 1 (flat_map nexts_of xs) a → Counts a (nexts_of x) b → Counts 1 (flat_map nexts_of (xs ++ x ∷ [])) b
      more xs x a b h g =
          let own : Counts a (nexts_of x ++ []) b = counts_append a b b (nexts_of x) [] g refl in
          subst (λ l. Counts 1 l b) (sym (flat_map-append nexts_of xs (x ∷ []))) (counts_append 1 a b (flat_map nexts_of xs) (nexts_of x ++ []) h own)

  all_texts : states_text names 0 ts ≡ states_text names 0 us
  all_texts =
      let p = counts_from_order (flat_map nexts_of ts) one.numbered in
      let q = counts_from_order (flat_map nexts_of us) other.numbered in
      texts ts us [] [] 0 1 p.0 q.0 refl refl refl refl refl refl p.1 q.1 (λ j l. let e : 0 ≡ j = omega (arith, l) in subst (λ v. M v v) e ([], refl, refl))

pub one_text : (names : List (List ℕ)) (ss : List State) (r : NameId) → AllDistinct names → HasNamedLabels names ss → HasOneText names ss r
one_text names ss r distinct named p ts us one other =
    ap (λ v. 108 ∷ 111 ∷ 99 ∷ 97 ∷ 108 ∷ 32 ∷ (name_in names p ++ (64 ∷ (name_in names r ++ (10 ∷ v))))) (all_texts names ss r distinct named ts us one other)
