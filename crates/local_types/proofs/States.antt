-- States of types made from arms.
use Rattle.std.proofs.Common.{ℕ, ◌≡◌, ◌≢◌, List, [], ◌∷◌, ◌++◌, map, refl, ap, sym, subst, ◌∙◌, inl, inr, arith}
use Rattle.std.specs.Prelude.{◌⊎◌, AllPairs}
use Rattle.chor_base.specs.declared.names.NameId.{NameId}
use Rattle.chor_base.specs.Writing.{name_in}
use Rattle.chor_tree.specs.declared.protocol.Payload.{Payload}
use Rattle.global_types.specs.Moves.{IsIn, content_of}
use Rattle.global_types.specs.Paths.{Action, sends, receives, selects, offers}
use Rattle.state_sets.specs.declared.act.Act.{Act}
use Rattle.state_sets.specs.declared.act.Act.TheVariants.{Send, Recv, Pick, Branch}
use Rattle.local_types.specs.declared.local_type.LocalState.TheVariants as state
use Rattle.state_sets.specs.declared.table.Arm.{Arm}
use Rattle.state_sets.specs.Moves.{action_of}
use Rattle.state_sets.specs.Graph.{AreApart}
use Rattle.state_sets.specs.Ascending.{Ascend}
use Rattle.local_types.specs.Reading.{acts_of, nexts_of, labels_in, label_words}
use Rattle.state_sets.specs.Table.{Counts, nexts, act_word, arm_acts, arm_words}
use Rattle.state_sets.specs.Kin.{IsKin, AreKin}
use Rattle.local_types.specs.States.{labelled_act, labelled, IsStateOf}
use Rattle.state_sets.proofs.Counts.{counts_once}
use Rattle.state_sets.proofs.Pairs.{pairs_first, pairs_rest, pairs_cons}
use Rattle.state_sets.proofs.Lists.{in_left, in_right, in_either, in_map, in_map_back}

none_apart : AllPairs (λ k l. k ≢ l) (labels_in state.End)
none_apart i j d less within = absurd (omega (arith, less, within))

pub state_end : IsStateOf [] state.End
state_end = record { sound = λ a n h. absurd h; complete = λ x h. absurd h; ends = (λ e. refl, λ e. refl); labels = λ names up. tt; distinct = λ h. none_apart; numbered = λ c d h. h }

not_empty : {A : Type 0} (v : A) (xs : List A) → IsIn v xs → xs ≡ [] → ⊥
not_empty v [] h e = h
not_empty v (x ∷ xs) h e = absurd (cc)

-- ---- one action

send_complete : (b : NameId) (c : Payload) (n : ℕ) (act : Act) (m : ℕ) → IsKin (Send b c) n act m → IsIn (action_of act, m) (acts_of (state.Send b c n))
send_complete b c n (Send b' c') m h = inl (ap (λ (v : NameId). (sends v (content_of c), n)) h.0 ∙ ap (λ v. (sends b' v, n)) h.1 ∙ ap (λ v. (sends b' (content_of c'), v)) h.2)
send_complete b c n (Recv a c') m h = absurd h
send_complete b c n (Pick b' l) m h = absurd h
send_complete b c n (Branch a l) m h = absurd h

recv_complete : (a : NameId) (c : Payload) (n : ℕ) (act : Act) (m : ℕ) → IsKin (Recv a c) n act m → IsIn (action_of act, m) (acts_of (state.Recv a c n))
recv_complete a c n (Send b' c') m h = absurd h
recv_complete a c n (Recv a' c') m h = inl (ap (λ (v : NameId). (receives v (content_of c), n)) h.0 ∙ ap (λ v. (receives a' v, n)) h.1 ∙ ap (λ v. (receives a' (content_of c'), v)) h.2)
recv_complete a c n (Pick b' l) m h = absurd h
recv_complete a c n (Branch a' l) m h = absurd h

send_next : (b : NameId) (c : Payload) (n : ℕ) (act : Act) (m : ℕ) → IsKin (Send b c) n act m → n ≡ m
send_next b c n (Send b' c') m h = h.2
send_next b c n (Recv a c') m h = absurd h
send_next b c n (Pick b' l) m h = absurd h
send_next b c n (Branch a l) m h = absurd h

recv_next : (a : NameId) (c : Payload) (n : ℕ) (act : Act) (m : ℕ) → IsKin (Recv a c) n act m → n ≡ m
recv_next a c n (Send b' c') m h = absurd h
recv_next a c n (Recv a' c') m h = h.2
recv_next a c n (Pick b' l) m h = absurd h
recv_next a c n (Branch a' l) m h = absurd h

pub state_send : (arms : List Arm) (x : Arm) (b : NameId) (c : Payload) → AreKin arms → IsIn x arms → x.act ≡ Send b c → IsStateOf arms (state.Send b c x.next)
state_send arms x b c kin among is = record {
  sound = λ a n h. sound_at a n h;
  complete = λ y h. send_complete b c x.next y.act y.next (subst (λ v. IsKin v x.next y.act y.next) is (kin x y among h));
  ends = (λ e. absurd (cc), λ e. absurd (cc));
  labels = λ names up. tt;
  distinct = λ h. none_apart;
  numbered = λ i d h. counts_once i d x.next (nexts arms) (λ m p. one_next m (in_map_back (λ (y : Arm). y.next) m arms p)) (in_map (λ (y : Arm). y.next) x arms among) h;
}
  where
    one_next : (m : ℕ) → (y : Arm) × IsIn y arms × (y.next ≡ m) → x.next ≡ m
    one_next m p = send_next b c x.next p.0.act p.0.next (subst (λ v. IsKin v x.next p.0.act p.0.next) is (kin x p.0 among p.1)) ∙ p.2

    sound_at : (a : Action) (n : ℕ) → IsIn (a, n) (acts_of (state.Send b c x.next)) → (y : Arm) × IsIn y arms × (action_of y.act ≡ a) × (y.next ≡ n)
    sound_at a n (inl e) = (x, among, ap action_of is ∙ ap (λ (p : Action × ℕ). p.0) e, ap (λ (p : Action × ℕ). p.1) e)
    sound_at a n (inr h) = absurd h

pub state_recv : (arms : List Arm) (x : Arm) (b : NameId) (c : Payload) → AreKin arms → IsIn x arms → x.act ≡ Recv b c → IsStateOf arms (state.Recv b c x.next)
state_recv arms x b c kin among is = record {
  sound = λ a n h. sound_at a n h;
  complete = λ y h. recv_complete b c x.next y.act y.next (subst (λ v. IsKin v x.next y.act y.next) is (kin x y among h));
  ends = (λ e. absurd (cc), λ e. absurd (cc));
  labels = λ names up. tt;
  distinct = λ h. none_apart;
  numbered = λ i d h. counts_once i d x.next (nexts arms) (λ m p. one_next m (in_map_back (λ (y : Arm). y.next) m arms p)) (in_map (λ (y : Arm). y.next) x arms among) h;
}
  where
    one_next : (m : ℕ) → (y : Arm) × IsIn y arms × (y.next ≡ m) → x.next ≡ m
    one_next m p = recv_next b c x.next p.0.act p.0.next (subst (λ v. IsKin v x.next p.0.act p.0.next) is (kin x p.0 among p.1)) ∙ p.2

    sound_at : (a : Action) (n : ℕ) → IsIn (a, n) (acts_of (state.Recv b c x.next)) → (y : Arm) × IsIn y arms × (action_of y.act ≡ a) × (y.next ≡ n)
    sound_at a n (inl e) = (x, among, ap action_of is ∙ ap (λ (p : Action × ℕ). p.0) e, ap (λ (p : Action × ℕ). p.1) e)
    sound_at a n (inr h) = absurd h

-- ---- labels

-- an arm of a label
record Labels (arms : List Arm) (p : NameId × ℕ) : Type 0 where
  arm : Arm
  among : IsIn arm arms
  label : IsIn p (labelled_act arm.act arm.next)

labelled_back : (arms : List Arm) (p : NameId × ℕ) → IsIn p (labelled arms) → Labels arms p
labelled_back [] p h = absurd h
labelled_back (x ∷ xs) p h = go (in_either p (labelled_act x.act x.next) (labelled xs) h) (λ k. labelled_back xs p k) where
  go : IsIn p (labelled_act x.act x.next) ⊎ IsIn p (labelled xs) → (IsIn p (labelled xs) → Labels xs p) → Labels (x ∷ xs) p
  go (inl k) hyp = record { arm = x; among = inl refl; label = k }
  go (inr k) hyp = let l = hyp k in record { arm = l.arm; among = inr l.among; label = l.label }

labelled_in : (arms : List Arm) (x : Arm) (p : NameId × ℕ) → IsIn x arms → IsIn p (labelled_act x.act x.next) → IsIn p (labelled arms)
labelled_in [] x p h k = absurd h
labelled_in (y ∷ ys) x p (inl e) k = in_left p (labelled_act y.act y.next) (labelled ys) (subst (λ (v : Arm). IsIn p (labelled_act v.act v.next)) (sym e) k)
labelled_in (y ∷ ys) x p (inr h) k = in_right p (labelled_act y.act y.next) (labelled ys) (labelled_in ys x p h k)

pick_sound : (b l : NameId) (n : ℕ) (act : Act) (m : ℕ) (p : NameId × ℕ) → IsKin (Pick b l) n act m → IsIn p (labelled_act act m) → (action_of act ≡ selects b p.0) × (m ≡ p.1)
pick_sound b l n (Send b' c) m p k h = absurd k
pick_sound b l n (Recv a c) m p k h = absurd k
pick_sound b l n (Pick b' l') m p k (inl e) = (ap (λ (v : NameId). selects v l') (sym k) ∙ ap (λ (q : NameId × ℕ). selects b q.0) e, ap (λ (q : NameId × ℕ). q.1) e)
pick_sound b l n (Pick b' l') m p k (inr h) = absurd h
pick_sound b l n (Branch a l') m p k h = absurd k

pick_label : (b l : NameId) (n : ℕ) (act : Act) (m : ℕ) → IsKin (Pick b l) n act m → (p : NameId × ℕ) × IsIn p (labelled_act act m) × (◌≡◌ {A = Action × ℕ} (selects b p.0, p.1) (action_of act, m))
pick_label b l n (Send b' c) m k = absurd k
pick_label b l n (Recv a c) m k = absurd k
pick_label b l n (Pick b' l') m k = ((l', m), inl refl, ap (λ (v : NameId). (selects v l', m)) k)
pick_label b l n (Branch a l') m k = absurd k

branch_sound : (b l : NameId) (n : ℕ) (act : Act) (m : ℕ) (p : NameId × ℕ) → IsKin (Branch b l) n act m → IsIn p (labelled_act act m) → (action_of act ≡ offers b p.0) × (m ≡ p.1)
branch_sound b l n (Send b' c) m p k h = absurd k
branch_sound b l n (Recv a c) m p k h = absurd k
branch_sound b l n (Pick b' l') m p k h = absurd k
branch_sound b l n (Branch a l') m p k (inl e) = (ap (λ (v : NameId). offers v l') (sym k) ∙ ap (λ (q : NameId × ℕ). offers b q.0) e, ap (λ (q : NameId × ℕ). q.1) e)
branch_sound b l n (Branch a l') m p k (inr h) = absurd h

branch_label : (b l : NameId) (n : ℕ) (act : Act) (m : ℕ) → IsKin (Branch b l) n act m → (p : NameId × ℕ) × IsIn p (labelled_act act m) × (◌≡◌ {A = Action × ℕ} (offers b p.0, p.1) (action_of act, m))
branch_label b l n (Send b' c) m k = absurd k
branch_label b l n (Recv a c) m k = absurd k
branch_label b l n (Pick b' l') m k = absurd k
branch_label b l n (Branch a l') m k = ((l', m), inl refl, ap (λ (v : NameId). (offers v l', m)) k)

-- arms with labels of their own
labels_apart : (sel : NameId → Action) (arms : List Arm) → ((y : Arm) → IsIn y arms → (k : NameId) × (action_of y.act ≡ sel k) × (labelled_act y.act y.next ≡ (k, y.next) ∷ []))
    → AreApart (arm_acts arms) → AllPairs (λ k l. k ≢ l) (map (λ q. q.0) (labelled arms))
labels_apart sel [] has apart = λ i j d less within. absurd (omega (arith, less, within))
labels_apart sel (x ∷ xs) has apart =
    let h = has x (inl refl) in
    subst (λ (v : List (NameId × ℕ)). AllPairs (λ k l. k ≢ l) (map (λ q. q.0) (v ++ labelled xs))) (sym h.2)
    (pairs_cons (λ k l. k ≢ l) h.0 (map (λ q. q.0) (labelled xs)) (λ y m e. first h.0 h.1 y e (in_map_back (λ (q : NameId × ℕ). q.0) y (labelled xs) m)) (labels_apart sel xs (λ y m. has y (inr m)) (pairs_rest (λ a b. action_of a ≢ action_of b) x.act (arm_acts xs) apart)))
  where
    of_one : (p q : NameId × ℕ) → IsIn p (q ∷ []) → q.0 ≡ p.0
    of_one p q (inl e) = ap (λ (v : NameId × ℕ). v.0) e
    of_one p q (inr h) = absurd h

    first : (k : NameId) → action_of x.act ≡ sel k → (y : NameId) → k ≡ y → (q : NameId × ℕ) × IsIn q (labelled xs) × (q.0 ≡ y) → ⊥
    first k is y e q =
        let z = labelled_back xs q.0 q.1 in
        let g = has z.arm (inr z.among) in
        let own : g.0 ≡ q.0.0 = of_one q.0 (g.0, z.arm.next) (subst (λ v. IsIn q.0 v) g.2 z.label) in
        pairs_first (λ a b. action_of a ≢ action_of b) x.act (arm_acts xs) apart z.arm.act (in_map (λ (v : Arm). v.act) z.arm xs z.among) (is ∙ ap sel (e ∙ sym q.2 ∙ sym own) ∙ sym g.1)

pick_has : (b l : NameId) (n : ℕ) (act : Act) (m : ℕ) → IsKin (Pick b l) n act m → (k : NameId) × (action_of act ≡ selects b k) × (labelled_act act m ≡ (k, m) ∷ [])
pick_has b l n (Send b' c) m k = absurd k
pick_has b l n (Recv a c) m k = absurd k
pick_has b l n (Pick b' l') m k = (l', ap (λ (v : NameId). selects v l') (sym k), refl)
pick_has b l n (Branch a l') m k = absurd k

branch_has : (b l : NameId) (n : ℕ) (act : Act) (m : ℕ) → IsKin (Branch b l) n act m → (k : NameId) × (action_of act ≡ offers b k) × (labelled_act act m ≡ (k, m) ∷ [])
branch_has b l n (Send b' c) m k = absurd k
branch_has b l n (Recv a c) m k = absurd k
branch_has b l n (Pick b' l') m k = absurd k
branch_has b l n (Branch a l') m k = (l', ap (λ (v : NameId). offers v l') (sym k), refl)

pick_one : (b l : NameId) (n : ℕ) (act : Act) (m : ℕ) (rest : List (NameId × ℕ)) → IsKin (Pick b l) n act m → map (λ (p : Action × ℕ). p.1) (map (λ (q : NameId × ℕ). (selects b q.0, q.1)) (labelled_act act m ++ rest)) ≡ m ∷ map (λ (p : Action × ℕ). p.1) (map (λ (q : NameId × ℕ). (selects b q.0, q.1)) rest)
pick_one b l n (Send b' c) m rest k = absurd k
pick_one b l n (Recv a c) m rest k = absurd k
pick_one b l n (Pick b' l') m rest k = refl
pick_one b l n (Branch a l') m rest k = absurd k

pick_nexts : (b l : NameId) (n : ℕ) (arms : List Arm) → ((y : Arm) → IsIn y arms → IsKin (Pick b l) n y.act y.next) → nexts_of (state.Pick b (labelled arms)) ≡ nexts arms
pick_nexts b l n [] kin = refl
pick_nexts b l n (x ∷ xs) kin = pick_one b l n x.act x.next (labelled xs) (kin x (inl refl)) ∙ ap (λ t. x.next ∷ t) (pick_nexts b l n xs (λ y h. kin y (inr h)))

pick_word : (names : List (List ℕ)) (b l : NameId) (n : ℕ) (act : Act) (m : ℕ) (rest : List (NameId × ℕ)) → IsKin (Pick b l) n act m → map (name_in names) (map (λ q. q.0) (labelled_act act m ++ rest)) ≡ act_word names act ∷ map (name_in names) (map (λ q. q.0) rest)
pick_word names b l n (Send b' c) m rest k = absurd k
pick_word names b l n (Recv a c) m rest k = absurd k
pick_word names b l n (Pick b' l') m rest k = refl
pick_word names b l n (Branch a l') m rest k = absurd k

pick_words : (names : List (List ℕ)) (b l : NameId) (n : ℕ) (arms : List Arm) → ((y : Arm) → IsIn y arms → IsKin (Pick b l) n y.act y.next) → label_words names (state.Pick b (labelled arms)) ≡ arm_words names arms
pick_words names b l n [] kin = refl
pick_words names b l n (x ∷ xs) kin = pick_word names b l n x.act x.next (labelled xs) (kin x (inl refl)) ∙ ap (λ t. act_word names x.act ∷ t) (pick_words names b l n xs (λ y h. kin y (inr h)))

pub state_pick : (arms : List Arm) (x : Arm) (b l : NameId) (ls : List (NameId × ℕ)) → AreKin arms → IsIn x arms → x.act ≡ Pick b l → ls ≡ labelled arms → IsStateOf arms (state.Pick b ls)
state_pick arms x b l ls kin among is all = record {
  sound = λ a n h. sound_at a n h;
  complete = λ y h. complete_at y h;
  ends = (λ e. absurd (cc), λ e. absurd (not_empty _ _ (complete_at x among) e));
  labels = λ names up. subst Ascend (sym (ap (λ (v : List (NameId × ℕ)). label_words names (state.Pick b v)) all ∙ pick_words names b l x.next arms kin_to)) up;
  distinct = λ apart. subst (λ (v : List (NameId × ℕ)). AllPairs (λ k l. k ≢ l) (map (λ q. q.0) v)) (sym all) (labels_apart (λ k. selects b k) arms (λ y h. pick_has b l x.next y.act y.next (kin_to y h)) apart);
  numbered = λ i d h. subst (λ v. Counts i v d) (sym (ap (λ (v : List (NameId × ℕ)). nexts_of (state.Pick b v)) all ∙ pick_nexts b l x.next arms kin_to)) h;
}
  where
    kin_to : (y : Arm) → IsIn y arms → IsKin (Pick b l) x.next y.act y.next
    kin_to y h = subst (λ v. IsKin v x.next y.act y.next) is (kin x y among h)

    sound_at : (a : Action) (n : ℕ) → IsIn (a, n) (acts_of (state.Pick b ls)) → (y : Arm) × IsIn y arms × (action_of y.act ≡ a) × (y.next ≡ n)
    sound_at a n h =
        let p = in_map_back (λ (q : NameId × ℕ). (selects b q.0, q.1)) (a, n) ls h in
        let y = labelled_back arms p.0 (subst (λ v. IsIn p.0 v) all p.1) in
        let s = pick_sound b l x.next y.arm.act y.arm.next p.0 (kin_to y.arm y.among) y.label in
        (y.arm, y.among, s.0 ∙ ap (λ (q : Action × ℕ). q.0) p.2, s.1 ∙ ap (λ (q : Action × ℕ). q.1) p.2)

    complete_at : (y : Arm) → IsIn y arms → IsIn (action_of y.act, y.next) (acts_of (state.Pick b ls))
    complete_at y h =
        let p = pick_label b l x.next y.act y.next (kin_to y h) in
        subst (λ v. IsIn v (acts_of (state.Pick b ls))) p.2 (in_map (λ (q : NameId × ℕ). (selects b q.0, q.1)) p.0 ls (subst (λ v. IsIn p.0 v) (sym all) (labelled_in arms y p.0 h p.1)))

branch_one : (b l : NameId) (n : ℕ) (act : Act) (m : ℕ) (rest : List (NameId × ℕ)) → IsKin (Branch b l) n act m → map (λ (p : Action × ℕ). p.1) (map (λ (q : NameId × ℕ). (offers b q.0, q.1)) (labelled_act act m ++ rest)) ≡ m ∷ map (λ (p : Action × ℕ). p.1) (map (λ (q : NameId × ℕ). (offers b q.0, q.1)) rest)
branch_one b l n (Send b' c) m rest k = absurd k
branch_one b l n (Recv a c) m rest k = absurd k
branch_one b l n (Pick b' l') m rest k = absurd k
branch_one b l n (Branch a l') m rest k = refl

branch_nexts : (b l : NameId) (n : ℕ) (arms : List Arm) → ((y : Arm) → IsIn y arms → IsKin (Branch b l) n y.act y.next) → nexts_of (state.Branch b (labelled arms)) ≡ nexts arms
branch_nexts b l n [] kin = refl
branch_nexts b l n (x ∷ xs) kin = branch_one b l n x.act x.next (labelled xs) (kin x (inl refl)) ∙ ap (λ t. x.next ∷ t) (branch_nexts b l n xs (λ y h. kin y (inr h)))

branch_word : (names : List (List ℕ)) (b l : NameId) (n : ℕ) (act : Act) (m : ℕ) (rest : List (NameId × ℕ)) → IsKin (Branch b l) n act m → map (name_in names) (map (λ q. q.0) (labelled_act act m ++ rest)) ≡ act_word names act ∷ map (name_in names) (map (λ q. q.0) rest)
branch_word names b l n (Send b' c) m rest k = absurd k
branch_word names b l n (Recv a c) m rest k = absurd k
branch_word names b l n (Pick b' l') m rest k = absurd k
branch_word names b l n (Branch a l') m rest k = refl

branch_words : (names : List (List ℕ)) (b l : NameId) (n : ℕ) (arms : List Arm) → ((y : Arm) → IsIn y arms → IsKin (Branch b l) n y.act y.next) → label_words names (state.Branch b (labelled arms)) ≡ arm_words names arms
branch_words names b l n [] kin = refl
branch_words names b l n (x ∷ xs) kin = branch_word names b l n x.act x.next (labelled xs) (kin x (inl refl)) ∙ ap (λ t. act_word names x.act ∷ t) (branch_words names b l n xs (λ y h. kin y (inr h)))

pub state_branch : (arms : List Arm) (x : Arm) (b l : NameId) (ls : List (NameId × ℕ)) → AreKin arms → IsIn x arms → x.act ≡ Branch b l → ls ≡ labelled arms → IsStateOf arms (state.Branch b ls)
state_branch arms x b l ls kin among is all = record {
  sound = λ a n h. sound_at a n h;
  complete = λ y h. complete_at y h;
  ends = (λ e. absurd (cc), λ e. absurd (not_empty _ _ (complete_at x among) e));
  labels = λ names up. subst Ascend (sym (ap (λ (v : List (NameId × ℕ)). label_words names (state.Branch b v)) all ∙ branch_words names b l x.next arms kin_to)) up;
  distinct = λ apart. subst (λ (v : List (NameId × ℕ)). AllPairs (λ k l. k ≢ l) (map (λ q. q.0) v)) (sym all) (labels_apart (λ k. offers b k) arms (λ y h. branch_has b l x.next y.act y.next (kin_to y h)) apart);
  numbered = λ i d h. subst (λ v. Counts i v d) (sym (ap (λ (v : List (NameId × ℕ)). nexts_of (state.Branch b v)) all ∙ branch_nexts b l x.next arms kin_to)) h;
}
  where
    kin_to : (y : Arm) → IsIn y arms → IsKin (Branch b l) x.next y.act y.next
    kin_to y h = subst (λ v. IsKin v x.next y.act y.next) is (kin x y among h)

    sound_at : (a : Action) (n : ℕ) → IsIn (a, n) (acts_of (state.Branch b ls)) → (y : Arm) × IsIn y arms × (action_of y.act ≡ a) × (y.next ≡ n)
    sound_at a n h =
        let p = in_map_back (λ (q : NameId × ℕ). (offers b q.0, q.1)) (a, n) ls h in
        let y = labelled_back arms p.0 (subst (λ v. IsIn p.0 v) all p.1) in
        let s = branch_sound b l x.next y.arm.act y.arm.next p.0 (kin_to y.arm y.among) y.label in
        (y.arm, y.among, s.0 ∙ ap (λ (q : Action × ℕ). q.0) p.2, s.1 ∙ ap (λ (q : Action × ℕ). q.1) p.2)

    complete_at : (y : Arm) → IsIn y arms → IsIn (action_of y.act, y.next) (acts_of (state.Branch b ls))
    complete_at y h =
        let p = branch_label b l x.next y.act y.next (kin_to y h) in
        subst (λ v. IsIn v (acts_of (state.Branch b ls))) p.2 (in_map (λ (q : NameId × ℕ). (offers b q.0, q.1)) p.0 ls (subst (λ v. IsIn p.0 v) (sym all) (labelled_in arms y p.0 h p.1)))
