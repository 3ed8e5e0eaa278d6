-- The moves of a protocol as they are collected are its exchanges.
use Rattle.std.proofs.Common.{ℕ, ◌≡◌, ◌+◌, ◌<◌, List, [], ◌∷◌, ◌++◌, Bool, true, false, refl, ap, sym, subst, ◌∙◌, arith, inl, inr, length, zero, suc}
use Rattle.std.specs.Prelude.{◌⊎◌, ◌==◌, Option, Some, None, slice_get, if◌then◌else◌, map, Vec}
use Rattle.std.proofs.lemmas.Option.{slice_get_within}
use Rattle.chor_base.specs.declared.names.NameId.{NameId}
use Rattle.chor_tree.specs.declared.protocol.Payload.{Payload}
use Rattle.chor_tree.specs.declared.protocol.ProtoArm.{ProtoArm}
use Rattle.chor_tree.specs.declared.protocol.ProtoStep.{ProtoStep}
use Rattle.chor_tree.specs.declared.protocol.ProtoStep.TheVariants.{End, Value, Choice}
use Rattle.chor_tree.specs.declared.protocol.State.{State}
use Rattle.chor_base.specs.FirstPlaces.{one_later}
use Rattle.global_types.specs.Moves.{IsIn, Exchange, passes, chooses, Leads, content_of, exchanges_of, state_named}
use Rattle.global_types.specs.Paths.{Action, action_in, actions_of, IsPath}
use Rattle.state_sets.specs.declared.act.Act.{Act}
use Rattle.state_sets.specs.declared.moves.Move.{Move}
use Rattle.state_sets.specs.Moves.{action_of, actions_in, AreMoves, value_act, choice_act, move_to, arms_moves, step_moves, moves_from}
use Rattle.state_sets.specs.declared.graph.Group.{Group}
use Rattle.std.specs.declared.alloc.Global.{Global}
use Rattle.state_sets.specs.declared.graph.Edge.{Edge}
use Rattle.state_sets.specs.Graph.{AreWithin, HasMove, AreGroups, AreInside, IsSilentPath, GoesSilently, AreRowsFor}
use Rattle.state_sets.specs.Sets.{Has, row_at, IsSetFor}
use Rattle.state_sets.specs.Table.{Silent, AreActs, Circles}
use Rattle.state_sets.proofs.Sets.{set_same, row_within}
use Rattle.state_sets.proofs.Walks.{silent_here, silent_one, silent_trans}
use Rattle.state_sets.proofs.Lists.{in_left, in_right, in_either}

value_is : (r a b : NameId) (c : Payload) → action_in r (passes a b (content_of c)) ≡ actions_in (value_act r a b c)
value_is r a b c = go (a.0 == r.0) (b.0 == r.0) refl refl where
  go : (p q : Bool) → (a.0 == r.0) ≡ p → (b.0 == r.0) ≡ q → action_in r (passes a b (content_of c)) ≡ actions_in (value_act r a b c)
  go true q e f = rw e refl
  go false true e f = rw (e, f) refl
  go false false e f = rw (e, f) refl

choice_is : (r a b l : NameId) → action_in r (chooses a b l) ≡ actions_in (choice_act r a b l)
choice_is r a b l = go (a.0 == r.0) (b.0 == r.0) refl refl where
  go : (p q : Bool) → (a.0 == r.0) ≡ p → (b.0 == r.0) ≡ q → action_in r (chooses a b l) ≡ actions_in (choice_act r a b l)
  go true q e f = rw e refl
  go false true e f = rw (e, f) refl
  go false false e f = rw (e, f) refl

-- a move that a step gives, and the exchange that it is
record Given (ss : List State) (r : NameId) (i : ℕ) (es : List (Exchange × NameId)) (m : Move) : Type 0 where
  exchange : Exchange
  next : NameId
  from : m.from ≡ i
  allowed : IsIn (exchange, next) es
  there : state_named ss next ≡ Some m.to
  does : action_in r exchange ≡ actions_in m.act

move_given : (i : ℕ) (act : Option Act) (o : Option ℕ) (m : Move) → IsIn m (move_to i act o) → (o ≡ Some m.to) × (m.from ≡ i) × (act ≡ m.act)
move_given i act None m h = absurd h
move_given i act (Some j) m (inl e) = (ap (λ (v : Move). Some v.to) e, sym (ap (λ (v : Move). v.from) e), ap (λ (v : Move). v.act) e)
move_given i act (Some j) m (inr h) = absurd h

move_made : (i : ℕ) (act : Option Act) (o : Option ℕ) (j : ℕ) → o ≡ Some j → IsIn (let m : Move = record { from = i; act = act; to = j } in m) (move_to i act o)
move_made i act None j h = absurd (cc)
move_made i act (Some k) j h = let e : k ≡ j = cc in inl (ap (λ n. record { from = i; act = act; to = n }) e)

abbrev arm_exchanges : NameId → NameId → List ProtoArm → List (Exchange × NameId)
arm_exchanges a b arms = map (λ arm. (chooses a b arm.label.name, arm.next.name)) arms

arms_given : (ss : List State) (r : NameId) (i : ℕ) (a b : NameId) (arms : List ProtoArm) (m : Move) → IsIn m (arms_moves ss r i a b arms) → Given ss r i (arm_exchanges a b arms) m
arms_given ss r i a b [] m h = absurd h
arms_given ss r i a b (arm ∷ arms) m h = go (in_either m (move_to i (choice_act r a b arm.label.name) (state_named ss arm.next.name)) (arms_moves ss r i a b arms) h) (λ k. arms_given ss r i a b arms m k) where
  go : IsIn m (move_to i (choice_act r a b arm.label.name) (state_named ss arm.next.name)) ⊎ IsIn m (arms_moves ss r i a b arms) → (IsIn m (arms_moves ss r i a b arms) → Given ss r i (arm_exchanges a b arms) m) → Given ss r i (arm_exchanges a b (arm ∷ arms)) m
  go (inl k) hyp = let g = move_given i (choice_act r a b arm.label.name) (state_named ss arm.next.name) m k in
      record { exchange = chooses a b arm.label.name; next = arm.next.name; from = g.1; allowed = inl refl; there = g.0; does = choice_is r a b arm.label.name ∙ ap actions_in g.2 }
  go (inr k) hyp = let g = hyp k in record { exchange = g.exchange; next = g.next; from = g.from; allowed = inr g.allowed; there = g.there; does = g.does }

step_given : (ss : List State) (r : NameId) (i : ℕ) (step : ProtoStep) (m : Move) → IsIn m (step_moves ss r i step) → Given ss r i (exchanges_of step) m
step_given ss r i End m h = absurd h
step_given ss r i (Value a b c next) m h = let g = move_given i (value_act r a.name b.name c) (state_named ss next.name) m h in
    record { exchange = passes a.name b.name (content_of c); next = next.name; from = g.1; allowed = inl refl; there = g.0; does = value_is r a.name b.name c ∙ ap actions_in g.2 }
step_given ss r i (Choice a b arms) m h = arms_given ss r i a.name b.name arms m h

-- a move for each exchange
record Made (r : NameId) (i j : ℕ) (x : Exchange) (ms : List Move) : Type 0 where
  move : Move
  among : IsIn move ms
  from : move.from ≡ i
  to : move.to ≡ j
  does : action_in r x ≡ actions_in move.act

made_of : (ss : List State) (r : NameId) (i j : ℕ) (x : Exchange) (act : Option Act) (n : NameId) → state_named ss n ≡ Some j → action_in r x ≡ actions_in act → Made r i j x (move_to i act (state_named ss n))
made_of ss r i j x act n h e = record { move = record { from = i; act = act; to = j }; among = move_made i act (state_named ss n) j h; from = refl; to = refl; does = e }

arms_made : (ss : List State) (r : NameId) (i j : ℕ) (a b : NameId) (arms : List ProtoArm) (x : Exchange) (n : NameId) → IsIn (x, n) (arm_exchanges a b arms) → state_named ss n ≡ Some j → Made r i j x (arms_moves ss r i a b arms)
arms_made ss r i j a b [] x n h there = absurd h
arms_made ss r i j a b (arm ∷ arms) x n (inl e) there =
    let ex : chooses a b arm.label.name ≡ x = ap (λ (p : Exchange × NameId). p.0) e in
    let en : arm.next.name ≡ n = ap (λ (p : Exchange × NameId). p.1) e in
    let m = made_of ss r i j x (choice_act r a b arm.label.name) arm.next.name (subst (λ v. state_named ss v ≡ Some j) (sym en) there) (ap (λ v. action_in r v) (sym ex) ∙ choice_is r a b arm.label.name) in
    record { move = m.move; among = in_left m.move (move_to i (choice_act r a b arm.label.name) (state_named ss arm.next.name)) (arms_moves ss r i a b arms) m.among; from = m.from; to = m.to; does = m.does }
arms_made ss r i j a b (arm ∷ arms) x n (inr h) there =
    let m = arms_made ss r i j a b arms x n h there in
    record { move = m.move; among = in_right m.move (move_to i (choice_act r a b arm.label.name) (state_named ss arm.next.name)) (arms_moves ss r i a b arms) m.among; from = m.from; to = m.to; does = m.does }

step_made : (ss : List State) (r : NameId) (i j : ℕ) (step : ProtoStep) (x : Exchange) (n : NameId) → IsIn (x, n) (exchanges_of step) → state_named ss n ≡ Some j → Made r i j x (step_moves ss r i step)
step_made ss r i j End x n h there = absurd h
step_made ss r i j (Value a b c next) x n (inl e) there =
    let ex : passes a.name b.name (content_of c) ≡ x = ap (λ (p : Exchange × NameId). p.0) e in
    let en : next.name ≡ n = ap (λ (p : Exchange × NameId). p.1) e in
    made_of ss r i j x (value_act r a.name b.name c) next.name (subst (λ v. state_named ss v ≡ Some j) (sym en) there) (ap (λ v. action_in r v) (sym ex) ∙ value_is r a.name b.name c)
step_made ss r i j (Value a b c next) x n (inr h) there = absurd h
step_made ss r i j (Choice a b arms) x n h there = arms_made ss r i j a.name b.name arms x n h there

-- ---- all states

sound_from : (ss : List State) (r : NameId) (i : ℕ) (rest : List State) → ((k : ℕ) (s : State) → slice_get rest k ≡ Some s → slice_get ss (i + k) ≡ Some s) → (m : Move) → IsIn m (moves_from ss r i rest) → (x : Exchange) × Leads ss m.from x m.to × (action_in r x ≡ actions_in m.act)
sound_from ss r i [] at m h = absurd h
sound_from ss r i (s ∷ rest) at m h = go (in_either m (step_moves ss r i s.step) (moves_from ss r (i + 1) rest) h) (λ k. sound_from ss r (i + 1) rest (λ n t e. subst (λ v. slice_get ss v ≡ Some t) (omega arith) (at (suc n) t e)) m k) where
  go : IsIn m (step_moves ss r i s.step) ⊎ IsIn m (moves_from ss r (i + 1) rest) → (IsIn m (moves_from ss r (i + 1) rest) → (x : Exchange) × Leads ss m.from x m.to × (action_in r x ≡ actions_in m.act)) → (x : Exchange) × Leads ss m.from x m.to × (action_in r x ≡ actions_in m.act)
  go (inl k) hyp =
      let g = step_given ss r i s.step m k in
      let here : slice_get ss i ≡ Some s = subst (λ v. slice_get ss v ≡ Some s) (omega arith) (at 0 s refl) in
      (g.exchange, record { state = s; next = g.next; here = subst (λ v. slice_get ss v ≡ Some s) (sym g.from) here; allowed = g.allowed; there = g.there }, g.does)
  go (inr k) hyp = hyp k

complete_from : (ss : List State) (r : NameId) (i : ℕ) (rest : List State) (k j : ℕ) (s : State) (x : Exchange) (n : NameId) → slice_get rest k ≡ Some s → IsIn (x, n) (exchanges_of s.step) → state_named ss n ≡ Some j → Made r (i + k) j x (moves_from ss r i rest)
complete_from ss r i [] k j s x n h e there = absurd (cc)
complete_from ss r i (t ∷ rest) zero j s x n h e there =
    let same : t ≡ s = cc in
    let m = step_made ss r i j t.step x n (subst (λ (v : State). IsIn (x, n) (exchanges_of v.step)) (sym same) e) there in
    record { move = m.move; among = in_left m.move (step_moves ss r i t.step) (moves_from ss r (i + 1) rest) m.among; from = m.from ∙ omega arith; to = m.to; does = m.does }
complete_from ss r i (t ∷ rest) (suc k) j s x n h e there =
    let m = complete_from ss r (i + 1) rest k j s x n h e there in
    record { move = m.move; among = in_right m.move (step_moves ss r i t.step) (moves_from ss r (i + 1) rest) m.among; from = m.from ∙ omega arith; to = m.to; does = m.does }

pub collected : (ss : List State) (r : NameId) → AreMoves ss r (moves_from ss r 0 ss)
collected ss r = record {
  sound = sound_from ss r 0 ss (λ k s e. subst (λ v. slice_get ss v ≡ Some s) (omega arith) e);
  complete = λ i j x l. let m = complete_from ss r 0 ss i j l.state x l.next l.here l.allowed l.there in (m.move, m.among, m.from ∙ omega arith, m.to, m.does);
}

named_within : (ss : List State) (n : NameId) (j : ℕ) → state_named ss n ≡ Some j → j < length ss
named_within [] n j h = absurd (cc)
named_within (s ∷ ss) n j h = go (s.name.name.0 == n.0) (state_named ss n) h (λ k e. named_within ss n k e) where
  go : (b : Bool) (o : Option ℕ) → (if b then Some 0 else one_later o) ≡ Some j → ((k : ℕ) → o ≡ Some k → k < length ss) → j < length (s ∷ ss)
  go true o e hyp = let f : 0 ≡ j = cc in omega (arith, f)
  go false None e hyp = absurd (cc)
  go false (Some k) e hyp = let f : suc k ≡ j = cc in let b = hyp k refl in omega (arith, f, b)

pub leads_within : (ss : List State) (i : ℕ) (x : Exchange) (j : ℕ) → Leads ss i x j → (i < length ss) × (j < length ss)
leads_within ss i x j l = (slice_get_within ss i l.state l.here, named_within ss l.next j l.there)

pub moves_within : (ss : List State) (r : NameId) (ms : List Move) → AreMoves ss r ms → AreWithin (length ss) ms
moves_within ss r ms are m among = let s = are.sound m among in leads_within ss m.from s.0 m.to s.1

-- both states of each edge of a group are states
pub groups_inside : (n : ℕ) (ms : List Move) (gs : List Group) → AreWithin n ms → AreGroups ms gs → AreInside n gs
groups_inside n ms gs within are g among e m =
    let h = (are.edges g among).sound e m in
    let b = within h.move h.among in
    ((let a = b.0 in let f = h.from in omega (arith, a, f)), (let a = b.1 in let f = h.to in omega (arith, a, f)))

-- ---- what a role's view is made from

-- the groups of the moves are the acts of the role
pub acts_are : (ss : List State) (r : NameId) (ms : List Move) (gs : List Group) → AreMoves ss r ms → AreGroups ms gs → AreActs ss r gs
acts_are ss r ms gs moves groups = record {
  sound = λ g among e m. sound_at g e ((groups.edges g among).sound e m);
  whole = λ g among e x l d. (groups.edges g among).complete e (whole_at g e x l d);
  covers = λ i j x a l d. covers_at i j x a l d;
  apart = groups.apart;
}
  where
    sound_at : (g : Group) (e : Edge) → HasMove ms e.from (action_of g.act ∷ []) e.to → (x : Exchange) × Leads ss e.from x e.to × (action_in r x ≡ action_of g.act ∷ [])
    sound_at g e h = let s = moves.sound h.move h.among in (s.0, subst (λ i. Leads ss i s.0 e.to) h.from (subst (λ j. Leads ss h.move.from s.0 j) h.to s.1), s.2 ∙ h.does)

    whole_at : (g : Group) (e : Edge) (x : Exchange) → Leads ss e.from x e.to → action_in r x ≡ action_of g.act ∷ [] → HasMove ms e.from (action_of g.act ∷ []) e.to
    whole_at g e x l d = let m = moves.complete e.from e.to x l in record { move = m.0; among = m.1; from = m.2; to = m.3; does = sym m.4 ∙ d }

    act_at : (o : Option Act) (a : Action) → actions_in o ≡ a ∷ [] → (b : Act) × (o ≡ Some b) × (action_of b ≡ a)
    act_at None a e = absurd (cc)
    act_at (Some b) a e = (b, refl, cc)

    covers_at : (i j : ℕ) (x : Exchange) (a : Action) → Leads ss i x j → action_in r x ≡ a ∷ [] → (g : Group) × IsIn g gs × (action_of g.act ≡ a)
    covers_at i j x a l d =
        let m = moves.complete i j x l in
        let b = act_at m.0.act a (sym m.4 ∙ d) in
        let g = groups.covers m.0 b.0 m.1 b.1 in
        (g.0, g.1, g.2 ∙ b.2)

-- silent paths of the protocol and of its moves are the same
silent_moves : (ss : List State) (r : NameId) (ms : List Move) → AreMoves ss r ms → (i : ℕ) (js : List ℕ) (k : ℕ) → IsSilentPath ms i js k → Silent ss r i k
silent_moves ss r ms moves i [] k p = subst (λ m. Silent ss r i m) p (silent_here ss r i)
silent_moves ss r ms moves i (j ∷ js) k p =
    let h = p.0 in
    let s = moves.sound h.move h.among in
    let l : Leads ss i s.0 j = subst (λ m. Leads ss m s.0 j) h.from (subst (λ m. Leads ss h.move.from s.0 m) h.to s.1) in
    silent_trans ss r i j k (silent_one ss r i j s.0 l (s.2 ∙ h.does)) (silent_moves ss r ms moves j js k p.1)

moves_silent : (ss : List State) (r : NameId) (ms : List Move) → AreMoves ss r ms → (i : ℕ) (xs : List Exchange) (k : ℕ) → IsPath ss i xs k → actions_of r xs ≡ [] → GoesSilently ms i k
moves_silent ss r ms moves i [] k p e = ([], p)
moves_silent ss r ms moves i (x ∷ xs) k p e =
    let parts = both_empty (action_in r x) (actions_of r xs) e in
    let m = moves.complete i p.0 x p.1 in
    let h : HasMove ms i [] p.0 = record { move = m.0; among = m.1; from = m.2; to = m.3; does = sym m.4 ∙ parts.0 } in
    let q = moves_silent ss r ms moves p.0 xs k p.2 parts.1 in
    (p.0 ∷ q.0, (h, q.1))
  where
    both_empty : (us bs : List Action) → us ++ bs ≡ [] → (us ≡ []) × (bs ≡ [])
    both_empty [] bs h = (refl, h)
    both_empty (a ∷ us) bs h = absurd (cc)

pub reach_is : (ss : List State) (r : NameId) (n : ℕ) (ms : List Move) (rows : List (Vec ℕ Global)) → AreMoves ss r ms → AreRowsFor n (GoesSilently ms) rows → AreRowsFor n (Silent ss r) rows
reach_is ss r n ms rows moves are = record {
  size = are.size;
  row = λ i h. set_same n _ _ (row_at rows i) (are.row i h) (λ j p. silent_moves ss r ms moves i p.0 j p.1) (λ j p. moves_silent ss r ms moves i p.path j p.is_path p.none);
}

-- what is handed to the table is what the table asks for
pub acts_handed : (ss : List State) (r : NameId) (ms seen : List Move) (gs handed : List Group) → ms ≡ moves_from ss r 0 ss → seen ≡ ms → AreGroups seen gs → handed ≡ gs → AreActs ss r handed
acts_handed ss r ms seen gs handed is same groups given =
    subst (λ l. AreActs ss r l) (sym given) (acts_are ss r seen gs (subst (λ l. AreMoves ss r l) (sym (same ∙ is)) (collected ss r)) groups)

pub reach_handed : (ss : List State) (r : NameId) (n : ℕ) (ms seen : List Move) (rows handed : List (Vec ℕ Global)) → ms ≡ moves_from ss r 0 ss → seen ≡ ms → AreRowsFor n (GoesSilently seen) rows → handed ≡ rows → AreRowsFor (length handed) (Silent ss r) handed
reach_handed ss r n ms seen rows handed is same are given =
    let long : length handed ≡ n = ap (λ (l : List (Vec ℕ Global)). length l) given ∙ are.size in
    subst (λ k. AreRowsFor k (Silent ss r) handed) (sym long) (subst (λ l. AreRowsFor n (Silent ss r) l) (sym given) (reach_is ss r n seen rows (subst (λ l. AreMoves ss r l) (sym (same ∙ is)) (collected ss r)) are))

pub circles_are : (ss : List State) (r : NameId) (n : ℕ) (ms seen : List Move) (rows : List (Vec ℕ Global)) (marks : List ℕ) → ms ≡ moves_from ss r 0 ss → seen ≡ ms → n ≡ length ss → AreRowsFor (length rows) (Silent ss r) rows → length rows ≡ n
    → IsSetFor n (λ i. (j : ℕ) × HasMove seen i [] j × Has (row_at rows j) i) marks → IsSetFor (length ss) (Circles ss r) marks
circles_are ss r n ms seen rows marks is same size are long was = subst (λ k. IsSetFor k (Circles ss r) marks) size (set_same n _ _ marks was there back)
  where
    moves : AreMoves ss r seen
    moves = subst (λ l. AreMoves ss r l) (sym (same ∙ is)) (collected ss r)

    there : (i : ℕ) → (j : ℕ) × HasMove seen i [] j × Has (row_at rows j) i → Circles ss r i
    there i p =
        let h = p.1 in
        let s = moves.sound h.move h.among in
        let l : Leads ss i s.0 p.0 = subst (λ m. Leads ss m s.0 p.0) h.from (subst (λ m. Leads ss h.move.from s.0 m) h.to s.1) in
        record { exchange = s.0; next = p.0; leads = l; none = s.2 ∙ h.does; back = (are.row p.0 (row_within rows p.0 i p.2)).sound i p.2 }

    back : (i : ℕ) → Circles ss r i → (j : ℕ) × HasMove seen i [] j × Has (row_at rows j) i
    back i c =
        let m = moves.complete i c.next c.exchange c.leads in
        let h : HasMove seen i [] c.next = record { move = m.0; among = m.1; from = m.2; to = m.3; does = sym m.4 ∙ c.none } in
        let w = (leads_within ss i c.exchange c.next c.leads).1 in
        (c.next, h, (are.row c.next (omega (arith, w, size, long))).complete i c.back)
