-- What the table tells of a role's view.
use Rattle.std.proofs.Common.{ℕ, ◌≡◌, ◌<◌, ◌≤◌, List, [], ◌∷◌, ◌++◌, Bool, true, false, refl, ap, sym, subst, ◌∙◌, arith, inl, inr, length, zero, suc, append_assoc}
use Rattle.std.specs.Prelude.{◌||◌, ◌⊎◌, Some, slice_get, slice_index_or}
use Rattle.std.proofs.lemmas.Bool.{cases_lt}
use Rattle.std.proofs.lemmas.List.{append-nil}
use Rattle.std.proofs.lemmas.Option.{same_Some, slice_get-get_or, slice_get_within}
use Rattle.chor_base.specs.declared.names.NameId.{NameId}
use Rattle.chor_tree.specs.declared.protocol.State.{State}
use Rattle.global_types.specs.Moves.{IsIn}
use Rattle.global_types.specs.Paths.{Action, action_in, actions_of, Still, At}
use Rattle.global_types.specs.Views.{Differ, HasTooMany, NamesAt, LeavesBehind, Clashes}
use Rattle.state_sets.specs.declared.table.Arm.{Arm}
use Rattle.state_sets.specs.declared.table.Row.{Row}
use Rattle.state_sets.specs.Moves.{action_of}
use Rattle.state_sets.specs.Sets.{Has, IsSetFor}
use Rattle.std.specs.List.{IsDistinct, AllByRecursion, list_any}
use Rattle.std.proofs.Math.Dec.{eqb}
use Rattle.std.proofs.lemmas.Bool.Decides.{nat_tests}
use Rattle.std.proofs.lemmas.Map.Steps.{length-le_from_distinct_below}
use Rattle.state_sets.specs.Table.{Circles, IsLeft, HasTorn, Target, AreArms, IsFound, IsTable, AreTooMany, IsWhole}
use Rattle.state_sets.proofs.Lists.{at_of_in, in_of_at}
use Rattle.state_sets.proofs.Sets.{sets_differ}
use Rattle.state_sets.proofs.Tables.{still_set, next_set}
use Rattle.state_sets.proofs.Walks.{Reached, reached_front, still_is_reached, at_before}

-- ---- too many sets

-- the list of actions by which a set was found
abbrev actions_at : (ss : List State) (r : NameId) (n : ℕ) (sets : List (List ℕ)) → ((k : ℕ) (word : List ℕ) → slice_get sets k ≡ Some word → IsFound ss r n word) → (k : ℕ) → (k < length sets) ⊎ (length sets ≤ k) → List Action
actions_at ss r n sets found k (inl h) = (found k (slice_index_or sets k []) (slice_get-get_or sets k [] h)).actions
actions_at ss r n sets found k (inr h) = []

pub too_many : (ss : List State) (r : NameId) (n : ℕ) → AreTooMany ss r n 1024 → HasTooMany ss r
too_many ss r n many = record {
  actions = λ k. actions_at ss r n many.sets many.found k (cases_lt k (length many.sets));
  somewhere = λ k h. somewhere_at k h (cases_lt k (length many.sets));
  apart = λ k m h l. apart_at k m h l (cases_lt k (length many.sets)) (cases_lt m (length many.sets));
}
  where
    within : (k : ℕ) → k < 1025 → length many.sets ≤ k → ⊥
    within k h g = let e = many.many in omega (arith, h, g, e)

    somewhere_at : (k : ℕ) → k < 1025 → (c : (k < length many.sets) ⊎ (length many.sets ≤ k)) → (i : ℕ) × At ss r (actions_at ss r n many.sets many.found k c) i
    somewhere_at k h (inl b) = let f = many.found k (slice_index_or many.sets k []) (slice_get-get_or many.sets k [] b) in (f.state, f.is_at)
    somewhere_at k h (inr g) = absurd (within k h g)

    apart_at : (k m : ℕ) → k < m → m < 1025 → (c : (k < length many.sets) ⊎ (length many.sets ≤ k)) (d : (m < length many.sets) ⊎ (length many.sets ≤ m)) → Differ (At ss r (actions_at ss r n many.sets many.found k c)) (At ss r (actions_at ss r n many.sets many.found m d))
    apart_at k m h l (inl b) (inl c) =
        let at_k = slice_get-get_or many.sets k [] b in
        let at_m = slice_get-get_or many.sets m [] c in
        let f = many.found k (slice_index_or many.sets k []) at_k in
        let g = many.found m (slice_index_or many.sets m []) at_m in
        sets_differ n (At ss r f.actions) (At ss r g.actions) (slice_index_or many.sets k []) (slice_index_or many.sets m []) f.set g.set
        (λ e. let same : k ≡ m = many.distinct k m (slice_index_or many.sets m []) (at_k ∙ ap (λ (v : List ℕ). Some v) e) at_m in omega (arith, same, h))
    apart_at k m h l (inl b) (inr g) = absurd (within m l g)
    apart_at k m h l (inr g) d = absurd (within k (omega (arith, h, l)) g)

-- ---- each list of actions that leads somewhere has its set

pub record Known (ss : List State) (r : NameId) (n : ℕ) (sets : List (List ℕ)) (w : List Action) : Type 0 where
  pub number : ℕ
  pub word : List ℕ
  pub at : slice_get sets number ≡ Some word
  pub set : IsSetFor n (At ss r w) word

row_of : (rows : List Row) (sets : List (List ℕ)) (k : ℕ) (word : List ℕ) → length sets ≡ length rows → slice_get sets k ≡ Some word → (row : Row) × (slice_get rows k ≡ Some row)
row_of rows sets k word len at = get rows k (let b = slice_get_within sets k word at in omega (arith, b, len)) where
  get : (xs : List Row) (i : ℕ) → i < length xs → (row : Row) × (slice_get xs i ≡ Some row)
  get [] i h = absurd (omega (arith, h))
  get (x ∷ xs) zero h = (x, refl)
  get (x ∷ xs) (suc i) h = get xs i (omega (arith, h))

-- what is known of the row of a list of actions
pub record Seen (ss : List State) (r : NameId) (n : ℕ) (sets : List (List ℕ)) (rows : List Row) (w : List Action) (k : ℕ) : Type 0 where
  pub row : Row
  pub is_row : slice_get rows k ≡ Some row
  pub still : IsSetFor n (Still ss r w) row.still.items
  pub arms : AreArms ss r n sets row.still.items row.arms.items

pub seen : (ss : List State) (r : NameId) (n : ℕ) (rows : List Row) (sets : List (List ℕ)) (w : List Action) (k : ℕ) (word : List ℕ) → IsTable ss r n sets rows → length sets ≡ length rows → slice_get sets k ≡ Some word → IsSetFor n (At ss r w) word → Seen ss r n sets rows w k
seen ss r n rows sets w k word table len at set =
    let o = row_of rows sets k word len at in
    let f = table.follows k word o.0 o.1 at in
    record { row = o.0; is_row = o.1; still = still_set ss r n w word o.0.still.items set f.still; arms = f.arms }

-- an action that is possible after w has its arm, and the arm's set is that of the longer list
pub record Goes (ss : List State) (r : NameId) (n : ℕ) (sets : List (List ℕ)) (w : List Action) (a : Action) (arms : List Arm) : Type 0 where
  pub arm : Arm
  pub among : IsIn arm arms
  pub does : action_of arm.act ≡ a
  pub word : List ℕ
  pub at : slice_get sets arm.next ≡ Some word
  pub set : IsSetFor n (At ss r (w ++ a ∷ [])) word

pub goes : (ss : List State) (r : NameId) (n : ℕ) (rows : List Row) (sets : List (List ℕ)) (w : List Action) (k : ℕ) (a : Action) (s : Seen ss r n sets rows w k) → Reached ss r (w ++ a ∷ []) → Goes ss r n sets w a s.row.arms.items
goes ss r n rows sets w k a s h =
    let b = at_before ss r w a h.state h.is_at in
    let t : Target ss r s.row.still.items a h.state = record { from = b.from; exchange = b.exchange; is_still = s.still.complete b.from b.still; leads = b.leads; does = b.does } in
    let m = s.arms.complete a h.state t in
    let i = s.arms.sound m.0 m.1 in
    record {
      arm = m.0;
      among = m.1;
      does = m.2;
      word = i.word;
      at = i.at;
      set = next_set ss r n w a s.row.still.items i.word s.still (subst (λ c. IsSetFor n (Target ss r s.row.still.items c) i.word) m.2 i.set);
    }

known_from : (ss : List State) (r : NameId) (n : ℕ) (rows : List Row) (sets : List (List ℕ)) → IsTable ss r n sets rows → length sets ≡ length rows → (u w : List Action) (k : ℕ) (word : List ℕ) → slice_get sets k ≡ Some word → IsSetFor n (At ss r w) word → Reached ss r (w ++ u) → Known ss r n sets (w ++ u)
known_from ss r n rows sets table len [] w k word at set h = subst (λ v. Known ss r n sets v) (sym (append-nil w)) (record { number = k; word = word; at = at; set = set })
known_from ss r n rows sets table len (a ∷ u) w k word at set h =
    let longer : w ++ a ∷ u ≡ (w ++ a ∷ []) ++ u = sym (append_assoc w (a ∷ []) u) in
    let h2 = subst (λ v. Reached ss r v) longer h in
    let s = seen ss r n rows sets w k word table len at set in
    let g = goes ss r n rows sets w k a s (reached_front ss r u (w ++ a ∷ []) h2) in
    subst (λ v. Known ss r n sets v) (sym longer) (known_from ss r n rows sets table len u (w ++ a ∷ []) g.arm.next g.word g.at g.set h2)

pub known : (ss : List State) (r : NameId) (n : ℕ) (rows : List Row) (whole : IsWhole ss r n rows) (w : List Action) → Reached ss r w → Known ss r n whole.sets w
known ss r n rows whole w h = let f = whole.table.first in known_from ss r n rows whole.sets whole.table whole.whole w [] 0 f.0 f.1 f.2 h

-- ---- not too many

-- the numbers that a function gives, the last one first
abbrev nums : (ℕ → ℕ) → ℕ → List ℕ
nums f zero = []
nums f (suc c) = f c ∷ nums f c

nums_long : (f : ℕ → ℕ) (c : ℕ) → length (nums f c) ≡ c
nums_long f zero = refl
nums_long f (suc c) = ap suc (nums_long f c)

nums_apart : (f : ℕ → ℕ) (q c : ℕ) → ((k : ℕ) → k < c → q ≡ f k → ⊥) → AllByRecursion (λ y. eqb q y ≡ false) (nums f c)
nums_apart f q zero h = tt
nums_apart f q (suc c) h = (go (eqb q (f c)) refl, nums_apart f q c (λ k l. h k (omega (arith, l)))) where
  go : (b : Bool) → eqb q (f c) ≡ b → eqb q (f c) ≡ false
  go false e = e
  go true e = absurd (h c (omega arith) (grind (arith, nat_tests)))

nums_distinct : (f : ℕ → ℕ) (c : ℕ) → ((k m : ℕ) → k < m → m < c → f k ≡ f m → ⊥) → IsDistinct eqb (nums f c)
unfolding IsDistinct
nums_distinct f zero h = tt
nums_distinct f (suc c) h = (nums_apart f (f c) c (λ k l e. h k c l (omega arith) (sym e)), nums_distinct f c (λ k m l b. h k m l (omega (arith, b))))

nums_below : (f : ℕ → ℕ) (n q c : ℕ) → ((k : ℕ) → k < c → f k < n) → list_any (eqb q) (nums f c) ≡ true → q < n
nums_below f n q zero h e = absurd (cc)
nums_below f n q (suc c) h e = go (eqb q (f c)) refl e (λ d. nums_below f n q c (λ k l. h k (omega (arith, l))) d) where
  go : (b : Bool) → eqb q (f c) ≡ b → (b || list_any (eqb q) (nums f c)) ≡ true → (list_any (eqb q) (nums f c) ≡ true → q < n) → q < n
  go true is d hyp = let same : q ≡ f c = grind (arith, nat_tests) in let b = h c (omega arith) in omega (arith, same, b)
  go false is d hyp = hyp d

-- different numbers below n are at most n
pigeons : (f : ℕ → ℕ) (n c : ℕ) → ((k : ℕ) → k < c → f k < n) → ((k m : ℕ) → k < m → m < c → f k ≡ f m → ⊥) → c ≤ n
pigeons f n c below apart =
    let b : length (nums f c) ≤ n = length-le_from_distinct_below (nums f c) n (nums_distinct f c apart) (λ q e. nums_below f n q c below e) in
    let e = nums_long f c in
    omega (arith, b, e)

pub few_sets : (ss : List State) (r : NameId) (n : ℕ) (rows : List Row) → IsWhole ss r n rows → length rows ≤ 1024 → HasTooMany ss r → ⊥
few_sets ss r n rows whole few many = absurd (let b = pigeons number (length whole.sets) 1025 below apart in let e = whole.whole in omega (arith, b, e, few))
  where
    its : (k : ℕ) → k < 1025 → Known ss r n whole.sets (many.actions k)
    its k h = let s = many.somewhere k h in known ss r n rows whole (many.actions k) (record { state = s.0; is_at = s.1 })

    number_at : (k : ℕ) → (k < 1025) ⊎ (1025 ≤ k) → ℕ
    number_at k (inl h) = (its k h).number
    number_at k (inr g) = 0

    number : ℕ → ℕ
    number k = number_at k (cases_lt k 1025)

    below : (k : ℕ) → k < 1025 → number k < length whole.sets
    below k h = go (cases_lt k 1025) where
      go : (c : (k < 1025) ⊎ (1025 ≤ k)) → number_at k c < length whole.sets
      go (inl l) = slice_get_within whole.sets (its k l).number (its k l).word (its k l).at
      go (inr g) = absurd (omega (arith, h, g))

    apart : (k m : ℕ) → k < m → m < 1025 → number k ≡ number m → ⊥
    apart k m h l = go (cases_lt k 1025) (cases_lt m 1025) where
      one : (a b : ℕ → Type 0) → Differ a b → ((i : ℕ) → a i → b i) → ((i : ℕ) → b i → a i) → ⊥
      one a b d f g = elim d.1 [ inl p ↦ p.1 (f d.0 p.0) | inr p ↦ p.1 (g d.0 p.0) ]

      go : (c : (k < 1025) ⊎ (1025 ≤ k)) (d : (m < 1025) ⊎ (1025 ≤ m)) → number_at k c ≡ number_at m d → ⊥
      go (inl a) (inl b) e =
          let p = its k a in
          let q = its m b in
          let at : slice_get whole.sets q.number ≡ Some p.word = subst (λ v. slice_get whole.sets v ≡ Some p.word) e p.at in
          let same : p.word ≡ q.word = same_Some p.word q.word (sym at ∙ q.at) in
          one (At ss r (many.actions k)) (At ss r (many.actions m)) (many.apart k m h l)
          (λ i x. q.set.sound i (subst (λ v. Has v i) same (p.set.complete i x)))
          (λ i x. p.set.sound i (subst (λ v. Has v i) (sym same) (q.set.complete i x)))
      go (inl a) (inr g) e = absurd (omega (arith, l, g))
      go (inr g) d e = absurd (omega (arith, h, l, g))

-- ---- rows and lists of actions

pub row_actions : (ss : List State) (r : NameId) (n : ℕ) (rows : List Row) → IsWhole ss r n rows → (row : Row) → IsIn row rows → (w : List Action) × IsSetFor n (Still ss r w) row.still.items
row_actions ss r n rows whole row among =
    let p = at_of_in row rows among in
    let b = slice_get_within rows p.0 row p.1 in
    let at = slice_get-get_or whole.sets p.0 [] (let e = whole.whole in omega (arith, b, e)) in
    let f = whole.table.found p.0 (slice_index_or whole.sets p.0 []) at in
    let g = whole.table.follows p.0 (slice_index_or whole.sets p.0 []) row p.1 at in
    (f.actions, still_set ss r n f.actions (slice_index_or whole.sets p.0 []) row.still.items f.set g.still)

pub actions_row : (ss : List State) (r : NameId) (n : ℕ) (rows : List Row) → IsWhole ss r n rows → (w : List Action) (i : ℕ) → Still ss r w i → (row : Row) × IsIn row rows × IsSetFor n (Still ss r w) row.still.items
actions_row ss r n rows whole w i h =
    let k = known ss r n rows whole w (still_is_reached ss r w i h) in
    let s = seen ss r n rows whole.sets w k.number k.word whole.table whole.whole k.at k.set in
    (s.row, in_of_at s.row rows k.number s.is_row, s.still)

-- ---- left behind

pub left_behind : (ss : List State) (r : NameId) (n : ℕ) (rows : List Row) (circling named : List ℕ) → IsWhole ss r n rows → IsSetFor n (Circles ss r) circling → IsSetFor n (NamesAt ss r) named
    → (row : Row) × IsIn row rows × IsLeft circling named row → LeavesBehind ss r
left_behind ss r n rows circling named whole circles names p =
    let w = row_actions ss r n rows whole p.0 p.1 in
    let a = p.2.0 in
    let b = p.2.1 in
    let c = circles.sound a.0 a.2 in
    record {
      actions = w.0;
      circling = a.0;
      first = c.exchange;
      circle = c.back.path;
      named = b.0;
      is_still = w.1.sound a.0 a.1;
      is_circle = (c.next, c.leads, c.back.is_path);
      is_silent = ap (λ l. l ++ actions_of r c.back.path) c.none ∙ c.back.none;
      also_still = w.1.sound b.0 b.1;
      is_named = names.sound b.0 b.2;
    }

pub not_left : (ss : List State) (r : NameId) (n : ℕ) (rows : List Row) (circling named : List ℕ) → IsWhole ss r n rows → IsSetFor n (Circles ss r) circling → IsSetFor n (NamesAt ss r) named
    → ((row : Row) → IsIn row rows → IsLeft circling named row → ⊥) → LeavesBehind ss r → ⊥
not_left ss r n rows circling named whole circles names none l =
    let row = actions_row ss r n rows whole l.actions l.circling l.is_still in
    let parts = both_empty (action_in r l.first) (actions_of r l.circle) l.is_silent in
    let p = l.is_circle in
    let c : Circles ss r l.circling = record { exchange = l.first; next = p.0; leads = p.1; none = parts.0; back = record { path = l.circle; is_path = p.2; none = parts.1 } } in
    none row.0 row.1 ((l.circling, row.2.complete l.circling l.is_still, circles.complete l.circling c), (l.named, row.2.complete l.named l.also_still, names.complete l.named l.is_named))
  where
    both_empty : (us vs : List Action) → us ++ vs ≡ [] → (us ≡ []) × (vs ≡ [])
    both_empty [] vs h = (refl, h)
    both_empty (a ∷ us) vs h = absurd (cc)

-- ---- clashes

pub torn : (ss : List State) (r : NameId) (n : ℕ) (rows : List Row) → IsWhole ss r n rows → HasTorn ss r rows → Clashes ss r
torn ss r n rows whole (row, among, i, j, at, too, a) =
    let w = row_actions ss r n rows whole row among in
    record { actions = w.0; first = i; second = j; one = a.one; other = a.other; is_still = w.1.sound i at; also_still = w.1.sound j too; is_one = a.is_one; is_other = a.is_other; is_apart = a.is_apart }

pub not_torn : (ss : List State) (r : NameId) (n : ℕ) (rows : List Row) → IsWhole ss r n rows → (HasTorn ss r rows → ⊥) → Clashes ss r → ⊥
not_torn ss r n rows whole none c =
    let row = actions_row ss r n rows whole c.actions c.first c.is_still in
    none (row.0, row.1, c.first, c.second, row.2.complete c.first c.is_still, row.2.complete c.second c.also_still, record { one = c.one; other = c.other; is_one = c.is_one; is_other = c.is_other; is_apart = c.is_apart })
