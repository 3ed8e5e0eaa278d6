-- What can be read from a type is the role's view.
use Rattle.std.proofs.Common.{ℕ, ◌≡◌, ◌+◌, ◌<◌, List, [], ◌∷◌, ◌++◌, refl, ap, sym, subst, ◌∙◌, arith, inl, inr, length, zero, suc, append_assoc, length-append}
use Rattle.std.specs.Prelude.{◌⊎◌, ◌↔◌, Some, slice_get, slice_index_or}
use Rattle.local_types.specs.declared.local_type.LocalState.TheVariants.{End}
use Rattle.std.proofs.lemmas.List.{append-nil}
use Rattle.std.proofs.lemmas.Option.{slice_get-get_or, slice_get_within}
use Rattle.chor_base.specs.declared.names.NameId.{NameId}
use Rattle.chor_tree.specs.declared.protocol.State.{State}
use Rattle.global_types.specs.Moves.{IsIn}
use Rattle.global_types.specs.Paths.{Action, At}
use Rattle.local_types.specs.declared.local_type.LocalState.{LocalState}
use Rattle.state_sets.specs.declared.table.Row.{Row}
use Rattle.local_types.specs.Reading.{acts_of, LeadsTo, IsRead, AreSame, IsTypeOf, HasAscendingLabels, HasDistinctLabels}
use Rattle.state_sets.specs.Sets.{Has, IsSetFor}
use Rattle.local_types.specs.States.{IsStateOf, AreStatesOf}
use Rattle.state_sets.specs.Table.{Target, IsTable, HasAscendingArms, IsWhole}
use Rattle.state_sets.proofs.Sets.{set_alone}
use Rattle.state_sets.proofs.Lists.{in_of_at}
use Rattle.state_sets.proofs.Tables.{next_set}
use Rattle.state_sets.proofs.Verdicts.{seen, goes}
use Rattle.state_sets.proofs.Walks.{Reached, reached_front, view_is_reached, reached_is_view}

some_same : {A : Type 0} (x y : A) → Some x ≡ Some y → x ≡ y
some_same x y e = cc

get_some : {A : Type 0} (xs : List A) (k : ℕ) → k < length xs → (x : A) × (slice_get xs k ≡ Some x)
get_some [] k h = absurd (omega (arith, h))
get_some (x ∷ xs) zero h = (x, refl)
get_some (x ∷ xs) (suc k) h = get_some xs k (omega (arith, h))

-- one state more
pub states_more : (rows : List Row) (old new : List LocalState) (i : ℕ) (row : Row) (t : LocalState) → i < length rows → row ≡ slice_index_or rows i row → length old ≡ i
    → ((k : ℕ) (o : Row) (u : LocalState) → slice_get rows k ≡ Some o → slice_get old k ≡ Some u → IsStateOf o.arms.items u)
    → IsStateOf row.arms.items t → new ≡ old ++ t ∷ []
    → record { size : length new ≡ i + 1; state : (k : ℕ) (o : Row) (u : LocalState) → slice_get rows k ≡ Some o → slice_get new k ≡ Some u → IsStateOf o.arms.items u }
states_more rows old new i row t h is len was own added = rw added (record {
  size = (let e : length (old ++ t ∷ []) ≡ length old + 1 = length-append old (t ∷ []) in omega (arith, e, len));
  state = λ k o u p q. state_at k o u p (split old k u q);
})
  where
    split : (xs : List LocalState) (k : ℕ) (u : LocalState) → slice_get (xs ++ t ∷ []) k ≡ Some u → (slice_get xs k ≡ Some u) ⊎ ((k ≡ length xs) × (t ≡ u))
    split [] zero u q = inr (refl, some_same t u q)
    split [] (suc k) u q = absurd (cc)
    split (x ∷ xs) zero u q = inl q
    split (x ∷ xs) (suc k) u q = go (split xs k u q) where
      go : (slice_get xs k ≡ Some u) ⊎ ((k ≡ length xs) × (t ≡ u)) → (slice_get (x ∷ xs) (suc k) ≡ Some u) ⊎ ((suc k ≡ length (x ∷ xs)) × (t ≡ u))
      go (inl e) = inl e
      go (inr e) = inr (ap suc e.0, e.1)

    state_at : (k : ℕ) (o : Row) (u : LocalState) → slice_get rows k ≡ Some o → (slice_get old k ≡ Some u) ⊎ ((k ≡ length old) × (t ≡ u)) → IsStateOf o.arms.items u
    state_at k o u p (inl q) = was k o u p q
    state_at k o u p (inr q) =
        let here : slice_get rows i ≡ Some row = slice_get-get_or rows i row h ∙ ap (λ (v : Row). Some v) (sym is) in
        let same : row ≡ o = some_same row o (sym here ∙ subst (λ m. slice_get rows m ≡ Some o) (q.0 ∙ len) p) in
        subst (λ (v : Row). IsStateOf v.arms.items u) same (subst (λ v. IsStateOf row.arms.items v) q.1 own)

-- the state of a list of actions
record Stands (ts : List LocalState) (k : ℕ) (row : Row) : Type 0 where
  state : LocalState
  at : slice_get ts k ≡ Some state
  is : IsStateOf row.arms.items state

stands : (rows : List Row) (ts : List LocalState) (k : ℕ) (row : Row) → AreStatesOf rows ts → slice_get rows k ≡ Some row → Stands ts k row
stands rows ts k row are at =
    let t = get_some ts k (let b = slice_get_within rows k row at in let e = are.size in omega (arith, b, e)) in
    record { state = t.0; at = t.1; is = are.state k row t.0 at t.1 }

-- the set of a state to which a list of actions leads
record HasSet (ss : List State) (r : NameId) (n : ℕ) (sets : List (List ℕ)) (w : List Action) (m : ℕ) : Type 0 where
  word : List ℕ
  at : slice_get sets m ≡ Some word
  set : IsSetFor n (At ss r w) word

set_after : (ss : List State) (r : NameId) (n : ℕ) (rows : List Row) (sets : List (List ℕ)) (ts : List LocalState) → IsTable ss r n sets rows → length sets ≡ length rows → AreStatesOf rows ts
    → (u w : List Action) (k m : ℕ) (word : List ℕ) → slice_get sets k ≡ Some word → IsSetFor n (At ss r w) word → LeadsTo ts k u m → HasSet ss r n sets (w ++ u) m
set_after ss r n rows sets ts table len are [] w k m word at set h =
    subst (λ v. HasSet ss r n sets v m) (sym (append-nil w)) (record { word = word; at = subst (λ l. slice_get sets l ≡ Some word) h at; set = set })
set_after ss r n rows sets ts table len are (a ∷ u) w k m word at set h =
    let s = seen ss r n rows sets w k word table len at set in
    let t = stands rows ts k s.row are s.is_row in
    let same : h.0 ≡ t.state = some_same h.0 t.state (sym h.1 ∙ t.at) in
    let x = t.is.sound a h.2 (subst (λ (v : LocalState). IsIn (a, h.2) (acts_of v)) same h.3) in
    let i = s.arms.sound x.0 x.1 in
    let next = next_set ss r n w a s.row.still.items i.word s.still (subst (λ c. IsSetFor n (Target ss r s.row.still.items c) i.word) x.2 i.set) in
    let at_next : slice_get sets h.2 ≡ Some i.word = subst (λ l. slice_get sets l ≡ Some i.word) x.3 i.at in
    subst (λ v. HasSet ss r n sets v m) (append_assoc w (a ∷ []) u) (set_after ss r n rows sets ts table len are u (w ++ a ∷ []) h.2 m i.word at_next next h.4)

set_reached : (ss : List State) (r : NameId) (n : ℕ) (rows : List Row) (sets : List (List ℕ)) (w : List Action) (m : ℕ) → IsTable ss r n sets rows → HasSet ss r n sets w m → Reached ss r w
set_reached ss r n rows sets w m table h =
    let f = table.found m h.word h.at in
    record { state = f.state; is_at = h.set.sound f.state (f.set.complete f.state f.is_at) }

reached_read : (ss : List State) (r : NameId) (n : ℕ) (rows : List Row) (sets : List (List ℕ)) (ts : List LocalState) → IsTable ss r n sets rows → length sets ≡ length rows → AreStatesOf rows ts
    → (u w : List Action) (k : ℕ) (word : List ℕ) → slice_get sets k ≡ Some word → IsSetFor n (At ss r w) word → Reached ss r (w ++ u) → IsRead ts k u
reached_read ss r n rows sets ts table len are [] w k word at set h = (k, refl)
reached_read ss r n rows sets ts table len are (a ∷ u) w k word at set h =
    let h2 = subst (λ v. Reached ss r v) (sym (append_assoc w (a ∷ []) u)) h in
    let s = seen ss r n rows sets w k word table len at set in
    let t = stands rows ts k s.row are s.is_row in
    let g = goes ss r n rows sets w k a s (reached_front ss r u (w ++ a ∷ []) h2) in
    let among : IsIn (a, g.arm.next) (acts_of t.state) = subst (λ v. IsIn (v, g.arm.next) (acts_of t.state)) g.does (t.is.complete g.arm g.among) in
    let p = reached_read ss r n rows sets ts table len are u (w ++ a ∷ []) g.arm.next g.word g.at g.set h2 in
    (p.0, (t.state, t.at, g.arm.next, among, p.1))

pub type_of : (ss : List State) (r : NameId) (n : ℕ) (rows : List Row) (ts : List LocalState) → IsWhole ss r n rows → AreStatesOf rows ts → IsTypeOf ss r ts
type_of ss r n rows ts whole are = record {
  view = λ w. (λ h. reached_is_view ss r w (set_reached ss r n rows whole.sets w h.0 whole.table (set_of w h.0 h.1)), λ h. read_of w (view_is_reached ss r w h));
  ends = λ k t at. ends_at k t at;
  there = λ w m h. let s = set_of w m h in get_some ts m (let b = slice_get_within whole.sets m s.word s.at in let e = whole.whole in let f = are.size in omega (arith, b, e, f));
  led = λ m t at. led_at m (let b = slice_get_within ts m t at in let e = whole.whole in let f = are.size in omega (arith, b, e, f));
  told = λ v w k m g h. told_at v w k m (set_of v k g) (set_of w m h);
}
  where
    set_of : (w : List Action) (m : ℕ) → LeadsTo ts 0 w m → HasSet ss r n whole.sets w m
    set_of w m h = let f = whole.table.first in set_after ss r n rows whole.sets ts whole.table whole.whole are w [] 0 m f.0 f.1 f.2 h

    read_of : (w : List Action) → Reached ss r w → IsRead ts 0 w
    read_of w h = let f = whole.table.first in reached_read ss r n rows whole.sets ts whole.table whole.whole are w [] 0 f.0 f.1 f.2 h

    ends_at : (k : ℕ) (t : LocalState) → slice_get ts k ≡ Some t → (t ≡ End) ↔ (acts_of t ≡ [])
    ends_at k t at =
        let row = get_some rows k (let b = slice_get_within ts k t at in let e = are.size in omega (arith, b, e)) in
        (are.state k row.0 t row.1 at).ends

    one_number : (k m : ℕ) (u v : List ℕ) → slice_get whole.sets k ≡ Some u → slice_get whole.sets m ≡ Some v → u ≡ v → k ≡ m
    one_number k m u v p q e = whole.distinct k m v (p ∙ ap (λ (l : List ℕ). Some l) e) q

    one_word : (k : ℕ) (u v : List ℕ) → slice_get whole.sets k ≡ Some u → slice_get whole.sets k ≡ Some v → u ≡ v
    one_word k u v p q = some_same u v (sym p ∙ q)

    told_at : (v w : List Action) (k m : ℕ) → HasSet ss r n whole.sets v k → HasSet ss r n whole.sets w m → (k ≡ m) ↔ AreSame (At ss r v) (At ss r w)
    told_at v w k m g h = (
      (λ e. same (one_word m g.word h.word (subst (λ l. slice_get whole.sets l ≡ Some g.word) e g.at) h.at)),
      (λ s. one_number k m g.word h.word g.at h.at (set_alone n (At ss r v) (At ss r w) g.word h.word g.set h.set (λ i. (s i).0) (λ i. (s i).1))),
    )
      where
        same : g.word ≡ h.word → AreSame (At ss r v) (At ss r w)
        same e i = ((λ p. h.set.sound i (subst (λ l. Has l i) e (g.set.complete i p))), (λ p. g.set.sound i (subst (λ l. Has l i) (sym e) (h.set.complete i p))))

    led_at : (m : ℕ) → m < length whole.sets → (w : List Action) × LeadsTo ts 0 w m
    led_at m h =
        let s = get_some whole.sets m h in
        let f = whole.table.found m s.0 s.1 in
        let p = read_of f.actions (record { state = f.state; is_at = f.is_at }) in
        let g = set_of f.actions p.0 p.1 in
        let same : g.word ≡ s.0 = set_alone n (At ss r f.actions) (At ss r f.actions) g.word s.0 g.set f.set (λ i x. x) (λ i x. x) in
        (f.actions, subst (λ l. LeadsTo ts 0 f.actions l) (one_number p.0 m g.word s.0 g.at s.1 same) p.1)

-- no two labels of a state are the same
pub labels_distinct : (ss : List State) (r : NameId) (n : ℕ) (rows : List Row) (ts : List LocalState) → IsWhole ss r n rows → AreStatesOf rows ts → HasDistinctLabels ts
labels_distinct ss r n rows ts whole are k t at =
    let row = get_some rows k (let b = slice_get_within ts k t at in let e = are.size in omega (arith, b, e)) in
    let set = get_some whole.sets k (let b = slice_get_within rows k row.0 row.1 in let e = whole.whole in omega (arith, b, e)) in
    (are.state k row.0 t row.1 at).distinct (whole.table.follows k set.0 row.0 row.1 set.1).arms.apart

-- the labels of a state stand as the arms do
pub labels_ascend : (names : List (List ℕ)) (rows : List Row) (ts : List LocalState) → AreStatesOf rows ts → HasAscendingArms names rows → HasAscendingLabels names ts
labels_ascend names rows ts are up k t at =
    let row = get_some rows k (let b = slice_get_within ts k t at in let e = are.size in omega (arith, b, e)) in
    (are.state k row.0 t row.1 at).labels names (up row.0 (in_of_at row.0 rows k row.1))
