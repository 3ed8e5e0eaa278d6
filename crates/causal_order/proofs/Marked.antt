-- Marks are put on the causes of marked events, from the last event down.
use Rattle.std.proofs.Common.{zero, suc, refl, if◌then◌else◌, ◌≡◌, ◌≢◌, ℕ, ◌<◌, ◌≤◌, ◌+◌, ◌-◌, Bool, true, false, ◌==◌, ◌||◌, List, [], ◌∷◌, length, sym, ap, ◌∙◌, subst, Some, arith, inl, inr, ◌⊎◌, ◌↔◌, get_or, Contains}
use Rattle.std.specs.Prelude.{slice_get}
use Rattle.std.proofs.lemmas.Bool.{true≢false, cases_eq, or_left, or_right, or_cases, eqb-true, eq-eqb}
use Rattle.std.proofs.lemmas.Option.{slice_get_within}
use Rattle.event_orders.specs.EventKinds.{is_in}
use Rattle.event_orders.proofs.Listed.{IsListed, IsAscending, listed_contains, contains_listed, ascending_increases}
use Rattle.std.specs.List.Sorted.{IsStrictlyIncreasing}
use Rattle.causal_order.specs.Marking.{marked_from}
use Rattle.causal_order.specs.Orders.{AreEarlier, IsAncestor, direct, by_way, IsInPast}

in_listed : (i : ℕ) (xs : List ℕ) → is_in i xs ≡ true → IsListed i xs
in_listed i [] h = absurd (true≢false (sym h))
in_listed i (x ∷ xs) h = go (or_cases (i == x) (is_in i xs) h) (λ k. in_listed i xs k)
  where
    go : ((i == x) ≡ true) ⊎ (is_in i xs ≡ true) → (is_in i xs ≡ true → IsListed i xs) → IsListed i (x ∷ xs)
    go (inl e) more = inl (eqb-true i x e)
    go (inr e) more = inr (more e)

listed_in : (i : ℕ) (xs : List ℕ) → IsListed i xs → is_in i xs ≡ true
listed_in i [] l = absurd l
listed_in i (x ∷ xs) (inl e) = or_left (i == x) (is_in i xs) (eq-eqb i x e)
listed_in i (x ∷ xs) (inr l) = or_right (i == x) (is_in i xs) (listed_in i xs l)

-- a cause has a lesser place than its event
pub item_less : (causes : List (List ℕ)) → AreEarlier causes → (j : ℕ) (list : List ℕ) → slice_get causes j ≡ Some list → (i : ℕ) → Contains list i → i < j
item_less causes early j list at i c = subst (λ z. z < j) c.2 (early j list at c.0 i c.1)

abbrev pub IsSound : List (List ℕ) → ℕ → ℕ → List Bool → Type 0
IsSound causes event count marks = (i : ℕ) → i < count → get_or marks i false ≡ true → IsInPast causes event i

-- the causes of the marked events from a place on are marked
abbrev pub IsDone : List (List ℕ) → ℕ → ℕ → List Bool → Type 0
IsDone causes count back marks = (k : ℕ) (list : List ℕ) (i : ℕ) → count ≤ k + back → get_or marks k false ≡ true → slice_get causes k ≡ Some list → Contains list i → get_or marks i false ≡ true

module _ (causes : List (List ℕ)) (early : AreEarlier causes) (event count back : ℕ) (whole : count ≡ length causes) (lt : back < count) (old : List Bool) (sound : IsSound causes event count old) (done : IsDone causes count back old) where
  -- the next one isn't marked
  pub passed_by : get_or old (count - 1 - back) false ≡ false → IsDone causes count (back + 1) old
  passed_by no_mark k list i le marked at c = go (cases_eq k (count - 1 - back))
    where
      go : (k ≡ count - 1 - back) ⊎ (k ≡ count - 1 - back → ⊥) → get_or old i false ≡ true
      go (inl same) = absurd (true≢false (sym marked ∙ ap (λ z. get_or old z false) same ∙ no_mark))
      go (inr other) = done k list i (let differ : k ≢ count - 1 - back = other in omega arith) marked at c

  module _ (list : List ℕ) (at : slice_get causes (count - 1 - back) ≡ Some list) (marked : get_or old (count - 1 - back) false ≡ true) (new : List Bool) (grown : (i : ℕ) → i < count → get_or new i false ≡ (get_or old i false || is_in i list)) where
    pub kept : (i : ℕ) → i < count → get_or old i false ≡ true → get_or new i false ≡ true
    kept i l m = grown i l ∙ or_left (get_or old i false) (is_in i list) m

    pub grown_sound : IsSound causes event count new
    grown_sound i l m = go (or_cases (get_or old i false) (is_in i list) (sym (grown i l) ∙ m))
      where
        from : (count - 1 - back ≡ event) ⊎ IsAncestor causes (count - 1 - back) event → Contains list i → IsInPast causes event i
        from (inl same) c = inr (direct list (ap (slice_get causes) (sym same) ∙ at) c)
        from (inr reached) c = inr (by_way (count - 1 - back) (direct list at c) reached)

        go : (get_or old i false ≡ true) ⊎ (is_in i list ≡ true) → IsInPast causes event i
        go (inl o) = sound i l o
        go (inr n) = from (sound (count - 1 - back) (omega arith) marked) (listed_contains i list (in_listed i list n))

    pub grown_done : IsDone causes count (back + 1) new
    grown_done k other i le m at' c = go (cases_eq k (count - 1 - back))
      where
        within : k < count
        within = (let w = slice_get_within causes k other at' in omega arith)

        below : i < k
        below = item_less causes early k other at' i c

        go : (k ≡ count - 1 - back) ⊎ (k ≡ count - 1 - back → ⊥) → get_or new i false ≡ true
        go (inl same) =
            let s : Some other ≡ Some list = sym at' ∙ ap (slice_get causes) same ∙ at in
            let t : other ≡ list = cc in
            let b = below in
            let w = within in
            grown i (omega arith) ∙ or_right (get_or old i false) (is_in i list) (listed_in i list (contains_listed i list (subst (λ z. Contains z i) t c)))
        go (inr other') =
            let differ : k ≢ count - 1 - back = other' in
            let b = below in
            let w = within in
            kept i (omega arith) (done k other i (omega arith) (was (or_cases (get_or old k false) (is_in k list) (sym (grown k w) ∙ m))) at' c)
          where
            -- no event after it is marked anew
            was : (get_or old k false ≡ true) ⊎ (is_in k list ≡ true) → get_or old k false ≡ true
            was (inl o) = o
            was (inr n) =
                let f : k < count - 1 - back = item_less causes early (count - 1 - back) list at k (listed_contains k list (in_listed k list n)) in
                absurd (omega arith)

-- once all are done, the ancestors are marked
pub all_marked : (causes : List (List ℕ)) (event count : ℕ) (marks : List Bool) → get_or marks event false ≡ true → IsDone causes count count marks → (i j : ℕ) → IsAncestor causes i j → get_or marks j false ≡ true → get_or marks i false ≡ true
all_marked causes event count marks own done i j (direct list at c) m = done j list i (omega arith) m at c
all_marked causes event count marks own done i j (by_way k a b) m = all_marked causes event count marks own done i k a (all_marked causes event count marks own done k j b m)

pub marks_tell : (causes : List (List ℕ)) (event count back : ℕ) (marks : List Bool) → count ≡ length causes → count ≤ back → back ≤ count → get_or marks event false ≡ true → IsSound causes event count marks → IsDone causes count back marks
    → (i : ℕ) → i < length causes → (get_or marks i false ≡ true) ↔ IsInPast causes event i
marks_tell causes event count back marks whole low high own sound done i lt = ((λ m. sound i (omega arith) m), go)
  where
    same : back ≡ count
    same = omega arith

    go : IsInPast causes event i → get_or marks i false ≡ true
    go (inl is) = ap (λ z. get_or marks z false) is ∙ own
    go (inr r) = all_marked causes event count marks own (subst (λ z. IsDone causes count z marks) same done) i event r own

-- ---- the marked places

abbrev mark_at : List Bool → ℕ → Bool
mark_at bs i = get_or bs i false

marked_listed : (n : ℕ) (bs : List Bool) (i : ℕ) → IsListed i (marked_from n bs) → (k : ℕ) × (i ≡ n + k) × (mark_at bs k ≡ true)
marked_listed n [] i l = absurd l
marked_listed n (b ∷ bs) i l = go b refl l (λ m. marked_listed (suc n) bs i m)
  where
    further : (k : ℕ) × (i ≡ suc n + k) × (mark_at bs k ≡ true) → (k : ℕ) × (i ≡ n + k) × (mark_at (b ∷ bs) k ≡ true)
    further (k, a, c) = (suc k, (omega arith), c)

    go : (c : Bool) → b ≡ c → IsListed i (if c then n ∷ marked_from (suc n) bs else marked_from (suc n) bs) → (IsListed i (marked_from (suc n) bs) → (k : ℕ) × (i ≡ suc n + k) × (mark_at bs k ≡ true)) → (k : ℕ) × (i ≡ n + k) × (mark_at (b ∷ bs) k ≡ true)
    go true e (inl same) more = (0, (omega arith), e)
    go true e (inr m) more = further (more m)
    go false e m more = further (more m)

listed_marked : (n : ℕ) (bs : List Bool) (k : ℕ) → mark_at bs k ≡ true → IsListed (n + k) (marked_from n bs)
listed_marked n [] k h = absurd (true≢false (sym h))
listed_marked n (b ∷ bs) zero h = subst (λ (c : Bool). IsListed (n + 0) (if c then n ∷ marked_from (suc n) bs else marked_from (suc n) bs)) (sym h) (inl (omega arith))
listed_marked n (b ∷ bs) (suc k) h = go b (listed_marked (suc n) bs k h)
  where
    number : suc n + k ≡ n + suc k
    number = omega arith

    go : (c : Bool) → IsListed (suc n + k) (marked_from (suc n) bs) → IsListed (n + suc k) (if c then n ∷ marked_from (suc n) bs else marked_from (suc n) bs)
    go true m = inr (subst (λ z. IsListed z (marked_from (suc n) bs)) number m)
    go false m = subst (λ z. IsListed z (marked_from (suc n) bs)) number m

marked_ascends : (n : ℕ) (bs : List Bool) → IsAscending (marked_from n bs)
marked_ascends n [] = tt
marked_ascends n (b ∷ bs) = go b (marked_ascends (suc n) bs)
  where
    go : (c : Bool) → IsAscending (marked_from (suc n) bs) → IsAscending (if c then n ∷ marked_from (suc n) bs else marked_from (suc n) bs)
    go true up = ((λ i l. (let m = marked_listed (suc n) bs i l in let e = m.1 in omega arith)), up)
    go false up = up

pub marked_increases : (bs : List Bool) (list : List ℕ) → list ≡ marked_from 0 bs → IsStrictlyIncreasing list
marked_increases bs list is = subst IsStrictlyIncreasing (sym is) (ascending_increases (marked_from 0 bs) (marked_ascends 0 bs))

pub marked_holds : (bs : List Bool) (list : List ℕ) → list ≡ marked_from 0 bs → (A : ℕ → Type 0) → ((i : ℕ) → (mark_at bs i ≡ true) ↔ A i) → (i : ℕ) → Contains list i ↔ A i
marked_holds bs list is A marks i = (
  (λ c. (let m = marked_listed 0 bs i (subst (IsListed i) is (contains_listed i list c)) in let e : m.0 ≡ i = (let f = m.1 in omega arith) in (marks i).0 (ap (mark_at bs) (sym e) ∙ m.2))),
  (λ a. listed_contains i list (subst (IsListed i) (sym is) (let n : 0 + i ≡ i = omega arith in subst (λ z. IsListed z (marked_from 0 bs)) n (listed_marked 0 bs i ((marks i).1 a))))),
)
