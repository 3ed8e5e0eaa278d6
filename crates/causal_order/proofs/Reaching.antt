-- The ancestors of an event by its causes are what happens before it.
use Rattle.std.proofs.Common.{◌≡◌, ℕ, zero, suc, ◌<◌, ◌≤◌, ◌+◌, Bool, true, false, List, [], ◌∷◌, ◌++◌, length, refl, sym, ap, ◌∙◌, subst, Option, Some, arith, inl, inr, ◌⊎◌, ◌↔◌, get_or, Contains}
use Rattle.std.specs.Prelude.{slice_get}
use Rattle.std.specs.List.Sorted.{IsStrictlyIncreasing}
use Rattle.std.proofs.lemmas.Bool.{true≢false, cases_lt}
use Rattle.std.proofs.lemmas.Option.{slice_get_within, slice_get_read}
use Rattle.std.proofs.lemmas.List.{get_or_default, get_or_read, get_or_past}
use Rattle.chor_base.specs.declared.event.Event.{Event}
use Rattle.chor_base.proofs.Lists.{AtEnd, before as at_before, last as at_last, at_end}
use Rattle.event_orders.proofs.OwnersAtStarts.{one_holder}
use Rattle.event_orders.specs.Orders.{IsPermutationBelow, IsBefore}
use Rattle.event_orders.specs.HappensBefore.{IsDirectlyBefore, HappensBefore, IsLinearExtension}
use Rattle.event_orders.specs.Causes.{IsCause, last_of_process as last_cause, previous_start, its_send, its_room, IsTransitiveCause, cause, by_way_of}
use Rattle.event_orders.proofs.Listed.{listed_contains, contains_listed}
use Rattle.event_orders.proofs.Numbers.{before_trans}
use Rattle.event_orders.proofs.Causing.{happens_caused, caused_happens, cause_directly}
use Rattle.event_orders.proofs.Extending.{less, PermutedRun, whole_permuted_run, extension_closed}
use Rattle.event_orders.proofs.Reversing.{shared, lead_runs}
use Rattle.causal_order.specs.declared.scan.Scan.{Scan}
use Rattle.causal_order.specs.Found.{causes_found}
use Rattle.causal_order.specs.Adding.{HasAdded}
use Rattle.causal_order.specs.Scanned.{HasScanned}
use Rattle.causal_order.specs.Orders.{AreCausesOf, AreCauses, AreEarlier, IsAncestor, direct, by_way, IsInPast, IsSomeRun, RespectsCauses, IsWhetherBefore, IsWhetherShared, IsPast, PastIsRun, RespectingOrdersAreRuns}
use Rattle.causal_order.proofs.Scanning.{scanned_more, found_is_cause, cause_is_found}

-- ---- the causes of one more event

module _ (h : List Event) (cap : Option ℕ) (some : IsSomeRun cap h) where
  runs_less : (i j : ℕ) → IsDirectlyBefore h cap i j → i < j
  runs_less = less some.0 some.1 cap h some.2 some.3

  pub cause_less : (i j : ℕ) → IsCause h cap i j → i < j
  cause_less i j c = runs_less i j (cause_directly h cap i j c)

  causes_there : (j : ℕ) (x : Event) → slice_get h j ≡ Some x → (s : Scan) → HasScanned h j s → (list : List ℕ) → IsStrictlyIncreasing list → ((i : ℕ) → Contains list i ↔ Contains (causes_found cap s x) i) → AreCausesOf h cap j list
  causes_there j x there s has list up holds = record {
    ascends = up;
    holds = λ i. (
      (λ c. found_is_cause h cap runs_less j x there s has i (contains_listed i (causes_found cap s x) ((holds i).0 c))),
      (λ c. (holds i).1 (listed_contains i (causes_found cap s x) (cause_is_found h cap runs_less j x there s has i c))),
    );
  }

  pub each_more : (j : ℕ) (x : Event) → j < length h → x ≡ get_or h j x → (s : Scan) → HasScanned h j s → (causes : List (List ℕ)) → length causes ≡ j → ((k : ℕ) (l : List ℕ) → slice_get causes k ≡ Some l → AreCausesOf h cap k l)
      → (list : List ℕ) → IsStrictlyIncreasing list → ((i : ℕ) → Contains list i ↔ Contains (causes_found cap s x) i) → (new : List (List ℕ)) → new ≡ causes ++ list ∷ [] → (k : ℕ) (l : List ℕ) → slice_get new k ≡ Some l → AreCausesOf h cap k l
  each_more j x lt is s has causes whole each list up holds new grown k l at = go (at_end causes list l k (ap (λ z. slice_get z k) (sym grown) ∙ at))
    where
      go : AtEnd causes list l k → AreCausesOf h cap k l
      go (at_before b) = each k l b
      go (at_last last_is same) =
          let number : j ≡ k = sym whole ∙ sym last_is in
          subst (λ (z : ℕ). AreCausesOf h cap z l) number (subst (AreCausesOf h cap j) (sym same) (causes_there j x (slice_get_read h (length h) j x refl lt is) s has list up holds))

  pub scanned_next : (j : ℕ) (x : Event) → j < length h → x ≡ get_or h j x → (old new : Scan) → HasScanned h j old → HasAdded old x j new → HasScanned h (j + 1) new
  scanned_next j x lt is old new has noted =
      let next : suc j ≡ j + 1 = omega arith in
      subst (λ (z : ℕ). HasScanned h z new) next (scanned_more h j x (slice_get_read h (length h) j x refl lt is) old new has noted)

  pub earlier : (causes : List (List ℕ)) → ((k : ℕ) (l : List ℕ) → slice_get causes k ≡ Some l → AreCausesOf h cap k l) → AreEarlier causes
  earlier causes each j list at k d lt =
      let a : AreCausesOf h cap j list = each j list at in
      cause_less (get_or list k d) j ((a.holds (get_or list k d)).0 (k, lt, get_or_default list k (get_or list k d) d lt))

-- ---- ancestors

pub ancestor_less : (causes : List (List ℕ)) → AreEarlier causes → (i j : ℕ) → IsAncestor causes i j → i < j
ancestor_less causes early i j (direct list at c) = subst (λ z. z < j) c.2 (early j list at c.0 i c.1)
ancestor_less causes early i j (by_way k a b) = let f = ancestor_less causes early i k a in let g = ancestor_less causes early k j b in omega arith

get_there : (xs : List (List ℕ)) (i : ℕ) → i < length xs → (x : List ℕ) × (slice_get xs i ≡ Some x)
get_there [] i lt = absurd (omega arith)
get_there (y ∷ xs) zero lt = (y, refl)
get_there (y ∷ xs) (suc i) lt = get_there xs i (omega arith)

cause_within : (h : List Event) (cap : Option ℕ) (i j : ℕ) → IsCause h cap i j → j < length h
cause_within h cap i j (last_cause p lt a b none) = slice_get_within h j b.event b.there
cause_within h cap i j (previous_start n a b) = slice_get_within h j b.event b.there
cause_within h cap i j (its_send t n a b) = slice_get_within h j b.event b.there
cause_within h cap i j (its_room t n c k a b) = slice_get_within h j b.event b.there

module _ (h : List Event) (cap : Option ℕ) (causes : List (List ℕ)) (are : AreCauses h cap causes) where
  list_of : (i j : ℕ) → IsCause h cap i j → (list : List ℕ) × (slice_get causes j ≡ Some list) × Contains list i
  list_of i j c =
      let lt : j < length causes = (let w = cause_within h cap i j c in let l = are.whole in omega arith) in
      let t = get_there causes j lt in
      let of : AreCausesOf h cap j t.0 = are.each j t.0 t.1 in
      (t.0, t.1, (of.holds i).1 c)

  pub ancestor_happens : (i j : ℕ) → IsAncestor causes i j → HappensBefore h cap i j
  ancestor_happens i j r = caused_happens h cap i j (go i j r)
    where
      one : (i j : ℕ) (list : List ℕ) → slice_get causes j ≡ Some list → Contains list i → IsCause h cap i j
      one i j list at c = let of : AreCausesOf h cap j list = are.each j list at in (of.holds i).0 c

      go : (i j : ℕ) → IsAncestor causes i j → IsTransitiveCause h cap i j
      go i j (direct list at c) = cause (one i j list at c)
      go i j (by_way k a b) = by_way_of k (go i k a) (go k j b)

  caused_ancestor : (i j : ℕ) → IsTransitiveCause h cap i j → IsAncestor causes i j
  caused_ancestor i j (cause c) = let l = list_of i j c in direct l.0 l.1 l.2
  caused_ancestor i j (by_way_of k a b) = by_way k (caused_ancestor i k a) (caused_ancestor k j b)

  pub happens_ancestor : (i j : ℕ) → HappensBefore h cap i j → IsAncestor causes i j
  happens_ancestor i j b = caused_ancestor i j (happens_caused h cap i j b)

  -- a permutation that respects the causes is a linear extension
  respecting_extends : (order : List ℕ) → IsPermutationBelow (length h) order → RespectsCauses causes order → (i j : ℕ) → IsTransitiveCause h cap i j → IsBefore order i j
  respecting_extends order is follows i j (cause c) = let l = list_of i j c in follows j l.0 i l.1 l.2
  respecting_extends order is follows i j (by_way_of k a b) = before_trans (length h) order is i k j (respecting_extends order is follows i k a) (respecting_extends order is follows k j b)

  pub orders_run : RespectingOrdersAreRuns cap h causes
  orders_run e hosts last faultless run order is follows =
      let ext : IsLinearExtension h cap order = record { whole = is; extends = λ i j b. respecting_extends order is follows i j (happens_caused h cap i j b) } in
      let by : PermutedRun e hosts cap h (one_holder e faultless hosts cap) last run last order = whole_permuted_run e hosts cap h (one_holder e faultless hosts cap) last run order is (extension_closed h cap order ext) in
      record { state = by.state; run = by.leads; same = by.same }

pub same_answer : {A B : Type 0} (b : Bool) → (b ≡ true) ↔ A → (A → B) → (B → A) → (b ≡ true) ↔ B
same_answer b is to back = ((λ t. to (is.0 t)), (λ x. is.1 (back x)))

pub decides_before : (causes : List (List ℕ)) (i j : ℕ) (b : Bool) → (b ≡ true) ↔ IsAncestor causes i j → IsWhetherBefore causes i j b
decides_before causes i j b is h cap are = same_answer b is (ancestor_happens h cap causes are i j) (happens_ancestor h cap causes are i j)

pub decides_shared : (causes : List (List ℕ)) (i j : ℕ) (b : Bool) → j < length causes → (b ≡ true) ↔ IsAncestor causes i j → IsWhetherShared causes i j b
decides_shared causes i j b lt is e hosts cap h last faultless run are =
    let within : j < length h = (let w = are.whole in omega arith) in
    let s = shared e hosts cap h (one_holder e faultless hosts cap) last run i j within in
    same_answer b (decides_before causes i j b is h cap are) s.0 s.1

pub is_past : (causes : List (List ℕ)) (j : ℕ) (list : List ℕ) → IsStrictlyIncreasing list → ((i : ℕ) → Contains list i ↔ IsInPast causes j i) → IsPast causes j list
is_past causes j list up is h cap are = record { ascends = up; holds = λ i. ((λ c. to i ((is i).0 c)), (λ b. (is i).1 (back i b))) }
  where
    to : (i : ℕ) → (i ≡ j) ⊎ IsAncestor causes i j → (i ≡ j) ⊎ HappensBefore h cap i j
    to i (inl same) = inl same
    to i (inr r) = inr (ancestor_happens h cap causes are i j r)

    back : (i : ℕ) → (i ≡ j) ⊎ HappensBefore h cap i j → (i ≡ j) ⊎ IsAncestor causes i j
    back i (inl same) = inl same
    back i (inr r) = inr (happens_ancestor h cap causes are i j r)

pub past_is_run : (causes : List (List ℕ)) (j : ℕ) → j < length causes → (list : List ℕ) → IsStrictlyIncreasing list → ((i : ℕ) → Contains list i ↔ IsInPast causes j i) → PastIsRun causes j list
past_is_run causes j lt list up is e hosts cap h last faultless run are =
    let within : j < length h = (let w = are.whole in omega arith) in
    lead_runs e hosts cap h (one_holder e faultless hosts cap) last run j within list (is_past causes j list up is h cap are)

-- ---- one pair

pub no_ancestor : (causes : List (List ℕ)) → AreEarlier causes → (i j : ℕ) → j ≤ i → (false ≡ true) ↔ IsAncestor causes i j
no_ancestor causes early i j le = ((λ f. absurd (true≢false (sym f))), (λ r. absurd (let lt = ancestor_less causes early i j r in omega arith)))

pub is_ancestor : (causes : List (List ℕ)) (i j : ℕ) → i < j → (marks : List Bool) (b : Bool) → i < length marks → b ≡ get_or marks i b → (get_or marks i false ≡ true) ↔ IsInPast causes j i → (b ≡ true) ↔ IsAncestor causes i j
is_ancestor causes i j lt marks b within read marked = ((λ t. to (marked.0 (sym same ∙ t))), (λ r. same ∙ marked.1 (inr r)))
  where
    same : b ≡ get_or marks i false
    same = get_or_read marks i b within read false

    to : IsInPast causes j i → IsAncestor causes i j
    to (inl e) = absurd (omega arith)
    to (inr r) = r

-- ---- the past of an event

pub all_marks : (causes : List (List ℕ)) → AreEarlier causes → (event : ℕ) → event < length causes → (marks : List Bool) → length marks ≡ length causes → ((i : ℕ) → i < length causes → (get_or marks i false ≡ true) ↔ IsInPast causes event i)
    → (i : ℕ) → (get_or marks i false ≡ true) ↔ IsInPast causes event i
all_marks causes early event lt marks whole marked i = go (cases_lt i (length causes))
  where
    beyond : length causes ≤ i → IsInPast causes event i → get_or marks i false ≡ true
    beyond le (inl same) = absurd (omega arith)
    beyond le (inr r) = absurd (let f = ancestor_less causes early i event r in omega arith)

    go : (i < length causes) ⊎ (length causes ≤ i) → (get_or marks i false ≡ true) ↔ IsInPast causes event i
    go (inl l) = marked i l
    go (inr le) = ((λ m. absurd (true≢false (sym m ∙ get_or_past marks i false (omega arith)))), beyond le)
