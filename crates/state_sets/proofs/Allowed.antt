-- What a set allows, found from the lists of its own states.
use Rattle.std.proofs.Common.{ℕ, ◌≡◌, ◌+◌, ◌-◌, ◌<◌, ◌≤◌, List, [], ◌∷◌, ◌++◌, refl, ap, sym, subst, ◌∙◌, arith, inl, inr, zero, suc, length, take, length-set, add-one}
use Rattle.std.specs.declared.alloc.Global.{Global}
use Rattle.std.specs.Prelude.{◌⊎◌, ◌≢◌, Some, Vec, slice_get, slice_index_or, slice_set}
use Rattle.std.specs.List.{range_with_len}
use Rattle.std.specs.List.Sorted.{IsNonDecreasing, IsPermutation}
use Rattle.std.proofs.lemmas.Bool.{cases_lt}
use Rattle.std.proofs.lemmas.List.{get_or-set_same, get_or-set_other, take_all}
use Rattle.std.proofs.lemmas.List.FromFn.{length-range_with_len, get_or-range_with_len}
use Rattle.std.proofs.lemmas.Option.{slice_get-get_or, get_or_from_slice_get, slice_get_within}
use Rattle.chor_base.specs.Words.{words_of, AllDistinct, with_word}
use Rattle.chor_base.specs.declared.names.NameId.{NameId}
use Rattle.chor_tree.specs.declared.protocol.State.{State}
use Rattle.global_types.specs.Moves.{IsIn}
use Rattle.state_sets.specs.declared.graph.Edge.{Edge}
use Rattle.state_sets.specs.declared.graph.Group.{Group}
use Rattle.state_sets.specs.declared.table.Arm.{Arm}
use Rattle.state_sets.specs.Sets.{Has, row_at, IsSetFor}
use Rattle.state_sets.specs.Table.{AreActs, HasGrown, AreArms}
use Rattle.state_sets.specs.Starts.{AreStarts, HasMoreStarts, HaveAllowed}
use Rattle.state_sets.proofs.Lists.{at_of_in, in_of_at, in_more, in_left, in_right, in_last, in_permuted}
use Rattle.state_sets.proofs.Sets.{same_or_not, row_is, words-set, length-words}
use Rattle.state_sets.proofs.TableLoops.{ArmsSoFar, arms_begin, arms_in, arms_out, arms_end, grown_over}

-- ---- lists of states

pub starts_kept : (old : List (Vec ℕ Global)) → HasMoreStarts old old
starts_kept old = record { size = refl; kept = λ i k m. m }

pub starts_longer : (first old new : List (Vec ℕ Global)) → HasMoreStarts first old → HasMoreStarts old new → HasMoreStarts first new
starts_longer first old new was more = record { size = more.size ∙ was.size; kept = λ i k m. more.kept i k (was.kept i k m) }

pub row_written : (old : List (Vec ℕ Global)) (s : ℕ) (list : Vec ℕ Global) → s < length old → row_at (slice_set old s list) s ≡ list.items
row_written old s list h = ap (λ l. slice_index_or l s []) (words-set old s list) ∙ get_or-set_same (words_of old) s list.items [] (let e : length (words_of old) ≡ length old = length-words old in omega (arith, e, h))

pub row_other : (old : List (Vec ℕ Global)) (s i : ℕ) (list : Vec ℕ Global) → i ≢ s → row_at (slice_set old s list) i ≡ row_at old i
row_other old s i list d = ap (λ l. slice_index_or l i []) (words-set old s list) ∙ get_or-set_other (words_of old) s i list.items [] d

-- a number comes into the list of a state
pub start_more : (old new : List (Vec ℕ Global)) (s number : ℕ) (was list : Vec ℕ Global) → s < length old → was ≡ slice_index_or old s was
    → list.items ≡ was.items ++ number ∷ [] → new ≡ slice_set old s list → HasMoreStarts old new
start_more old new s number was list h at grows is = rw is (record {
  size = length-set old s list;
  kept = λ i k m. kept_at i k m (same_or_not i s);
})
  where
    mine : row_at (slice_set old s list) s ≡ row_at old s ++ number ∷ []
    mine = row_written old s list h ∙ grows ∙ ap (λ l. l ++ number ∷ []) (sym (row_is old s was h at))

    kept_at : (i k : ℕ) → IsIn k (row_at old i) → (i ≡ s) ⊎ (i ≢ s) → IsIn k (row_at (slice_set old s list) i)
    kept_at i k m (inl e) =
        let here : IsIn k (row_at (slice_set old s list) s) = subst (λ l. IsIn k l) (sym mine) (in_left k (row_at old s) (number ∷ []) (subst (λ j. IsIn k (row_at old j)) e m)) in
        subst (λ j. IsIn k (row_at (slice_set old s list) j)) (sym e) here
    kept_at i k m (inr d) = subst (λ l. IsIn k l) (sym (row_other old s i list d)) m

pub start_added : (old new : List (Vec ℕ Global)) (s number : ℕ) (was list : Vec ℕ Global) → s < length old
    → list.items ≡ was.items ++ number ∷ [] → new ≡ slice_set old s list → IsIn number (row_at new s)
start_added old new s number was list h grows is = rw is (subst (λ l. IsIn number l) (sym (row_written old s list h ∙ grows)) (in_last number was.items))

-- the edges of a front, and one more
pub added_more : (es : List Edge) (i : ℕ) (d : Edge) (number : ℕ) (old new : List (Vec ℕ Global)) → i < length es
    → ((e : Edge) → IsIn e (take i es) → IsIn number (row_at old e.from)) → HasMoreStarts old new → IsIn number (row_at new (slice_index_or es i d).from)
    → (e : Edge) → IsIn e (take (i + 1) es) → IsIn number (row_at new e.from)
added_more es i d number old new h was more here e m = go (in_more e es i d h m) where
  go : IsIn e (take i es) ⊎ (slice_index_or es i d ≡ e) → IsIn number (row_at new e.from)
  go (inl o) = more.kept e.from number (was e o)
  go (inr s) = subst (λ (v : Edge). IsIn number (row_at new v.from)) s here

pub added_all : (es : List Edge) (i number : ℕ) (new : List (Vec ℕ Global)) → length es ≤ i
    → ((e : Edge) → IsIn e (take i es) → IsIn number (row_at new e.from)) → (e : Edge) → IsIn e es → IsIn number (row_at new e.from)
added_all es i number new h was e m = was e (subst (λ l. IsIn e l) (sym (take_all i es h)) m)

-- the groups of a front, and one more
pub record StartsSoFar (gs : List Group) (count index : ℕ) (starts : List (Vec ℕ Global)) : Type 0 where
  pub size : length starts ≡ count
  pub done : (k : ℕ) (g : Group) (e : Edge) → k < index → slice_get gs k ≡ Some g → IsIn e g.edges.items → IsIn k (row_at starts e.from)

pub starts_more : (gs : List Group) (count index : ℕ) (old new : List (Vec ℕ Global)) (g : Group) → StartsSoFar gs count index old → index < length gs → g ≡ slice_index_or gs index g
    → HasMoreStarts old new → ((e : Edge) → IsIn e g.edges.items → IsIn index (row_at new e.from)) → StartsSoFar gs count (index + 1) new
starts_more gs count index old new g was h is more added = record {
  size = more.size ∙ was.size;
  done = λ k j e less at m. done_at k j e less at m (same_or_not k index);
}
  where
    same_some : (x y : Group) → Some x ≡ Some y → x ≡ y
    same_some x y e = cc

    done_at : (k : ℕ) (j : Group) (e : Edge) → k < index + 1 → slice_get gs k ≡ Some j → IsIn e j.edges.items → (k ≡ index) ⊎ (k ≢ index) → IsIn k (row_at new e.from)
    done_at k j e less at m (inl s) =
        let own : g ≡ j = is ∙ get_or_from_slice_get gs index j g (subst (λ n. slice_get gs n ≡ Some j) s at) in
        subst (λ n. IsIn n (row_at new e.from)) (sym s) (added e (subst (λ (v : Group). IsIn e v.edges.items) (sym own) m))
    done_at k j e less at m (inr d) = more.kept e.from k (was.done k j e (omega (arith, less, d)) at m)

pub starts_all : (gs : List Group) (count index : ℕ) (starts : List (Vec ℕ Global)) → length gs ≤ index → StartsSoFar gs count index starts → AreStarts gs starts
starts_all gs count index starts h was k g e at m = was.done k g e (let b = slice_get_within gs k g at in omega (arith, b, h)) at m

-- ---- the numbers that a set may allow

-- what stands in the lists of those of the first states that are in the set
abbrev pub HasListed : List ℕ → List (Vec ℕ Global) → ℕ → List ℕ → Type 0
HasListed still starts n numbers = (i k : ℕ) → i < n → Has still i → IsIn k (row_at starts i) → IsIn k numbers

pub listed_in : (still : List ℕ) (starts : List (Vec ℕ Global)) (n : ℕ) (list : Vec ℕ Global) (old new : List ℕ) → n < length starts → list ≡ slice_index_or starts n list
    → new ≡ old ++ list.items → HasListed still starts n old → HasListed still starts (n + 1) new
listed_in still starts n list old new h is grows was = rw grows (λ i k less has m. go i k less has m (same_or_not i n)) where
  go : (i k : ℕ) → i < n + 1 → Has still i → IsIn k (row_at starts i) → (i ≡ n) ⊎ (i ≢ n) → IsIn k (old ++ list.items)
  go i k less has m (inl e) = in_right k old list.items (subst (λ l. IsIn k l) (ap (λ j. row_at starts j) e ∙ row_is starts n list h is) m)
  go i k less has m (inr d) = in_left k old list.items (was i k (omega (arith, less, d)) has m)

pub listed_out : (still : List ℕ) (starts : List (Vec ℕ Global)) (n : ℕ) (old : List ℕ) → (Has still n → ⊥) → HasListed still starts n old → HasListed still starts (n + 1) old
listed_out still starts n old not was i k less has m = go (same_or_not i n) where
  go : (i ≡ n) ⊎ (i ≢ n) → IsIn k old
  go (inl e) = absurd (not (subst (λ j. Has still j) e has))
  go (inr d) = was i k (omega (arith, less, d)) has m

-- a number stands in the list of a state that has one
pub listed_all : (still : List ℕ) (starts : List (Vec ℕ Global)) (n : ℕ) (numbers : List ℕ) → length starts ≤ n → HasListed still starts n numbers → (i k : ℕ) → Has still i → IsIn k (row_at starts i) → IsIn k numbers
listed_all still starts n numbers h was i k has m = go (cases_lt i (length starts)) where
  empty : (l : List ℕ) → l ≡ [] → IsIn k l → ⊥
  empty [] e o = o
  empty (x ∷ xs) e o = absurd (cc)

  go : (i < length starts) ⊎ (length starts ≤ i) → IsIn k numbers
  go (inl l) = was i k (omega (arith, l, h)) has m
  go (inr g) = absurd (empty (row_at starts i) (past starts i g) m) where
    past : (rows : List (Vec ℕ Global)) (j : ℕ) → length rows ≤ j → row_at rows j ≡ []
    past [] j b = refl
    past (x ∷ xs) zero b = absurd (omega (arith, b))
    past (x ∷ xs) (suc j) b = past xs j (omega (arith, b))

pub allowed_sorted : (gs : List Group) (still : List ℕ) (starts : List (Vec ℕ Global)) (numbers sorted : List ℕ) → AreStarts gs starts
    → ((i k : ℕ) → Has still i → IsIn k (row_at starts i) → IsIn k numbers) → IsPermutation numbers sorted → HaveAllowed gs still sorted
allowed_sorted gs still starts numbers sorted are listed order k g e at m has = in_permuted k numbers sorted order (listed e.from k has (are k g e at m))

pub allowed_all : (gs : List Group) (still numbers : List ℕ) → numbers ≡ range_with_len 0 (length gs) → HaveAllowed gs still numbers
allowed_all gs still numbers is k g e at m has = rw is (in_of_at k (range_with_len 0 (length gs)) k (slice_get-get_or (range_with_len 0 (length gs)) k 0 (let l : length (range_with_len 0 (length gs)) ≡ length gs = length-range_with_len 0 (length gs) in omega (arith, l, within)) ∙ ap Some here))
  where
    within : k < length gs
    within = slice_get_within gs k g at

    here : slice_index_or (range_with_len 0 (length gs)) k 0 ≡ k
    here = let e : slice_index_or (range_with_len 0 (length gs)) k 0 ≡ 0 + k = get_or-range_with_len 0 (length gs) k 0 within in omega (arith, e)

pub range_more : (a n : ℕ) → range_with_len a (n + 1) ≡ range_with_len a n ++ (a + n) ∷ []
range_more a n = rw add-one (grown a n) where
  grown : (b m : ℕ) → range_with_len b (suc m) ≡ range_with_len b m ++ (b + m) ∷ []
  grown b zero = let e : b ≡ b + 0 = omega arith in ap (λ k. k ∷ []) e
  grown b (suc m) = ap (λ l. b ∷ l) (grown (b + 1) m) ∙ (let e : (b + 1) + m ≡ b + suc m = omega arith in ap (λ k. b ∷ (range_with_len (b + 1) m ++ k ∷ [])) e)

pub rising_all : (n : ℕ) (numbers : List ℕ) → numbers ≡ range_with_len 0 n → IsNonDecreasing numbers
rising_all n numbers is = rw is (λ i j d le lt. at i j d le (let l : length (range_with_len 0 n) ≡ n = length-range_with_len 0 n in omega (arith, l, lt))) where
  at : (i j d : ℕ) → i ≤ j → j < n → slice_index_or (range_with_len 0 n) i d ≤ slice_index_or (range_with_len 0 n) j d
  at i j d le lt =
      let a : slice_index_or (range_with_len 0 n) i d ≡ 0 + i = get_or-range_with_len 0 n i d (omega (arith, le, lt)) in
      let b : slice_index_or (range_with_len 0 n) j d ≡ 0 + j = get_or-range_with_len 0 n j d lt in
      omega (arith, a, b, le)

-- ---- the loop over the numbers

pub record ArmsFound (gs : List Group) (numbers still : List ℕ) (first : List (List ℕ)) (index place : ℕ) (sets : List (List ℕ)) (arms : List Arm) : Type 0 where
  pub so_far : ArmsSoFar gs still first place sets arms
  pub within : place ≤ length gs
  pub passed : (n : ℕ) → IsIn n (take index numbers) → (n < place) ⊎ (length gs ≤ n)

pub found_begin : (gs : List Group) (numbers still : List ℕ) (sets : List (List ℕ)) → AllDistinct sets → ArmsFound gs numbers still sets 0 0 sets []
found_begin gs numbers still sets distinct = record { so_far = arms_begin gs still sets distinct; within = omega arith; passed = λ n m. absurd m }

group_at : (gs : List Group) (i : ℕ) → i < length gs → (g : Group) × (slice_get gs i ≡ Some g)
group_at [] i h = absurd (omega (arith, h))
group_at (g ∷ gs) zero h = (g, refl)
group_at (g ∷ gs) (suc i) h = group_at gs i (omega (arith, h))

-- groups that the states don't allow are passed over
arms_over : (gs : List Group) (still : List ℕ) (first : List (List ℕ)) (d i j : ℕ) (sets : List (List ℕ)) (arms : List Arm) → ArmsSoFar gs still first i sets arms → i + d ≡ j → j ≤ length gs
    → ((k : ℕ) (g : Group) (e : Edge) → i ≤ k → k < j → slice_get gs k ≡ Some g → IsIn e g.edges.items → Has still e.from → ⊥)
    → ArmsSoFar gs still first j sets arms
arms_over gs still first zero i j sets arms was e h none = subst (λ m. ArmsSoFar gs still first m sets arms) (let f : i ≡ j = omega (arith, e) in f) was
arms_over gs still first (suc d) i j sets arms was e h none =
    let p = group_at gs i (omega (arith, e, h)) in
    arms_over gs still first d (i + 1) j sets arms
    (arms_out gs still first i sets arms p.0 was (omega (arith, e, h)) (sym (get_or_from_slice_get gs i p.0 p.0 p.1)) (λ x o has. none i p.0 x (omega arith) (omega (arith, e)) p.1 o has))
    (omega (arith, e)) h (λ k g x a b. none k g x (omega (arith, a)) b)

in_front : (k : ℕ) (xs : List ℕ) (i q : ℕ) → q < i → slice_get xs q ≡ Some k → IsIn k (take i xs)
in_front k [] i q h s = absurd (cc)
in_front k (x ∷ xs) zero q h s = absurd (omega (arith, h))
in_front k (x ∷ xs) (suc i) zero h s = inl cc
in_front k (x ∷ xs) (suc i) (suc q) h s = inr (in_front k xs i q (omega (arith, h)) s)

-- no group that the states allow stands between the last one and n, where no number that comes is less than n
none_between : (gs : List Group) (numbers still : List ℕ) (first : List (List ℕ)) (index place n : ℕ) (sets : List (List ℕ)) (arms : List Arm) → ArmsFound gs numbers still first index place sets arms → HaveAllowed gs still numbers
    → ((q : ℕ) → index ≤ q → q < length numbers → n ≤ slice_index_or numbers q 0)
    → (k : ℕ) (g : Group) (e : Edge) → place ≤ k → k < n → slice_get gs k ≡ Some g → IsIn e g.edges.items → Has still e.from → ⊥
none_between gs numbers still first index place n sets arms was allowed least k g e a b at m has = go (at_of_in k numbers (allowed k g e at m has)) where
  past : (k < place) ⊎ (length gs ≤ k) → ⊥
  past (inl x) = absurd (omega (arith, x, a))
  past (inr y) = let w = slice_get_within gs k g at in absurd (omega (arith, w, y))

  go : (q : ℕ) × (slice_get numbers q ≡ Some k) → ⊥
  go s = side (cases_lt s.0 index) where
    side : (s.0 < index) ⊎ (index ≤ s.0) → ⊥
    side (inl l) = past (was.passed k (in_front k numbers index s.0 l s.1))
    side (inr l) =
        let w = slice_get_within numbers s.0 k s.1 in
        let f = least s.0 l w in
        let here : slice_index_or numbers s.0 0 ≡ k = get_or_from_slice_get numbers s.0 k 0 s.1 in
        absurd (omega (arith, f, here, b))

-- a number that comes, and those after it
least_is : (numbers : List ℕ) (index d : ℕ) → IsNonDecreasing numbers → index < length numbers → (q : ℕ) → index ≤ q → q < length numbers → slice_index_or numbers index d ≤ slice_index_or numbers q 0
least_is numbers index d rising h q a b =
    let f : slice_index_or numbers index d ≡ slice_index_or numbers index 0 = get_or_from_slice_get numbers index (slice_index_or numbers index 0) d (slice_get-get_or numbers index 0 h) in
    let g = rising index q 0 a b in
    omega (arith, f, g)

found_to : (gs : List Group) (numbers still : List ℕ) (first : List (List ℕ)) (index place n : ℕ) (sets : List (List ℕ)) (arms : List Arm) → ArmsFound gs numbers still first index place sets arms → HaveAllowed gs still numbers
    → ((q : ℕ) → index ≤ q → q < length numbers → n ≤ slice_index_or numbers q 0) → place ≤ n → n ≤ length gs → ArmsSoFar gs still first n sets arms
found_to gs numbers still first index place n sets arms was allowed least a b =
    arms_over gs still first (n - place) place n sets arms was.so_far (omega (arith, a)) b (none_between gs numbers still first index place n sets arms was allowed least)

-- what holds where a number is looked at, whose group begins here
pub record IsTurn (gs : List Group) (numbers still : List ℕ) (first : List (List ℕ)) (index place d : ℕ) (sets : List (List ℕ)) (arms : List Arm) (g : Group) : Type 0 where
  pub was : ArmsFound gs numbers still first index place sets arms
  pub rising : IsNonDecreasing numbers
  pub allowed : HaveAllowed gs still numbers
  pub short : index < length numbers
  pub from : place ≤ slice_index_or numbers index d
  pub within : slice_index_or numbers index d < length gs
  pub is : g ≡ slice_index_or gs (slice_index_or numbers index d) g

turned : (gs : List Group) (numbers still : List ℕ) (first : List (List ℕ)) (index place d : ℕ) (sets : List (List ℕ)) (arms : List Arm) (g : Group)
    → IsTurn gs numbers still first index place d sets arms g → ArmsSoFar gs still first (slice_index_or numbers index d) sets arms
turned gs numbers still first index place d sets arms g t =
    found_to gs numbers still first index place (slice_index_or numbers index d) sets arms t.was t.allowed (least_is numbers index d t.rising t.short) t.from (let w = t.within in omega (arith, w))

passed_more : (gs : List Group) (numbers : List ℕ) (index place d : ℕ) → index < length numbers → place ≤ slice_index_or numbers index d → ((n : ℕ) → IsIn n (take index numbers) → (n < place) ⊎ (length gs ≤ n))
    → (n : ℕ) → IsIn n (take (index + 1) numbers) → (n < slice_index_or numbers index d + 1) ⊎ (length gs ≤ n)
passed_more gs numbers index place d h from was n m = go (in_more n numbers index d h m) where
  old : (n < place) ⊎ (length gs ≤ n) → (n < slice_index_or numbers index d + 1) ⊎ (length gs ≤ n)
  old (inl x) = inl (omega (arith, x, from))
  old (inr y) = inr y

  go : IsIn n (take index numbers) ⊎ (slice_index_or numbers index d ≡ n) → (n < slice_index_or numbers index d + 1) ⊎ (length gs ≤ n)
  go (inl o) = old (was n o)
  go (inr e) = inl (omega (arith, e))

pub found_grown : (gs : List Group) (numbers still : List ℕ) (first : List (List ℕ)) (index place d : ℕ) (sets : List (List ℕ)) (arms : List Arm) (g : Group) (word : List ℕ) (new : List (List ℕ))
    → IsTurn gs numbers still first index place d sets arms g
    → ((e : Edge) × IsIn e g.edges.items × Has still e.from)
    → IsSetFor (length still) (λ j. (e : Edge) × IsIn e g.edges.items × Has still e.from × (e.to ≡ j)) word
    → new ≡ with_word sets word
    → (ss : List State) (r : NameId) → AreActs ss r gs → HasGrown ss r (length still) still first new
found_grown gs numbers still first index place d sets arms g word new t some set added =
    grown_over gs still first (slice_index_or numbers index d) sets arms g word new (turned gs numbers still first index place d sets arms g t) t.within t.is some set added

pub found_in : (gs : List Group) (numbers still : List ℕ) (first : List (List ℕ)) (index place d : ℕ) (sets : List (List ℕ)) (arms : List Arm) (g : Group) (word : List ℕ) (new : List (List ℕ)) (arm : Arm) (more : List Arm)
    → IsTurn gs numbers still first index place d sets arms g
    → ((e : Edge) × IsIn e g.edges.items × Has still e.from)
    → IsSetFor (length still) (λ j. (e : Edge) × IsIn e g.edges.items × Has still e.from × (e.to ≡ j)) word
    → new ≡ with_word sets word → AllDistinct new
    → arm.act ≡ g.act → slice_get new arm.next ≡ Some word
    → more ≡ arms ++ arm ∷ []
    → ArmsFound gs numbers still first (index + 1) (slice_index_or numbers index d + 1) new more
found_in gs numbers still first index place d sets arms g word new arm more t some set added distinct act at grows = record {
  so_far = arms_in gs still first (slice_index_or numbers index d) sets arms g word new arm more (turned gs numbers still first index place d sets arms g t) t.within t.is some set added distinct act at grows;
  within = (let w = t.within in omega (arith, w));
  passed = passed_more gs numbers index place d t.short t.from t.was.passed;
}

pub found_out : (gs : List Group) (numbers still : List ℕ) (first : List (List ℕ)) (index place d : ℕ) (sets : List (List ℕ)) (arms : List Arm) (g : Group)
    → IsTurn gs numbers still first index place d sets arms g
    → ((e : Edge) → IsIn e g.edges.items → Has still e.from → ⊥)
    → ArmsFound gs numbers still first (index + 1) (slice_index_or numbers index d + 1) sets arms
found_out gs numbers still first index place d sets arms g t none = record {
  so_far = arms_out gs still first (slice_index_or numbers index d) sets arms g (turned gs numbers still first index place d sets arms g t) t.within t.is none;
  within = (let w = t.within in omega (arith, w));
  passed = passed_more gs numbers index place d t.short t.from t.was.passed;
}

-- a number that was there already, or that no group has
pub found_same : (gs : List Group) (numbers still : List ℕ) (first : List (List ℕ)) (index place d : ℕ) (sets : List (List ℕ)) (arms : List Arm) → ArmsFound gs numbers still first index place sets arms → index < length numbers
    → (slice_index_or numbers index d < place) ⊎ (length gs ≤ slice_index_or numbers index d)
    → ArmsFound gs numbers still first (index + 1) place sets arms
found_same gs numbers still first index place d sets arms was h over = record {
  so_far = was.so_far;
  within = was.within;
  passed = λ n m. go n (in_more n numbers index d h m);
}
  where
    here : (n : ℕ) → slice_index_or numbers index d ≡ n → (slice_index_or numbers index d < place) ⊎ (length gs ≤ slice_index_or numbers index d) → (n < place) ⊎ (length gs ≤ n)
    here n e (inl x) = inl (omega (arith, e, x))
    here n e (inr y) = inr (omega (arith, e, y))

    go : (n : ℕ) → IsIn n (take index numbers) ⊎ (slice_index_or numbers index d ≡ n) → (n < place) ⊎ (length gs ≤ n)
    go n (inl o) = was.passed n o
    go n (inr e) = here n e over

pub found_end : (gs : List Group) (numbers still : List ℕ) (first : List (List ℕ)) (index place : ℕ) (sets : List (List ℕ)) (arms : List Arm) → ArmsFound gs numbers still first index place sets arms → HaveAllowed gs still numbers
    → length numbers ≤ index → (ss : List State) (r : NameId) → AreActs ss r gs → AreArms ss r (length still) sets still arms
found_end gs numbers still first index place sets arms was allowed h =
    arms_end gs still first (length gs) sets arms
    (found_to gs numbers still first index place (length gs) sets arms was allowed (λ q a b. absurd (omega (arith, a, b, h))) was.within (omega arith))
    (omega arith)
