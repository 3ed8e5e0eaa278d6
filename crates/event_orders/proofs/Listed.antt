-- Members of lists of numbers, and ascending lists, by recursion.
use Rattle.std.proofs.Common.{◌≡◌, ℕ, zero, suc, ◌<◌, ◌+◌, List, [], ◌∷◌, length, refl, sym, ap, ◌∙◌, subst, arith, inl, inr, ◌⊎◌, Contains, AllPairs, get_or}
use Rattle.std.specs.List.Sorted.{IsStrictlyIncreasing}
use Rattle.std.proofs.lemmas.List.Kept.{AllPairs-from_increasing}

-- i is in a list
abbrev pub IsListed : ℕ → List ℕ → Type 0
IsListed i [] = ⊥
IsListed i (x ∷ xs) = (i ≡ x) ⊎ IsListed i xs

-- each number is less than those after it
abbrev pub IsAscending : List ℕ → Type 0
IsAscending [] = Unit {0}
IsAscending (x ∷ xs) = ((i : ℕ) → IsListed i xs → x < i) × IsAscending xs

pub listed_contains : (i : ℕ) (xs : List ℕ) → IsListed i xs → Contains xs i
listed_contains i [] l = absurd l
listed_contains i (x ∷ xs) (inl same) = (0, (omega arith), sym same)
listed_contains i (x ∷ xs) (inr more) = let c = listed_contains i xs more in (suc c.0, (let lt = c.1 in omega arith), c.2)

pub contains_listed : (i : ℕ) (xs : List ℕ) → Contains xs i → IsListed i xs
contains_listed i xs (k, lt, at) = go xs k lt at
  where
    go : (ys : List ℕ) (k : ℕ) → k < length ys → get_or ys k i ≡ i → IsListed i ys
    go [] k l a = absurd (omega arith)
    go (y ∷ ys) zero l a = inl (sym a)
    go (y ∷ ys) (suc k) l a = inr (go ys k (omega arith) a)

pairs_ascend : (xs : List ℕ) → AllPairs (λ x y. x < y) xs → IsAscending xs
pairs_ascend [] pairs = tt
pairs_ascend (x ∷ xs) pairs = ((λ i l. first i l), pairs_ascend xs (λ i j d a b. pairs (suc i) (suc j) d (omega arith) (omega arith)))
  where
    first : (i : ℕ) → IsListed i xs → x < i
    first i l =
        let c = listed_contains i xs l in
        let lt : x < get_or xs c.0 i = pairs 0 (suc c.0) i (omega arith) (let m = c.1 in omega arith) in
        subst (λ z. x < z) c.2 lt

pub increasing_ascends : (xs : List ℕ) → IsStrictlyIncreasing xs → IsAscending xs
increasing_ascends xs up = pairs_ascend xs (AllPairs-from_increasing xs up)

ascends_at : (xs : List ℕ) → IsAscending xs → (k : ℕ) → suc k < length xs → get_or xs k 0 < get_or xs (suc k) 0
ascends_at [] up k lt = absurd (omega arith)
ascends_at (x ∷ []) up k lt = absurd (omega arith)
ascends_at (x ∷ (y ∷ xs)) up zero lt = up.0 y (inl refl)
ascends_at (x ∷ (y ∷ xs)) up (suc k) lt = ascends_at (y ∷ xs) up.1 k (omega arith)

pub ascending_increases : (xs : List ℕ) → IsAscending xs → IsStrictlyIncreasing xs
ascending_increases xs up k lt =
    let next : suc k ≡ k + 1 = omega arith in
    subst (λ z. get_or xs k 0 < get_or xs z 0) next (ascends_at xs up k (omega arith))

-- two ascending lists with the same members are equal
pub same_ascending : (xs ys : List ℕ) → IsAscending xs → IsAscending ys → ((i : ℕ) → IsListed i xs → IsListed i ys) → ((i : ℕ) → IsListed i ys → IsListed i xs) → xs ≡ ys
same_ascending [] [] up up' to back = refl
same_ascending [] (y ∷ ys) up up' to back = absurd (back y (inl refl))
same_ascending (x ∷ xs) [] up up' to back = absurd (to x (inl refl))
same_ascending (x ∷ xs) (y ∷ ys) up up' to back = go first (same_ascending xs ys up.1 up'.1)
  where
    least : (x' y' : ℕ) (zs ws : List ℕ) → ((i : ℕ) → IsListed i zs → x' < i) → ((i : ℕ) → IsListed i ws → y' < i) → (x' ≡ y') ⊎ IsListed x' ws → (y' ≡ x') ⊎ IsListed y' zs → x' ≡ y'
    least x' y' zs ws a b (inl e) m = e
    least x' y' zs ws a b (inr l) (inl e) = sym e
    least x' y' zs ws a b (inr l) (inr k) = absurd (let c = b x' l in let d = a y' k in omega arith)

    first : x ≡ y
    first = least x y xs ys up.0 up'.0 (to x (inl refl)) (back y (inl refl))

    rest_of : (u v : ℕ) (zs ws : List ℕ) → u ≡ v → ((i : ℕ) → IsListed i zs → u < i) → (i : ℕ) → IsListed i zs → (i ≡ v) ⊎ IsListed i ws → IsListed i ws
    rest_of u v zs ws same above i l (inl e) = absurd (let c = above i l in omega arith)
    rest_of u v zs ws same above i l (inr m) = m

    go : x ≡ y → (((i : ℕ) → IsListed i xs → IsListed i ys) → ((i : ℕ) → IsListed i ys → IsListed i xs) → xs ≡ ys) → x ∷ xs ≡ y ∷ ys
    go same more = ap (λ z. z ∷ xs) same ∙ ap (λ z. y ∷ z) (more (λ i l. rest_of x y xs ys same up.0 i l (to i (inr l))) (λ i l. rest_of y x ys xs (sym same) up'.0 i l (back i (inr l))))
