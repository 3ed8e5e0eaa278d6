-- What bits tell of the processes of a network.
use Rattle.std.proofs.Common.{◌≡◌, ℕ, suc, ◌<◌, ◌%◌, ◌&&◌, Bool, true, false, cond, List, [], ◌∷◌, length, refl, ap, Option, Some, None, arith, nat_eq}
use Rattle.std.specs.Prelude.{slice_get, not}
use Rattle.std.proofs.lemmas.Bool.Decides.{nat_tests}
use Rattle.counted_bits.specs.Places.{places}
use Rattle.endpoint_code.specs.declared.endpoints.Endpoints.{Endpoints}
use Rattle.endpoint_code.specs.Network.{Machine, NetworkState}
use Rattle.endpoint_code.specs.NetworkRuns.{has_ended, all_ended}
use Rattle.endpoint_code.specs.Scheduled.{is_listed, listed_from, picked_of}
use Rattle.net_core.specs.Heads.{ended_of, listed_of}

-- the set bits stand where the processes are that the pick rule may take
pub places_listed : (e : Endpoints) (cap : Option ℕ) (n : NetworkState) (p : ℕ) (bits : List Bool) (ms : List Machine) → length bits ≡ length ms
    → ((q : ℕ) → q < length ms → slice_get bits q ≡ Some (listed_of e cap n (slice_get ms q))) → places p bits ≡ listed_from e cap n p ms
places_listed e cap n p [] [] same h = refl
places_listed e cap n p [] (m ∷ ms) same h = absurd (omega arith)
places_listed e cap n p (b ∷ bs) [] same h = absurd (omega arith)
places_listed e cap n p (b ∷ bs) (m ∷ ms) same h =
    let first : Some b ≡ Some (is_listed e cap n m) = h 0 (omega arith) in
    let is : b ≡ is_listed e cap n m = cc in
    go b (is_listed e cap n m) is (places_listed e cap n (suc p) bs ms (omega arith) (λ q lt. h (suc q) (omega arith)))
  where
    go : (a c : Bool) → a ≡ c → places (suc p) bs ≡ listed_from e cap n (suc p) ms → places p (a ∷ bs) ≡ cond c (p ∷ listed_from e cap n (suc p) ms) (listed_from e cap n (suc p) ms)
    go true true i rest = ap (λ (l : List ℕ). p ∷ l) rest
    go false false i rest = rest
    go true false i rest = absurd cc
    go false true i rest = absurd cc

not_nought : (k : ℕ) → nat_eq (suc k) 0 ≡ false
not_nought k = grind (arith, nat_tests)

-- no bit is set where each process has ended
pub none_unended : (e : Endpoints) (p : ℕ) (bits : List Bool) (ms : List Machine) → length bits ≡ length ms
    → ((q : ℕ) → q < length ms → slice_get bits q ≡ Some (not (ended_of e (slice_get ms q)))) → nat_eq (length (places p bits)) 0 ≡ all_ended e ms
none_unended e p [] [] same h = refl
none_unended e p [] (m ∷ ms) same h = absurd (omega arith)
none_unended e p (b ∷ bs) [] same h = absurd (omega arith)
none_unended e p (b ∷ bs) (m ∷ ms) same h =
    let first : Some b ≡ Some (not (has_ended e m)) = h 0 (omega arith) in
    let is : b ≡ not (has_ended e m) = cc in
    go b (has_ended e m) is (none_unended e (suc p) bs ms (omega arith) (λ q lt. h (suc q) (omega arith)))
  where
    go : (a c : Bool) → a ≡ not c → nat_eq (length (places (suc p) bs)) 0 ≡ all_ended e ms → nat_eq (length (places p (a ∷ bs))) 0 ≡ (c && all_ended e ms)
    go true false i rest = not_nought (length (places (suc p) bs))
    go false true i rest = rest
    go true true i rest = absurd cc
    go false false i rest = absurd cc

-- the pick among the places
pub pick_there : (xs : List ℕ) (k place : ℕ) → (length xs ≡ 0 → ⊥) → place ≡ k % length xs → slice_get xs place ≡ picked_of xs k
pick_there [] k place some is = absurd (some refl)
pick_there (x ∷ xs) k place some is = ap (slice_get (x ∷ xs)) is

pub pick_none : (xs : List ℕ) (k : ℕ) → length xs ≡ 0 → picked_of xs k ≡ None
pick_none [] k none = refl
pick_none (x ∷ xs) k none = absurd (omega arith)
