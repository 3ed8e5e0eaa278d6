-- Loops over the processes of a network.
use Rattle.std.proofs.Common.{◌≡◌, ℕ, suc, ◌+◌, ◌<◌, ◌&&◌, Bool, true, false, cond, List, [], ◌∷◌, ◌++◌, length, drop, get_or, refl, sym, ap, ◌∙◌, Option, Some, arith, add-one}
use Rattle.std.specs.Prelude.{slice_get, if◌then◌else◌}
use Rattle.std.proofs.lemmas.Option.{slice_get-get_or}
use Rattle.std.proofs.lemmas.List.{drop_more}
use Rattle.std.proofs.Common.{append_assoc}
use Rattle.chor_base.specs.declared.names.NameId.{NameId}
use Rattle.chor_base.specs.declared.event.Why.{Why}
use Rattle.endpoint_code.specs.declared.endpoints.Endpoints.{Endpoints}
use Rattle.endpoint_code.specs.declared.endpoints.Process.{Process}
use Rattle.endpoint_code.specs.Network.{Machine, NetworkState, standing, standing_all, place_at}
use Rattle.endpoint_code.specs.NetworkRuns.{all_ended, joins_there, waits_for}
use Rattle.endpoint_code.specs.Scheduled.{least_joiner, listed_from, first_waiting_from}
use Rattle.net_core.specs.Heads.{ended_of, ended_at, why_of, why_at, listed_of, is_listed_at, joins_in}

-- the item at a place of a list
pub record Turn {X : Type 0} (xs : List X) (i : ℕ) : Type 0 where
  pub item : X
  pub there : slice_get xs i ≡ Some item
  pub rest : drop i xs ≡ item ∷ drop (i + 1) xs

pub turn : {X : Type 0} (xs : List X) (i : ℕ) → i < length xs → Turn xs i
turn [] i lt = absurd (omega arith)
turn (x ∷ xs) i lt =
    record { item = get_or (x ∷ xs) i x; there = slice_get-get_or (x ∷ xs) i x lt; rest = drop_more (x ∷ xs) i x lt }

pub ended_turn : (e : Endpoints) (n : NetworkState) (i : ℕ) (b : Bool) → i < length n.machines → b ≡ ended_at e n i → all_ended e (drop i n.machines) ≡ (b && all_ended e (drop (i + 1) n.machines))
ended_turn e n i b lt h =
    let t = turn n.machines i lt in
    ap (all_ended e) t.rest ∙ ap (λ (a : Bool). a && all_ended e (drop (i + 1) n.machines)) (sym (h ∙ ap (ended_of e) t.there))

pub joiner_turn : (e : Endpoints) (n : NetworkState) (i : ℕ) (c r : NameId) (b : Bool) → i < length n.machines → b ≡ joins_in e n i c r → least_joiner e i (drop i n.machines) c r ≡ cond b (Some i) (least_joiner e (i + 1) (drop (i + 1) n.machines) c r)
joiner_turn e n i c r b lt h =
    let t = turn n.machines i lt in
    ap (λ (ms : List Machine). least_joiner e i ms c r) t.rest
    ∙ ap (λ (a : Bool). cond a (Some i) (least_joiner e (suc i) (drop (i + 1) n.machines) c r)) (sym (h ∙ ap (λ (m : Option Machine). joins_there (place_at e m) c r) t.there))
    ∙ ap (λ (j : ℕ). cond b (Some i) (least_joiner e j (drop (i + 1) n.machines) c r)) (sym (add-one i))

pub standing_push : (ps : List Process) (p : Process) → standing_all (ps ++ p ∷ []) ≡ standing_all ps ++ standing p.body ∷ []
standing_push [] p = refl
standing_push (q ∷ ps) p = ap (λ r. standing q.body ∷ r) (standing_push ps p)

pub listed_turn : (e : Endpoints) (cap : Option ℕ) (n : NetworkState) (i : ℕ) (b : Bool) → i < length n.machines → b ≡ is_listed_at e cap n i
    → listed_from e cap n i (drop i n.machines) ≡ cond b (i ∷ listed_from e cap n (i + 1) (drop (i + 1) n.machines)) (listed_from e cap n (i + 1) (drop (i + 1) n.machines))
listed_turn e cap n i b lt h =
    let t = turn n.machines i lt in
    ap (listed_from e cap n i) t.rest
    ∙ ap (λ (a : Bool). cond a (i ∷ listed_from e cap n (suc i) (drop (i + 1) n.machines)) (listed_from e cap n (suc i) (drop (i + 1) n.machines))) (sym (h ∙ ap (listed_of e cap n) t.there))
    ∙ ap (λ (j : ℕ). cond b (i ∷ listed_from e cap n j (drop (i + 1) n.machines)) (listed_from e cap n j (drop (i + 1) n.machines))) (sym (add-one i))

pub waiting_turn : (e : Endpoints) (cap : Option ℕ) (n : NetworkState) (i : ℕ) (b : Bool) → i < length n.machines → b ≡ ended_at e n i
    → first_waiting_from e cap n i (drop i n.machines) ≡ cond b (first_waiting_from e cap n (i + 1) (drop (i + 1) n.machines)) (Some (i, why_at e cap n i))
waiting_turn e cap n i b lt h =
    let t = turn n.machines i lt in
    ap (first_waiting_from e cap n i) t.rest
    ∙ ap (λ (a : Bool). cond a (first_waiting_from e cap n (suc i) (drop (i + 1) n.machines)) (Some (i, waits_for e cap n t.item))) (sym (h ∙ ap (ended_of e) t.there))
    ∙ ap (λ (j : ℕ). cond b (first_waiting_from e cap n j (drop (i + 1) n.machines)) (Some (i, waits_for e cap n t.item))) (sym (add-one i))
    ∙ ap (λ (w : Option Why). cond b (first_waiting_from e cap n (i + 1) (drop (i + 1) n.machines)) (Some (i, w))) (sym (ap (why_of e cap n) t.there))

pub get_next : (x : ℕ) (xs : List ℕ) (i j : ℕ) → i ≡ suc j → slice_get (x ∷ xs) i ≡ slice_get xs j
get_next x xs i j h = ap (slice_get (x ∷ xs)) h

-- ---- a look at each process

pub and_true : (a : Bool) → (a && true) ≡ a
and_true true = refl
and_true false = refl

pub ended_more : (a b rest all : Bool) → (a && (b && rest)) ≡ all → ((a && b) && rest) ≡ all
ended_more true b rest all h = h
ended_more false b rest all h = h

pub listed_more : (b : Bool) (xs : List ℕ) (i : ℕ) (rest new all : List ℕ) → new ≡ (if b then xs ++ i ∷ [] else xs) → xs ++ cond b (i ∷ rest) rest ≡ all → new ++ rest ≡ all
listed_more true xs i rest new all h k = ap (λ (l : List ℕ). l ++ rest) h ∙ append_assoc xs (i ∷ []) rest ∙ k
listed_more false xs i rest new all h k = ap (λ (l : List ℕ). l ++ rest) h ∙ k
