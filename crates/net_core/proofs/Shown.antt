-- What the processes do next, from event to event.
use Rattle.std.proofs.Common.{◌≡◌, ◌⊎◌, inl, inr, ℕ, zero, suc, ◌==◌, ◌<◌, Bool, true, false, List, [], ◌∷◌, ◌++◌, length, get_or, refl, sym, ap, ◌∙◌, subst, Some, arith}
use Rattle.std.specs.Prelude.{slice_get, slice_set, ◌≢◌}
use Rattle.std.proofs.lemmas.Bool.Decides.{nat_tests}
use Rattle.std.proofs.lemmas.Option.{slice_get_within, slice_get-get_or}
use Rattle.chor_base.proofs.Lists.{get_set_other}
use Rattle.chor_base.specs.Meaning.{Hosts}
use Rattle.endpoint_code.specs.declared.endpoints.Endpoints.{Endpoints}
use Rattle.endpoint_code.specs.Network.{NetworkState}
use Rattle.endpoint_machine.specs.declared.head.Head.{Head}
use Rattle.waiting_processes.specs.Untouched.{IsAt}
use Rattle.net_core.specs.Heads.{EachStands, Shows, joins_at_all, is_joining_head}
use Rattle.net_core.specs.Shown.{ShowsAll, ShowsOthers, MovesAlone}
use Rattle.net_core.specs.Steps.{HasStepped}
use Rattle.net_core.specs.Views.{NetworkView}
use Rattle.net_core.proofs.Scopes.{shows_standing}
use Rattle.net_core.proofs.Becoming.{stands_there}
use Rattle.net_core.proofs.Anew.{get_set, length_set}

-- the heads of the first processes
pub record ShowsFirst (e : Endpoints) (n : NetworkState) (many : ℕ) (heads : List Head) : Type 0 where
  pub count : length heads ≡ many
  pub at : (q : ℕ) (h : Head) → slice_get heads q ≡ Some h → IsAt e n q h

-- none so far
pub first_none : (e : Endpoints) (n : NetworkState) (heads : List Head) → heads ≡ [] → ShowsFirst e n 0 heads
first_none e n heads none = subst (ShowsFirst e n 0) (sym none) (record { count = refl; at = λ q h i. absurd cc })

-- the first are all
pub first_all : (e : Endpoints) (n : NetworkState) (i : ℕ) (heads : List Head) → ShowsFirst e n i heads → i ≡ length n.machines → ShowsAll e n heads
first_all e n i heads first whole = record { count = first.count ∙ whole; at = first.at }

-- an item is one of the first, or the last
in_push : (xs : List Head) (x : Head) (q : ℕ) (h : Head) → slice_get (xs ++ x ∷ []) q ≡ Some h → (slice_get xs q ≡ Some h) ⊎ ((q ≡ length xs) × (x ≡ h))
in_push [] x zero h i = inr (refl, cc)
in_push [] x (suc q) h i = absurd cc
in_push (y ∷ xs) x zero h i = inl i
in_push (y ∷ xs) x (suc q) h i = go (in_push xs x q h i)
  where
    go : (slice_get xs q ≡ Some h) ⊎ ((q ≡ length xs) × (x ≡ h)) → (slice_get xs q ≡ Some h) ⊎ ((suc q ≡ suc (length xs)) × (x ≡ h))
    go (inl j) = inl j
    go (inr (j, k)) = inr (ap suc j, k)

-- and one more
pub first_more : (e : Endpoints) (n : NetworkState) (i j : ℕ) (heads new : List Head) (h : Head) → ShowsFirst e n i heads → Shows e n i h → new ≡ heads ++ h ∷ [] → j ≡ suc i → ShowsFirst e n j new
first_more e n i j heads new h first shows is next =
    subst (λ (k : ℕ). ShowsFirst e n k new) (sym next)
    (subst (ShowsFirst e n (suc i)) (sym is)
    (record {
      count = pushed heads ∙ ap suc first.count;
      at = λ q k t. go q k (in_push heads h q k t);
    }))
  where
    pushed : (xs : List Head) → length (xs ++ h ∷ []) ≡ suc (length xs)
    pushed [] = refl
    pushed (x ∷ xs) = ap suc (pushed xs)

    go : (q : ℕ) (k : Head) → (slice_get heads q ≡ Some k) ⊎ ((q ≡ length heads) × (h ≡ k)) → IsAt e n q k
    go q k (inl t) = first.at q k t
    go q k (inr (last, same)) =
        subst (λ (p : ℕ). IsAt e n p k) (sym (last ∙ first.count)) (subst (IsAt e n i) same (stands_there e n i h shows))

-- what the kept head of a process tells
pub shown_in : (e : Endpoints) (n : NetworkState) (p : ℕ) (heads : List Head) (h : Head) → EachStands e n → ShowsAll e n heads → slice_get heads p ≡ Some h → Shows e n p h
shown_in e n p heads h stand all is =
    let at = all.at p h is in
    let found = stand p (slice_get_within n.machines p at.machine at.there) in
    shows_standing e n p found.0 found.1 at.machine h at.there at.head

-- the same of the item at its place
pub shown_at : (e : Endpoints) (n : NetworkState) (p : ℕ) (heads : List Head) (h : Head) → EachStands e n → ShowsAll e n heads → p < length n.machines → h ≡ get_or heads p h → Shows e n p h
shown_at e n p heads h stand all lt is =
    shown_in e n p heads h stand all (slice_get-get_or heads p h (subst (λ (l : ℕ). p < l) (sym all.count) lt) ∙ ap (λ (k : Head). Some k) (sym is))

-- after an event of one process alone the heads of the others are as they were
pub others_shown : (e : Endpoints) (n m : NetworkState) (p : ℕ) (heads : List Head) → ShowsAll e n heads → MovesAlone n p m → ShowsOthers e m p heads
others_shown e n m p heads all alone = record {
  count = all.count ∙ sym alone.count;
  at = λ q h other i. let a = all.at q h i in record { machine = a.machine; there = alone.others q other ∙ a.there; head = a.head };
}

-- and with its own anew they are the heads of all
pub own_shown : (e : Endpoints) (n : NetworkState) (p : ℕ) (heads : List Head) (h : Head) → p < length n.machines → ShowsOthers e n p heads → Shows e n p h → ShowsAll e n (slice_set heads p h)
own_shown e n p heads h lt others shows = record {
  count = length_set heads p h ∙ others.count;
  at = λ q k i. go q k (q == p) refl i;
}
  where
    go : (q : ℕ) (k : Head) (b : Bool) → (q == p) ≡ b → slice_get (slice_set heads p h) q ≡ Some k → IsAt e n q k
    go q k true s i =
        let same : q ≡ p = grind (arith, nat_tests) in
        let within : p < length heads = subst (λ (l : ℕ). p < l) (sym others.count) lt in
        let own : Some h ≡ Some k = sym (get_set heads p h within) ∙ ap (slice_get (slice_set heads p h)) (sym same) ∙ i in
        let is : h ≡ k = cc in
        subst (λ (r : ℕ). IsAt e n r k) (sym same) (subst (IsAt e n p) is (stands_there e n p h shows))
    go q k false s i =
        let other : q ≢ p = λ e. let yes : (q == p) ≡ true = grind (arith, nat_tests) in let no : false ≡ true = sym s ∙ yes in cc in
        others.at q k other (sym (get_set_other heads p q h other) ∙ i)

-- a process that doesn't join has stepped: the heads of the others are as they were
pub stepped_others : (hosts : Hosts) (old new : NetworkView) (p : ℕ) (h : Head) (heads : List Head) → Shows old.endpoints old.state p h → ShowsAll old.endpoints old.state heads → HasStepped hosts old p new
    → (joins_at_all old.endpoints old.state p ≡ false → MovesAlone old.state p new.state) → is_joining_head h ≡ false → ShowsOthers new.endpoints new.state p heads
stepped_others hosts old new p h heads shows all step alone other =
    subst (λ (e : Endpoints). ShowsOthers e new.state p heads) (sym step.becomes.endpoints) (others_shown old.endpoints old.state new.state p heads all (alone (shows.joining ∙ other)))
