-- The processes that an event may have moved, and those that may wait for what it has changed.
use Rattle.std.proofs.Common.{◌≡◌, ◌⊎◌, inl, inr, ℕ, ◌+◌, ◌==◌, ◌<◌, Bool, true, false, List, [], ◌∷◌, ◌++◌, length, refl, sym, subst, Option, Some, None, arith}
use Rattle.std.proofs.lemmas.Bool.Decides.{nat_tests}
use Rattle.endpoint_code.specs.declared.endpoints.Endpoints.{Endpoints}
use Rattle.endpoint_code.specs.Network.{NetworkState}
use Rattle.waiting_processes.specs.declared.waits.Awaited.{Awaited}
use Rattle.waiting_processes.specs.declared.lists.WaitingLists.{WaitingLists}
use Rattle.waiting_processes.specs.Waits.{awaited_by, touched_by}
use Rattle.waiting_processes.specs.Lists.{waiting_for}
use Rattle.waiting_processes.specs.Taken.{IsIn, TakesWaiting}
use Rattle.waiting_processes.proofs.Taken.{fewer_wait, in_none, same_waiting}
use Rattle.net_core.specs.declared.candidates.Candidates.{Candidates}
use Rattle.net_core.specs.declared.candidates.Past.{Past}
use Rattle.net_core.specs.Candidates.{AreBelow, HasPlaces, HasTouched, TakesTouched, IsUpToDate}
use Rattle.net_core.proofs.Anew.{in_front, in_last, in_either}

-- memory was given back
pub given_back : (e : Endpoints) (cap : Option ℕ) (n : NetworkState) (listed unended : List Bool) (old new : WaitingLists) → new.lists ≡ old.lists
    → IsUpToDate e cap n (record { listed = listed; unended = unended; waiting = old }) → IsUpToDate e cap n (record { listed = listed; unended = unended; waiting = new })
given_back e cap n listed unended old new same up = record {
  places = record {
    listed = up.places.listed;
    unended = up.places.unended;
    within = λ w. subst (AreBelow (length n.machines)) (sym (same_waiting old new same w)) (up.places.within w);
  };
  noted = λ q lt.
      record {
        unended = (up.noted q lt).unended;
        kept = λ w i. subst (λ (l : List ℕ). IsIn l q) (sym (same_waiting old new same w)) ((up.noted q lt).kept w i);
      };
  judged = up.judged;
}

module _ (cap : Option ℕ) (past : Past) (old new : WaitingLists) (ps : List ℕ) (t : TakesWaiting past.head old ps new) where
  waiting : (w : Awaited) (q : ℕ) → touched_by past.head ≡ Some w → IsIn (waiting_for old w) q → IsIn ps q
  waiting w q i j = subst (λ (l : List ℕ). IsIn l q) (sym (t.waiting w i)) j

  -- with the process itself
  pub touched_own : (qs : List ℕ) → qs ≡ ps ++ past.pid ∷ [] → HasTouched cap past past.count old qs
  touched_own qs is = record {
    waiting = λ w q i j. subst (λ (l : List ℕ). IsIn l q) (sym is) (in_front ps past.pid q (waiting w q i j));
    own = λ i. subst (λ (l : List ℕ). IsIn l past.pid) (sym is) (in_last ps past.pid);
    new_ones = λ q more less. absurd (more less);
  }

  -- where it may wait itself
  pub touched_waiting : (awaited_by cap past.head ≡ None → ⊥) → HasTouched cap past past.count old ps
  touched_waiting some = record {
    waiting = waiting;
    own = λ i. absurd (some i);
    new_ones = λ q more less. absurd (more less);
  }

  pub waiting_below : (count : ℕ) → ((w : Awaited) → AreBelow count (waiting_for old w)) → AreBelow count ps
  waiting_below count below q i = go (touched_by past.head) refl
    where
      go : (o : Option Awaited) → touched_by past.head ≡ o → q < count
      go None j = absurd (in_none q (subst (λ (l : List ℕ). IsIn l q) (t.none j) i))
      go (Some w) j = below w q (subst (λ (l : List ℕ). IsIn l q) (t.waiting w j) i)

-- one process more
pub touched_more : (cap : Option ℕ) (past : Past) (count : ℕ) (old : WaitingLists) (ps qs : List ℕ) → HasTouched cap past count old ps → qs ≡ ps ++ count ∷ [] → HasTouched cap past (count + 1) old qs
touched_more cap past count old ps qs t is = record {
  waiting = λ w q i j. more q (t.waiting w q i j);
  own = λ i. more past.pid (t.own i);
  new_ones = λ q out less. go q out less (count == q) refl;
}
  where
    more : (q : ℕ) → IsIn ps q → IsIn qs q
    more q i = subst (λ (l : List ℕ). IsIn l q) (sym is) (in_front ps count q i)

    go : (q : ℕ) → (q < past.count → ⊥) → q < count + 1 → (b : Bool) → (count == q) ≡ b → IsIn qs q
    go q out less true i = let same : count ≡ q = grind (arith, nat_tests) in subst (λ (l : List ℕ). IsIn l q) (sym is) (subst (λ (k : ℕ). IsIn (ps ++ count ∷ []) k) same (in_last ps count))
    go q out less false i = let lower : q < count = grind (arith, nat_tests) in more q (t.new_ones q out lower)

pub below_more : (count : ℕ) (ps qs : List ℕ) (p : ℕ) → AreBelow count ps → p < count → qs ≡ ps ++ p ∷ [] → AreBelow count qs
below_more count ps qs p below lt is q i = go (in_either ps p q (subst (λ (l : List ℕ). IsIn l q) is i))
  where
    go : IsIn ps q ⊎ (p ≡ q) → q < count
    go (inl j) = below q j
    go (inr j) = subst (λ k. k < count) j lt

pub takes_touched : (cap : Option ℕ) (past : Past) (count : ℕ) (old : Candidates) (lists : WaitingLists) (first ps : List ℕ) → HasPlaces count old
    → TakesWaiting past.head old.waiting first lists → HasTouched cap past count old.waiting ps → AreBelow count ps
    → TakesTouched cap past count old ps (record { listed = old.listed; unended = old.unended; waiting = lists })
takes_touched cap past count old lists first ps places takes touched below = record {
  places = record { listed = places.listed; unended = places.unended; within = λ w q i. places.within w q (fewer_wait past.head old.waiting first lists takes w q i) };
  listed = refl;
  unended = refl;
  below = below;
  touched = touched;
  others = takes.others;
}
