-- What has become of the processes by an event of one of them.
use Rattle.std.proofs.Common.{◌≡◌, ℕ, zero, suc, ◌==◌, ◌<◌, ◌≤◌, ◌||◌, Bool, true, false, List, [], ◌∷◌, length, refl, sym, ap, ◌∙◌, subst, Option, Some, None, arith, nat_lt}
use Rattle.std.specs.Prelude.{slice_get, not}
use Rattle.std.proofs.lemmas.Bool.Decides.{nat_tests}
use Rattle.std.proofs.lemmas.Option.{slice_get_within}
use Rattle.chor_base.specs.declared.names.NameId.{NameId}
use Rattle.chor_base.specs.Meaning.{Hosts}
use Rattle.endpoint_code.specs.declared.endpoints.Endpoints.{Endpoints}
use Rattle.endpoint_code.specs.Network.{Machine, NetworkState}
use Rattle.endpoint_machine.specs.declared.head.Head.{Head}
use Rattle.endpoint_machine.specs.declared.head.Head.TheVariants as head
use Rattle.waiting_processes.specs.declared.waits.Awaited.{Awaited}
use Rattle.waiting_processes.specs.declared.waits.Awaited.TheVariants.{Channel, Queue}
use Rattle.waiting_processes.specs.Waits.{awaits_room, awaited_by, awaited_of, touched_by, awaited_in, awaited_at}
use Rattle.waiting_processes.specs.Untouched.{IsAt, IsOther, IsUnmoved, LeavesOthers, NobodyCame, listed_in}
use Rattle.waiting_processes.specs.declared.lists.WaitingLists.{WaitingLists}
use Rattle.waiting_processes.specs.Lists.{waiting_for, same_awaited}
use Rattle.waiting_processes.proofs.Left.{others_left}
use Rattle.waiting_processes.proofs.Listing.{others_listed}
use Rattle.waiting_processes.proofs.Entries.{is_same, same_itself}
use Rattle.net_core.specs.declared.candidates.Candidates.{Candidates}
use Rattle.net_core.specs.declared.candidates.Past.{Past}
use Rattle.net_core.specs.Views.{NetworkView}
use Rattle.net_core.specs.Steps.{HasStepped, HasGrown}
use Rattle.net_core.proofs.Lone.{taker}
use Rattle.net_core.specs.Heads.{Shows, ended_of, listed_of, is_listed_at}
use Rattle.waiting_processes.specs.Taken.{IsIn}
use Rattle.net_core.specs.Candidates.{joined_by, ListsAll, IsKept, IsNoted, IsJudged, HasGrownTo, IsUpToDate, Enters, Renews, TakesTouched, HasMoved}

-- ---- whether a process is among others

among : List ℕ → ℕ → Bool
among [] q = false
among (p ∷ ps) q = (p == q) || among ps q

is_among : (ps : List ℕ) (q : ℕ) → among ps q ≡ true → IsIn ps q
unfolding among
is_among [] q h = absurd cc
is_among (p ∷ ps) q h = go (p == q) refl h (is_among ps q)
  where
    go : (b : Bool) → (p == q) ≡ b → (b || among ps q) ≡ true → (among ps q ≡ true → IsIn ps q) → IsIn (p ∷ ps) q
    go true i j rest = let same : p ≡ q = grind (arith, nat_tests) in (0, ap (λ (k : ℕ). Some k) same)
    go false i j rest = let r = rest j in (suc r.0, r.1)

not_among : (ps : List ℕ) (q : ℕ) → among ps q ≡ false → IsIn ps q → ⊥
unfolding among
not_among [] q h i = absurd cc
not_among (p ∷ ps) q h i = go (p == q) refl h i.0 i.1 (not_among ps q)
  where
    go : (b : Bool) → (p == q) ≡ b → (b || among ps q) ≡ false → (k : ℕ) → slice_get (p ∷ ps) k ≡ Some q → (among ps q ≡ false → IsIn ps q → ⊥) → ⊥
    go true s j k t rest = cc
    go false s j zero t rest = let same : p ≡ q = cc in let no : (p == q) ≡ true = grind (arith, nat_tests) in cc
    go false s j (suc k) t rest = rest j (k, t)

-- whether one of them may wait for this
some_waits : (Option Awaited → Bool) → (ℕ → Option Awaited) → List ℕ → Bool
some_waits test at [] = false
some_waits test at (p ∷ ps) = test (at p) || some_waits test at ps

waits_for_channel : NameId → Option Awaited → Bool
waits_for_channel c None = false
waits_for_channel c (Some w) = same_awaited (Channel c) w

channel_is : (c : NameId) (o : Option Awaited) → waits_for_channel c o ≡ true → o ≡ Some (Channel c)
unfolding waits_for_channel
channel_is c None h = absurd cc
channel_is c (Some w) h = ap (λ (v : Awaited). Some v) (sym (is_same (Channel c) w h))

channel_itself : (c : NameId) → waits_for_channel c (Some (Channel c)) ≡ true
unfolding waits_for_channel
channel_itself c = same_itself (Channel c)

-- one that may wait for the channel
record Comer (at : ℕ → Option Awaited) (ps : List ℕ) (c : NameId) : Type 0 where
  process : ℕ
  is_in : IsIn ps process
  waits : at process ≡ Some (Channel c)

comer : (at : ℕ → Option Awaited) (ps : List ℕ) (c : NameId) → some_waits (waits_for_channel c) at ps ≡ true → Comer at ps c
unfolding some_waits
comer at [] c h = absurd cc
comer at (p ∷ ps) c h = go (waits_for_channel c (at p)) refl h (comer at ps c)
  where
    go : (b : Bool) → waits_for_channel c (at p) ≡ b → (b || some_waits (waits_for_channel c) at ps) ≡ true → (some_waits (waits_for_channel c) at ps ≡ true → Comer at ps c) → Comer at (p ∷ ps) c
    go true i j rest = record { process = p; is_in = (0, refl); waits = channel_is c (at p) i }
    go false i j rest = let r = rest j in record { process = r.process; is_in = (suc r.is_in.0, r.is_in.1); waits = r.waits }

no_comer : (at : ℕ → Option Awaited) (ps : List ℕ) (c : NameId) → some_waits (waits_for_channel c) at ps ≡ false → (q : ℕ) → IsIn ps q → at q ≡ Some (Channel c) → ⊥
unfolding some_waits
no_comer at [] c h q i w = absurd cc
no_comer at (p ∷ ps) c h q i w = go (waits_for_channel c (at p)) refl h i.0 i.1 (λ k j. no_comer at ps c k q j w)
  where
    go : (b : Bool) → waits_for_channel c (at p) ≡ b → (b || some_waits (waits_for_channel c) at ps) ≡ false → (k : ℕ) → slice_get (p ∷ ps) k ≡ Some q
        → (some_waits (waits_for_channel c) at ps ≡ false → IsIn ps q → ⊥) → ⊥
    go true s j k t rest = cc
    go false s j zero t rest =
        let same : p ≡ q = cc in
        let yes : waits_for_channel c (at p) ≡ true = ap (waits_for_channel c) (ap at same ∙ w) ∙ channel_itself c in
        cc
    go false s j (suc k) t rest = rest j (k, t)

-- ---- from the state before to the state after

same_listed : (e : Endpoints) (cap : Option ℕ) (n : NetworkState) (o : Option Machine) → listed_in e cap n o ≡ listed_of e cap n o
same_listed e cap n None = refl
same_listed e cap n (Some w) = refl

done_touched : (h : Head) (c : NameId) → joined_by h ≡ Some c → touched_by h ≡ Some (Channel c)
done_touched (head.Join d r) c i = let t : d ≡ c = cc in ap (λ (x : NameId). Some (Channel x)) t
done_touched (head.Take s a b) c i = absurd cc
done_touched (head.Out s a b) c i = absurd cc
done_touched head.Local c i = absurd cc
done_touched head.Ended c i = absurd cc

waits_touches : (cap : Option ℕ) (h : Head) (w : Awaited) → awaited_by cap h ≡ Some w → touched_by h ≡ Some w
waits_touches cap (head.Take s a b) w i = i
waits_touches cap (head.Join c r) w i = i
waits_touches cap (head.Out s a b) w i = for_room cap i
  where
    for_room : (o : Option ℕ) → awaits_room o (Queue s a b) ≡ Some w → Some (Queue s a b) ≡ Some w
    for_room None j = absurd cc
    for_room (Some k) j = j
waits_touches cap head.Local w i = absurd cc
waits_touches cap head.Ended w i = absurd cc

module _ (e : Endpoints) (cap : Option ℕ) (m : NetworkState) (past : Past) (old grown taken entered : Candidates) (ps : List ℕ) (moved : HasMoved e cap m past old)
    (grows : HasGrownTo (length m.machines) old grown) (takes : TakesTouched cap past (length m.machines) grown ps taken) (joins : Bool) (enters : Enters e cap m taken ps joins entered) where
  -- who is in the list of what the event touches is among the processes
  in_list : (w : Awaited) (q : ℕ) → touched_by past.head ≡ Some w → IsIn (waiting_for old.waiting w) q → IsIn ps q
  in_list w q i j = takes.touched.waiting w q i (subst (λ (l : WaitingLists). IsIn (waiting_for l w) q) (sym grows.waiting) j)

  within : (q : ℕ) → q < past.count → q < length moved.before.machines
  within q lt = subst (λ k. q < k) (sym moved.count) lt

  own : IsIn ps past.pid
  own = go (awaited_by cap past.head) refl
    where
      go : (o : Option Awaited) → awaited_by cap past.head ≡ o → IsIn ps past.pid
      go None i = takes.touched.own i
      go (Some w) i =
          let waits : awaited_at e cap moved.before past.pid ≡ Some w = ap (awaited_in e cap) moved.at.there ∙ ap (awaited_of cap) moved.at.head ∙ i in
          in_list w past.pid (waits_touches cap past.head w i) ((moved.right.noted past.pid (within past.pid moved.there)).kept w waits)

  -- a process that isn't among them was there before, and the event has left it
  module _ (q : ℕ) (lt : q < length m.machines) (out : IsIn ps q → ⊥) where
    before : q < past.count
    before = go (nat_lt q past.count) refl
      where
        go : (b : Bool) → nat_lt q past.count ≡ b → q < past.count
        go true i = grind (arith, nat_tests)
        go false i = absurd (out (takes.touched.new_ones q (λ less. let yes : nat_lt q past.count ≡ true = grind (arith, nat_tests) in let z : false ≡ true = sym i ∙ yes in cc) lt))

    other : IsOther e cap moved.before past.pid past.head q
    other = record {
      another = λ same. out (subst (IsIn ps) (sym same) own);
      apart = λ w i j. out (in_list w q i ((moved.right.noted q (within q before)).kept w j));
    }

    unmoved : IsUnmoved moved.before m q
    unmoved = moved.left.machines q (within q before) other

    kept_there : IsKept e cap m taken.waiting q
    kept_there w i =
        let waits : awaited_at e cap moved.before q ≡ Some w = sym (ap (awaited_in e cap) unmoved) ∙ i in
        let was : IsIn (waiting_for old.waiting w) q = (moved.right.noted q (within q before)).kept w waits in
        let apart : touched_by past.head ≡ Some w → ⊥ = λ t. other.apart w t waits in
        subst (λ (l : List ℕ). IsIn l q) (sym (takes.others w apart)) (subst (λ (l : WaitingLists). IsIn (waiting_for l w) q) (sym grows.waiting) was)

    noted_there : IsNoted e cap m taken q
    noted_there = record {
      unended =
          ap (λ (bs : List Bool). slice_get bs q) takes.unended ∙ grows.unended q _ (moved.right.noted q (within q before)).unended ∙ ap (λ (o : Option Machine). Some (not (ended_of e o))) (sym unmoved);
      kept = kept_there;
    }

  noted : (q : ℕ) → q < length m.machines → IsNoted e cap m entered q
  noted q lt = go (among ps q) refl
    where
      go : (b : Bool) → among ps q ≡ b → IsNoted e cap m entered q
      go true i = enters.entered q (is_among ps q i)
      go false i = enters.stays q (noted_there q lt (not_among ps q i))

  -- each process that may wait is in its list
  pub lists_all : ListsAll e cap m entered.waiting
  lists_all = record { kept = λ q lt. (noted q lt).kept; within = enters.places.within }

  module _ (done : Option NameId) (is_done : done ≡ joined_by past.head) (bits : List Bool) (renews : Renews e cap m done entered.listed ps bits) where
    -- where nobody has come to its channel, what was judged of it is still true
    stays : (q : ℕ) (lt : q < length m.machines) (out : IsIn ps q → ⊥) → NobodyCame e cap moved.before m (awaited_at e cap moved.before q) → IsJudged e cap m bits q
    stays q lt out nobody =
        let listed : is_listed_at e cap m q ≡ is_listed_at e cap moved.before q =
        sym (same_listed e cap m (slice_get m.machines q))
        ∙ others_listed e cap moved.before m past.pid past.head moved.at moved.left q (within q (before q lt out)) (other q lt out) nobody
        ∙ same_listed e cap moved.before (slice_get moved.before.machines q) in
        let was : IsJudged e cap m entered.listed q =
        enters.still q (ap (λ (bs : List Bool). slice_get bs q) takes.listed ∙ grows.listed q _ (moved.right.judged q (within q (before q lt out))) ∙ ap (λ (b : Bool). Some b) (sym listed)) in
        renews.judges.stays q was

    judged_out : (q : ℕ) (lt : q < length m.machines) (out : IsIn ps q → ⊥) (w : Option Awaited) → awaited_at e cap moved.before q ≡ w → IsJudged e cap m bits q
    judged_out q lt out None i = stays q lt out (subst (NobodyCame e cap moved.before m) (sym i) tt)
    judged_out q lt out (Some (Queue s a b)) i = stays q lt out (subst (NobodyCame e cap moved.before m) (sym i) tt)
    judged_out q lt out (Some (Channel c)) i = go (some_waits (waits_for_channel c) (awaited_at e cap m) ps) refl
      where
        untouched : touched_by past.head ≡ Some (Channel c) → ⊥
        untouched t = (other q lt out).apart (Channel c) t i

        nobody : some_waits (waits_for_channel c) (awaited_at e cap m) ps ≡ false → (a : ℕ) → awaited_at e cap m a ≡ Some (Channel c) → IsUnmoved moved.before m a
        nobody none a w = unmoved a (there_in (slice_get m.machines a) refl) (λ k. no_comer (awaited_at e cap m) ps c none a k w)
          where
            there_in : (o : Option Machine) → slice_get m.machines a ≡ o → a < length m.machines
            there_in None j = let z : None ≡ Some (Channel c) = sym (ap (awaited_in e cap) j) ∙ w in absurd cc
            there_in (Some u) j = slice_get_within m.machines a u j

        go : (b : Bool) → some_waits (waits_for_channel c) (awaited_at e cap m) ps ≡ b → IsJudged e cap m bits q
        go true j =
            let r = comer (awaited_at e cap m) ps c j in
            let waits : awaited_at e cap m q ≡ Some (Channel c) = ap (awaited_in e cap) (unmoved q lt out) ∙ i in
            renews.came r.process c r.is_in r.waits (λ d. untouched (done_touched past.head c (sym is_done ∙ d))) q lt waits
        go false j = stays q lt out (subst (NobodyCame e cap moved.before m) (sym i) (nobody j))

    -- What is kept is true of each process after the event
    pub followed : IsUpToDate e cap m (record { listed = bits; unended = entered.unended; waiting = entered.waiting })
    followed = record {
      places = record { listed = renews.judges.count ∙ enters.places.listed; unended = enters.places.unended; within = enters.places.within };
      noted = λ q lt. record { unended = (noted q lt).unended; kept = (noted q lt).kept };
      judged = λ q lt. judged q lt (among ps q) refl;
    }
      where
        judged : (q : ℕ) → q < length m.machines → (b : Bool) → among ps q ≡ b → IsJudged e cap m bits q
        judged q lt true i = renews.judges.judged q (is_among ps q i)
        judged q lt false i = judged_out q lt (not_among ps q i) (awaited_at e cap moved.before q) refl

  -- the same where the processes are judged last
  pub renewed_on : (done : Option NameId) (is_done : done ≡ joined_by past.head) (new : Candidates) → new.unended ≡ entered.unended → new.waiting ≡ entered.waiting → Renews e cap m done entered.listed ps new.listed
      → IsUpToDate e cap m (record { listed = new.listed; unended = new.unended; waiting = new.waiting })
  renewed_on done is_done new unended waiting renews =
      subst (λ (l : WaitingLists). IsUpToDate e cap m (record { listed = new.listed; unended = new.unended; waiting = l })) (sym waiting)
      (subst (λ (bs : List Bool). IsUpToDate e cap m (record { listed = new.listed; unended = bs; waiting = entered.waiting })) (sym unended) (followed done is_done new.listed renews))

-- ---- a step

pub stands_there : (e : Endpoints) (n : NetworkState) (p : ℕ) (h : Head) → Shows e n p h → IsAt e n p h
stands_there e n p h s = record { machine = s.stands.machine; there = s.stands.there; head = taker e n p h s }

-- a process has stepped from a state of which what is kept was true
pub has_moved : (hosts : Hosts) (old new : NetworkView) (past : Past) (c : Candidates) → Shows old.endpoints old.state past.pid past.head → past.count ≡ length old.state.machines → past.pid < past.count
    → HasStepped hosts old past.pid new → HasGrown old new → IsUpToDate old.endpoints old.capacity old.state c → HasMoved new.endpoints new.capacity new.state past c
has_moved hosts old new past c shows count there step grown up =
    let at : IsAt old.endpoints old.state past.pid past.head = stands_there old.endpoints old.state past.pid past.head shows in
    let left : LeavesOthers old.endpoints old.capacity old.state past.pid past.head new.state =
    subst (λ (m : NetworkState). LeavesOthers old.endpoints old.capacity old.state past.pid past.head m) (sym step.becomes.state) (others_left old.endpoints hosts old.capacity old.state step.state past.pid step.event past.head at step.chooses) in
    let moved : HasMoved old.endpoints old.capacity new.state past c = record {
      before = old.state;
      count = sym count;
      more = subst (λ k. k ≤ length new.state.machines) (sym count) grown.kept;
      there = there;
      at = at;
      left = left;
      right = up;
    } in
    subst (λ (e : Endpoints). HasMoved e new.capacity new.state past c) (sym step.becomes.endpoints)
    (subst (λ (k : Option ℕ). HasMoved old.endpoints k new.state past c) (sym step.becomes.capacity) moved)
