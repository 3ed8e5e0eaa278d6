-- Processes that are noted and judged anew.
use Rattle.std.proofs.Common.{◌≡◌, ◌⊎◌, inl, inr, ℕ, zero, suc, ◌+◌, ◌==◌, ◌<◌, Bool, true, false, ◌||◌, List, [], ◌∷◌, ◌++◌, length, refl, sym, ap, ◌∙◌, subst, Option, Some, None, arith}
use Rattle.std.specs.Prelude.{slice_get, slice_set, not, ◌≢◌, if◌then◌else◌}
use Rattle.std.proofs.lemmas.Bool.{eqb-true, eqb-false}
use Rattle.std.proofs.lemmas.Bool.Decides.{nat_tests}
use Rattle.std.proofs.lemmas.Option.{slice_get_within}
use Rattle.std.proofs.lemmas.List.{length-append}
use Rattle.chor_base.proofs.Lists.{get_set_other, get_append_left}
use Rattle.chor_base.specs.declared.names.NameId.{NameId}
use Rattle.endpoint_code.specs.declared.endpoints.Endpoints.{Endpoints}
use Rattle.endpoint_code.specs.Network.{NetworkState}
use Rattle.endpoint_machine.specs.declared.head.Head.{Head}
use Rattle.waiting_processes.specs.declared.waits.Awaited.{Awaited}
use Rattle.waiting_processes.specs.declared.waits.Awaited.TheVariants.{Queue, Channel}
use Rattle.waiting_processes.specs.declared.lists.WaitingLists.{WaitingLists}
use Rattle.waiting_processes.specs.Waits.{awaits_room, awaited_by, awaited_in, awaited_at, awaited_of}
use Rattle.waiting_processes.specs.Lists.{waiting_for, same_awaited}
use Rattle.waiting_processes.specs.Taken.{IsIn}
use Rattle.waiting_processes.proofs.Entries.{is_same, same_itself}
use Rattle.waiting_processes.proofs.Taken.{in_none}
use Rattle.net_core.specs.declared.candidates.Candidates.{Candidates}
use Rattle.net_core.specs.Heads.{ended_at, is_listed_at, is_joining_head, Shows}
use Rattle.endpoint_machine.specs.declared.head.Head.TheVariants as head
use Rattle.net_core.specs.Candidates.{AreWithin, ListsAll, IsKept, IsNoted, IsJudged, HasPlaces, HasGrownTo, IsSettled, Enters, Judges, Renews}
use Rattle.net_core.proofs.Lone.{taker}

-- ---- lists

pub get_set : {X : Type 0} (xs : List X) (i : ℕ) (x : X) → i < length xs → slice_get (slice_set xs i x) i ≡ Some x
get_set [] i x lt = absurd (omega arith)
get_set (y ∷ xs) zero x lt = refl
get_set (y ∷ xs) (suc i) x lt = get_set xs i x (omega arith)

pub length_set : {X : Type 0} (xs : List X) (i : ℕ) (x : X) → length (slice_set xs i x) ≡ length xs
length_set [] i x = refl
length_set (y ∷ xs) zero x = refl
length_set (y ∷ xs) (suc i) x = ap suc (length_set xs i x)

pub in_front : (ps : List ℕ) (p q : ℕ) → IsIn ps q → IsIn (ps ++ p ∷ []) q
in_front ps p q (k, h) = (k, go ps k h)
  where
    go : (xs : List ℕ) (j : ℕ) → slice_get xs j ≡ Some q → slice_get (xs ++ p ∷ []) j ≡ Some q
    go [] j i = absurd cc
    go (x ∷ xs) zero i = i
    go (x ∷ xs) (suc j) i = go xs j i

pub in_last : (ps : List ℕ) (p : ℕ) → IsIn (ps ++ p ∷ []) p
in_last [] p = (0, refl)
in_last (x ∷ ps) p = let r = in_last ps p in (suc r.0, r.1)

pub in_either : (ps : List ℕ) (p q : ℕ) → IsIn (ps ++ p ∷ []) q → IsIn ps q ⊎ (p ≡ q)
in_either ps p q (k, h) = go ps k h
  where
    from_rest : (x : ℕ) (xs : List ℕ) → IsIn xs q ⊎ (p ≡ q) → IsIn (x ∷ xs) q ⊎ (p ≡ q)
    from_rest x xs (inl (j, i)) = inl (suc j, i)
    from_rest x xs (inr e) = inr e

    go : (xs : List ℕ) (j : ℕ) → slice_get (xs ++ p ∷ []) j ≡ Some q → IsIn xs q ⊎ (p ≡ q)
    go [] zero i = inr cc
    go [] (suc j) i = absurd cc
    go (x ∷ xs) zero i = inl (0, i)
    go (x ∷ xs) (suc j) i = from_rest x xs (go xs j i)

pub in_one : (p q : ℕ) → IsIn (p ∷ []) q → p ≡ q
in_one p q (zero, h) = cc
in_one p q (suc k, h) = absurd cc

-- ---- places

one_longer : (xs : List Bool) (b : Bool) → length (xs ++ b ∷ []) ≡ length xs + 1
one_longer xs b = length-append xs (b ∷ [])

still_there : (xs : List Bool) (b c : Bool) (q : ℕ) → slice_get xs q ≡ Some c → slice_get (xs ++ b ∷ []) q ≡ Some c
still_there xs b c q h = get_append_left xs (b ∷ []) q (slice_get_within xs q c h) ∙ h

-- one place more
pub grown_more : (count : ℕ) (first old : Candidates) (listed unended : List Bool) → HasGrownTo count first old → listed ≡ old.listed ++ false ∷ [] → unended ≡ old.unended ++ false ∷ []
    → HasGrownTo (count + 1) first (record { listed = listed; unended = unended; waiting = old.waiting })
grown_more count first old listed unended g l u = record {
  places = record {
    listed = ap length l ∙ one_longer old.listed false ∙ ap (λ k. k + 1) g.places.listed;
    unended = ap length u ∙ one_longer old.unended false ∙ ap (λ k. k + 1) g.places.unended;
    within = λ w q i. let lt : q < count = g.places.within w q i in omega arith;
  };
  listed = λ q b h. ap (λ (xs : List Bool). slice_get xs q) l ∙ still_there old.listed false b q (g.listed q b h);
  unended = λ q b h. ap (λ (xs : List Bool). slice_get xs q) u ∙ still_there old.unended false b q (g.unended q b h);
  waiting = g.waiting;
}

-- ---- one process

pub awaits : (e : Endpoints) (cap : Option ℕ) (n : NetworkState) (p : ℕ) (h : Head) → Shows e n p h → awaited_at e cap n p ≡ awaited_by cap h
awaits e cap n p h s = ap (awaited_in e cap) s.stands.there ∙ ap (awaited_of cap) (taker e n p h s)

no_channel : (cap : Option ℕ) (h : Head) → is_joining_head h ≡ false → (c : NameId) → awaited_by cap h ≡ Some (Channel c) → ⊥
no_channel cap (head.Join d r) none c i = cc
no_channel cap (head.Take s a b) none c i = cc
no_channel cap (head.Out s a b) none c i = for_room cap i
  where
    for_room : (o : Option ℕ) → awaits_room o (Queue s a b) ≡ Some (Channel c) → ⊥
    for_room None j = cc
    for_room (Some k) j = cc
no_channel cap head.Local none c i = cc
no_channel cap head.Ended none c i = cc

module _ (e : Endpoints) (cap : Option ℕ) (n : NetworkState) where
  -- ---- noted

  -- what is kept of one process is noted anew, and it is judged unless it joins
  pub entered_one : (old new : Candidates) (p : ℕ) (joins : Bool) → p < length n.machines → HasPlaces (length n.machines) old → Judges e cap n old.listed [] new.listed → (joins ≡ false → IsSettled e cap n new.listed p)
      → new.unended ≡ slice_set old.unended p (not (ended_at e n p)) → IsKept e cap n new.waiting p → ((w : Awaited) (q : ℕ) → IsIn (waiting_for old.waiting w) q → IsIn (waiting_for new.waiting w) q) → AreWithin (length n.machines) new.waiting
      → Enters e cap n old (p ∷ []) joins new
  entered_one old new p joins lt places listed settled unended kept more within = record {
    places = record {
      listed = listed.count ∙ places.listed;
      unended = ap length unended ∙ length_set old.unended p (not (ended_at e n p)) ∙ places.unended;
      within = within;
    };
    stays = stays;
    entered = λ q i. subst (IsNoted e cap n new) (in_one p q i) own;
    still = listed.stays;
    settled = λ f q i. subst (IsSettled e cap n new.listed) (in_one p q i) (settled f);
  }
    where
      own : IsNoted e cap n new p
      own =
          let inside : p < length old.unended = subst (λ k. p < k) (sym places.unended) lt in
          record { unended = ap (λ (bs : List Bool). slice_get bs p) unended ∙ get_set old.unended p (not (ended_at e n p)) inside; kept = kept }

      stays : (q : ℕ) → IsNoted e cap n old q → IsNoted e cap n new q
      stays q r = go (p == q) refl
        where
          go : (t : Bool) → (p == q) ≡ t → IsNoted e cap n new q
          go true i = subst (IsNoted e cap n new) (eqb-true p q i) own
          go false i =
              let apart : q ≢ p = λ s. eqb-false p q i (sym s) in
              record { unended = ap (λ (bs : List Bool). slice_get bs q) unended ∙ get_set_other old.unended p q (not (ended_at e n p)) apart ∙ r.unended; kept = λ w a. more w q (r.kept w a) }

  pub entered_none : (c : Candidates) → HasPlaces (length n.machines) c → Enters e cap n c [] false c
  entered_none c places = record { places = places; stays = λ q r. r; entered = λ q i. absurd (in_none q i); still = λ q r. r; settled = λ f q i. absurd (in_none q i) }

  neither : (j k : Bool) → (j || k) ≡ false → (j ≡ false) × (k ≡ false)
  neither false k h = (refl, h)
  neither true k h = absurd cc

  pub entered_more : (a b c : Candidates) (ps : List ℕ) (p : ℕ) (j k : Bool) → Enters e cap n a ps j b → Enters e cap n b (p ∷ []) k c → Enters e cap n a (ps ++ p ∷ []) (j || k) c
  entered_more a b c ps p j k s t = record {
    places = t.places;
    stays = λ q r. t.stays q (s.stays q r);
    entered = λ q i. go q (in_either ps p q i);
    still = λ q r. t.still q (s.still q r);
    settled = λ f q i. settled (neither j k f) q (in_either ps p q i);
  }
    where
      go : (q : ℕ) → IsIn ps q ⊎ (p ≡ q) → IsNoted e cap n c q
      go q (inl i) = t.stays q (s.entered q i)
      go q (inr i) = t.entered q (0, ap (λ (k : ℕ). Some k) i)

      settled : (j ≡ false) × (k ≡ false) → (q : ℕ) → IsIn ps q ⊎ (p ≡ q) → IsSettled e cap n c.listed q
      settled f q (inl i) = let r = s.settled f.0 q i in record { joins_none = r.joins_none; judged = t.still q r.judged }
      settled f q (inr i) = t.settled f.1 q (0, ap (λ (k : ℕ). Some k) i)

  -- one process after the other
  pub entered_next : (old new : Candidates) (p : ℕ) (joins : Bool) → Enters e cap n old (p ∷ []) joins new → ((q : ℕ) → q < p → IsNoted e cap n old q) → (q : ℕ) → q < p + 1 → IsNoted e cap n new q
  entered_next old new p joins l before q lt = go (p == q) refl
    where
      go : (t : Bool) → (p == q) ≡ t → IsNoted e cap n new q
      go true i = l.entered q (0, ap (λ (k : ℕ). Some k) (eqb-true p q i))
      go false i = let apart = eqb-false p q i in let less : q < p = grind (arith, nat_tests) in l.stays q (before q less)

  -- one more in the list of what it waits for
  module _ (old new : WaitingLists) (a : Awaited) (p : ℕ) (put : (w : Awaited) → waiting_for new w ≡ (if same_awaited a w then waiting_for old a ++ p ∷ [] else waiting_for old w)) where
    pub added : awaited_at e cap n p ≡ Some a → (w : Awaited) → awaited_at e cap n p ≡ Some w → IsIn (waiting_for new w) p
    added is w i =
        let both : Some a ≡ Some w = sym is ∙ i in
        let same : a ≡ w = cc in
        subst (λ (v : Awaited). IsIn (waiting_for new v) p) same (subst (λ (ps : List ℕ). IsIn ps p) (sym (put a ∙ ap (λ (t : Bool). if t then waiting_for old a ++ p ∷ [] else waiting_for old a) (same_itself a))) (in_last (waiting_for old a) p))

    pub adds : (w : Awaited) (q : ℕ) → IsIn (waiting_for old w) q → IsIn (waiting_for new w) q
    adds w q i = subst (λ (ps : List ℕ). IsIn ps q) (sym (put w)) (go (same_awaited a w) refl)
      where
        go : (t : Bool) → same_awaited a w ≡ t → IsIn (if t then waiting_for old a ++ p ∷ [] else waiting_for old w) q
        go true j = in_front (waiting_for old a) p q (subst (λ (v : Awaited). IsIn (waiting_for old v) q) (sym (is_same a w j)) i)
        go false j = i

    pub adds_below : (count : ℕ) → p < count → AreWithin count old → AreWithin count new
    adds_below count lt below w q i = go (same_awaited a w) (subst (λ (ps : List ℕ). IsIn ps q) (put w) i)
      where
        last : IsIn (waiting_for old a) q ⊎ (p ≡ q) → q < count
        last (inl j) = below a q j
        last (inr s) = subst (λ k. k < count) s lt

        go : (t : Bool) → IsIn (if t then waiting_for old a ++ p ∷ [] else waiting_for old w) q → q < count
        go true j = last (in_either (waiting_for old a) p q j)
        go false j = below w q j

  -- ---- judged

  pub judged_one : (old new : List Bool) (p : ℕ) (b : Bool) → p < length n.machines → length old ≡ length n.machines → b ≡ is_listed_at e cap n p → new ≡ slice_set old p b → Judges e cap n old (p ∷ []) new
  judged_one old new p b lt count is put = record { count = ap length put ∙ length_set old p b; stays = stays; judged = λ q i. subst (IsJudged e cap n new) (in_one p q i) own }
    where
      own : IsJudged e cap n new p
      own = let inside : p < length old = subst (λ k. p < k) (sym count) lt in ap (λ (bs : List Bool). slice_get bs p) put ∙ get_set old p b inside ∙ ap (λ (x : Bool). Some x) is

      stays : (q : ℕ) → IsJudged e cap n old q → IsJudged e cap n new q
      stays q r = go (p == q) refl
        where
          go : (t : Bool) → (p == q) ≡ t → IsJudged e cap n new q
          go true i = subst (IsJudged e cap n new) (eqb-true p q i) own
          go false i = let apart : q ≢ p = λ s. eqb-false p q i (sym s) in ap (λ (bs : List Bool). slice_get bs q) put ∙ get_set_other old p q b apart ∙ r

  pub judged_none : (bits : List Bool) → Judges e cap n bits [] bits
  judged_none bits = record { count = refl; stays = λ q r. r; judged = λ q i. absurd (in_none q i) }

  pub judged_more : (a b c : List Bool) (ps : List ℕ) (p : ℕ) → Judges e cap n a ps b → Judges e cap n b (p ∷ []) c → Judges e cap n a (ps ++ p ∷ []) c
  judged_more a b c ps p s t = record { count = t.count ∙ s.count; stays = λ q r. t.stays q (s.stays q r); judged = λ q i. go q (in_either ps p q i) }
    where
      go : (q : ℕ) → IsIn ps q ⊎ (p ≡ q) → IsJudged e cap n c q
      go q (inl i) = t.stays q (s.judged q i)
      go q (inr i) = t.judged q (0, ap (λ (k : ℕ). Some k) i)

  pub judged_next : (old new : List Bool) (p : ℕ) → Judges e cap n old (p ∷ []) new → ((q : ℕ) → q < p → IsJudged e cap n old q) → (q : ℕ) → q < p + 1 → IsJudged e cap n new q
  judged_next old new p l before q lt = go (p == q) refl
    where
      go : (t : Bool) → (p == q) ≡ t → IsJudged e cap n new q
      go true i = l.judged q (0, ap (λ (k : ℕ). Some k) (eqb-true p q i))
      go false i = let apart = eqb-false p q i in let less : q < p = grind (arith, nat_tests) in l.stays q (before q less)

  -- ---- with those who join the same channel

  pub renewed_none : (over : Option NameId) (bits : List Bool) → Renews e cap n over bits [] bits
  renewed_none over bits = record { judges = judged_none bits; came = λ p c i a o q lt b. absurd (in_none p i) }

  pub renewed_more : (over : Option NameId) (a b c : List Bool) (ps : List ℕ) (p : ℕ) → Renews e cap n over a ps b → Renews e cap n over b (p ∷ []) c → Renews e cap n over a (ps ++ p ∷ []) c
  renewed_more over a b c ps p s t = record { judges = judged_more a b c ps p s.judges t.judges; came = λ r d i. go r d (in_either ps p r i) }
    where
      go : (r : ℕ) (d : NameId) → IsIn ps r ⊎ (p ≡ r) → awaited_at e cap n r ≡ Some (Channel d) → (over ≡ Some d → ⊥) → (q : ℕ) → q < length n.machines → awaited_at e cap n q ≡ Some (Channel d) → IsJudged e cap n c q
      go r d (inl i) w o q lt v = t.judges.stays q (s.came r d i w o q lt v)
      go r d (inr i) w o q lt v = t.came r d (0, ap (λ (j : ℕ). Some j) i) w o q lt v

  -- a process that doesn't join is judged
  pub settled_one : (bits : List Bool) (p : ℕ) (h : Head) → Shows e n p h → is_joining_head h ≡ false → IsJudged e cap n bits p → IsSettled e cap n bits p
  settled_one bits p h s none judged = record { joins_none = λ c a. no_channel cap h none c (sym (awaits e cap n p h s) ∙ a); judged = judged }

  -- it joins this channel
  pub renewed_channel : (over : Option NameId) (lists : WaitingLists) (old mid new : List Bool) (p : ℕ) (c : NameId) → ListsAll e cap n lists → Judges e cap n old (p ∷ []) mid → awaited_at e cap n p ≡ Some (Channel c)
      → Judges e cap n mid (waiting_for lists (Channel c)) new → Renews e cap n over old (p ∷ []) new
  renewed_channel over lists old mid new p c all l is j = record {
    judges = record { count = j.count ∙ l.count; stays = λ q r. j.stays q (l.stays q r); judged = λ q i. j.stays q (l.judged q i) };
    came = λ r d i a o q lt b.
        let both : Some (Channel c) ≡ Some (Channel d) = sym is ∙ subst (λ (m : ℕ). awaited_at e cap n m ≡ Some (Channel d)) (sym (in_one p r i)) a in
        let same : c ≡ d = cc in
        j.judged q (all.kept q lt (Channel c) (b ∙ ap (λ (x : NameId). Some (Channel x)) (sym same)));
  }
