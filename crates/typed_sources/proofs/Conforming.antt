-- The sessions of each run of a typed choreography conform to their protocols.
use Rattle.std.proofs.Common.{◌≡◌, ℕ, suc, ◌≤◌, ◌+◌, List, [], ◌∷◌, ◌++◌, map, length, refl, sym, ap, ◌∙◌, subst, Some, None, Option, Bool, true, false, ◌==◌, ◌||◌, inl, inr, arith, length-append, if◌then◌else◌}
use Rattle.std.proofs.Math.ListN.{get_or-append}
use Rattle.std.specs.FinMap as fin
use Rattle.std.proofs.lemmas.Bool.{eqb-true}
use Rattle.chor_base.specs.declared.names.NameId.{NameId}
use Rattle.chor_base.specs.declared.value.Sort.{Sort}
use Rattle.chor_base.specs.declared.value.Value.TheVariants.{Int, Bool as Truth, Text, Part as Endpoint}
use Rattle.chor_base.specs.declared.value.Load.{Load}
use Rattle.chor_base.specs.declared.value.Load.TheVariants.{Value as Carries, Label as Picks}
use Rattle.chor_base.specs.declared.event.Event.{Event}
use Rattle.chor_base.specs.declared.event.Event.TheVariants.{Start, Send, Recv, Test, Set, Show, Host}
use Rattle.chor_base.specs.Meaning.{Hosts}
use Rattle.chor_base.specs.Events.{actors_of}
use Rattle.chor_base.specs.declared.value.Sort.TheVariants as sort
use Rattle.chor_tree.specs.declared.protocol.State.{State}
use Rattle.chor_semantics.specs.Choreography.{Ref, Live, Named, ref_eq, among, Choreography}
use Rattle.chor_semantics.specs.Sources.{Procedure, Configuration}
use Rattle.chor_semantics.specs.Steps.{Effect, Steps, vars_of, assigned, fresh_vars, vars_after, sid_after, new_parts, procedure_named, body_of}
use Rattle.chor_semantics.specs.Runs.{Leads, IsTerminated, IsQuiet, quiet, called, ended, nobody}
use Rattle.well_formed.specs.Holders.{first_with}
use Rattle.well_formed.proofs.References.{self_ref, same_ref, true_eq, differ_ref, or_rights}
use Rattle.typed_sources.specs.Context.{Context, Hands, told_load, told_part}
use Rattle.typed_sources.specs.Told.{Told, of_sort, of_label, of_endpoint, puts, gets, put_to, got_from, sending, receiving}
use Rattle.typed_sources.specs.Typing.{HasProtocol, AllKnown, AtCalls, IsTypedIn, AllEnded, HasEnded, Reaches, IsOnOnePath}
use Rattle.typed_sources.specs.Changes.{Change, changed, change_of, event_acts, load_hand, lives, started, IsChangeBy, HoldersInScope}
use Rattle.typed_sources.proofs.SortedValues.{Agrees}
use Rattle.typed_sources.proofs.StepsKept.{is_start, kept, change_same}
use Rattle.typed_sources.proofs.OnePath.{one_path}
use Rattle.typed_sources.specs.Renames.{Renames, Stays}
use Rattle.typed_sources.proofs.Started.{not_both, pids, pids_append, no_named}
use Rattle.typed_sources.proofs.StartKept.{Began, start_kept, first_among}
use Rattle.typed_sources.specs.History.{Account, told_by, told_after, IsTold, AllTold}
use Rattle.typed_sources.proofs.Roots.{IsRoot, split, root_changed, below, not_start, same_sid, assigned_long, agrees_after}

-- ---- new processes

module _ (m : Ref → Bool) (n : ℕ) (off : m (Live n) ≡ false) where
  fresh_active : (ps rest : List (NameId × ℕ)) → AllKnown m (pids ps) → fresh_vars (ps ++ rest) n ≡ fresh_vars rest n
  fresh_active [] rest a = refl
  fresh_active (p ∷ ps) rest a = go (p.1 == n) refl (fresh_active ps rest a.1)
    where
      go : (b : Bool) → (p.1 == n) ≡ b → fresh_vars (ps ++ rest) n ≡ fresh_vars rest n → (if b then fin.empty ∷ fresh_vars (ps ++ rest) (suc n) else fresh_vars (ps ++ rest) n) ≡ fresh_vars rest n
      go false i ih = ih
      go true i ih = absurd (not_both (m (Live n)) (subst (λ x. m (Live x) ≡ true) (eqb-true p.1 n i) a.0) off)

fresh_new : (serve : List (ℕ × NameId)) (n : ℕ) → length (fresh_vars (new_parts serve n) n) ≡ length serve
fresh_new [] n = refl
fresh_new (s ∷ ss) n = ap (λ b. length (if b then fin.empty ∷ fresh_vars (new_parts ss (suc n)) (suc n) else fresh_vars (new_parts ss (suc n)) n)) (true_eq n) ∙ ap suc (fresh_new ss (suc n))

later_new : (serve : List (ℕ × NameId)) (n m : ℕ) → n + length serve ≤ m → among (Live m) (pids (new_parts serve n)) ≡ false
later_new [] n m l = refl
later_new (s ∷ ss) n m l = go (m == n) refl (later_new ss (suc n) m (omega (arith, l)))
  where
    go : (b : Bool) → (m == n) ≡ b → among (Live m) (pids (new_parts ss (suc n))) ≡ false → (b || among (Live m) (pids (new_parts ss (suc n)))) ≡ false
    go false i k = k
    go true i k = let e = eqb-true m n i in absurd (omega (arith, l, e))

later_known : (k : Ref → Bool) (m : ℕ) → k (Live m) ≡ false → (ps : List (NameId × ℕ)) → AllKnown k (pids ps) → among (Live m) (pids ps) ≡ false
later_known k m off [] a = refl
later_known k m off (p ∷ ps) a = go (ref_eq (Live m) (Live p.1)) refl (later_known k m off ps a.1)
  where
    go : (b : Bool) → ref_eq (Live m) (Live p.1) ≡ b → among (Live m) (pids ps) ≡ false → (b || among (Live m) (pids ps)) ≡ false
    go false i h = h
    go true i h = absurd (not_both (k (Live m)) (ap k (same_ref (Live m) (Live p.1) i) ∙ a.0) off)

among_split : (q : Ref) (xs ys : List Ref) → among q xs ≡ false → among q ys ≡ false → among q (xs ++ ys) ≡ false
among_split q [] ys a b = b
among_split q (x ∷ xs) ys a b = go (ref_eq q x) a (λ k. among_split q xs ys k b)
  where
    go : (c : Bool) → (c || among q xs) ≡ false → (among q xs ≡ false → among q (xs ++ ys) ≡ false) → (c || among q (xs ++ ys)) ≡ false
    go false k ih = ih k
    go true k ih = absurd cc

-- what a story tells is what is known of live sessions
pub record Tells (s : Account) (e : Context) : Type 0 where
  pub protocol : (n : ℕ) → s.protocol (Live n) ≡ e.protocol (Live n)
  pub done : (n : ℕ) (r : NameId) → s.done (Live n) r ≡ e.done (Live n) r

one_actor : (x : Event) → is_start x ≡ false → (p : ℕ) × (actors_of x ≡ p ∷ [])
one_actor (Start c s parts) h = absurd cc
one_actor (Send p s a b l) h = (p, refl)
one_actor (Recv p s a b l) h = (p, refl)
one_actor (Test p b) h = (p, refl)
one_actor (Set p x v) h = (p, refl)
one_actor (Show p v) h = (p, refl)
one_actor (Host p x g a b v) h = (p, refl)

told_plain : (kind : NameId → Option NameId) (s : Account) (x : Event) → is_start x ≡ false → told_by kind s x ≡ record { protocol = s.protocol; done = λ t r. s.done t r ++ event_acts s.protocol x t r }
told_plain kind s (Start c n parts) h = absurd cc
told_plain kind s (Send p n a b l) h = refl
told_plain kind s (Recv p n a b l) h = refl
told_plain kind s (Test p b) h = refl
told_plain kind s (Set p x v) h = refl
told_plain kind s (Show p v) h = refl
told_plain kind s (Host p x g a b v) h = refl

pub data StartOrNot (x : Event) : Type 0 where
  starts : (c : NameId) (n : ℕ) (parts : List (NameId × ℕ)) → x ≡ Start c n parts → StartOrNot x
  others : is_start x ≡ false → StartOrNot x

start_or_not : (x : Event) → StartOrNot x
start_or_not (Start c n parts) = starts c n parts refl
start_or_not (Send p n a b l) = others refl
start_or_not (Recv p n a b l) = others refl
start_or_not (Test p b) = others refl
start_or_not (Set p x v) = others refl
start_or_not (Show p v) = others refl
start_or_not (Host p x g a b v) = others refl

-- ---- what an event tells

told_something : (pr : Ref → Option NameId) (l : Load) → ((j : ℕ) (r : NameId) → l ≡ Carries (Endpoint j r) → (k : NameId) × (pr (Live j) ≡ Some k)) → (w : Told) × (told_load pr l ≡ Some w)
told_something pr (Carries (Int z)) h = (of_sort sort.Int, refl)
told_something pr (Carries (Truth b)) h = (of_sort sort.Bool, refl)
told_something pr (Carries (Text t)) h = (of_sort sort.Text, refl)
told_something pr (Carries (Endpoint j r)) h = let k = h j r refl in (of_endpoint k.0 r, ap (told_part r) k.1)
told_something pr (Picks l) h = (of_label l, refl)

module _ (p : ℕ) (e : Context) (held : HoldersInScope e) (f : Effect) where
  hand_of : (o : Option Ref) (l : Load) (j : ℕ) (r : NameId) → l ≡ Carries (Endpoint j r) → load_hand o l ≡ Hands (Live j) r o
  hand_of o l j r i = ap (load_hand o) i

  some_act : (b : NameId) (o : Option Told) (w : Told) → o ≡ Some w → put_to b o ≡ [] → ⊥
  some_act b o w i j = let k : put_to b o ≡ puts b w ∷ [] = ap (put_to b) i in cc

  some_got : (b : NameId) (o : Option Told) (w : Told) → o ≡ Some w → got_from b o ≡ [] → ⊥
  some_got b o w i j = let k : got_from b o ≡ gets b w ∷ [] = ap (got_from b) i in cc

  pub told_event : (x : Event) → IsChangeBy p e (change_of e.protocol x f) → IsTold e.protocol x
  told_event (Start c n parts) by = tt
  told_event (Send q n a b l) by =
      let w = told_something e.protocol l (λ j r i. (by.gains j r None (hand_of None l j r i)).0) in (
        elim (by.acts.live n a) [
          | inl i ↦ absurd (some_act b (told_load e.protocol l) w.0 w.1 (sym (ap (λ k. if k then sending a b (told_load e.protocol l) a else []) (self_ref (Live n)) ∙ ap (λ k. if k then put_to b (told_load e.protocol l) else []) (true_eq a.0)) ∙ i))
          | inr i ↦ held.session (Live n) a (Live p) i
        ],
        w,
      )
  told_event (Recv q n a b l) by =
      let w = told_something e.protocol l (λ j r i. (by.gains j r (Some (Live q)) (hand_of (Some (Live q)) l j r i)).0) in (
        elim (by.acts.live n b) [
          | inl i ↦ absurd (some_got a (told_load e.protocol l) w.0 w.1 (sym (ap (λ k. if k then receiving a b (told_load e.protocol l) b else []) (self_ref (Live n)) ∙ ap (λ k. if k then got_from a (told_load e.protocol l) else []) (true_eq b.0)) ∙ i))
          | inr i ↦ held.session (Live n) b (Live p) i
        ],
        w,
      )
  told_event (Test q b) by = tt
  told_event (Set q x v) by = tt
  told_event (Show q v) by = tt
  told_event (Host q x g a b v) by = tt

told_load_same : (k l : Ref → Option NameId) → ((j : ℕ) → k (Live j) ≡ l (Live j)) → (v : Load) → told_load k v ≡ told_load l v
told_load_same k l s (Carries (Int z)) = refl
told_load_same k l s (Carries (Truth b)) = refl
told_load_same k l s (Carries (Text t)) = refl
told_load_same k l s (Carries (Endpoint j r)) = ap (told_part r) (s j)
told_load_same k l s (Picks x) = refl

told_same : (k l : Ref → Option NameId) → ((j : ℕ) → k (Live j) ≡ l (Live j)) → (x : Event) → IsTold l x → IsTold k x
told_same k l s (Start c n parts) t = tt
told_same k l s (Send q n a b v) t = ((t.0.0, s n ∙ t.0.1), (t.1.0, told_load_same k l s v ∙ t.1.1))
told_same k l s (Recv q n a b v) t = ((t.0.0, s n ∙ t.0.1), (t.1.0, told_load_same k l s v ∙ t.1.1))
told_same k l s (Test q b) t = tt
told_same k l s (Set q x v) t = tt
told_same k l s (Show q v) t = tt
told_same k l s (Host q x g a b v) t = tt

module _ (kind : NameId → Option NameId) (states : NameId → List State) (at_call : AtCalls) (procs : List Procedure) (hosts : Hosts)
    (bodies : (e : Context) (h : NameId) (k : ℕ) (ps ss : List Ref) (c : Choreography) → body_of (procedure_named procs h) k ps ss ≡ Some c → at_call e h k ps ss → IsTypedIn kind states at_call e c)
    (calls : (u v : Ref → Ref) (d e : Context) → Renames states u v d e → Stays u v d e → (h : NameId) (k : ℕ) (ps ss : List Ref) → at_call d h k ps ss → at_call e h k (map u ps) (map v ss)) where
  -- what holds after a run
  pub record Holds (c : Configuration) (s : Account) : Type 0 where
    pub context : Context
    pub root : IsRoot c.vars c.sid context
    pub typed : IsTypedIn kind states at_call context c.tree
    pub fits : Tells s context

  after_other : (old new : Configuration) (x : Event) → Steps procs hosts old x new → is_start x ≡ false → (s : Account) → Holds old s → Holds new (told_by kind s x)
  after_other old new x st ns s h =
      let e = h.context in
      let p = one_actor x ns in
      let k = kept kind states at_call procs hosts old.vars old.sid bodies e st.moves ns p.0 p.1 (h.root.agrees p.0) h.typed in
      let c = change_of e.protocol x st.effect in
      let vars : new.vars ≡ assigned old.vars st.effect = st.vars ∙ not_start old.vars x st.effect ns in
      let sid : new.sid ≡ old.sid = st.sid ∙ same_sid old.sid x ns in
      let low = below old.vars old.sid p.0 e h.root c k.0 in
      let root = root_changed old.vars old.sid p.0 e h.root c k.0 (assigned old.vars st.effect) (assigned_long old.vars st.effect) (agrees_after old.vars e p.0 low st.effect k.0.setting h.root.agrees) in
      record {
        context = changed e c;
        root = subst (λ v. IsRoot v new.sid (changed e c)) (sym vars) (subst (λ n. IsRoot (assigned old.vars st.effect) n (changed e c)) (sym sid) root);
        typed = k.1;
        fits = subst (λ z. Tells z (changed e c)) (sym (told_plain kind s x ns)) (record {
          protocol = h.fits.protocol;
          done = λ n r. ap (λ l. l ++ event_acts s.protocol x (Live n) r) (h.fits.done n r) ∙ ap (λ (z : Change). e.done (Live n) r ++ z.acts (Live n) r) (change_same s.protocol e.protocol h.fits.protocol x st.effect);
        });
      }

  after_start : (old new : Configuration) (x : Event) → Steps procs hosts old x new → (ch : NameId) (n : ℕ) (parts : List (NameId × ℕ)) → x ≡ Start ch n parts → (s : Account) → Holds old s → Holds new (told_by kind s x)
  after_start old new x st ch n parts is s h = record { context = next; root = root; typed = began.typed; fits = fits }
    where
      e : Context
      e = h.context

      began : Began kind states at_call procs hosts old.vars old.sid bodies calls h.context ch n parts new.tree
      began = start_kept kind states at_call procs hosts old.vars old.sid bodies calls h.context st.moves h.root.held h.root.fresh ch n parts is h.typed

      next : Context
      next = started kind h.context ch old.sid parts

      vars : new.vars ≡ old.vars ++ fresh_vars parts (length old.vars)
      vars = st.vars ∙ ap (λ y. vars_after old.vars y st.effect) is

      sid : new.sid ≡ suc old.sid
      sid = st.sid ∙ ap (sid_after old.sid) is

      fresh_same : fresh_vars parts (length old.vars) ≡ fresh_vars (new_parts began.serve (length old.vars)) (length old.vars)
      fresh_same = ap (λ l. fresh_vars l (length old.vars)) began.parts_are
          ∙ fresh_active h.context.known (length old.vars) (h.root.fresh.process (length old.vars) (omega arith)) began.active (new_parts began.serve (length old.vars)) began.known

      long : length new.vars ≡ length old.vars + length began.serve
      long =
          let a : length new.vars ≡ length (old.vars ++ fresh_vars parts (length old.vars)) = ap length vars in
          let b = length-append old.vars (fresh_vars parts (length old.vars)) in
          let c : length (fresh_vars parts (length old.vars)) ≡ length began.serve = ap length fresh_same ∙ fresh_new began.serve (length old.vars) in
          omega (arith, a, b, c)

      held : (s' : Ref) (r : NameId) (q : Ref) (b : Bool) → ref_eq s' (Live old.sid) ≡ b → (if b then first_with r (lives parts) else h.context.holder s' r) ≡ Some q
          → HasProtocol (if b then kind ch else h.context.protocol s') × ((among q (pids parts) || h.context.known q) ≡ true)
      held s' r q true i j = (began.kind_known, ap (λ b. b || h.context.known q) (first_among r (lives parts) q j))
      held s' r q false i j = (h.root.held.session s' r q j, or_rights _ _ (h.root.held.process s' r q j))

      unknown : (m : ℕ) → length new.vars ≤ m → next.known (Live m) ≡ false
      unknown m l =
          let off = h.root.fresh.process m (omega (arith, long, l)) in
          let none : among (Live m) (pids parts) ≡ false = ap (λ z. among (Live m) (pids z)) began.parts_are ∙ ap (among (Live m)) (pids_append began.active (new_parts began.serve (length old.vars)))
          ∙ among_split (Live m) (pids began.active) (pids (new_parts began.serve (length old.vars))) (later_known h.context.known m off began.active began.known) (later_new began.serve (length old.vars) m (omega (arith, long, l))) in
          ap (λ b. b || h.context.known (Live m)) none ∙ off

      later : (m : ℕ) → new.sid ≤ m → ref_eq (Live m) (Live old.sid) ≡ false
      later m l = differ_ref (Live m) (Live old.sid) (λ i. let e' : m ≡ old.sid = cc in absurd (omega (arith, l, sid, e')))

      agrees : (q : ℕ) → Agrees (vars_of new.vars q) (h.context.sorts (Live q))
      agrees q = elim (split q (length old.vars)) [
        | inl l ↦ subst (λ m. Agrees m (h.context.sorts (Live q))) (sym (ap (λ v. vars_of v q) vars ∙ get_or-append old.vars (fresh_vars parts (length old.vars)) fin.empty q l)) (h.root.agrees q)
        | inr l ↦ (λ x z i. absurd (clash (h.context.sorts (Live q) x) (h.root.unset q l x) i))
      ]
        where
          clash : (o : Option Sort) → o ≡ None → {z : Sort} → o ≡ Some z → ⊥
          clash o a b = cc

      root : IsRoot new.vars new.sid next
      root = record {
        held = record { session = λ s' r q i. (held s' r q (ref_eq s' (Live old.sid)) refl i).0; process = λ s' r q i. (held s' r q (ref_eq s' (Live old.sid)) refl i).1 };
        fresh = record {
          session = λ m l. ap (λ (b : Bool). if b then kind ch else h.context.protocol (Live m)) (later m l) ∙ h.root.fresh.session m (omega (arith, l, sid));
          process = unknown;
        };
        agrees = agrees;
        unset = λ m l x. h.root.unset m (omega (arith, long, l)) x;
        idle = λ m r l. ap (λ (b : Bool). if b then [] else h.context.done (Live m) r) (later m l) ∙ h.root.idle m r (omega (arith, l, sid));
        names = λ x d. (ap (λ b. b || h.context.known (Named x d)) (no_named x d parts) ∙ (h.root.names x d).0, (h.root.names x d).1);
      }

      idle_now : (m : ℕ) (r : NameId) (b : Bool) → ref_eq (Live m) (Live old.sid) ≡ b → h.context.done (Live m) r ≡ (if b then [] else h.context.done (Live m) r)
      idle_now m r false i = refl
      idle_now m r true i = let same : m ≡ old.sid = number m old.sid (same_ref (Live m) (Live old.sid) i) in h.root.idle m r (omega (arith, same))
        where
          number : (a b : ℕ) → Live a ≡ Live b → a ≡ b
          number a b j = cc

      fits : Tells (told_by kind s x) next
      fits = subst (λ y. Tells (told_by kind s y) next) (sym is) (record {
        protocol = λ m. ap (λ z. if ref_eq (Live m) (Live z) then kind ch else s.protocol (Live m)) began.same ∙ ap (λ z. if ref_eq (Live m) (Live old.sid) then kind ch else z) (h.fits.protocol m);
        done = λ m r. h.fits.done m r ∙ idle_now m r (ref_eq (Live m) (Live old.sid)) refl;
      })

  pub step_holds : (old new : Configuration) (x : Event) → Steps procs hosts old x new → (s : Account) → Holds old s → Holds new (told_by kind s x)
  step_holds old new x st s h = go (start_or_not x)
    where
      go : StartOrNot x → Holds new (told_by kind s x)
      go (starts ch n parts is) = after_start old new x st ch n parts is s h
      go (others ns) = after_other old new x st ns s h

  -- each event is told
  step_told : (old new : Configuration) (x : Event) → Steps procs hosts old x new → (s : Account) → Holds old s → IsTold s.protocol x
  step_told old new x st s h = go (start_or_not x)
    where
      e : Context
      e = h.context

      begun : (c : NameId) (n : ℕ) (parts : List (NameId × ℕ)) → IsTold s.protocol (Start c n parts)
      begun c n parts = tt

      go : StartOrNot x → IsTold s.protocol x
      go (starts c n parts is) = subst (IsTold s.protocol) (sym is) (begun c n parts)
      go (others ns) =
          let p = one_actor x ns in
          let k = kept kind states at_call procs hosts old.vars old.sid bodies h.context st.moves ns p.0 p.1 (h.root.agrees p.0) h.typed in
          told_same s.protocol h.context.protocol h.fits.protocol x (told_event p.0 h.context h.root.held st.effect x k.0)

  pub run_told : (h : List Event) (old last : Configuration) (s : Account) → Leads procs hosts old h last → Holds old s → AllTold kind s h
  run_told [] old last s l w = tt
  run_told (x ∷ xs) old last s l w = (step_told old l.0 x l.1 s w, run_told xs l.0 last (told_by kind s x) l.2 (step_holds old l.0 x l.1 s w))

  -- It holds along a run
  pub run_holds : (h : List Event) (old last : Configuration) (s : Account) → Leads procs hosts old h last → Holds old s → Holds last (told_after kind s h)
  run_holds [] old last s l w = subst (λ c. Holds c s) l w
  run_holds (x ∷ xs) old last s l w = run_holds xs l.0 last (told_by kind s x) l.2 (step_holds old l.0 x l.1 s w)

  -- ---- conformance

  module _ (at_calls : (e : Context) (h : NameId) (k : ℕ) (ps ss : List Ref) → at_call e h k ps ss → (t : Ref) (p : NameId) → e.protocol t ≡ Some p → (i : ℕ) × Reaches (states p) (e.done t) i)
      (no_one : (e : Context) (h : NameId) (k : ℕ) (ss : List Ref) → at_call e h k [] ss → AllEnded states e) where
    -- Each session has one path of its protocol that serves all its roles
    pub conforms : (c : Configuration) (s : Account) → Holds c s → (n : ℕ) (p : NameId) → s.protocol (Live n) ≡ Some p → IsOnOnePath (states p) (s.done (Live n))
    conforms c s w n p i =
        let o = one_path kind states at_call at_calls w.context c.tree w.typed (Live n) p (sym (w.fits.protocol n) ∙ i) in
        record { path = o.path; last = o.last; is_path = o.is_path; rest = o.rest; acts = λ r. o.acts r ∙ ap (λ l. l ++ o.rest r) (sym (w.fits.done n r)) }

    all_ended : (e : Context) {c : Choreography} → IsQuiet c → IsTypedIn kind states at_call e c → AllEnded states e
    all_ended e ended t = t
    all_ended e (nobody {f = f} {d = d} {ss = ss}) t = no_one e f d ss t

    terminated : (e : Context) {c : Choreography} → IsTerminated procs c → IsTypedIn kind states at_call e c → AllEnded states e
    terminated e (quiet q) t = all_ended e q t
    terminated e (called {f = f} {d = d} {ps = ps} {ss = ss} {c = b} i q) t = all_ended e q (bodies e f d ps ss b i t)

    -- and after a run that has ended it is used up, and the session has ended
    pub conforms_and_ended : (c : Configuration) (s : Account) → Holds c s → IsTerminated procs c.tree → (n : ℕ) (p : NameId) → s.protocol (Live n) ≡ Some p → HasEnded (states p) (s.done (Live n))
    conforms_and_ended c s w q n p i = subst (HasEnded (states p)) (λ j r. sym (w.fits.done n r) j) (terminated w.context q w.typed (Live n) p (sym (w.fits.protocol n) ∙ i))
