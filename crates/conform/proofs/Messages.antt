-- Messages and starts, and what is kept after them.
use Rattle.std.proofs.Common.{◌≡◌, ◌≢◌, ℕ, ◌==◌, Bool, true, false, List, [], ◌∷◌, ◌++◌, drop, Option, Some, refl, sym, ap, ◌∙◌, subst, arith, append_assoc, if◌then◌else◌}
use Rattle.std.specs.Prelude.{slice_get, slice_set}
use Rattle.std.proofs.lemmas.List.{append-nil}
use Rattle.std.proofs.lemmas.Bool.Decides.{nat_tests}
use Rattle.std.specs.Prelude.{Result, Ok, Err}
use Rattle.chor_base.specs.declared.memory.Memory.{Memory}
use Rattle.chor_base.specs.declared.names.NameId.{NameId}
use Rattle.chor_base.specs.declared.value.Load.{Load}
use Rattle.chor_base.specs.declared.event.Event.{Event}
use Rattle.chor_base.specs.declared.event.Event.TheVariants.{Send, Recv}
use Rattle.chor_base.specs.Events.{Triple, triple_eq, load_on, sent_on, received_on}
use Rattle.chor_tree.specs.declared.file.File.{File}
use Rattle.chor_semantics.specs.Choreography.{Ref}
use Rattle.endpoint_code.specs.Network.{loads_for, with_loads}
use Rattle.endpoint_code.proofs.Queues.{loads-same, loads-other}
use Rattle.endpoint_code.proofs.Fifo.{same_triple}
use Rattle.post_office.specs.Views.{loads_at}
use Rattle.post_office.specs.Lanes.{loads_in}
use Rattle.typed_sources.specs.Told.{Told, puts, gets, put_to, got_from, sending, receiving}
use Rattle.typed_sources.specs.Context.{told_load}
use Rattle.well_formed.proofs.References.{true_eq}
use Rattle.conform.specs.declared.progress.Progress.{Progress}
use Rattle.conform.specs.Sessions.{SessionView}
use Rattle.conform.specs.ByRole.{account_of, MayDo, ComesNext, MayFollow}
use Rattle.conform.specs.Judged.{IsFit}
use Rattle.conform.specs.Progress.{protocols_in, IsAfter}
use Rattle.conform.specs.Steps.{went, HasGone, HasDone, Sends, Receives, Follows}
use Rattle.conform.proofs.Acting.{same_protocols, may_do, can_do}
use Rattle.conform.proofs.After.{Adds, has_moved}
use Rattle.conform.proofs.Lists.{some_same}
use Rattle.conform.proofs.Told.{sent_more, received_more, sender_acts, receiver_acts}

-- ---- the loads in transit

turned : (t u : Triple) → triple_eq t u ≡ false → triple_eq u t ≡ false
turned t u h = grind (arith, nat_tests)

-- one load more on u
put_on : (qs : List (Triple × List Load)) (t u : Triple) (l : Load) → loads_for (with_loads qs u (loads_for qs u ++ l ∷ [])) t ≡ loads_for qs t ++ load_on t u l
put_on qs t u l = go (triple_eq t u) refl
  where
    go : (b : Bool) → triple_eq t u ≡ b → loads_for (with_loads qs u (loads_for qs u ++ l ∷ [])) t ≡ loads_for qs t ++ (if triple_eq t u then l ∷ [] else [])
    go true e =
        let is = same_triple t u e in
        rw e (subst (λ (w : Triple). loads_for (with_loads qs u (loads_for qs u ++ l ∷ [])) w ≡ loads_for qs w ++ l ∷ []) (sym is) (loads-same qs u (loads_for qs u ++ l ∷ [])))
    go false e = rw e (loads-other qs u t (loads_for qs u ++ l ∷ []) (turned t u e) ∙ sym (append-nil (loads_for qs t)))

-- the first load of u is gone
taken_from : (qs : List (Triple × List Load)) (t u : Triple) (l : Load) → slice_get (loads_for qs u) 0 ≡ Some l → loads_for qs t ≡ load_on t u l ++ loads_for (with_loads qs u (drop 1 (loads_for qs u))) t
taken_from qs t u l first = go (triple_eq t u) refl
  where
    headed : (ls : List Load) → slice_get ls 0 ≡ Some l → ls ≡ l ∷ drop 1 ls
    headed [] h = absurd cc
    headed (k ∷ ks) h = let is : k ≡ l = cc in ap (λ z. z ∷ ks) is

    go : (b : Bool) → triple_eq t u ≡ b → loads_for qs t ≡ (if triple_eq t u then l ∷ [] else []) ++ loads_for (with_loads qs u (drop 1 (loads_for qs u))) t
    go true e =
        let is = same_triple t u e in
        rw e (subst (λ (w : Triple). loads_for qs w ≡ l ∷ loads_for (with_loads qs u (drop 1 (loads_for qs u))) w) (sym is) (headed (loads_for qs u) first ∙ ap (λ ls. l ∷ ls) (sym (loads-same qs u (drop 1 (loads_for qs u))))))
    go false e = rw e (sym (loads-other qs u t (drop 1 (loads_for qs u)) (turned t u e)))

-- ---- what a message adds to its roles' acts

off_number : (n s : ℕ) → n ≢ s → (n == s) ≡ false
off_number n s off = go (n == s) refl
  where
    go : (b : Bool) → (n == s) ≡ b → b ≡ false
    go false e = refl
    go true e = absurd (off (let h : n ≡ s = grind (arith, nat_tests) in h))

sends_one : (pr : Ref → Option NameId) (p s : ℕ) (a b : NameId) (l : Load) (w : Told) → told_load pr l ≡ Some w → Adds pr (Send p s a b l) s a (puts b w)
sends_one pr p s a b l w says = record {
  inside = tt;
  own = sender_acts pr p s a b l w says;
  other_role = λ q off. ap (λ (t : Bool). if t then (if a.0 == q.0 then put_to b (told_load pr l) else []) else []) (true_eq s) ∙ ap (λ (t : Bool). if t then put_to b (told_load pr l) else []) off;
  other_session = λ n off q. ap (λ (t : Bool). if t then sending a b (told_load pr l) q else []) (off_number n s off);
}

receives_one : (pr : Ref → Option NameId) (p s : ℕ) (a b : NameId) (l : Load) (w : Told) → told_load pr l ≡ Some w → Adds pr (Recv p s a b l) s b (gets a w)
receives_one pr p s a b l w says = record {
  inside = tt;
  own = receiver_acts pr p s a b l w says;
  other_role = λ q off. ap (λ (t : Bool). if t then (if b.0 == q.0 then got_from a (told_load pr l) else []) else []) (true_eq s) ∙ ap (λ (t : Bool). if t then got_from a (told_load pr l) else []) off;
  other_session = λ n off q. ap (λ (t : Bool). if t then receiving a b (told_load pr l) q else []) (off_number n s off);
}

-- ---- messages

module _ (f : File) (fit : IsFit f) (h : List Event) (old new : Progress) (a : IsAfter f h old) where
  told_so : (l : Load) (w : Told) → told_load (protocols_in f old.sessions.items) l ≡ Some w → told_load (account_of f h).protocol l ≡ Some w
  told_so l w says = ap (λ (pr : Ref → Option NameId). told_load pr l) (same_protocols f h old a) ∙ says

  gone_so : (s place next : ℕ) (k : SessionView) → slice_get old.sessions.items s ≡ Some k → (g : HasGone old new s place next) → new.sessions.items ≡ slice_set old.sessions.items s (went k place next)
  gone_so s place next k at g =
      let same : g.session ≡ k = some_same g.session k (sym g.started ∙ at) in
      g.sessions ∙ ap (λ (z : SessionView). slice_set old.sessions.items s (went z place next)) same

  sent : (p s : ℕ) (b c : NameId) (l : Load) → HasDone f old new s b (puts c) l (s, b, c) (loads_at old.queues (s, b, c) ++ l ∷ []) → MayFollow f h (Send p s b c l) × IsAfter f (h ++ Send p s b c l ∷ []) new
  sent p s b c l d = (may, has_moved f fit h old new a (Send p s b c l) s b (puts c d.content) d.place d.next (sends_one (account_of f h).protocol p s b c l d.content (told_so l d.content d.says)) d.move (gone_so s d.place d.next d.move.session d.move.started d.gone) d.gone.types may loads)
    where
      may : MayDo f h s b (puts c) l
      may = may_do f h old a s b (puts c) l d.content d.place d.next d.says d.move

      loads : (t : Triple) → sent_on t (h ++ Send p s b c l ∷ []) ≡ received_on t (h ++ Send p s b c l ∷ []) ++ loads_at new.queues t
      loads t =
          sent_more t h (Send p s b c l) ∙ ap (λ z. z ++ load_on t (s, b, c) l) (a.loads t) ∙ append_assoc (received_on t h) (loads_at old.queues t) (load_on t (s, b, c) l)
          ∙ ap (λ z. received_on t h ++ z) (sym (put_on (loads_in old.queues.lanes) t (s, b, c) l) ∙ ap (λ (qs : List (Triple × List Load)). loads_for qs t) (sym d.loads))
          ∙ ap (λ z. z ++ loads_at new.queues t) (sym (received_more t h (Send p s b c l) ∙ append-nil (received_on t h)))

  received : (p s : ℕ) (b c : NameId) (l : Load) → slice_get (loads_at old.queues (s, b, c)) 0 ≡ Some l → HasDone f old new s c (gets b) l (s, b, c) (drop 1 (loads_at old.queues (s, b, c)))
      → MayFollow f h (Recv p s b c l) × IsAfter f (h ++ Recv p s b c l ∷ []) new
  received p s b c l first d =
      ((may, comes), has_moved f fit h old new a (Recv p s b c l) s c (gets b d.content) d.place d.next (receives_one (account_of f h).protocol p s b c l d.content (told_so l d.content d.says)) d.move (gone_so s d.place d.next d.move.session d.move.started d.gone) d.gone.types (may, comes) loads)
    where
      may : MayDo f h s c (gets b) l
      may = may_do f h old a s c (gets b) l d.content d.place d.next d.says d.move

      headed : (ls : List Load) → slice_get ls 0 ≡ Some l → ls ≡ l ∷ drop 1 ls
      headed [] h = absurd cc
      headed (k ∷ ks) h = let is : k ≡ l = cc in ap (λ z. z ∷ ks) is

      comes : ComesNext h (s, b, c) l
      comes = (drop 1 (loads_at old.queues (s, b, c)), a.loads (s, b, c) ∙ ap (λ z. received_on (s, b, c) h ++ z) (headed (loads_at old.queues (s, b, c)) first))

      loads : (t : Triple) → sent_on t (h ++ Recv p s b c l ∷ []) ≡ received_on t (h ++ Recv p s b c l ∷ []) ++ loads_at new.queues t
      loads t =
          sent_more t h (Recv p s b c l) ∙ append-nil (sent_on t h) ∙ a.loads t
          ∙ ap (λ z. received_on t h ++ z) (taken_from (loads_in old.queues.lanes) t (s, b, c) l first ∙ ap (λ (qs : List (Triple × List Load)). load_on t (s, b, c) l ++ loads_for qs t) (sym d.loads))
          ∙ sym (append_assoc (received_on t h) (load_on t (s, b, c) l) (loads_at new.queues t))
          ∙ ap (λ z. z ++ loads_at new.queues t) (sym (received_more t h (Recv p s b c l)))

  pub send_follows : (p s : ℕ) (b c : NameId) (l : Load) (r : Result Bool Memory) → Sends f old (s, b, c) l r new → Follows f h (Send p s b c l) r new
  send_follows p s b c l (Ok true) d = sent p s b c l d
  send_follows p s b c l (Ok false) cannot = λ may. cannot (can_do f h old a fit s b (puts c) l may)
  send_follows p s b c l (Err e) d = tt

  -- what comes next is the first that is kept
  first_kept : (t : Triple) (l : Load) → ComesNext h t l → slice_get (loads_at old.queues t) 0 ≡ Some l
  first_kept t l (more, e) = ap (λ ls. slice_get ls 0) (cancel (received_on t h) (loads_at old.queues t) (l ∷ more) (sym (a.loads t) ∙ e))
    where
      cancel : (xs ys zs : List Load) → xs ++ ys ≡ xs ++ zs → ys ≡ zs
      cancel [] ys zs h = h
      cancel (x ∷ xs) ys zs h = cancel xs ys zs cc

  pub receive_follows : (p s : ℕ) (b c : NameId) (l : Load) (r : Bool) → Receives f old (s, b, c) l r new → Follows f h (Recv p s b c l) (Ok r) new
  receive_follows p s b c l true (first, d) = received p s b c l first d
  receive_follows p s b c l false cannot = λ (may, comes). cannot (first_kept (s, b, c) l comes, can_do f h old a fit s c (gets b) l may)
