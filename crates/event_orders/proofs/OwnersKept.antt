-- Each event of one process keeps that each role has one owner.
use Rattle.std.proofs.Common.{◌≡◌, ◌≢◌, ℕ, zero, suc, ◌≤◌, ◌+◌, Bool, true, false, List, [], ◌∷◌, ◌++◌, refl, sym, ap, ◌∙◌, subst, Option, Some, None, ℤ, arith, inl, inr, ◌⊎◌, if◌then◌else◌}
use Rattle.std.specs.Prelude.{slice_get, slice_set}
use Rattle.std.proofs.lemmas.Bool.{true≢false}
use Rattle.chor_base.specs.declared.value.Load.{Load}
use Rattle.chor_base.specs.declared.event.Event.{Event}
use Rattle.chor_base.specs.Events.{Triple, triple_eq}
use Rattle.endpoint_code.specs.declared.endpoints.Endpoints.{Endpoints}
use Rattle.endpoint_code.specs.Network.{Sessions, Machine, NetworkState, Place, Makes, Taking, Goes, queue_of, loads_for, with_loads, has_room, put_if, went, takes_from, place_of, place_makes, machine_makes, makes}
use Rattle.endpoint_code.specs.Faults.{HasNoNameFault}
use Rattle.endpoint_code.proofs.Queues.{loads-same, loads-other, triple_same}
use Rattle.endpoint_code.proofs.Fifo.{same_triple}
use Rattle.event_orders.specs.EventKinds.{one_if}
use Rattle.event_orders.proofs.Actions.{Action, Alone, Puts, Takes, machine_at, replaced, performs, performs_if, action_at, node_same}
use Rattle.event_orders.proofs.Owners.{SessionRole, part_eq, part_same, part_self, part_cases, Owner, Nobody, Process, Queue, Owners, given, given_same, given_other, queue_has, carries, carried, carried-append, OwnsRoles, HasScopedCode, IsOwned, no_nobody, no_queue, same_process, removed_owned, gained_owned}
use Rattle.event_orders.proofs.OwnersAtNodes.{Sent, Got, KeepsOwners, OwnsPlace, owned_place, action_keeps}

-- ---- one machine is replaced

pub set_cases : (ms : List Machine) (p : ℕ) (w : Machine) (q : ℕ) (v : Machine) → slice_get (slice_set ms p w) q ≡ Some v → ((q ≡ p) × (w ≡ v)) ⊎ ((q ≢ p) × (slice_get ms q ≡ Some v))
set_cases [] p w q v h = absurd cc
set_cases (x ∷ ms) zero w zero v h = inl (refl, cc)
set_cases (x ∷ ms) zero w (suc q) v h = inr ((λ e. omega arith), h)
set_cases (x ∷ ms) (suc p) w zero v h = inr ((λ e. omega arith), h)
set_cases (x ∷ ms) (suc p) w (suc q) v h = go (set_cases ms p w q v h)
  where
    go : ((q ≡ p) × (w ≡ v)) ⊎ ((q ≢ p) × (slice_get ms q ≡ Some v)) → ((suc q ≡ suc p) × (w ≡ v)) ⊎ ((suc q ≢ suc p) × (slice_get ms q ≡ Some v))
    go (inl (a, b)) = inl (ap suc a, b)
    go (inr (a, b)) = inr ((λ e. a (let d : q ≡ p = omega arith in d)), b)

module _ (e : Endpoints) where
  -- the owners after an event of process p, which changes its machine and one queue alone
  after : (n m : NetworkState) (p : ℕ) (w : Machine) (o o' : Owners) → IsOwned e n o → m.machines ≡ slice_set n.machines p w → m.sid ≡ n.sid → HasScopedCode e w → OwnsRoles o' p w.sessions
      → ((q : ℕ) (part : SessionRole) → q ≢ p → o part ≡ Process q → o' part ≡ Process q)
      → ((t : Triple) (part : SessionRole) → carried part (queue_of m t) ≤ queue_has (o' part) t)
      → ((part : SessionRole) → o part ≡ Nobody → o' part ≡ Nobody)
      → IsOwned e m o'
  after n m p w o o' is machines sid st own others queues nobody = record {
    fit = λ q v h. fit q v (set_cases n.machines p w q v (ap (λ (z : List Machine). slice_get z q) (sym machines) ∙ h));
    owned = λ q v h. owned q v (set_cases n.machines p w q v (ap (λ (z : List Machine). slice_get z q) (sym machines) ∙ h));
    queues = queues;
    fresh = λ part le. nobody part (is.fresh part (let s : m.sid ≡ n.sid = sid in omega arith));
  }
    where
      fit : (q : ℕ) (v : Machine) → ((q ≡ p) × (w ≡ v)) ⊎ ((q ≢ p) × (slice_get n.machines q ≡ Some v)) → HasScopedCode e v
      fit q v (inl a) = subst (HasScopedCode e) a.1 st
      fit q v (inr a) = is.fit q v a.1

      owned : (q : ℕ) (v : Machine) → ((q ≡ p) × (w ≡ v)) ⊎ ((q ≢ p) × (slice_get n.machines q ≡ Some v)) → OwnsRoles o' q v.sessions
      owned q v (inl a) = subst (λ (z : ℕ). OwnsRoles o' z v.sessions) (sym a.0) (subst (λ (z : Machine). OwnsRoles o' p z.sessions) a.1 own)
      owned q v (inr a) =
          let old : OwnsRoles o q v.sessions = is.owned q v a.1 in
          record { owns = λ k part g. others q part a.0 (old.owns k part g); single = old.single }

  -- ---- queues

  put_carried : (n : NetworkState) (t u : Triple) (l : Load) (part : SessionRole) → carried part (loads_for (with_loads n.queues t (queue_of n t ++ l ∷ [])) u) ≡ carried part (queue_of n u) + (if triple_eq t u then one_if (carries part l) else 0)
  put_carried n t u l part = go (triple_eq t u) refl
    where
      go : (b : Bool) → triple_eq t u ≡ b → carried part (loads_for (with_loads n.queues t (queue_of n t ++ l ∷ [])) u) ≡ carried part (queue_of n u) + (if b then one_if (carries part l) else 0)
      go true h =
          let is : t ≡ u = same_triple t u h in
          let a : loads_for (with_loads n.queues t (queue_of n t ++ l ∷ [])) u ≡ queue_of n u ++ l ∷ [] =
          subst (λ (z : Triple). loads_for (with_loads n.queues t (queue_of n t ++ l ∷ [])) z ≡ queue_of n z ++ l ∷ []) is (loads-same n.queues t (queue_of n t ++ l ∷ [])) in
          let b = carried-append part (queue_of n u) (l ∷ []) in
          let c : carried part (loads_for (with_loads n.queues t (queue_of n t ++ l ∷ [])) u) ≡ carried part (queue_of n u ++ l ∷ []) = ap (carried part) a in
          omega arith
      go false h = let a = ap (carried part) (loads-other n.queues t u (queue_of n t ++ l ∷ []) h) in omega arith

  take_carried : (n : NetworkState) (t u : Triple) (l : Load) (rest : List Load) (part : SessionRole) → queue_of n t ≡ l ∷ rest → carried part (queue_of n u) ≡ carried part (loads_for (with_loads n.queues t rest) u) + (if triple_eq t u then one_if (carries part l) else 0)
  take_carried n t u l rest part first = go (triple_eq t u) refl
    where
      go : (b : Bool) → triple_eq t u ≡ b → carried part (queue_of n u) ≡ carried part (loads_for (with_loads n.queues t rest) u) + (if b then one_if (carries part l) else 0)
      go true h =
          let is : t ≡ u = same_triple t u h in
          let a : loads_for (with_loads n.queues t rest) u ≡ rest = subst (λ (z : Triple). loads_for (with_loads n.queues t rest) z ≡ rest) is (loads-same n.queues t rest) in
          let b : carried part (loads_for (with_loads n.queues t rest) u) ≡ carried part rest = ap (carried part) a in
          let c : carried part (queue_of n u) ≡ carried part (l ∷ rest) = ap (carried part) (ap (queue_of n) (sym is) ∙ first) in
          omega arith
      go false h = let a = ap (carried part) (loads-other n.queues t u rest h) in omega arith

  -- ---- one process

  pub record OwnedAfter (m : NetworkState) : Type 0 where
    pub owners : Owners
    pub is : IsOwned e m owners

  own_state : {x y : Event} {k m : NetworkState} → Some (Makes y k) ≡ Some (Makes x m) → OwnedAfter k → OwnedAfter m
  own_state {k = k} {m = m} h by = let same : k ≡ m = cc in subst OwnedAfter same by

  module _ (n : NetworkState) (o : Owners) (is : IsOwned e n o) (p : ℕ) (m : Sessions) (own : OwnsRoles o p m) where
    alone_after : (w : Machine) → HasScopedCode e w → w.sessions ≡ m → OwnedAfter (replaced n p w)
    alone_after w st same = record {
      owners = o;
      is = after n (replaced n p w) p w o o is refl refl st (subst (OwnsRoles o p) (sym same) own) (λ q part other h. h) is.queues (λ part h. h);
    }

    sent_after : (t : Triple) (l : Load) (w : Machine) → HasScopedCode e w → Sent m l w.sessions → OwnedAfter (record (replaced n p w) { queues = with_loads n.queues t (queue_of n t ++ l ∷ []) })
    sent_after t l w st (inl (none, same)) = record {
      owners = o;
      is = after n (record (replaced n p w) { queues = with_loads n.queues t (queue_of n t ++ l ∷ []) }) p w o o is refl refl st (subst (OwnsRoles o p) (sym same) own) (λ q part other h. h) queues (λ part h. h);
    }
      where
        queues : (u : Triple) (part : SessionRole) → carried part (loads_for (with_loads n.queues t (queue_of n t ++ l ∷ [])) u) ≤ queue_has (o part) u
        queues u part =
            let a = put_carried n t u l part in
            let b : (if triple_eq t u then one_if (carries part l) else 0) ≡ 0 = go (triple_eq t u) in
            let c = is.queues u part in
            omega arith
          where
            go : (z : Bool) → (if z then one_if (carries part l) else 0) ≡ 0
            go true = ap one_if (none part)
            go false = refl
    sent_after t l w st (inr (h, part, there, load, new)) = record {
      owners = given o part (Queue t);
      is = after n (record (replaced n p w) { queues = with_loads n.queues t (queue_of n t ++ l ∷ []) }) p w o (given o part (Queue t)) is refl refl st
          (subst (OwnsRoles (given o part (Queue t)) p) (sym new) (removed_owned o p m own h part t there)) others queues nobody;
    }
      where
        mine : o part ≡ Process p
        mine = own.owns h part there

        others : (q : ℕ) (other : SessionRole) → q ≢ p → o other ≡ Process q → given o part (Queue t) other ≡ Process q
        others q other differ g = go (part_cases part other)
          where
            go : (part ≡ other) ⊎ (part_eq part other ≡ false) → given o part (Queue t) other ≡ Process q
            go (inl same) = absurd (differ (same_process q p (sym g ∙ ap o (sym same) ∙ mine)))
            go (inr apart) = given_other o part other (Queue t) apart ∙ g

        nobody : (other : SessionRole) → o other ≡ Nobody → given o part (Queue t) other ≡ Nobody
        nobody other g = go (part_cases part other)
          where
            go : (part ≡ other) ⊎ (part_eq part other ≡ false) → given o part (Queue t) other ≡ Nobody
            go (inl same) = absurd (no_nobody p (sym g ∙ ap o (sym same) ∙ mine))
            go (inr apart) = given_other o part other (Queue t) apart ∙ g

        carries_it : (other : SessionRole) → carries other l ≡ part_eq other part
        carries_it other = ap (carries other) load

        queues : (u : Triple) (other : SessionRole) → carried other (loads_for (with_loads n.queues t (queue_of n t ++ l ∷ [])) u) ≤ queue_has (given o part (Queue t) other) u
        queues u other = go (part_cases part other)
          where
            go : (part ≡ other) ⊎ (part_eq part other ≡ false) → carried other (loads_for (with_loads n.queues t (queue_of n t ++ l ∷ [])) u) ≤ queue_has (given o part (Queue t) other) u
            go (inl same) =
                let a = put_carried n t u l other in
                let b : queue_has (o other) u ≡ 0 = ap (λ z. queue_has z u) (ap o (sym same) ∙ mine) in
                let c = is.queues u other in
                let d : one_if (carries other l) ≡ 1 = ap one_if (carries_it other ∙ ap (part_eq other) same ∙ part_self other) in
                let f : queue_has (given o part (Queue t) other) u ≡ one_if (triple_eq t u) = ap (λ z. queue_has z u) (ap (given o part (Queue t)) (sym same) ∙ given_same o part (Queue t)) in
                let g : (if triple_eq t u then one_if (carries other l) else 0) ≡ one_if (triple_eq t u) = at (triple_eq t u) d in
                omega arith
              where
                at : (z : Bool) → one_if (carries other l) ≡ 1 → (if z then one_if (carries other l) else 0) ≡ one_if z
                at true h = h
                at false h = refl
            go (inr apart) =
                let a = put_carried n t u l other in
                let c = is.queues u other in
                let f : queue_has (given o part (Queue t) other) u ≡ queue_has (o other) u = ap (λ z. queue_has z u) (given_other o part other (Queue t) apart) in
                let g : (if triple_eq t u then one_if (carries other l) else 0) ≡ 0 = at (triple_eq t u) in
                omega arith
              where
                turned_part : part_eq other part ≡ false
                turned_part = no_part (part_eq other part) refl
                  where
                    no_part : (z : Bool) → part_eq other part ≡ z → part_eq other part ≡ false
                    no_part false h = h
                    no_part true h = absurd (true≢false (sym (ap (part_eq part) (part_same other part h) ∙ part_self part) ∙ apart))

                at : (z : Bool) → (if z then one_if (carries other l) else 0) ≡ 0
                at true = ap one_if (carries_it other ∙ turned_part)
                at false = refl

    got_after : (t : Triple) (l : Load) (rest : List Load) → queue_of n t ≡ l ∷ rest → (w : Machine) → HasScopedCode e w → Got m l w.sessions → OwnedAfter (record (replaced n p w) { queues = with_loads n.queues t rest })
    got_after t l rest first w st (inl (none, same)) = record {
      owners = o;
      is = after n (record (replaced n p w) { queues = with_loads n.queues t rest }) p w o o is refl refl st (subst (OwnsRoles o p) (sym same) own) (λ q part other h. h)
          (λ u part. (let a = take_carried n t u l rest part first in let c = is.queues u part in omega arith)) (λ part h. h);
    }
    got_after t l rest first w st (inr (h, part, load, new)) = record {
      owners = given o part (Process p);
      is = after n (record (replaced n p w) { queues = with_loads n.queues t rest }) p w o (given o part (Process p)) is refl refl st
          (subst (OwnsRoles (given o part (Process p)) p) (sym new) (gained_owned o p m own h part t queued)) others queues nobody;
    }
      where
        carries_it : (other : SessionRole) → carries other l ≡ part_eq other part
        carries_it other = ap (carries other) load

        one : 1 ≤ queue_has (o part) t
        one =
            let a = take_carried n t t l rest part first in
            let b : (if triple_eq t t then one_if (carries part l) else 0) ≡ 1 = ap (λ (z : Bool). if z then one_if (carries part l) else 0) (triple_same t) ∙ ap one_if (carries_it part ∙ part_self part) in
            let c = is.queues t part in
            omega arith

        queued_at : (w' : Owner) → 1 ≤ queue_has w' t → w' ≡ Queue t
        queued_at Nobody h' = absurd (omega arith)
        queued_at (Process q) h' = absurd (omega arith)
        queued_at (Queue u) h' = go (triple_eq u t) refl h'
          where
            go : (z : Bool) → triple_eq u t ≡ z → 1 ≤ one_if z → Queue u ≡ Queue t
            go true i j = ap Queue (same_triple u t i)
            go false i j = absurd (omega arith)

        queued : o part ≡ Queue t
        queued = queued_at (o part) one

        others : (q : ℕ) (other : SessionRole) → q ≢ p → o other ≡ Process q → given o part (Process p) other ≡ Process q
        others q other differ g = go (part_cases part other)
          where
            go : (part ≡ other) ⊎ (part_eq part other ≡ false) → given o part (Process p) other ≡ Process q
            go (inl same) = absurd (no_queue q t (sym queued ∙ ap o same ∙ g))
            go (inr apart) = given_other o part other (Process p) apart ∙ g

        nobody : (other : SessionRole) → o other ≡ Nobody → given o part (Process p) other ≡ Nobody
        nobody other g = go (part_cases part other)
          where
            go : (part ≡ other) ⊎ (part_eq part other ≡ false) → given o part (Process p) other ≡ Nobody
            go (inl same) = let f : Queue t ≡ Nobody = sym queued ∙ ap o same ∙ g in absurd cc
            go (inr apart) = given_other o part other (Process p) apart ∙ g

        queues : (u : Triple) (other : SessionRole) → carried other (loads_for (with_loads n.queues t rest) u) ≤ queue_has (given o part (Process p) other) u
        queues u other = go (part_cases part other)
          where
            go : (part ≡ other) ⊎ (part_eq part other ≡ false) → carried other (loads_for (with_loads n.queues t rest) u) ≤ queue_has (given o part (Process p) other) u
            go (inl same) =
                let a = take_carried n t u l rest other first in
                let c = is.queues u other in
                let b : queue_has (o other) u ≡ one_if (triple_eq t u) = ap (λ z. queue_has z u) (ap o (sym same) ∙ queued) in
                let d : one_if (carries other l) ≡ 1 = ap one_if (carries_it other ∙ ap (part_eq other) same ∙ part_self other) in
                let g : (if triple_eq t u then one_if (carries other l) else 0) ≡ one_if (triple_eq t u) = at (triple_eq t u) d in
                let f : queue_has (given o part (Process p) other) u ≡ 0 = ap (λ z. queue_has z u) (ap (given o part (Process p)) (sym same) ∙ given_same o part (Process p)) in
                omega arith
              where
                at : (z : Bool) → one_if (carries other l) ≡ 1 → (if z then one_if (carries other l) else 0) ≡ one_if z
                at true k = k
                at false k = refl
            go (inr apart) =
                let a = take_carried n t u l rest other first in
                let c = is.queues u other in
                let f : queue_has (given o part (Process p) other) u ≡ queue_has (o other) u = ap (λ z. queue_has z u) (given_other o part other (Process p) apart) in
                omega arith

    performs_after : (cap : Option ℕ) (d : Action) → KeepsOwners e m d → (x : Event) (k : NetworkState) → performs cap n p d ≡ Some (Makes x k) → OwnedAfter k
    performs_after cap (Alone y w) fine x k h = own_state h (alone_after w fine.0 fine.1)
    performs_after cap (Puts t l w) fine x k h = go (has_room cap (queue_of n t)) h
      where
        go : (b : Bool) → put_if b (replaced n p w) p t l ≡ Some (Makes x k) → OwnedAfter k
        go true i = own_state i (sent_after t l w fine.0 fine.1)
        go false i = absurd cc
    performs_after cap (Takes t f) fine x k h = at_queue (queue_of n t) refl h
      where
        at_load : (l : Load) (rest : List Load) → queue_of n t ≡ l ∷ rest → (u : Option Taking) → f l ≡ u → went n p t l rest u ≡ Some (Makes x k) → OwnedAfter k
        at_load l rest i None g j = absurd cc
        at_load l rest i (Some (Goes next vars ss)) g j = let fl = fine l next vars ss g in own_state j (got_after t l rest i (machine_at next vars ss) fl.0 fl.1)

        at_queue : (q : List Load) → queue_of n t ≡ q → takes_from n p t f q ≡ Some (Makes x k) → OwnedAfter k
        at_queue [] i j = absurd cc
        at_queue (l ∷ rest) i j = at_load l rest i (f l) refl j

  pub act_owned : HasNoNameFault e → (cap : Option ℕ) (n : NetworkState) (o : Owners) → IsOwned e n o → (p : ℕ) (v : ℤ) (x : Event) (k : NetworkState) → makes e cap n p v ≡ Some (Makes x k) → OwnedAfter k
  act_owned faultless cap n o is p v x k h = at_machine (slice_get n.machines p) refl h
    where
      at_action : (w : Machine) → slice_get n.machines p ≡ Some w → (q : Place) → place_of e w ≡ Some q → (u : Option Action) → action_at p v w.vars q.sessions q.node ≡ u → performs_if cap n p u ≡ Some (Makes x k) → OwnedAfter k
      at_action w i q j None l g = absurd cc
      at_action w i q j (Some d) l g =
          let st : OwnsPlace e o p q = owned_place e faultless o p w (is.fit p w i) (is.owned p w i) q j in
          let stand : HasScopedCode e w = is.fit p w i in
          performs_after n o is p q.sessions st.owned cap d (action_keeps e o p v w.vars q st stand.plain d l) x k g

      at_place : (w : Machine) → slice_get n.machines p ≡ Some w → (u : Option Place) → place_of e w ≡ u → place_makes cap n p v w.vars u ≡ Some (Makes x k) → OwnedAfter k
      at_place w i None j g = absurd cc
      at_place w i (Some q) j g = at_action w i q j (action_at p v w.vars q.sessions q.node) refl (sym (node_same cap n p v w.vars q.sessions q.node) ∙ g)

      at_machine : (u : Option Machine) → slice_get n.machines p ≡ u → machine_makes e cap n p v u ≡ Some (Makes x k) → OwnedAfter k
      at_machine None i g = absurd cc
      at_machine (Some w) i g = at_place w i (place_of e w) refl g
