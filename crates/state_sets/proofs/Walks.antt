-- Paths of a protocol as one role sees them: silent parts, and the states right after an action.
use Rattle.std.proofs.Common.{ℕ, ◌≡◌, List, [], ◌∷◌, ◌++◌, Bool, true, false, refl, ap, sym, subst, ◌∙◌, append_assoc, inl, inr}
use Rattle.std.specs.Prelude.{◌==◌}
use Rattle.std.proofs.lemmas.List.{same_from_push, append-nil}
use Rattle.chor_base.specs.declared.names.NameId.{NameId}
use Rattle.chor_tree.specs.declared.protocol.State.{State}
use Rattle.global_types.specs.Moves.{Exchange, passes, chooses, Leads}
use Rattle.state_sets.specs.Table.{Silent}
use Rattle.global_types.specs.Paths.{IsPath, Action, sends, receives, selects, offers, action_in, actions_of, IsView, Still, At}

-- ---- lists

pub nil_not_push : {A : Type 0} (xs : List A) (x : A) → xs ++ x ∷ [] ≡ [] → ⊥
nil_not_push [] x h = cc
nil_not_push (y ∷ xs) x h = cc

-- ---- paths

pub path_append : (ss : List State) (i : ℕ) (xs : List Exchange) (j : ℕ) (ys : List Exchange) (k : ℕ) → IsPath ss i xs j → IsPath ss j ys k → IsPath ss i (xs ++ ys) k
path_append ss i [] j ys k p q = subst (λ n. IsPath ss n ys k) (sym p) q
path_append ss i (x ∷ xs) j ys k p q = (p.0, p.1, path_append ss p.0 xs j ys k p.2 q)

pub actions-append : (r : NameId) (xs ys : List Exchange) → actions_of r (xs ++ ys) ≡ actions_of r xs ++ actions_of r ys
actions-append r [] ys = refl
actions-append r (x ∷ xs) ys = ap (λ l. action_in r x ++ l) (actions-append r xs ys) ∙ sym (append_assoc (action_in r x) (actions_of r xs) (actions_of r ys))

-- a role has one action in an exchange, or none
pub data Acts (r : NameId) (x : Exchange) : Type 0 where
  silent : action_in r x ≡ [] → Acts r x
  acts : (a : Action) → action_in r x ≡ a ∷ [] → Acts r x

pub acts_or_not : (r : NameId) (x : Exchange) → Acts r x
acts_or_not r (passes a b c) = go (a.0 == r.0) (b.0 == r.0) refl refl where
  go : (p q : Bool) → (a.0 == r.0) ≡ p → (b.0 == r.0) ≡ q → Acts r (passes a b c)
  go true q e f = acts (sends b c) (rw e refl)
  go false true e f = acts (receives a c) (rw (e, f) refl)
  go false false e f = silent (rw (e, f) refl)
acts_or_not r (chooses a b l) = go (a.0 == r.0) (b.0 == r.0) refl refl where
  go : (p q : Bool) → (a.0 == r.0) ≡ p → (b.0 == r.0) ≡ q → Acts r (chooses a b l)
  go true q e f = acts (selects b l) (rw e refl)
  go false true e f = acts (offers a l) (rw (e, f) refl)
  go false false e f = silent (rw (e, f) refl)

-- ---- silent paths

pub silent_here : (ss : List State) (r : NameId) (i : ℕ) → Silent ss r i i
silent_here ss r i = record { path = []; is_path = refl; none = refl }

pub silent_trans : (ss : List State) (r : NameId) (i j k : ℕ) → Silent ss r i j → Silent ss r j k → Silent ss r i k
silent_trans ss r i j k p q = record {
  path = p.path ++ q.path;
  is_path = path_append ss i p.path j q.path k p.is_path q.is_path;
  none = actions-append r p.path q.path ∙ ap (λ l. l ++ actions_of r q.path) p.none ∙ q.none;
}

pub silent_one : (ss : List State) (r : NameId) (i j : ℕ) (x : Exchange) → Leads ss i x j → action_in r x ≡ [] → Silent ss r i j
silent_one ss r i j x l e = record { path = x ∷ []; is_path = (j, l, refl); none = append-nil (action_in r x) ∙ e }

pub still_silent : (ss : List State) (r : NameId) (w : List Action) (i j : ℕ) → Still ss r w i → Silent ss r i j → Still ss r w j
still_silent ss r w i j s q = record {
  path = s.path ++ q.path;
  is_path = path_append ss 0 s.path i q.path j s.is_path q.is_path;
  actions = actions-append r s.path q.path ∙ ap (λ l. l ++ actions_of r q.path) s.actions ∙ ap (λ l. w ++ l) q.none ∙ append-nil w;
}

-- ---- right after an action

pub still_acts : (ss : List State) (r : NameId) (w : List Action) (i j : ℕ) (x : Exchange) (a : Action) → Still ss r w i → Leads ss i x j → action_in r x ≡ a ∷ [] → Still ss r (w ++ a ∷ []) j
still_acts ss r w i j x a s l e = record {
  path = s.path ++ x ∷ [];
  is_path = path_append ss 0 s.path i (x ∷ []) j s.is_path (j, l, refl);
  actions = actions-append r s.path (x ∷ []) ∙ ap (λ l. l ++ actions_of r (x ∷ [])) s.actions ∙ ap (λ l. w ++ l) (append-nil (action_in r x) ∙ e);
}

pub at_is_still : (ss : List State) (r : NameId) (w : List Action) (j : ℕ) → At ss r w j → Still ss r w j
at_is_still ss r w j (inl h) = record { path = []; is_path = sym h.1; actions = sym h.0 }
at_is_still ss r w j (inr h) = subst (λ v. Still ss r v j) (sym h.parts) (still_acts ss r h.before h.from j h.exchange h.action h.still h.leads h.does)

pub at_after : (ss : List State) (r : NameId) (w : List Action) (i j : ℕ) (x : Exchange) (a : Action) → Still ss r w i → Leads ss i x j → action_in r x ≡ a ∷ [] → At ss r (w ++ a ∷ []) j
at_after ss r w i j x a s l e = inr (record { before = w; action = a; from = i; exchange = x; parts = refl; still = s; does = e; leads = l })

-- where the last action came from
pub record Before (ss : List State) (r : NameId) (w : List Action) (a : Action) (j : ℕ) : Type 0 where
  pub from : ℕ
  pub exchange : Exchange
  pub still : Still ss r w from
  pub leads : Leads ss from exchange j
  pub does : action_in r exchange ≡ a ∷ []

pub at_before : (ss : List State) (r : NameId) (w : List Action) (a : Action) (j : ℕ) → At ss r (w ++ a ∷ []) j → Before ss r w a j
at_before ss r w a j (inl h) = absurd (nil_not_push w a h.0)
at_before ss r w a j (inr h) =
    let p = same_from_push w h.before a h.action h.parts in
    record { from = h.from; exchange = h.exchange; still = subst (λ v. Still ss r v h.from) (sym p.0) h.still; leads = h.leads; does = h.does ∙ ap (λ b. b ∷ []) (sym p.1) }

-- silently from a state right after the last action
pub record Tail (ss : List State) (r : NameId) (w : List Action) (j : ℕ) : Type 0 where
  pub after : ℕ
  pub is_at : At ss r w after
  pub silent : Silent ss r after j

pub tail_is_still : (ss : List State) (r : NameId) (w : List Action) (j : ℕ) → Tail ss r w j → Still ss r w j
tail_is_still ss r w j t = still_silent ss r w t.after j (at_is_still ss r w t.after t.is_at) t.silent

tail_path : (ss : List State) (r : NameId) (w : List Action) (i : ℕ) (xs : List Exchange) (k : ℕ) → Tail ss r w i → IsPath ss i xs k → Tail ss r (w ++ actions_of r xs) k
tail_path ss r w i [] k t p = subst (λ v. Tail ss r v k) (sym (append-nil w)) (subst (λ n. Tail ss r w n) p t)
tail_path ss r w i (x ∷ xs) k t p = go (acts_or_not r x) (λ v h. tail_path ss r v p.0 xs k h p.2) where
  go : Acts r x → ((v : List Action) → Tail ss r v p.0 → Tail ss r (v ++ actions_of r xs) k) → Tail ss r (w ++ (action_in r x ++ actions_of r xs)) k
  go (silent e) hyp =
      let next : Tail ss r w p.0 = record { after = t.after; is_at = t.is_at; silent = silent_trans ss r t.after i p.0 t.silent (silent_one ss r i p.0 x p.1 e) } in
      rw e (hyp w next)
  go (acts a e) hyp =
      let next : Tail ss r (w ++ a ∷ []) p.0 = record { after = p.0; is_at = at_after ss r w i p.0 x a (tail_is_still ss r w i t) p.1 e; silent = silent_here ss r p.0 } in
      rw e (subst (λ v. Tail ss r v k) (append_assoc w (a ∷ []) (actions_of r xs)) (hyp (w ++ a ∷ []) next))

pub still_is_tail : (ss : List State) (r : NameId) (w : List Action) (k : ℕ) → Still ss r w k → Tail ss r w k
still_is_tail ss r w k s =
    let first : Tail ss r [] 0 = record { after = 0; is_at = inl (refl, refl); silent = silent_here ss r 0 } in
    subst (λ v. Tail ss r v k) s.actions (tail_path ss r [] 0 s.path k first s.is_path)

-- ---- the view

-- some state is right after w
pub record Reached (ss : List State) (r : NameId) (w : List Action) : Type 0 where
  pub state : ℕ
  pub is_at : At ss r w state

pub still_is_reached : (ss : List State) (r : NameId) (w : List Action) (k : ℕ) → Still ss r w k → Reached ss r w
still_is_reached ss r w k s = let t = still_is_tail ss r w k s in record { state = t.after; is_at = t.is_at }

reached_before : (ss : List State) (r : NameId) (w : List Action) (a : Action) → Reached ss r (w ++ a ∷ []) → Reached ss r w
reached_before ss r w a h = let b = at_before ss r w a h.state h.is_at in still_is_reached ss r w b.from b.still

pub reached_front : (ss : List State) (r : NameId) (rest w : List Action) → Reached ss r (w ++ rest) → Reached ss r w
reached_front ss r [] w h = subst (λ v. Reached ss r v) (append-nil w) h
reached_front ss r (a ∷ rest) w h = reached_before ss r w a (reached_front ss r rest (w ++ a ∷ []) (subst (λ v. Reached ss r v) (sym (append_assoc w (a ∷ []) rest)) h))

pub view_is_reached : (ss : List State) (r : NameId) (w : List Action) → IsView ss r w → Reached ss r w
view_is_reached ss r w v =
    reached_front ss r v.rest w (still_is_reached ss r (w ++ v.rest) v.last (record { path = v.path; is_path = v.is_path; actions = v.begins }))

pub reached_is_view : (ss : List State) (r : NameId) (w : List Action) → Reached ss r w → IsView ss r w
reached_is_view ss r w h =
    let s = at_is_still ss r w h.state h.is_at in
    record { path = s.path; last = h.state; rest = []; is_path = s.is_path; begins = s.actions ∙ sym (append-nil w) }
