-- The states of a type are those of the role's view, and only their numbers are free.
use Rattle.std.proofs.Common.{ℕ, ◌≡◌, List, [], ◌∷◌, ◌++◌, refl, sym, subst}
use Rattle.std.specs.Prelude.{◌↔◌, Some, slice_get}
use Rattle.chor_base.specs.declared.names.NameId.{NameId}
use Rattle.chor_tree.specs.declared.protocol.State.{State}
use Rattle.global_types.specs.Moves.{IsIn}
use Rattle.global_types.specs.Paths.{Action, IsView, At}
use Rattle.local_types.specs.declared.local_type.LocalState.{LocalState}
use Rattle.local_types.specs.Reading.{acts_of, LeadsTo, AreSame, IsTypeOf}
use Rattle.local_types.specs.Numbers.{AreMatched, IsCarriedOver}

-- ---- lists of actions one after the other

pub leads_append : (ts : List LocalState) (n m k : ℕ) (v w : List Action) → LeadsTo ts n v m → LeadsTo ts m w k → LeadsTo ts n (v ++ w) k
leads_append ts n m k [] w p q = subst (λ l. LeadsTo ts l w k) (sym p) q
leads_append ts n m k (a ∷ v) w p q = (p.0, p.1, p.2, p.3, leads_append ts p.2 m k v w p.4 q)

leads_split : (ts : List LocalState) (n k : ℕ) (v w : List Action) → LeadsTo ts n (v ++ w) k → (m : ℕ) × LeadsTo ts n v m × LeadsTo ts m w k
leads_split ts n k [] w p = (n, refl, p)
leads_split ts n k (a ∷ v) w p = let q = leads_split ts p.2 k v w p.4 in (q.0, (p.0, p.1, p.2, p.3, q.1), q.2)

-- ---- laws of one type

pub view_leads : (ss : List State) (r : NameId) (ts : List LocalState) (w : List Action) → IsTypeOf ss r ts → (IsView ss r w) ↔ ((n : ℕ) × (t : LocalState) × LeadsTo ts 0 w n × (slice_get ts n ≡ Some t))
view_leads ss r ts w h = (there, back) where
  there : IsView ss r w → (n : ℕ) × (t : LocalState) × LeadsTo ts 0 w n × (slice_get ts n ≡ Some t)
  there v = let p = (h.view w).1 v in let t = h.there w p.0 p.1 in (p.0, t.0, p.1, t.1)

  back : (n : ℕ) × (t : LocalState) × LeadsTo ts 0 w n × (slice_get ts n ≡ Some t) → IsView ss r w
  back p = (h.view w).0 (p.0, p.2)

pub one_state : (ss : List State) (r : NameId) (ts : List LocalState) (w : List Action) (n m : ℕ) → IsTypeOf ss r ts → LeadsTo ts 0 w n → LeadsTo ts 0 w m → n ≡ m
one_state ss r ts w n m h p q = (h.told w w n m p q).1 (λ i. (λ x. x, λ x. x))

pub told_apart : (ss : List State) (r : NameId) (ts : List LocalState) (v w : List Action) (n m : ℕ) → IsTypeOf ss r ts → LeadsTo ts 0 v n → LeadsTo ts 0 w m → (n ≡ m) ↔ AreSame (At ss r v) (At ss r w)
told_apart ss r ts v w n m h p q = h.told v w n m p q

-- ---- two types of one role

pub carried_over : (ss : List State) (r : NameId) (ts us : List LocalState) → IsTypeOf ss r ts → IsTypeOf ss r us → IsCarriedOver ts us
carried_over ss r ts us h g = record {
  every = λ n t at. let w = h.led n t at in let p = read w.0 n w.1 in (p.0, (w.0, w.1, p.1));
  one = λ n m k p q. (g.told p.0 q.0 m k p.2 q.2).1 ((h.told p.0 q.0 n n p.1 q.1).0 refl);
  goes_on = λ n m k t a p at among. goes n m k t a p.0 p.1 p.2 at among;
}
  where
    read : (w : List Action) (n : ℕ) → LeadsTo ts 0 w n → (m : ℕ) × LeadsTo us 0 w m
    read w n p = (g.view w).1 ((h.view w).0 (n, p))

    goes : (n m k : ℕ) (t : LocalState) (a : Action) (w : List Action) → LeadsTo ts 0 w n → LeadsTo us 0 w m → slice_get ts n ≡ Some t → IsIn (a, k) (acts_of t)
        → (u : LocalState) × (slice_get us m ≡ Some u) × (l : ℕ) × IsIn (a, l) (acts_of u) × AreMatched ts us k l
    goes n m k t a w p q at among =
        let longer = leads_append ts 0 n k w (a ∷ []) p (t, at, k, among, refl) in
        let o = read (w ++ a ∷ []) k longer in
        let s = leads_split us 0 o.0 w (a ∷ []) o.1 in
        let same : s.0 ≡ m = one_state ss r us w s.0 m g s.1 q in
        let step = s.2 in
        (step.0, subst (λ i. slice_get us i ≡ Some step.0) same step.1, step.2, step.3, (w ++ a ∷ [], longer, subst (λ i. LeadsTo us 0 (w ++ a ∷ []) i) (sym step.4) o.1))
