-- What a role has done, read from its local type.
use Rattle.std.proofs.Common.{◌≡◌, ℕ, List, [], ◌∷◌, ◌++◌, Some, refl, sym, ap, ◌∙◌, subst, inl}
use Rattle.std.specs.Prelude.{◌↔◌, slice_get}
use Rattle.chor_base.specs.declared.names.NameId.{NameId}
use Rattle.chor_tree.specs.declared.protocol.State.{State}
use Rattle.global_types.specs.Moves.{IsIn}
use Rattle.global_types.specs.Paths.{Action}
use Rattle.local_types.specs.declared.local_type.LocalState.{LocalState}
use Rattle.local_types.specs.declared.local_type.LocalState.TheVariants.{End}
use Rattle.local_types.specs.Reading.{acts_of, LeadsTo, IsTypeOf}
use Rattle.typed_sources.specs.Told.{Act}
use Rattle.conform.specs.ByRole.{FollowsView, HasDoneAll}
use Rattle.conform.specs.Laws.{IsReadTo}

-- one action more is read from the state after the others
pub one_more : (ts : List LocalState) (w : List Action) (a : Action) (i n k : ℕ) (t : LocalState) → LeadsTo ts i w n → slice_get ts n ≡ Some t → IsIn (a, k) (acts_of t) → LeadsTo ts i (w ++ a ∷ []) k
one_more ts [] a i n k t same at more = (t, ap (slice_get ts) same ∙ at, k, more, refl)
one_more ts (x ∷ w) a i n k t (u, there, j, in_u, rest) at more = (u, there, j, in_u, one_more ts w a j n k t rest at more)

pub last_of : (ts : List LocalState) (w : List Action) (a : Action) (i k : ℕ) → LeadsTo ts i (w ++ a ∷ []) k → (n : ℕ) × LeadsTo ts i w n × ((t : LocalState) × (slice_get ts n ≡ Some t) × IsIn (a, k) (acts_of t))
last_of ts [] a i k (t, there, j, in_t, same) = (i, refl, (t, there, subst (λ (m : ℕ). IsIn (a, m) (acts_of t)) same in_t))
last_of ts (x ∷ w) a i k (t, there, j, in_t, rest) = let m = last_of ts w a j k rest in (m.0, (t, there, j, in_t, m.1), m.2)

module _ (ss : List State) (r : NameId) (ts : List LocalState) (is : IsTypeOf ss r ts) (done : List Act) where
  pub follows_read : FollowsView ss r done ↔ ((n : ℕ) × IsReadTo ts done n)
  follows_read = (to, back)
    where
      to : FollowsView ss r done → (n : ℕ) × IsReadTo ts done n
      to w = let m = (is.view w.actions).1 w.view in (m.0, record { actions = w.actions; leads = m.1; told = w.told })

      back : (n : ℕ) × IsReadTo ts done n → FollowsView ss r done
      back (n, w) = record { actions = w.actions; view = (is.view w.actions).0 (n, w.leads); told = w.told }

  no_acts : (n : ℕ) (t : LocalState) → slice_get ts n ≡ Some t → ((a : Action) (k : ℕ) → IsIn (a, k) (acts_of t) → ⊥) → t ≡ End
  no_acts n t at none = (is.ends n t at).1 (empty (acts_of t) none)
    where
      empty : (xs : List (Action × ℕ)) → ((a : Action) (k : ℕ) → IsIn (a, k) xs → ⊥) → xs ≡ []
      empty [] none = refl
      empty (x ∷ xs) none = absurd (none x.0 x.1 (inl refl))

  pub ends_read : HasDoneAll ss r done ↔ ((n : ℕ) × IsReadTo ts done n × (slice_get ts n ≡ Some End))
  ends_read = (to, back)
    where
      to : HasDoneAll ss r done → (n : ℕ) × IsReadTo ts done n × (slice_get ts n ≡ Some End)
      to w =
          let m = (is.view w.actions).1 w.view in
          let t = is.there w.actions m.0 m.1 in
          let over : t.0 ≡ End = no_acts m.0 t.0 t.1 (λ a k more. w.no_more a ((is.view (w.actions ++ a ∷ [])).0 (k, one_more ts w.actions a 0 m.0 k t.0 m.1 t.1 more))) in
          (m.0, record { actions = w.actions; leads = m.1; told = w.told }, t.1 ∙ ap Some over)

      -- a list of actions leads to one state
      back : (n : ℕ) × IsReadTo ts done n × (slice_get ts n ≡ Some End) → HasDoneAll ss r done
      back (n, w, at) = record {
        actions = w.actions;
        view = (is.view w.actions).0 (n, w.leads);
        told = w.told;
        no_more = λ a v.
            let m = (is.view (w.actions ++ a ∷ [])).1 v in
            let l = last_of ts w.actions a 0 m.0 m.1 in
            let same : l.0 ≡ n = (is.told w.actions w.actions l.0 n l.1 w.leads).1 (λ i. (λ h. h, λ h. h)) in
            let here : Some l.2.0 ≡ Some End = sym l.2.1 ∙ ap (slice_get ts) same ∙ at in
            let over : l.2.0 ≡ End = cc in
            subst (λ (t : LocalState). IsIn (a, m.0) (acts_of t)) over l.2.2;
      }
