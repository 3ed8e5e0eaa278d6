-- What a node of a source changes is what it changes at its choreography.
use Rattle.std.proofs.Common.{◌≡◌, ℕ, List, [], ◌∷◌, ◌++◌, refl, sym, ap, ◌∙◌, subst, Some, None, Option, Bool, true, false, ◌==◌, ◌&&◌, ◌||◌, if◌then◌else◌}
use Rattle.std.proofs.lemmas.Bool.{eqb-true, and_parts}
use Rattle.chor_base.specs.declared.names.NameId.{NameId}
use Rattle.chor_base.specs.declared.value.Sort.{Sort}
use Rattle.chor_tree.specs.declared.file.File.{File}
use Rattle.chor_tree.specs.declared.protocol.State.{State}
use Rattle.chor_tree.specs.Names.{Scope, first_named}
use Rattle.chor_semantics.specs.Choreography.{ref_eq}
use Rattle.global_types.specs.Moves.{IsIn, Exchange as Move, exchanges_of, state_named}
use Rattle.well_formed.proofs.References.{same_name, true_eq, self_ref}
use Rattle.delegation.specs.declared.held.Held.{Held}
use Rattle.delegation.specs.Owners.{is_role as role_is, holder_of, holds_some, passed}
use Rattle.typing_rules.specs.declared.standings.Standing.{Standing}
use Rattle.typing_rules.specs.Environment.{Environment, standing_of, moved, set_at}
use Rattle.typed_sources.specs.Told.{Act}
use Rattle.typed_sources.specs.Context.{Context, Hands, handed, SetsSort, put_sort, with_setting, more_in}
use Rattle.typed_sources.proofs.Small.{append_nil}
use Rattle.typed_sources.specs.Stands.{Reached, at, holder_at, protocol_at, Stands, states_in}
use Rattle.typed_sources.proofs.Advances.{acts_in, advance}
use Rattle.typed_sources.proofs.Checked.{some_is}

-- ---- names as references

pub at_same : (x y : NameId) → ref_eq (at x) (at y) ≡ (x.0 == y.0)
at_same x y = go (x.0 == y.0)
  where
    go : (b : Bool) → (b && true) ≡ b
    go true = refl
    go false = refl

pub at_is : (x y : NameId) → at x ≡ at y → x ≡ y
at_is x y h = let e : x.0 ≡ y.0 = cc in λ i. record { 0 = e i }

-- ---- a session in another state

abbrev pub with_state : NameId → Option Standing → Option Standing
with_state m None = None
with_state m (Some s) = Some (record s { state = m })

pub standing_moved : (ss : List Standing) (k m s : NameId) → standing_of (moved ss k m) s ≡ (if s.0 == k.0 then with_state m (standing_of ss s) else standing_of ss s)
standing_moved [] k m s = go (s.0 == k.0)
  where
    go : (b : Bool) → ◌≡◌ {A = Option Standing} None (if b then None else None)
    go true = refl
    go false = refl
standing_moved (x ∷ xs) k m s = go (x.session.0 == k.0) (x.session.0 == s.0) (s.0 == k.0) refl refl refl (standing_moved xs k m s)
  where
    clash : (b : Bool) → b ≡ true → b ≡ false → ⊥
    clash b i j = cc

    go : (a b c : Bool) → (x.session.0 == k.0) ≡ a → (x.session.0 == s.0) ≡ b → (s.0 == k.0) ≡ c
        → standing_of (moved xs k m) s ≡ (if c then with_state m (standing_of xs s) else standing_of xs s)
        → (if (if a then record x { state = m } else x).session.0 == s.0 then Some (if a then record x { state = m } else x) else standing_of (moved xs k m) s)
        ≡ (if c then with_state m (if b then Some x else standing_of xs s) else (if b then Some x else standing_of xs s))
    go true true true i j l ih = ap (λ (b : Bool). if b then Some (record x { state = m }) else standing_of (moved xs k m) s) j
    go true false c i j l ih = ap (λ (b : Bool). if b then Some (record x { state = m }) else standing_of (moved xs k m) s) j ∙ ih
    go true true false i j l ih = let e = eqb-true x.session.0 k.0 i in let f = eqb-true x.session.0 s.0 j in absurd (clash (s.0 == k.0) (ap (λ z. z == k.0) (sym f ∙ e) ∙ true_eq k.0) l)
    go false true false i j l ih = ap (λ (b : Bool). if b then Some x else standing_of (moved xs k m) s) j
    go false false c i j l ih = ap (λ (b : Bool). if b then Some x else standing_of (moved xs k m) s) j ∙ ih
    go false true true i j l ih = let e = eqb-true s.0 k.0 l in let f = eqb-true x.session.0 s.0 j in absurd (clash (x.session.0 == k.0) (ap (λ z. z == k.0) (f ∙ e) ∙ true_eq k.0) i)

protocol_moved : (ss : List Standing) (k m s : NameId) → protocol_at (standing_of (moved ss k m) s) ≡ protocol_at (standing_of ss s)
protocol_moved ss k m s = ap protocol_at (standing_moved ss k m s) ∙ go (s.0 == k.0) (standing_of ss s)
  where
    go : (b : Bool) (o : Option Standing) → protocol_at (if b then with_state m o else o) ≡ protocol_at o
    go false o = refl
    go true None = refl
    go true (Some x) = refl

module _ (f : File) (scope : Scope) where
  -- one exchange of a session
  pub moves : (e : Environment) (d : Context) → Stands f scope e d → (k m : NameId) (st : Standing) (state : State) (x : Move) (j : ℕ) (more : NameId → List Act)
      → standing_of e.standings k ≡ Some st → first_named (λ s. s.name) (states_in f st.protocol) st.state ≡ Some state → IsIn (x, m) (exchanges_of state.step)
      → state_named (states_in f st.protocol) m ≡ Some j → ((r : NameId) → more r ≡ acts_in r x)
      → Stands f scope (record e { standings = moved e.standings k m }) (record d { done = more_in (at k) more d.done })
  moves e d t k m st state x j more is here allowed there acts = record {
    known = t.known;
    sorts = t.sorts;
    holder = t.holder;
    one_role = t.one_role;
    of_source = t.of_source;
    deeper = t.deeper;
    protocol = λ s. t.protocol s ∙ sym (protocol_moved e.standings k m s);
    reached = λ s u h. go s u (s.0 == k.0) refl (sym (standing_moved e.standings k m s) ∙ h);
    held = λ s r h. t.held s r (back (s.0 == k.0) (standing_of e.standings s) (sym (standing_moved e.standings k m s) ∙ h));
  }
    where
      back : (b : Bool) (o : Option Standing) → (if b then with_state m o else o) ≡ None → o ≡ None
      back false o i = i
      back true None i = refl
      back true (Some z) i = absurd cc

      old_done : (s : NameId) → (s.0 == k.0) ≡ false → (r : NameId) → d.done (at s) r ≡ more_in (at k) more d.done (at s) r
      old_done s i r = sym (append_nil (d.done (at s) r)) ∙ ap (λ b. d.done (at s) r ++ (if b then more r else [])) (sym (at_same s k ∙ i))

      new_done : (r : NameId) → more_in (at k) more d.done (at k) r ≡ d.done (at k) r ++ acts_in r x
      new_done r = ap (λ b. d.done (at k) r ++ (if b then more r else [])) (self_ref (at k)) ∙ ap (λ l. d.done (at k) r ++ l) (acts r)

      go : (s : NameId) (u : Standing) (b : Bool) → (s.0 == k.0) ≡ b → (if b then with_state m (standing_of e.standings s) else standing_of e.standings s) ≡ Some u
          → Reached (states_in f u.protocol) (more_in (at k) more d.done (at s)) u.state
      go s u false i h = let w = t.reached s u h in subst (λ l. Reached (states_in f u.protocol) l u.state) (λ z r. old_done s i r z) w
      go s u true i h =
          let same : s ≡ k = same_name s k i in
          let pair : record st { state = m } ≡ u = some_is _ _ (ap (with_state m) (sym (ap (standing_of e.standings) same ∙ is)) ∙ h) in
          let w = advance (states_in f st.protocol) (d.done (at k)) (more_in (at k) more d.done (at k)) st.state m state x j (t.reached k st is) here allowed there new_done in
          subst (λ y. Reached (states_in f u.protocol) (more_in (at k) more d.done (at y)) u.state) (sym same)
          (subst (λ y. Reached (states_in f y.protocol) (more_in (at k) more d.done (at k)) y.state) pair w)

  -- a variable
  pub sets : (e : Environment) (d : Context) → Stands f scope e d → (q y : NameId) (s : Sort) (o : Option Sort) → o ≡ Some s
      → Stands f scope (record e { sorts = set_at e.sorts q y s }) (record d { sorts = with_setting (SetsSort (at q) y o) d.sorts })
  sets e d t q y s o is = record {
    known = t.known;
    holder = t.holder;
    held = t.held;
    one_role = t.one_role;
    of_source = t.of_source;
    deeper = t.deeper;
    protocol = t.protocol;
    reached = t.reached;
    sorts = λ x. ap (λ (b : Bool). if b then put_sort y o (d.sorts (at x)) else d.sorts (at x)) (at_same x q)
        ∙ ap (λ z. if x.0 == q.0 then put_sort y o z else z) (t.sorts x)
        ∙ ap (λ z. if x.0 == q.0 then put_sort y z (e.sorts x) else e.sorts x) is;
  }

  -- ---- a role that is handed over

  pub passed_other : (hs : List Held) (k r q s a : NameId) → ((s.0 == k.0) && (a.0 == r.0)) ≡ false → holder_of (passed hs k r q) s a ≡ holder_of hs s a
  passed_other [] k r q s a h = refl
  passed_other (x ∷ xs) k r q s a h = go (role_is k r x) (role_is s a x) refl refl (passed_other xs k r q s a h)
    where
      clash : (b : Bool) → b ≡ true → b ≡ false → ⊥
      clash b i j = cc

      go : (u v : Bool) → role_is k r x ≡ u → role_is s a x ≡ v → holder_of (passed xs k r q) s a ≡ holder_of xs s a
          → (if role_is s a (if u then record x { process = q } else x) then Some (if u then record x { process = q } else x).process else holder_of (passed xs k r q) s a) ≡ (if v then Some x.process else holder_of xs s a)
      go false v i j ih = ap (λ (b : Bool). if b then Some x.process else holder_of (passed xs k r q) s a) j ∙ ap (λ z. if v then Some x.process else z) ih
      go true false i j ih = ap (λ (b : Bool). if b then Some q else holder_of (passed xs k r q) s a) j ∙ ih
      go true true i j ih =
          let w = and_parts _ _ i in
          let u = and_parts _ _ j in
          let p = eqb-true x.session.0 k.0 w.0 in
          let p' = eqb-true x.session.0 s.0 u.0 in
          let z = eqb-true x.role.0 r.0 w.1 in
          let z' = eqb-true x.role.0 a.0 u.1 in
          absurd (clash ((s.0 == k.0) && (a.0 == r.0)) (ap (λ n. (n == k.0) && (a.0 == r.0)) (sym p' ∙ p) ∙ ap (λ n. (k.0 == k.0) && (n == r.0)) (sym z' ∙ z) ∙ ap (λ b. b && (r.0 == r.0)) (true_eq k.0) ∙ true_eq r.0) h)

  pub passed_this : (hs : List Held) (k r q p : NameId) → holder_of hs k r ≡ Some p → holder_of (passed hs k r q) k r ≡ Some q
  passed_this [] k r q p h = absurd cc
  passed_this (x ∷ xs) k r q p h = go (role_is k r x) refl h (passed_this xs k r q p)
    where
      go : (u : Bool) → role_is k r x ≡ u → (if u then Some x.process else holder_of xs k r) ≡ Some p → (holder_of xs k r ≡ Some p → holder_of (passed xs k r q) k r ≡ Some q)
          → (if role_is k r (if u then record x { process = q } else x) then Some (if u then record x { process = q } else x).process else holder_of (passed xs k r q) k r) ≡ Some q
      go true i j ih = ap (λ (b : Bool). if b then Some q else holder_of (passed xs k r q) k r) i
      go false i j ih = ap (λ (b : Bool). if b then Some x.process else holder_of (passed xs k r q) k r) i ∙ ih j

  pub holds_one : (hs : List Held) (k r p : NameId) → holder_of hs k r ≡ Some p → holds_some hs k p ≡ true
  holds_one [] k r p h = absurd cc
  holds_one (x ∷ xs) k r p h = go (role_is k r x) refl h (holds_one xs k r p)
    where
      or_right : (b c : Bool) → c ≡ true → (b || c) ≡ true
      or_right true c i = refl
      or_right false c i = i

      go : (u : Bool) → role_is k r x ≡ u → (if u then Some x.process else holder_of xs k r) ≡ Some p → (holder_of xs k r ≡ Some p → holds_some xs k p ≡ true) → (((x.session.0 == k.0) && (x.process.0 == p.0)) || holds_some xs k p) ≡ true
      go false i j ih = or_right _ _ (ih j)
      go true i j ih =
          let w = and_parts _ _ i in
          let e : x.process ≡ p = some_is _ _ j in
          ap (λ b. (b && (x.process.0 == p.0)) || holds_some xs k p) w.0 ∙ ap (λ z. (z.0 == p.0) || holds_some xs k p) e ∙ ap (λ b. b || holds_some xs k p) (true_eq p.0)

  pub hands : (e : Environment) (d : Context) → Stands f scope e d → (h r p q : NameId) → holder_of e.owners h r ≡ Some p → holds_some e.owners h q ≡ false
      → Stands f scope (record e { owners = passed e.owners h r q }) (record d { holder = handed (Hands (at h) r (Some (at q))) d.holder })
  hands e d t h r p q is free = record {
    known = t.known;
    sorts = t.sorts;
    of_source = t.of_source;
    deeper = t.deeper;
    protocol = t.protocol;
    reached = t.reached;
    holder = λ s a. ap (λ (b : Bool). if b && (a.0 == r.0) then Some (at q) else d.holder (at s) a) (at_same s h) ∙ go s a ((s.0 == h.0) && (a.0 == r.0)) refl;
    held = λ s a i. gone s a ((s.0 == h.0) && (a.0 == r.0)) refl i;
    one_role = λ s a b z i j. one s a b z ((s.0 == h.0) && (a.0 == r.0)) ((s.0 == h.0) && (b.0 == r.0)) refl refl i j;
  }
    where
      clash : (b : Bool) → b ≡ true → b ≡ false → ⊥
      clash b i j = cc

      go : (s a : NameId) (b : Bool) → ((s.0 == h.0) && (a.0 == r.0)) ≡ b → (if b then Some (at q) else d.holder (at s) a) ≡ holder_at (holder_of (passed e.owners h r q) s a)
      go s a false i = t.holder s a ∙ ap holder_at (sym (passed_other e.owners h r q s a i))
      go s a true i =
          let w = and_parts _ _ i in
          let same : s ≡ h = same_name s h w.0 in
          let role : a ≡ r = same_name a r w.1 in
          ap holder_at (sym (ap (λ x. holder_of (passed e.owners h r q) x a) same ∙ ap (λ x. holder_of (passed e.owners h r q) h x) role ∙ passed_this e.owners h r q p is))

      gone : (s a : NameId) (b : Bool) → ((s.0 == h.0) && (a.0 == r.0)) ≡ b → standing_of e.standings s ≡ None → holder_of (passed e.owners h r q) s a ≡ None
      gone s a false i j = passed_other e.owners h r q s a i ∙ t.held s a j
      gone s a true i j =
          let w = and_parts _ _ i in
          let none : holder_of e.owners h r ≡ None = ap (λ x. holder_of e.owners x r) (sym (same_name s h w.0)) ∙ t.held s r j in absurd cc

      -- q holds no other role
      mixed : (s a b z : NameId) → s ≡ h → a ≡ r → holder_of (passed e.owners h r q) s a ≡ Some z → holder_of e.owners s b ≡ Some z → ⊥
      mixed s a b z same role i j =
          let now : holder_of (passed e.owners h r q) s a ≡ Some q = ap (λ x. holder_of (passed e.owners h r q) x a) same ∙ ap (λ x. holder_of (passed e.owners h r q) h x) role ∙ passed_this e.owners h r q p is in
          let who : z ≡ q = some_is _ _ (sym i ∙ now) in
          let held : holder_of e.owners h b ≡ Some q = ap (λ x. holder_of e.owners x b) (sym same) ∙ j ∙ ap Some who in
          clash (holds_some e.owners h q) (holds_one e.owners h b q held) free

      one : (s a b z : NameId) (x y : Bool) → ((s.0 == h.0) && (a.0 == r.0)) ≡ x → ((s.0 == h.0) && (b.0 == r.0)) ≡ y → holder_of (passed e.owners h r q) s a ≡ Some z → holder_of (passed e.owners h r q) s b ≡ Some z → a ≡ b
      one s a b z false false i j k l = t.one_role s a b z (sym (passed_other e.owners h r q s a i) ∙ k) (sym (passed_other e.owners h r q s b j) ∙ l)
      one s a b z true true i j k l = same_name a r (and_parts _ _ i).1 ∙ sym (same_name b r (and_parts _ _ j).1)
      one s a b z true false i j k l = let w = and_parts _ _ i in absurd (mixed s a b z (same_name s h w.0) (same_name a r w.1) k (sym (passed_other e.owners h r q s b j) ∙ l))
      one s a b z false true i j k l = let w = and_parts _ _ j in absurd (mixed s b a z (same_name s h w.0) (same_name b r w.1) l (sym (passed_other e.owners h r q s a i) ∙ k))
