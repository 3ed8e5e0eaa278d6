-- What holds of a configuration that a run has reached, and that each step keeps it.
use Rattle.std.proofs.Common.{◌≡◌, ℕ, zero, suc, ◌≤◌, ◌<◌, List, [], ◌∷◌, ◌++◌, length, refl, sym, ap, ◌∙◌, subst, Some, None, Option, Bool, true, false, ◌==◌, ◌⊎◌, inl, inr, arith, if◌then◌else◌}
use Rattle.std.proofs.lemmas.Bool.Decides.{nat_tests}
use Rattle.std.proofs.lemmas.List.{get_or-set_same, get_or-set_other}
use Rattle.std.proofs.lemmas.Cmp.{nat_cmp_total}
use Rattle.std.specs.Prelude.{slice_set}
use Rattle.std.specs.Ordering.{eq_by_cmp, nat_cmp}
use Rattle.std.specs.FinMap as fin
use Rattle.std.proofs.lemmas.Bool.{eqb-true}
use Rattle.chor_base.specs.declared.names.NameId.{NameId}
use Rattle.chor_base.specs.declared.value.Sort.{Sort}
use Rattle.chor_base.specs.declared.value.Value.{Value}
use Rattle.chor_base.specs.declared.event.Event.{Event}
use Rattle.chor_base.specs.declared.event.Event.TheVariants.{Start, Send, Recv, Test, Set, Show, Host}
use Rattle.chor_base.specs.NameMap.{Variables}
use Rattle.chor_base.specs.Sorts.{Sorts, sort_of_value}
use Rattle.chor_semantics.specs.Choreography.{Ref, Live, Named, ref_eq}
use Rattle.chor_semantics.specs.Steps.{Effect, Keeps, Assigns, vars_of, assigned, vars_after, sid_after}
use Rattle.well_formed.specs.Holders.{is_role}
use Rattle.well_formed.proofs.References.{true_eq, differ_ref}
use Rattle.typed_sources.specs.Context.{Context, Hand, NoHand, Hands, handed, put_sort, with_setting}
use Rattle.typed_sources.specs.Typing.{HasProtocol}
use Rattle.typed_sources.specs.Changes.{Change, changed, effect_setting, IsHandBy, IsSettingBy, IsChangeBy, HoldersInScope, NumbersAreNew}
use Rattle.typed_sources.proofs.SortedValues.{Agrees}
use Rattle.typed_sources.proofs.PastNodes.{role_same, setting_out}
use Rattle.typed_sources.proofs.Small.{on_or_off}
use Rattle.typed_sources.proofs.StepsKept.{is_start}
use Rattle.typed_sources.proofs.Started.{some_same, not_both}

-- nothing but numbers below the counters is in scope, and variables have values of their sorts
pub record IsRoot (vars : List Variables) (sid : ℕ) (e : Context) : Type 0 where
  pub held : HoldersInScope e
  pub fresh : NumbersAreNew e sid (length vars)
  pub agrees : (p : ℕ) → Agrees (vars_of vars p) (e.sorts (Live p))
  pub unset : (m : ℕ) → length vars ≤ m → (x : NameId) → e.sorts (Live m) x ≡ None
  pub idle : (m : ℕ) (r : NameId) → sid ≤ m → e.done (Live m) r ≡ []
  pub names : (x d : ℕ) → (e.known (Named x d) ≡ false) × (e.protocol (Named x d) ≡ None)

none_some : (o : Option Sort) → o ≡ None → {s : Sort} → o ≡ Some s → ⊥
none_some o h i = cc

-- ---- variables

vars_same : (vars : List Variables) (p q : ℕ) (m : Variables) → p < length vars → (q == p) ≡ true → vars_of (slice_set vars p m) q ≡ m
vars_same vars p q m l h = ap (vars_of (slice_set vars p m)) (eqb-true q p h) ∙ get_or-set_same vars p m fin.empty l

vars_other : (vars : List Variables) (p q : ℕ) (m : Variables) → (q == p) ≡ false → vars_of (slice_set vars p m) q ≡ vars_of vars q
vars_other vars p q m h = get_or-set_other vars p q m fin.empty (λ e. not_both (q == p) (ap (λ z. z == p) e ∙ true_eq p) h)

length_set : (vars : List Variables) (p : ℕ) (m : Variables) → length (slice_set vars p m) ≡ length vars
length_set [] p m = refl
length_set (v ∷ vs) zero m = refl
length_set (v ∷ vs) (suc p) m = ap suc (length_set vs p m)

same_cmp : (a b : ℕ) → eq_by_cmp nat_cmp a b ≡ (a == b)
same_cmp a b = grind (arith, nat_tests)

agrees_set : (m : Variables) (k : Sorts) (x : NameId) (v : Value) → Agrees m k → Agrees (fin.insert m x.0 v) (put_sort x (sort_of_value v) k)
agrees_set m k x v a y s h = go (y.0 == x.0) refl h
  where
    go : (b : Bool) → (y.0 == x.0) ≡ b → (if b then sort_of_value v else k y) ≡ Some s → (w : Value) × (fin.get (fin.insert m x.0 v) y.0 ≡ Some w) × (sort_of_value w ≡ Some s)
    go true i j = (v, fin.get-insert nat_cmp_total m x.0 v y.0 ∙ ap (λ (b : Bool). if b then Some v else fin.get m y.0) (same_cmp y.0 x.0 ∙ i), j)
    go false i j = let w = a y s j in (w.0, fin.get-insert nat_cmp_total m x.0 v y.0 ∙ ap (λ (b : Bool). if b then Some v else fin.get m y.0) (same_cmp y.0 x.0 ∙ i) ∙ w.1, w.2)

pub split : (p n : ℕ) → (p < n) ⊎ (n ≤ p)
split p zero = inr (omega arith)
split zero (suc n) = inl (omega arith)
split (suc p) (suc n) = elim (split p n) [ inl l ↦ inl (omega (arith, l)) | inr l ↦ inr (omega (arith, l)) ]

-- ---- an event of one process

module _ (vars : List Variables) (sid p : ℕ) (e : Context) (root : IsRoot vars sid e) (c : Change) (by : IsChangeBy p e c) where
  pub below : p < length vars
  below = elim (split p (length vars)) [ inl l ↦ l | inr l ↦ absurd (not_both (e.known (Live p)) by.known (root.fresh.process p l)) ]

  held_changed : HoldersInScope (changed e c)
  held_changed = record { session = λ s r q i. (go c.hand by.gains by.hand s r q i).0; process = λ s r q i. (go c.hand by.gains by.hand s r q i).1 }
    where
      gained : (o : Option Ref) (q : Ref) → (o ≡ None) ⊎ (o ≡ Some (Live p)) → o ≡ Some q → e.known q ≡ true
      gained o q (inl i) j = absurd (clash o i j)
        where
          clash : (o : Option Ref) → o ≡ None → {q : Ref} → o ≡ Some q → ⊥
          clash o a b = cc
      gained o q (inr i) j = subst (λ x. e.known x ≡ true) (some_same (Live p) q (sym i ∙ j)) by.known

      go : (h : Hand) → ((n : ℕ) (r : NameId) (o : Option Ref) → h ≡ Hands (Live n) r o → HasProtocol (e.protocol (Live n)) × ((o ≡ None) ⊎ (o ≡ Some (Live p)))) → IsHandBy p e.holder h
          → (s : Ref) (r : NameId) (q : Ref) → handed h e.holder s r ≡ Some q → HasProtocol (e.protocol s) × (e.known q ≡ true)
      go NoHand g b s r q i = (root.held.session s r q i, root.held.process s r q i)
      go (Hands (Named x d) a o) g b s r q i = elim b [ ]
      go (Hands (Live n) a o) g b s r q i = at (is_role s r (Live n) a) refl i
        where
          w : HasProtocol (e.protocol (Live n)) × ((o ≡ None) ⊎ (o ≡ Some (Live p)))
          w = g n a o refl

          at : (x : Bool) → is_role s r (Live n) a ≡ x → (if x then o else e.holder s r) ≡ Some q → HasProtocol (e.protocol s) × (e.known q ≡ true)
          at false j k = (root.held.session s r q k, root.held.process s r q k)
          at true j k = (subst (λ z. HasProtocol (e.protocol z)) (sym (role_same (Live n) a s r j).0) w.0, gained o q w.1 k)

  -- p isn't a process that is still to come
  off_later : (m : ℕ) → length vars ≤ m → ref_eq (Live p) (Live m) ≡ false
  off_later m l = differ_ref (Live p) (Live m) (λ i. not_both (e.known (Live m)) (subst (λ x. e.known x ≡ true) i by.known) (root.fresh.process m l))

  unset_changed : (m : ℕ) → length vars ≤ m → (x : NameId) → (changed e c).sorts (Live m) x ≡ None
  unset_changed m l x = ap (λ k. k x) (setting_out p c.setting e.sorts by.setting (Live m) (off_later m l)) ∙ root.unset m l x

  idle_changed : (m : ℕ) (r : NameId) → sid ≤ m → (changed e c).done (Live m) r ≡ []
  idle_changed m r l = ap (λ d. d ++ c.acts (Live m) r) (root.idle m r l) ∙ elim (by.acts.live m r) [
    | inl i ↦ i
    | inr i ↦ absurd (on_or_off (e.protocol (Live m)) (root.fresh.session m l) (root.held.session (Live m) r (Live p) i))
  ]

  pub root_changed : (new : List Variables) → length new ≡ length vars → ((q : ℕ) → Agrees (vars_of new q) ((changed e c).sorts (Live q))) → IsRoot new sid (changed e c)
  root_changed new l a = record {
    held = held_changed;
    fresh = record { session = root.fresh.session; process = λ m h. root.fresh.process m (omega (arith, l, h)) };
    agrees = a;
    unset = λ m h. unset_changed m (omega (arith, l, h));
    idle = idle_changed;
    names = root.names;
  }

pub assigned_long : (vars : List Variables) (f : Effect) → length (assigned vars f) ≡ length vars
assigned_long vars Keeps = refl
assigned_long vars (Assigns p x v) = length_set vars p (fin.insert (vars_of vars p) x.0 v)

pub not_start : (vars : List Variables) (x : Event) (f : Effect) → is_start x ≡ false → vars_after vars x f ≡ assigned vars f
not_start vars (Start c s parts) f h = absurd cc
not_start vars (Send p s a b l) f h = refl
not_start vars (Recv p s a b l) f h = refl
not_start vars (Test p b) f h = refl
not_start vars (Set p x v) f h = refl
not_start vars (Show p v) f h = refl
not_start vars (Host p x g a b v) f h = refl

pub same_sid : (sid : ℕ) (x : Event) → is_start x ≡ false → sid_after sid x ≡ sid
same_sid sid (Start c s parts) h = absurd cc
same_sid sid (Send p s a b l) h = refl
same_sid sid (Recv p s a b l) h = refl
same_sid sid (Test p b) h = refl
same_sid sid (Set p x v) h = refl
same_sid sid (Show p v) h = refl
same_sid sid (Host p x g a b v) h = refl

-- the variables agree after the effect
pub agrees_after : (vars : List Variables) (e : Context) (p : ℕ) → p < length vars → (f : Effect) → IsSettingBy p (effect_setting f) → ((q : ℕ) → Agrees (vars_of vars q) (e.sorts (Live q))) → (q : ℕ) → Agrees (vars_of (assigned vars f) q) (with_setting (effect_setting f) e.sorts (Live q))
agrees_after vars e p l Keeps by a q = a q
agrees_after vars e p l (Assigns r x v) by a q = go (subst (λ y. y < length vars) (number p r (sym by)) l) (q == r) refl
  where
    number : (a b : ℕ) → Live a ≡ Live b → a ≡ b
    number a b i = cc

    m : Variables
    m = fin.insert (vars_of vars r) x.0 v

    go : r < length vars → (b : Bool) → (q == r) ≡ b → Agrees (vars_of (slice_set vars r m) q) (if b then put_sort x (sort_of_value v) (e.sorts (Live q)) else e.sorts (Live q))
    go k false i = subst (λ y. Agrees y (e.sorts (Live q))) (sym (vars_other vars r q m i)) (a q)
    go k true i =
        let same : r ≡ q = sym (eqb-true q r i) in
        subst (λ y. Agrees y (put_sort x (sort_of_value v) (e.sorts (Live q)))) (sym (vars_same vars r q m k i))
        (subst (λ y. Agrees m (put_sort x (sort_of_value v) (e.sorts (Live y)))) same (agrees_set (vars_of vars r) (e.sorts (Live r)) x v (a r)))
