-- A role's view has one fault at most, and so the first role with a fault is refused by one rule at one place.
use Rattle.std.proofs.Common.{◌≡◌, ◌<◌, ℕ, zero, suc, List, [], ◌∷◌, Some, None, inl, inr, ◌⊎◌, refl, sym, ap, ◌∙◌, subst, take, arith}
use Rattle.std.specs.Prelude.{slice_get}
use Rattle.chor_base.specs.declared.names.NameId.{NameId}
use Rattle.chor_base.specs.declared.rule.Place.{Place}
use Rattle.chor_base.specs.declared.rule.Rule.{Rule}
use Rattle.chor_base.specs.declared.rule.Rule.TheVariants.{L1, L2, L3, L4, L5, P1, P2, P3, N1, N2, N3, G1, G2, G3, V1, V2, V3, T1, T2, T3, T4, T5, T6, T7, T8, T9, U1, U2, M1, M2, E1, E2, E3, E4}
use Rattle.chor_base.specs.declared.rule.Refusal.{Refusal}
use Rattle.chor_base.specs.declared.rule.Denied.TheVariants.{Refused}
use Rattle.chor_tree.specs.declared.file.Named.{Named}
use Rattle.chor_tree.specs.Protocols.{Protocol}
use Rattle.chor_tree.specs.declared.protocol.State.{State}
use Rattle.global_types.specs.Moves.{IsIn}
use Rattle.global_types.specs.Views.{IsViewFault, HasNoViewFault}
use Rattle.local_types.specs.Reading.{role_place, IsFirstRole, IsFirstRefusal}

module _ (ss : List State) (r : NameId) where
  -- the three rules of views
  data IsOne (rule : Rule) : Type 0 where
    third : rule ≡ V3 → IsViewFault ss r V3 → IsOne rule
    second : rule ≡ V2 → IsViewFault ss r V2 → IsOne rule
    first : rule ≡ V1 → IsViewFault ss r V1 → IsOne rule

  which : (rule : Rule) → IsViewFault ss r rule → IsOne rule
  which L1 f = absurd f
  which L2 f = absurd f
  which L3 f = absurd f
  which L4 f = absurd f
  which L5 f = absurd f
  which P1 f = absurd f
  which P2 f = absurd f
  which P3 f = absurd f
  which N1 f = absurd f
  which N2 f = absurd f
  which N3 f = absurd f
  which G1 f = absurd f
  which G2 f = absurd f
  which G3 f = absurd f
  which V1 f = first refl f
  which V2 f = second refl f
  which V3 f = third refl f
  which T1 f = absurd f
  which T2 f = absurd f
  which T3 f = absurd f
  which T4 f = absurd f
  which T5 f = absurd f
  which T6 f = absurd f
  which T7 f = absurd f
  which T8 f = absurd f
  which T9 f = absurd f
  which U1 f = absurd f
  which U2 f = absurd f
  which M1 f = absurd f
  which M2 f = absurd f
  which E1 f = absurd f
  which E2 f = absurd f
  which E3 f = absurd f
  which E4 f = absurd f

  pub no_view_fault : (rule : Rule) → HasNoViewFault ss r → IsViewFault ss r rule → ⊥
  no_view_fault rule h f = go (which rule f)
    where
      go : IsOne rule → ⊥
      go (third e g) = h.few g
      go (second e g) = h.kept g.1
      go (first e g) = h.clear g.2

  pub one_view : (a b : Rule) → IsViewFault ss r a → IsViewFault ss r b → a ≡ b
  one_view a b f g = go (which a f) (which b g)
    where
      go : IsOne a → IsOne b → a ≡ b
      go (third e x) (third d y) = e ∙ sym d
      go (third e x) (second d y) = absurd (y.0 x)
      go (third e x) (first d y) = absurd (y.0 x)
      go (second e x) (third d y) = absurd (x.0 y)
      go (second e x) (second d y) = e ∙ sym d
      go (second e x) (first d y) = absurd (y.1 x.1)
      go (first e x) (third d y) = absurd (x.0 y)
      go (first e x) (second d y) = absurd (x.1 y.1)
      go (first e x) (first d y) = e ∙ sym d

-- ---- one item of a list

pub among_all : {A : Type 0} (xs : List A) (i : ℕ) (x : A) → slice_get xs i ≡ Some x → IsIn x xs
among_all [] i x e = absurd cc
among_all (y ∷ ys) zero x e = inl cc
among_all (y ∷ ys) (suc i) x e = inr (among_all ys i x e)

among_front : {A : Type 0} (xs : List A) (i n : ℕ) (x : A) → slice_get xs i ≡ Some x → i < n → IsIn x (take n xs)
among_front [] i n x e l = absurd cc
among_front (y ∷ ys) i zero x e l = absurd (omega arith)
among_front (y ∷ ys) zero (suc n) x e l = inl cc
among_front (y ∷ ys) (suc i) (suc n) x e l = inr (among_front ys i n x e (omega arith))

in_order : (i j : ℕ) → (i < j) ⊎ ((i ≡ j) ⊎ (j < i))
in_order zero zero = inr (inl refl)
in_order zero (suc j) = inl (omega arith)
in_order (suc i) zero = inr (inr (omega arith))
in_order (suc i) (suc j) = go (in_order i j)
  where
    go : (i < j) ⊎ ((i ≡ j) ⊎ (j < i)) → (suc i < suc j) ⊎ ((suc i ≡ suc j) ⊎ (suc j < suc i))
    go (inl h) = inl (omega arith)
    go (inr (inl h)) = inr (inl (ap suc h))
    go (inr (inr h)) = inr (inr (omega arith))

one_at : {A : Type 0} (xs : List A) (i j : ℕ) (a b : A) → slice_get xs i ≡ Some a → slice_get xs j ≡ Some b → (i < j → ⊥) → (j < i → ⊥) → a ≡ b
one_at xs i j a b at there before after = go (in_order i j)
  where
    go : (i < j) ⊎ ((i ≡ j) ⊎ (j < i)) → a ≡ b
    go (inl h) = absurd (before h)
    go (inr (inl h)) = let same : Some a ≡ Some b = sym at ∙ ap (slice_get xs) h ∙ there in cc
    go (inr (inr h)) = absurd (after h)

-- ---- the first role

abbrev refused : Rule → Place → Refusal
refused rule place = record { rule = rule; place = place; who = None }

one_role : (p : Protocol) (r q : Rule) (u v : Place) → IsFirstRole p (Refused (refused r u)) → IsFirstRole p (Refused (refused q v)) → (r ≡ q) × (u ≡ v)
one_role p r q u v (i, a, at, before, (view, place, who)) (j, b, there, clear, (sight, spot, whose)) =
    let same : a ≡ b = one_at p.roles i j a b at there (λ l. no_view_fault p.states a.name r (clear a (among_front p.roles i j a at l)) view) (λ l. no_view_fault p.states b.name q (before b (among_front p.roles j i b there l)) sight) in
    let sight' : IsViewFault p.states a.name q = subst (λ (x : Named). IsViewFault p.states x.name q) (sym same) sight in
    let spots : Some u ≡ Some v = sym place ∙ ap (λ (x : Named). role_place p.roles x.name) same ∙ spot in
    let spot' : u ≡ v = cc in
    (one_view p.states a.name r q view sight', spot')

pub one_refusal_of_views : (ps : List Protocol) (r q : Rule) (u v : Place) → IsFirstRefusal ps (Refused (refused r u)) → IsFirstRefusal ps (Refused (refused q v)) → (r ≡ q) × (u ≡ v)
one_refusal_of_views ps r q u v (i, a, at, before, (k, x, here, clear, (view, place, who))) (j, b, there, fine, (l, y, hither, clean, (sight, spot, whose))) =
    let same : a ≡ b = one_at ps i j a b at there
    (λ m. no_view_fault a.states x.name r (fine a (among_front ps i j a at m) x (among_all a.roles k x here)) view)
    (λ m. no_view_fault b.states y.name q (before b (among_front ps j i b there m) y (among_all b.roles l y hither)) sight) in
    let other : IsFirstRole b (Refused (refused q v)) = (l, y, hither, clean, (sight, spot, whose)) in
    one_role a r q u v (k, x, here, clear, (view, place, who)) (subst (λ (p : Protocol). IsFirstRole p (Refused (refused q v))) (sym same) other)
