-- A parameter's marks after a write.
use Rattle.std.proofs.Common.{◌≡◌, ℕ, ◌==◌, ◌&&◌, Bool, true, false, cond, refl, ap, ◌∙◌, Some}
use Rattle.std.specs.Prelude.{Option, if◌then◌else◌}
use Rattle.std.proofs.lemmas.Bool.{eqb-true}
use Rattle.chor_base.specs.declared.names.NameId.{NameId}
use Rattle.linearity.specs.Marks.{is_marked}
use Rattle.linearity.specs.declared.marks.Marks.{Marks}
use Rattle.linear_check.specs.declared.sets.Parameter.{Parameter}
use Rattle.linear_check.specs.Sets.{marked_in}

pub same_name : (x y : NameId) → (x.0 == y.0) ≡ true → x ≡ y
same_name x y h = let e = eqb-true x.0 y.0 h in let name : ℕ → NameId = λ n. record { 0 = n } in ap name e

pub left_true : (a b : Bool) → (a && b) ≡ true → a ≡ true
left_true true b h = refl
left_true false b h = absurd cc

pub right_true : (a b : Bool) → (a && b) ≡ true → b ≡ true
right_true true b h = h
right_true false b h = absurd cc

module _ (new old : NameId → ℕ → Option Marks) (p : Parameter) (was m v : Marks) (c : ℕ) where
  pub put_marks : ((f : NameId) (i : ℕ) → new f i ≡ cond ((p.procedure.0 == f.0) && (p.place == i)) (Some v) (old f i))
      → is_marked was c ≡ marked_in (old p.procedure p.place) c
      → is_marked v c ≡ (is_marked was c && is_marked m c)
      → (f : NameId) (i : ℕ) → marked_in (new f i) c ≡ (if (p.procedure.0 == f.0) && (p.place == i) then marked_in (old f i) c && is_marked m c else marked_in (old f i) c)
  put_marks put is_was is_v f i = ap (λ o. marked_in o c) (put f i) ∙ go ((p.procedure.0 == f.0) && (p.place == i)) refl where
    go : (b : Bool) → ((p.procedure.0 == f.0) && (p.place == i)) ≡ b
        → marked_in (cond b (Some v) (old f i)) c ≡ (if b then marked_in (old f i) c && is_marked m c else marked_in (old f i) c)
    go true e =
        let g : p.procedure ≡ f = same_name p.procedure f (left_true (p.procedure.0 == f.0) (p.place == i) e) in
        let j : p.place ≡ i = eqb-true p.place i (right_true (p.procedure.0 == f.0) (p.place == i) e) in
        is_v ∙ ap (λ b. b && is_marked m c) (is_was ∙ (λ k. marked_in (old (g k) (j k)) c))
    go false e = refl
