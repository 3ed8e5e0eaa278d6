-- Sets that lose a parameter weigh less.
use Rattle.std.proofs.Common.{◌≡◌, ℕ, zero, suc, ◌+◌, ◌<◌, ◌≤◌, ◌==◌, ◌&&◌, ◌||◌, Bool, true, false, cond, List, [], ◌∷◌, length, refl, sym, ap, ◌∙◌, subst, inl, inr, arith, Some}
use Rattle.std.specs.Prelude.{Option, Result, Ok, Err, IfOk, OnOk, slice_get}
use Rattle.std.proofs.lemmas.Bool.{cases_lt, eqb-true}
use Rattle.std.proofs.lemmas.Bool.Decides.{nat_tests}
use Rattle.chor_base.specs.declared.names.NameId.{NameId}
use Rattle.chor_tree.specs.declared.tree.Form.{Form}
use Rattle.chor_tree.specs.declared.tree.Form.TheVariants.{Start, Value, Label, Give, Set, Host, Show, If, Call, End}
use Rattle.chor_tree.specs.declared.tree.Node.{Node}
use Rattle.linearity.specs.Marks.{bits_of}
use Rattle.linearity.specs.declared.marks.Marks.{Marks}
use Rattle.linear_check.specs.declared.sets.Parameter.{Parameter}
use Rattle.linear_check.specs.declared.sets.Sets.{Sets}
use Rattle.linear_check.proofs.Parameters.{same_name, left_true, right_true}
use Rattle.linear_check.specs.Weights.{weight_in, weight_at, weight_below, form_weight, weight_of, IsNoHeavier}

-- where one of two steps makes a number fall and none lets it grow, both do
pub falls_twice : (a b : Bool) (x y z : ℕ) → (a ≡ true → y < x) → (b ≡ true → z < y) → y ≤ x → z ≤ y → (a || b) ≡ true → z < x
falls_twice true b x y z f g le lf e = let h : y < x = f refl in omega arith
falls_twice false b x y z f g le lf e = let h : z < y = g e in omega arith

pub no_heavier_twice : (a b c : Sets) → IsNoHeavier b a → IsNoHeavier c b → IsNoHeavier c a
no_heavier_twice a b c h k f i = let one = h f i in let two = k f i in omega arith

pub no_heavier_same : (a b : Sets) → b ≡ a → IsNoHeavier b a
no_heavier_same a b e f i = let same = ap (λ (s : Sets). weight_at s f i) e in omega arith

-- what a call says where it succeeds, put together
pub ok_both : {X E : Type 0} (r : Result X E) (P Q : X → Type 0) (L : Type 0) → ((x : X) → P x → L → Q x) → IfOk r P → OnOk r L → IfOk r Q
ok_both (Ok x) P Q L f p l = f x p l
ok_both (Err e) P Q L f p l = tt

module _ (old new : Sets) (h : IsNoHeavier new old) where
  pub below_no_more : (f : NameId) (n : ℕ) → weight_below new f n ≤ weight_below old f n
  below_no_more f zero = omega arith
  below_no_more f (suc n) = let one = below_no_more f n in let here = h f n in omega arith

  last_falls : (f : NameId) (n i : ℕ) → n ≤ i → i < suc n → weight_at new f i < weight_at old f i → weight_at new f n < weight_at old f n
  last_falls f n i le lt less = let same : i ≡ n = omega arith in subst (λ j. weight_at new f j < weight_at old f j) same less

  pub below_falls : (f : NameId) (n i : ℕ) → i < n → weight_at new f i < weight_at old f i → weight_below new f n < weight_below old f n
  below_falls f zero i lt less = absurd (omega arith)
  below_falls f (suc n) i lt less =
      elim (cases_lt i n) [
        | inl under ↦ (let one = below_falls f n i under less in let here = h f n in omega arith)
        | inr over ↦ (let one = below_no_more f n in let here = last_falls f n i over lt less in omega arith)
      ]

  form_no_more : (o : Form) → form_weight new o ≤ form_weight old o
  form_no_more (Call f ps ss) = below_no_more f.name (length ps)
  form_no_more (Start c k active serve n) = omega arith
  form_no_more (Value from x to y k n) = omega arith
  form_no_more (Label from to k l n) = omega arith
  form_no_more (Give from to k g n) = omega arith
  form_no_more (Set q x y n) = omega arith
  form_no_more (Host q x g l r n) = omega arith
  form_no_more (Show q x n) = omega arith
  form_no_more (If q x first second) = omega arith
  form_no_more End = omega arith

  pub no_more : (ns : List Node) → weight_of new ns ≤ weight_of old ns
  no_more [] = omega arith
  no_more (n ∷ ns) = let one = no_more ns in let here = form_no_more n.form in omega arith

  -- one call less is enough
  pub falls : (ns : List Node) (i : ℕ) (n : Node) → slice_get ns i ≡ Some n → form_weight new n.form < form_weight old n.form → weight_of new ns < weight_of old ns
  falls [] i n at less = absurd cc
  falls (m ∷ ns) zero n at less =
      let same : m ≡ n = cc in
      let here = subst (λ (o : Node). form_weight new o.form < form_weight old o.form) (sym same) less in
      let rest = no_more ns in omega arith
  falls (m ∷ ns) (suc i) n at less = let one = falls ns i n at less in let here = form_no_more m.form in omega arith

-- ---- a parameter's marks after a write

module _ (new old : NameId → ℕ → Option Marks) (p : Parameter) (v : Marks) (put : (f : NameId) (i : ℕ) → new f i ≡ cond ((p.procedure.0 == f.0) && (p.place == i)) (Some v) (old f i)) where
  pub put_here : weight_in (new p.procedure p.place) ≡ bits_of v
  put_here =
      ap weight_in (put p.procedure p.place) ∙ ap (λ b. weight_in (cond b (Some v) (old p.procedure p.place))) ((λ k. itself p.procedure.0 k && itself p.place k))
    where
      itself : (n : ℕ) → (n == n) ≡ true
      itself n = grind (arith, nat_tests)

  pub put_no_heavier : bits_of v ≤ weight_in (old p.procedure p.place) → (f : NameId) (i : ℕ) → weight_in (new f i) ≤ weight_in (old f i)
  put_no_heavier le f i = let e = ap weight_in (put f i) in let k = go ((p.procedure.0 == f.0) && (p.place == i)) refl in omega arith
    where
      go : (b : Bool) → ((p.procedure.0 == f.0) && (p.place == i)) ≡ b → weight_in (cond b (Some v) (old f i)) ≤ weight_in (old f i)
      go true e =
          let g : p.procedure ≡ f = same_name p.procedure f (left_true (p.procedure.0 == f.0) (p.place == i) e) in
          let j : p.place ≡ i = eqb-true p.place i (right_true (p.procedure.0 == f.0) (p.place == i) e) in
          subst (λ (h : NameId). bits_of v ≤ weight_in (old h i)) g (subst (λ k. bits_of v ≤ weight_in (old p.procedure k)) j le)
      go false e = omega arith
