-- The first fault of procedures, one by one, and of a whole file.
use Rattle.std.proofs.Common.{◌≡◌, ℕ, ◌+◌, ◌<◌, ◌≤◌, List, [], ◌∷◌, length, drop, add-one, drop-cons, refl, sym, ap, ◌∙◌, subst, None, Option, Bool, true, false, inl, inr, ◌⊎◌}
use Rattle.std.proofs.lemmas.List.{drop_all}
use Rattle.std.specs.Prelude.{Contains, slice_index_or, is_some}
use Rattle.chor_base.specs.declared.fault.Fault.{Fault}
use Rattle.chor_base.specs.Faults.{IsFirst, earlier, first_of_all}
use Rattle.chor_base.proofs.Members.{nowhere, at_head, at_tail, head_or_tail}
use Rattle.chor_base.proofs.Faults.{first_along, first_of_either, first_is_first, none_is_empty, earlier_assoc, earlier_none}
use Rattle.chor_tree.specs.declared.file.File.{File}
use Rattle.chor_tree.specs.declared.file.Proc.{Proc}
use Rattle.chor_tree.specs.Source.{body_of}
use Rattle.typing_rules.specs.Environment.{Environment, at_main, at_procedure}
use Rattle.typing_rules.specs.TypeFaults.{head_faults, IsBodyFault, IsTypeFault, in_main, in_a_head, in_a_procedure}
use Rattle.type_check.specs.InProcedures.{IsProcedureFault, IsFaultInSome}
use Rattle.type_check.proofs.Walks.{IsFaultAt}

-- what is left of a list where one item is taken; the items ys are those of the list
taken : {X : Type 0} (ys xs : List X) (i : ℕ) (x d : X) → ys ≡ xs → i < length ys → x ≡ slice_index_or ys i d → drop i xs ≡ x ∷ drop (i + 1) xs
taken ys xs i x d same h e =
    let lt : i < length xs = subst (λ l. i < length l) same h in
    let is : x ≡ slice_index_or xs i d = e ∙ ap (λ l. slice_index_or l i d) same in
    (let p : drop i xs ≡ slice_index_or xs i d ∷ drop (i + 1) xs = rw (add-one, drop-cons xs i d) refl in p) ∙ ap (λ y. y ∷ drop (i + 1) xs) (sym is)

-- the item of a loop is one of the list
pub is_item : {X : Type 0} (ys xs : List X) (i : ℕ) (x : X) → ys ≡ xs → i < length ys → x ≡ slice_index_or ys i x → Contains xs x
is_item ys xs i x same h e = (i, subst (λ l. i < length l) same h, sym (e ∙ ap (λ l. slice_index_or l i x) same))

-- ---- all procedures

module _ (F : Proc → Fault → Type 0) where
  pub procedures_turn : (W : Fault → Type 0) (old one new : Option Fault) (ys ps : List Proc) (i : ℕ) (p : Proc)
      → ys ≡ ps → i < length ys → p ≡ slice_index_or ys i p → IsFirst (F p) one → new ≡ earlier old one
      → ((o : Option Fault) → IsFirst (IsFaultInSome F (drop i ps)) o → IsFirst W (earlier old o))
      → (o : Option Fault) → IsFirst (IsFaultInSome F (drop (i + 1) ps)) o → IsFirst W (earlier new o)
  procedures_turn W old one new ys ps i p same lt is_p h is_new rest o k =
      let tail = drop (i + 1) ps in
      let both : IsFirst (IsFaultInSome F (p ∷ tail)) (earlier one o) =
      first_of_either (F p) (IsFaultInSome F tail) (IsFaultInSome F (p ∷ tail)) one o h k
      (λ x b. (p, at_head p tail p refl, b))
      (λ x a. (a.0, at_tail p tail a.0 a.1, a.2))
      (λ x a. elim (head_or_tail p tail a.0 a.1) [ inl e ↦ inl (subst (λ q. F q x) (sym e) a.2) | inr m ↦ inr (a.0, m, a.2) ]) in
      let left : IsFirst (IsFaultInSome F (drop i ps)) (earlier one o) = subst (λ l. IsFirst (IsFaultInSome F l) (earlier one o)) (sym (taken ys ps i p p same lt is_p)) both in
      subst (λ q. IsFirst W q) (sym (earlier_assoc old one o) ∙ ap (λ q. earlier q o) (sym is_new)) (rest (earlier one o) left)

  pub procedures_end : (W : Fault → Type 0) (first : Option Fault) (ys ps : List Proc) (i : ℕ) → ys ≡ ps → length ys ≤ i
      → ((o : Option Fault) → IsFirst (IsFaultInSome F (drop i ps)) o → IsFirst W (earlier first o)) → IsFirst W first
  procedures_end W first ys ps i same le rest =
      let none : drop i ps ≡ [] = drop_all i ps (subst (λ l. length l ≤ i) same le) in
      let empty : IsFirst (IsFaultInSome F (drop i ps)) None = subst (λ l. IsFirst (IsFaultInSome F l) None) (sym none) (λ x a. nowhere a.0 a.1) in
      subst (λ q. IsFirst W q) (earlier_none first) (rest None empty)

module _ (f : File) where
  -- ---- one procedure

  -- a fault of its head is its fault
  pub head_first : (p : Proc) (head : Option Fault) → head ≡ first_of_all (head_faults p) → is_some head ≡ true → IsFirst (IsProcedureFault f p) head
  head_first p head is some =
      let first : IsFirst (Contains (head_faults p)) head = subst (λ o. IsFirst (Contains (head_faults p)) o) (sym is) (first_is_first (head_faults p)) in
      first_along (Contains (head_faults p)) (IsProcedureFault f p) head first (λ x m. inl m) (λ x h. elim h [ inl m ↦ m | inr b ↦ absurd (clash b.0) ])
    where
      clash : head_faults p ≡ [] → ⊥
      clash none = both head (is ∙ ap first_of_all none) some
        where
          both : (o : Option Fault) → o ≡ None → is_some o ≡ true → ⊥
          both o i j = no (is_some o) (ap is_some i) j
            where
              no : (b : Bool) → b ≡ false → b ≡ true → ⊥
              no b i j = cc

  -- where the head has none, its faults are those of its body
  pub body_first : (p : Proc) (head body : Option Fault) (e : Environment) → head ≡ first_of_all (head_faults p) → head ≡ None → e ≡ at_procedure p → IsFirst (IsFaultAt f e p.body) body → IsFirst (IsProcedureFault f p) body
  body_first p head body e is none begins h =
      let empty = none_is_empty (head_faults p) (sym is ∙ none) in
      first_along (IsFaultAt f e p.body) (IsProcedureFault f p) body h
      (λ x b. inr (empty, subst (λ z. IsBodyFault f x z (body_of f p.body)) begins b))
      (λ x b. elim b [ inl m ↦ absurd (nowhere x (subst (λ l. Contains l x) empty m)) | inr c ↦ subst (λ z. IsBodyFault f x z (body_of f p.body)) (sym begins) c.1 ])

  -- ---- the whole file

  pub file_first : (main procedures : Option Fault) (e : Environment) → e ≡ at_main → IsFirst (IsFaultAt f e f.body) main → IsFirst (IsFaultInSome (IsProcedureFault f) f.procs) procedures
      → IsFirst (IsTypeFault f) (earlier main procedures)
  file_first main procedures e begins h k =
      first_of_either (IsFaultAt f e f.body) (IsFaultInSome (IsProcedureFault f) f.procs) (IsTypeFault f) main procedures h k
      (λ x b. in_main (subst (λ z. IsBodyFault f x z (body_of f f.body)) begins b))
      (λ x a. elim a.2 [ inl m ↦ in_a_head a.1 m | inr b ↦ in_a_procedure a.1 b.0 b.1 ])
      (λ x t. which x t) where
        which : (x : Fault) → IsTypeFault f x → IsFaultAt f e f.body x ⊎ IsFaultInSome (IsProcedureFault f) f.procs x
        which x (in_main b) = inl (subst (λ z. IsBodyFault f x z (body_of f f.body)) (sym begins) b)
        which x (in_a_head {p = p} m h) = inr (p, m, inl h)
        which x (in_a_procedure {p = p} m none b) = inr (p, m, inr (none, b))
