-- A process's code is one up to the order of labels.
use Rattle.std.proofs.Common.{◌≡◌, Bool, true, false, sym, ◌∙◌, subst, refl, List, [], ◌∷◌, Option, Some, None}
use Rattle.chor_base.specs.declared.names.NameId.{NameId}
use Rattle.chor_base.specs.Expr.{Term}
use Rattle.chor_tree.specs.declared.file.Proc.{Proc}
use Rattle.chor_semantics.specs.Choreography.{Ref, Node, Choreography, Then, Either, Calls as CallsProcedure, Ends as Stops}
use Rattle.endpoint_code.specs.Trees.{CodeTree, Does, Offers, Tests, Ends, NoArms, Arm}
use Rattle.endpoint_code.specs.Above.{IsAbove, does, offers, tests, one_arm, no_arm, first}
use Rattle.endpoint_code.specs.Labels.{HasDistinctLabels}
use Rattle.endpoint_code.specs.LeastAbove.{IsLeastAbove}
use Rattle.endpoint_code.proofs.AboveOrder.{above_self, above_trans}
use Rattle.branch_merge.specs.Bounds.{IsLeast, HasNone}
use Rattle.branch_merge.proofs.Bounds.{two_of_least}
use Rattle.projection.specs.Codes.{Part, Absent, Acts, Learns, part_in, is_named, call_code, call_as, param_for, proc_named, IsCodeOf, acts, learns, absent, decides, merges, calls, ends}

-- a call's code
call_as_distinct : (f : NameId) (h : Proc) (ss : List Ref) (o : Option NameId) → HasDistinctLabels (call_as f h ss o)
call_as_distinct f h ss None = tt
call_as_distinct f h ss (Some p) = tt

call_distinct : (r f : NameId) (qs ss : List Ref) (o : Option Proc) → HasDistinctLabels (call_code r f qs ss o)
call_distinct r f qs ss None = tt
call_distinct r f qs ss (Some h) = call_as_distinct f h ss (param_for r h.params qs)

module _ (procs : List Proc) (r : NameId) where
  -- no branch of a process's code has a label twice
  pub code_distinct : {c : Choreography} {q : CodeTree} → IsCodeOf procs r c q → HasDistinctLabels q
  code_distinct (acts e h) = code_distinct h
  code_distinct (learns e h) = (refl, code_distinct h, tt)
  code_distinct (absent e h) = code_distinct h
  code_distinct (decides e h g) = (code_distinct h, code_distinct g)
  code_distinct (merges e h g l) = l.distinct
  code_distinct (calls {f = f} {qs = qs} {ss = ss} e) = subst HasDistinctLabels (sym e) (call_distinct r f qs ss (proc_named procs f))
  code_distinct ends = tt

  -- what a code of a choreography of each form is
  abbrev IsThenCode : Part → Choreography → CodeTree → Type 0
  IsThenCode Absent rest q = IsCodeOf procs r rest q
  IsThenCode (Acts a) rest q = (c : CodeTree) × (q ≡ Does a c) × IsCodeOf procs r rest c
  IsThenCode (Learns k a l) rest q = (c : CodeTree) × (q ≡ Offers k a (Arm l c NoArms)) × IsCodeOf procs r rest c

  pub of_then : {n : Node} {rest : Choreography} {q : CodeTree} → IsCodeOf procs r (Then n rest) q → IsThenCode (part_in r n) rest q
  of_then {rest = rest} (acts {a = a} {c = c} e h) = subst (λ (p : Part). IsThenCode p rest (Does a c)) (sym e) (c, refl, h)
  of_then {rest = rest} (learns {k = k} {a = a} {l = l} {c = c} e h) = subst (λ (p : Part). IsThenCode p rest (Offers k a (Arm l c NoArms))) (sym e) (c, refl, h)
  of_then {rest = rest} {q = q} (absent e h) = subst (λ (p : Part). IsThenCode p rest q) (sym e) h

  pub data IsEitherCode (b : Bool) (e : Term) (left right : Choreography) (q : CodeTree) : Type 0 where
    own : {c d : CodeTree} → b ≡ true → q ≡ Tests e c d → IsCodeOf procs r left c → IsCodeOf procs r right d → IsEitherCode b e left right q
    other : {c d : CodeTree} → b ≡ false → IsLeastAbove (c ∷ d ∷ []) q → IsCodeOf procs r left c → IsCodeOf procs r right d → IsEitherCode b e left right q

  pub of_either : {p : Ref} {e : Term} {left right : Choreography} {q : CodeTree} → IsCodeOf procs r (Either p e left right) q → IsEitherCode (is_named r p) e left right q
  of_either (decides b h g) = own b refl h g
  of_either (merges b h g l) = other b l h g

  pub of_calls : {f : NameId} {k : _} {qs ss : List Ref} {q : CodeTree} → IsCodeOf procs r (CallsProcedure f k qs ss) q → q ≡ call_code r f qs ss (proc_named procs f)
  of_calls (calls e) = e

  pub of_stops : {q : CodeTree} → IsCodeOf procs r Stops q → q ≡ Ends
  of_stops ends = refl

  -- ---- one code is above another of the same choreography

  -- what is said of the rest
  abbrev AreAlike : Choreography → Type 0
  AreAlike c = (q p : CodeTree) → IsCodeOf procs r c q → IsCodeOf procs r c p → IsAbove q p

  then_above : (part : Part) (rest : Choreography) (q p : CodeTree) → AreAlike rest → IsThenCode part rest q → IsThenCode part rest p → IsAbove q p
  then_above Absent rest q p ih h g = ih q p h g
  then_above (Acts a) rest q p ih (c, e, h) (d, f, g) = subst (λ (x : CodeTree). IsAbove x p) (sym e) (subst (IsAbove (Does a c)) (sym f) (does (ih c d h g)))
  then_above (Learns k a l) rest q p ih (c, e, h) (d, f, g) =
      subst (λ (x : CodeTree). IsAbove x p) (sym e) (subst (IsAbove (Offers k a (Arm l c NoArms))) (sym f) (offers (one_arm (first (ih c d h g)) no_arm)))

  least_above : {c d c' d' q p : CodeTree} → IsLeastAbove (c ∷ d ∷ []) q → IsLeastAbove (c' ∷ d' ∷ []) p → IsAbove c c' → IsAbove d d' → IsAbove q p
  least_above {c = c} {d = d} {q = q} {p = p} l m x y =
      let n = two_of_least l in
      let o = two_of_least m in
      o.least q (record { distinct = n.bound.distinct; left = above_trans n.bound.left x; right = above_trans n.bound.right y })

  either_above : (b : Bool) (e : Term) (left right : Choreography) (q p : CodeTree) → AreAlike left → AreAlike right → IsEitherCode b e left right q → IsEitherCode b e left right p → IsAbove q p
  either_above b e left right q p ih jh (own {c = c} {d = d} t u h g) (own {c = c'} {d = d'} t' u' h' g') =
      subst (λ (x : CodeTree). IsAbove x p) (sym u) (subst (IsAbove (Tests e c d)) (sym u') (tests (ih c c' h h') (jh d d' g g')))
  either_above b e left right q p ih jh (own t u h g) (other t' l h' g') = absurd cc
  either_above b e left right q p ih jh (other t l h g) (own t' u' h' g') = absurd cc
  either_above b e left right q p ih jh (other {c = c} {d = d} t l h g) (other {c = c'} {d = d'} t' m h' g') = least_above l m (ih c c' h h') (jh d d' g g')

  equal_above : {q p x : CodeTree} → q ≡ x → p ≡ x → IsAbove q p
  equal_above {q = q} e f = subst (IsAbove q) (e ∙ sym f) (above_self q)

  -- Any code of a process is above any other: they differ at most in the order of labels
  pub code_above : (c : Choreography) → AreAlike c
  code_above (Then n rest) q p h g = then_above (part_in r n) rest q p (code_above rest) (of_then h) (of_then g)
  code_above (Either x e left right) q p h g = either_above (is_named r x) e left right q p (code_above left) (code_above right) (of_either h) (of_either g)
  code_above (CallsProcedure f k qs ss) q p h g = equal_above (of_calls h) (of_calls g)
  code_above Stops q p h g = equal_above (of_stops h) (of_stops g)

  -- Where some codes of two branches have a bound, all have: so no clash stands where the code found one
  pub no_clash : (first second : Choreography) (c d c' d' q : CodeTree) → IsCodeOf procs r first c → IsCodeOf procs r second d → IsLeast c d q
      → IsCodeOf procs r first c' → IsCodeOf procs r second d' → HasNone c' d' → ⊥
  no_clash first' second c d c' d' q h g l h' g' n =
      n.none q (record { distinct = l.bound.distinct; left = above_trans l.bound.left (code_above first' c c' h h'); right = above_trans l.bound.right (code_above second d d' g g') })
