-- The body at a line is made of the bodies of those that follow it.
use Rattle.std.proofs.Common.{◌≡◌, ℕ, zero, suc, ◌+◌, ◌<◌, List, [], ◌∷◌, ◌++◌, length, refl, sym, ap, ◌∙◌, Some, subst, arith, length-append}
use Rattle.std.specs.Prelude.{slice_get, slice_index_or, All, map}
use Rattle.std.proofs.lemmas.List.Elements.{All-nil, All-cons, All-head, All-tail}
use Rattle.std.proofs.Math.ListN.{get_or-append}
use Rattle.std.proofs.Math.Seq.{get_or-append_seam}
use Rattle.node_table.proofs.Tables.{tree_at_node}
use Rattle.endpoint_reader.specs.declared.input.Named.{Named}
use Rattle.endpoint_reader.specs.declared.lines.LineId.{LineId}
use Rattle.endpoint_reader.specs.declared.lines.Arm.{Arm as OneArm}
use Rattle.endpoint_reader.specs.declared.lines.Line.{Line}
use Rattle.endpoint_reader.specs.declared.lines.Line.TheVariants as line
use Rattle.endpoint_reader.specs.Lines.{nexts_of, IsClosed}
use Rattle.endpoint_names.specs.Keys.{sign_of_name, sign_of_arm}
use Rattle.endpoint_names.specs.Bodies.{Body, Ends, labels_of, arms_in, line_body, bodies_of, body_at}

-- all of these come before i
abbrev pub Before : ℕ → List LineId → Type 0
Before i ids = All (λ next. next.0 < i) ids

module _ (bs cs : List Body) (i : ℕ) (h : (j : ℕ) → j < i → slice_index_or cs j Ends ≡ slice_index_or bs j Ends) where
  at_head : (x : LineId) (xs : List LineId) → Before i (x ∷ xs) → slice_index_or cs x.0 Ends ≡ slice_index_or bs x.0 Ends
  at_head x xs a = h x.0 (All-head (λ y. y.0 < i) x xs a)

  arms_same : (arms : List OneArm) → Before i (map (λ arm. arm.body) arms) → arms_in cs arms ≡ arms_in bs arms
  arms_same [] a = refl
  arms_same (arm ∷ arms) a =
      let here = at_head arm.body (map (λ x. x.body) arms) a in
      let rest = arms_same arms (All-tail (λ y. y.0 < i) arm.body (map (λ x. x.body) arms) a) in cc

  -- a line's body depends on the bodies of those before it alone
  line_same : (l : Line) → Before i (nexts_of l) → line_body cs l ≡ line_body bs l
  line_same (line.Act x next) a = let e = at_head next [] a in cc
  line_same (line.Branch k x arms) a = let e = arms_same arms a in cc
  line_same (line.If x first second) a = let f = at_head first (second ∷ []) a in let g = at_head second [] (All-tail (λ y. y.0 < i) first (second ∷ []) a) in cc
  line_same (line.Call p s) a = refl
  line_same line.End a = refl

pub body_at-line : (ls : List Line) (id : LineId) (l : Line) → IsClosed ls → slice_get ls id.0 ≡ Some l → body_at ls id ≡ line_body (bodies_of ls) l
body_at-line ls id l closed h = tree_at_node line_body Ends (λ i m. Before i (nexts_of m)) line_same ls id.0 l closed h

-- the labels of arms
pub labels_are : (bs : List Body) (arms : List OneArm) → map sign_of_name (labels_of (arms_in bs arms)) ≡ map sign_of_arm arms
labels_are bs [] = refl
labels_are bs (arm ∷ arms) = ap (λ l. sign_of_name arm.label ∷ l) (labels_are bs arms)

arms_below : (i : ℕ) (arms : List OneArm) → Before i (map (λ arm. arm.body) arms) → All (λ arm. arm.body.0 < i) arms
arms_below i [] a = All-nil (λ arm. arm.body.0 < i)
arms_below i (arm ∷ arms) a =
    All-cons (λ x. x.body.0 < i) arm arms (All-head (λ y. y.0 < i) arm.body (map (λ x. x.body) arms) a) (arms_below i arms (All-tail (λ y. y.0 < i) arm.body (map (λ x. x.body) arms) a))

-- the bodies of a branch come before it
pub branch_below : (i : ℕ) (l : Line) {k a : Named} {arms xs : List OneArm} → l ≡ line.Branch k a arms → xs ≡ arms → Before i (nexts_of l) → All (λ arm. arm.body.0 < i) xs
branch_below i l {arms = arms} e s b = subst (λ ys. All (λ arm. arm.body.0 < i) ys) (sym s) (arms_below i arms (subst (λ m. Before i (nexts_of m)) e b))
