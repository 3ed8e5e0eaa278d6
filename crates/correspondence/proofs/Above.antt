-- Code above code that follows a choreography follows it too.
use Rattle.std.proofs.Common.{◌≡◌, ℕ, zero, suc, ◌==◌, ◌<◌, Bool, true, false, if◌then◌else◌, List, [], ◌∷◌, length, Option, Some, None, refl, sym, ap, ◌∙◌, subst, arith, ◌⊎◌, inl, inr}
use Rattle.std.specs.Prelude.{All, map}
use Rattle.std.proofs.lemmas.Bool.Decides.{nat_tests}
use Rattle.std.proofs.lemmas.List.Elements.{All-head, All-tail}
use Rattle.chor_base.specs.declared.names.NameId.{NameId}
use Rattle.chor_base.specs.declared.expr.Expr.{Expr}
use Rattle.chor_base.specs.Expr.{Term, term_of}
use Rattle.chor_semantics.specs.Choreography.{Ref, ref_eq, among, OfValue, OfLabel, OfPart, Sets, Shows, Asks, Choreography, Then, Either, Calls, Ends}
use Rattle.chor_semantics.specs.Sources.{Procedure}
use Rattle.chor_semantics.specs.Steps.{procedure_named, body_of}
use Rattle.endpoint_code.specs.declared.code.CodeId.{CodeId}
use Rattle.endpoint_code.specs.declared.code.CodeNode.{CodeNode}
use Rattle.endpoint_code.specs.declared.code.CodeNode.TheVariants.{Join, Send, Recv, Pick, Branch, Throw, Catch, Set, Show, Host, If, Call, End}
use Rattle.endpoint_code.specs.declared.endpoints.Procedure.{Procedure as ProcedureCode}
use Rattle.endpoint_code.specs.declared.endpoints.Endpoints.{Endpoints}
use Rattle.endpoint_code.specs.Code.{children_of}
use Rattle.endpoint_code.specs.Trees as action
use Rattle.endpoint_code.specs.Trees.{CodeTree, Arms, NoArms, Arm, tree_in, arms_in, node_tree, trees_of, code_at}
use Rattle.endpoint_code.specs.Heads.{head_of}
use Rattle.endpoint_code.specs.Above.{IsAbove, AreAbove, HasAbove}
use Rattle.endpoint_code.specs.Labels.{has_label, HasDistinctLabels, AreDistinctArms}
use Rattle.endpoint_code.specs.Network.{procedure_of, arm_at, node_at}
use Rattle.endpoint_code.proofs.CodeTables.{code_at-node}
use Rattle.endpoint_code.proofs.Decides.{name_same, node_head, above_head}
use Rattle.well_formed.specs.Follows.{SessionMap, Into, Label, Part, Act, Joins, Puts, Gets, Does, act_of, Agrees, At, HoldsAt, arm_place, place_after, fork_of, BothHold, standing, body_standing, passed, HoldsOf, follows_act, follows_test, follows_end, follows_call, follows_over, Follows}
use Rattle.endpoint_code.specs.Covers.{IsCovered, IsUnitCovered, AreUnitsCovered}
use Rattle.correspondence.proofs.Nodes.{inv_join, inv_send, inv_recv, inv_pick, inv_branch, inv_throw, inv_catch, inv_set, inv_show, inv_host, inv_if, inv_call, inv_end, rest_above, arms_above, first_above, second_above, here_or_later, both_above, labelled, nothing_there}

module _ (e e' : Endpoints) (units : AreUnitsCovered e e') where
  abbrev ts : List CodeTree
  ts = trees_of e.code.nodes

  abbrev ts' : List CodeTree
  ts' = trees_of e'.code.nodes

  abbrev Lifts : At → At → Type 0
  Lifts R S = (q q' : CodeId) (m : SessionMap) → IsCovered e e' q q' → R q m → S q' m

  abbrev AllInside : List CodeId → Type 0
  AllInside cs = All (λ c. c.0 < length e'.code.nodes) cs

  record NodeOver (n n' : CodeNode) : Type 0 where
    above : IsAbove (node_tree ts' n') (node_tree ts n)
    inside : AllInside (children_of n')
    distinct : HasDistinctLabels (node_tree ts' n')

  same : {n n' : CodeNode} → NodeOver n n' → head_of n' ≡ head_of n
  same {n = n} {n' = n'} o = sym (node_head ts' n') ∙ above_head o.above ∙ node_head ts n

  next_over : {a b : action.Action} {q q' : CodeId} → IsAbove (action.Does a (tree_in ts' q')) (action.Does b (tree_in ts q)) → AllInside (q' ∷ []) → HasDistinctLabels (tree_in ts' q') → IsCovered e e' q q'
  next_over {q' = q'} a i d = record { inside = All-head (λ c. c.0 < length e'.code.nodes) q' [] i; above = rest_above a; distinct = d }

  -- ---- arms
  record ArmOver (arms : List (NameId × CodeId)) (l : NameId) (q : CodeId) : Type 0 where
    arm : CodeId
    is : arm_at arms l ≡ Some arm
    over : IsCovered e e' q arm

  find_arm : (arms : List (NameId × CodeId)) (l : NameId) (q : CodeId) → AllInside (map (λ arm. arm.1) arms) → AreDistinctArms (arms_in ts' arms) → HasAbove (arms_in ts' arms) l (tree_in ts q) → ArmOver arms l q
  find_arm [] l q i d h = elim h [ ]
  find_arm (arm ∷ arms) l q i d h = split (find_arm arms l q (All-tail (λ c. c.0 < length e'.code.nodes) arm.1 (map (λ x. x.1) arms) i) d.2) (here_or_later h)
    where
      split : (HasAbove (arms_in ts' arms) l (tree_in ts q) → ArmOver arms l q) → ((arm.0 ≡ l) × IsAbove (tree_in ts' arm.1) (tree_in ts q)) ⊎ HasAbove (arms_in ts' arms) l (tree_in ts q) → ArmOver (arm ∷ arms) l q
      split more (inl a) =
          let t : (arm.0.0 == l.0) ≡ true = let z : arm.0.0 ≡ l.0 = ap (λ (x : NameId). x.0) a.0 in grind (arith, nat_tests) in
          record { arm = arm.1; is = ap (λ b. if b then Some arm.1 else arm_at arms l) t; over = record { inside = All-head (λ c. c.0 < length e'.code.nodes) arm.1 (map (λ x. x.1) arms) i; above = a.1; distinct = d.1 } }
      split more (inr r) =
          let f : ArmOver arms l q = more r in
          let t : (arm.0.0 == l.0) ≡ false = go (arm.0.0 == l.0) refl in
          record { arm = f.arm; is = ap (λ b. if b then Some arm.1 else arm_at arms l) t ∙ f.is; over = f.over }
        where
          go : (b : Bool) → (arm.0.0 == l.0) ≡ b → (arm.0.0 == l.0) ≡ false
          go false e = e
          go true e =
              let z : arm.0.0 ≡ l.0 = grind (arith, nat_tests) in
              let y : arm.0 ≡ l = name_same arm.0 l refl e in
              let x : has_label arm.0 (arms_in ts' arms) ≡ true = subst (λ (k : NameId). has_label k (arms_in ts' arms) ≡ true) (sym y) (labelled r) in absurd cc

  arm_above : (arms : List (NameId × CodeId)) (qs : Arms) (l : NameId) (q : CodeId) → AreAbove qs (arms_in ts arms) → arm_at arms l ≡ Some q → HasAbove qs l (tree_in ts q)
  arm_above [] qs l q a h = absurd cc
  arm_above (arm ∷ arms) qs l q a h = go (arm_above arms qs l q (both_above a).1) (arm.0.0 == l.0) refl
    where
      go : (arm_at arms l ≡ Some q → HasAbove qs l (tree_in ts q)) → (b : Bool) → (arm.0.0 == l.0) ≡ b → HasAbove qs l (tree_in ts q)
      go more true e =
          let z : arm.0.0 ≡ l.0 = grind (arith, nat_tests) in
          let y : arm.0 ≡ l = name_same arm.0 l refl e in
          let x : Some arm.1 ≡ Some q = sym (ap (λ b. if b then Some arm.1 else arm_at arms l) e) ∙ h in
          let v : arm.1 ≡ q = cc in
          subst (λ (c : CodeId). HasAbove qs l (tree_in ts c)) v (subst (λ (k : NameId). HasAbove qs k (tree_in ts arm.1)) y (both_above a).0)
      go more false e = more (sym (ap (λ b. if b then Some arm.1 else arm_at arms l) e) ∙ h)

  -- ---- acts
  module _ (K L : At) (lifts : Lifts K L) (m : SessionMap) where
    abbrev Had : Act → CodeNode → Type 0
    Had a n = Agrees m n a × HoldsAt K (place_after m n a)

    abbrev Done : Act → CodeNode → Type 0
    Done a n = Agrees m n a × HoldsAt L (place_after m n a)

    done_join : (c r k : NameId) (next next' : CodeId) → IsCovered e e' next next' → (act : Act) → Had act (Join c r k next) → Done act (Join c r k next')
    done_join c r k next next' o (Joins d0 t0 s0) h0 = (h0.0, lifts next next' _ o h0.1)
    done_join c r k next next' o (Puts s0 a0 d0 (OfValue g0 y0)) h0 = absurd h0.0
    done_join c r k next next' o (Puts s0 a0 d0 (OfLabel z0)) h0 = absurd h0.0
    done_join c r k next next' o (Puts s0 a0 d0 (OfPart g0 y0)) h0 = absurd h0.0
    done_join c r k next next' o (Gets s0 d0 b10 (Into y0)) h0 = absurd h0.0
    done_join c r k next next' o (Gets s0 d0 b10 (Label z0)) h0 = absurd h0.0
    done_join c r k next next' o (Gets s0 d0 b10 (Part g0 y0)) h0 = absurd h0.0
    done_join c r k next next' o (Does (Sets y0 g0)) h0 = absurd h0.0
    done_join c r k next next' o (Does (Shows g0)) h0 = absurd h0.0
    done_join c r k next next' o (Does (Asks y0 g0 z0 t0)) h0 = absurd h0.0

    done_send : (k b : NameId) (x x' : Expr) (next next' : CodeId) → term_of x' ≡ term_of x → IsCovered e e' next next' → (act : Act) → Had act (Send k b x next) → Done act (Send k b x' next')
    done_send k b x x' next next' same_term o (Joins d0 t0 s0) h0 = absurd h0.0
    done_send k b x x' next next' same_term o (Puts s0 a0 d0 (OfValue g0 y0)) h0 = ((h0.0.0, h0.0.1, same_term ∙ h0.0.2), lifts next next' _ o h0.1)
    done_send k b x x' next next' same_term o (Puts s0 a0 d0 (OfLabel z0)) h0 = absurd h0.0
    done_send k b x x' next next' same_term o (Puts s0 a0 d0 (OfPart g0 y0)) h0 = absurd h0.0
    done_send k b x x' next next' same_term o (Gets s0 d0 b10 (Into y0)) h0 = absurd h0.0
    done_send k b x x' next next' same_term o (Gets s0 d0 b10 (Label z0)) h0 = absurd h0.0
    done_send k b x x' next next' same_term o (Gets s0 d0 b10 (Part g0 y0)) h0 = absurd h0.0
    done_send k b x x' next next' same_term o (Does (Sets y0 g0)) h0 = absurd h0.0
    done_send k b x x' next next' same_term o (Does (Shows g0)) h0 = absurd h0.0
    done_send k b x x' next next' same_term o (Does (Asks y0 g0 z0 t0)) h0 = absurd h0.0

    done_recv : (k a x : NameId) (next next' : CodeId) → IsCovered e e' next next' → (act : Act) → Had act (Recv k a x next) → Done act (Recv k a x next')
    done_recv k a x next next' o (Joins d0 t0 s0) h0 = absurd h0.0
    done_recv k a x next next' o (Puts s0 a0 d0 (OfValue g0 y0)) h0 = absurd h0.0
    done_recv k a x next next' o (Puts s0 a0 d0 (OfLabel z0)) h0 = absurd h0.0
    done_recv k a x next next' o (Puts s0 a0 d0 (OfPart g0 y0)) h0 = absurd h0.0
    done_recv k a x next next' o (Gets s0 d0 b10 (Into y0)) h0 = (h0.0, lifts next next' _ o h0.1)
    done_recv k a x next next' o (Gets s0 d0 b10 (Label z0)) h0 = absurd h0.0
    done_recv k a x next next' o (Gets s0 d0 b10 (Part g0 y0)) h0 = absurd h0.0
    done_recv k a x next next' o (Does (Sets y0 g0)) h0 = absurd h0.0
    done_recv k a x next next' o (Does (Shows g0)) h0 = absurd h0.0
    done_recv k a x next next' o (Does (Asks y0 g0 z0 t0)) h0 = absurd h0.0

    done_pick : (k b l : NameId) (next next' : CodeId) → IsCovered e e' next next' → (act : Act) → Had act (Pick k b l next) → Done act (Pick k b l next')
    done_pick k b l next next' o (Joins d0 t0 s0) h0 = absurd h0.0
    done_pick k b l next next' o (Puts s0 a0 d0 (OfValue g0 y0)) h0 = absurd h0.0
    done_pick k b l next next' o (Puts s0 a0 d0 (OfLabel z0)) h0 = (h0.0, lifts next next' _ o h0.1)
    done_pick k b l next next' o (Puts s0 a0 d0 (OfPart g0 y0)) h0 = absurd h0.0
    done_pick k b l next next' o (Gets s0 d0 b10 (Into y0)) h0 = absurd h0.0
    done_pick k b l next next' o (Gets s0 d0 b10 (Label z0)) h0 = absurd h0.0
    done_pick k b l next next' o (Gets s0 d0 b10 (Part g0 y0)) h0 = absurd h0.0
    done_pick k b l next next' o (Does (Sets y0 g0)) h0 = absurd h0.0
    done_pick k b l next next' o (Does (Shows g0)) h0 = absurd h0.0
    done_pick k b l next next' o (Does (Asks y0 g0 z0 t0)) h0 = absurd h0.0

    done_throw : (k b h : NameId) (next next' : CodeId) → IsCovered e e' next next' → (act : Act) → Had act (Throw k b h next) → Done act (Throw k b h next')
    done_throw k b h next next' o (Joins d0 t0 s0) h0 = absurd h0.0
    done_throw k b h next next' o (Puts s0 a0 d0 (OfValue g0 y0)) h0 = absurd h0.0
    done_throw k b h next next' o (Puts s0 a0 d0 (OfLabel z0)) h0 = absurd h0.0
    done_throw k b h next next' o (Puts s0 a0 d0 (OfPart g0 y0)) h0 = (h0.0, lifts next next' _ o h0.1)
    done_throw k b h next next' o (Gets s0 d0 b10 (Into y0)) h0 = absurd h0.0
    done_throw k b h next next' o (Gets s0 d0 b10 (Label z0)) h0 = absurd h0.0
    done_throw k b h next next' o (Gets s0 d0 b10 (Part g0 y0)) h0 = absurd h0.0
    done_throw k b h next next' o (Does (Sets y0 g0)) h0 = absurd h0.0
    done_throw k b h next next' o (Does (Shows g0)) h0 = absurd h0.0
    done_throw k b h next next' o (Does (Asks y0 g0 z0 t0)) h0 = absurd h0.0

    done_catch : (k a h : NameId) (next next' : CodeId) → IsCovered e e' next next' → (act : Act) → Had act (Catch k a h next) → Done act (Catch k a h next')
    done_catch k a h next next' o (Joins d0 t0 s0) h0 = absurd h0.0
    done_catch k a h next next' o (Puts s0 a0 d0 (OfValue g0 y0)) h0 = absurd h0.0
    done_catch k a h next next' o (Puts s0 a0 d0 (OfLabel z0)) h0 = absurd h0.0
    done_catch k a h next next' o (Puts s0 a0 d0 (OfPart g0 y0)) h0 = absurd h0.0
    done_catch k a h next next' o (Gets s0 d0 b10 (Into y0)) h0 = absurd h0.0
    done_catch k a h next next' o (Gets s0 d0 b10 (Label z0)) h0 = absurd h0.0
    done_catch k a h next next' o (Gets s0 d0 b10 (Part g0 y0)) h0 = (h0.0, lifts next next' _ o h0.1)
    done_catch k a h next next' o (Does (Sets y0 g0)) h0 = absurd h0.0
    done_catch k a h next next' o (Does (Shows g0)) h0 = absurd h0.0
    done_catch k a h next next' o (Does (Asks y0 g0 z0 t0)) h0 = absurd h0.0

    done_set : (x : NameId) (v v' : Expr) (next next' : CodeId) → term_of v' ≡ term_of v → IsCovered e e' next next' → (act : Act) → Had act (Set x v next) → Done act (Set x v' next')
    done_set x v v' next next' same_term o (Joins d0 t0 s0) h0 = absurd h0.0
    done_set x v v' next next' same_term o (Puts s0 a0 d0 (OfValue g0 y0)) h0 = absurd h0.0
    done_set x v v' next next' same_term o (Puts s0 a0 d0 (OfLabel z0)) h0 = absurd h0.0
    done_set x v v' next next' same_term o (Puts s0 a0 d0 (OfPart g0 y0)) h0 = absurd h0.0
    done_set x v v' next next' same_term o (Gets s0 d0 b10 (Into y0)) h0 = absurd h0.0
    done_set x v v' next next' same_term o (Gets s0 d0 b10 (Label z0)) h0 = absurd h0.0
    done_set x v v' next next' same_term o (Gets s0 d0 b10 (Part g0 y0)) h0 = absurd h0.0
    done_set x v v' next next' same_term o (Does (Sets y0 g0)) h0 = ((h0.0.0, same_term ∙ h0.0.1), lifts next next' _ o h0.1)
    done_set x v v' next next' same_term o (Does (Shows g0)) h0 = absurd h0.0
    done_set x v v' next next' same_term o (Does (Asks y0 g0 z0 t0)) h0 = absurd h0.0

    done_show : (v v' : Expr) (next next' : CodeId) → term_of v' ≡ term_of v → IsCovered e e' next next' → (act : Act) → Had act (Show v next) → Done act (Show v' next')
    done_show v v' next next' same_term o (Joins d0 t0 s0) h0 = absurd h0.0
    done_show v v' next next' same_term o (Puts s0 a0 d0 (OfValue g0 y0)) h0 = absurd h0.0
    done_show v v' next next' same_term o (Puts s0 a0 d0 (OfLabel z0)) h0 = absurd h0.0
    done_show v v' next next' same_term o (Puts s0 a0 d0 (OfPart g0 y0)) h0 = absurd h0.0
    done_show v v' next next' same_term o (Gets s0 d0 b10 (Into y0)) h0 = absurd h0.0
    done_show v v' next next' same_term o (Gets s0 d0 b10 (Label z0)) h0 = absurd h0.0
    done_show v v' next next' same_term o (Gets s0 d0 b10 (Part g0 y0)) h0 = absurd h0.0
    done_show v v' next next' same_term o (Does (Sets y0 g0)) h0 = absurd h0.0
    done_show v v' next next' same_term o (Does (Shows g0)) h0 = (same_term ∙ h0.0, lifts next next' _ o h0.1)
    done_show v v' next next' same_term o (Does (Asks y0 g0 z0 t0)) h0 = absurd h0.0

    done_host : (x f : NameId) (u v u' v' : Expr) (next next' : CodeId) → term_of u' ≡ term_of u → term_of v' ≡ term_of v → IsCovered e e' next next' → (act : Act) → Had act (Host x f u v next) → Done act (Host x f u' v' next')
    done_host x f u v u' v' next next' same_term same_other o (Joins d0 t0 s0) h0 = absurd h0.0
    done_host x f u v u' v' next next' same_term same_other o (Puts s0 a0 d0 (OfValue g0 y0)) h0 = absurd h0.0
    done_host x f u v u' v' next next' same_term same_other o (Puts s0 a0 d0 (OfLabel z0)) h0 = absurd h0.0
    done_host x f u v u' v' next next' same_term same_other o (Puts s0 a0 d0 (OfPart g0 y0)) h0 = absurd h0.0
    done_host x f u v u' v' next next' same_term same_other o (Gets s0 d0 b10 (Into y0)) h0 = absurd h0.0
    done_host x f u v u' v' next next' same_term same_other o (Gets s0 d0 b10 (Label z0)) h0 = absurd h0.0
    done_host x f u v u' v' next next' same_term same_other o (Gets s0 d0 b10 (Part g0 y0)) h0 = absurd h0.0
    done_host x f u v u' v' next next' same_term same_other o (Does (Sets y0 g0)) h0 = absurd h0.0
    done_host x f u v u' v' next next' same_term same_other o (Does (Shows g0)) h0 = absurd h0.0
    done_host x f u v u' v' next next' same_term same_other o (Does (Asks y0 g0 z0 t0)) h0 = ((h0.0.0, h0.0.1, same_term ∙ h0.0.2, same_other ∙ h0.0.3), lifts next next' _ o h0.1)

    in_arm : (arms : List (NameId × CodeId)) (l : NameId) (o : Option CodeId) → ((q : CodeId) → o ≡ Some q → ArmOver arms l q) → HoldsAt K (arm_place m o) → HoldsAt L (arm_place m (arm_at arms l))
    in_arm arms l None f h = absurd h
    in_arm arms l (Some q) f h = let a : ArmOver arms l q = f q refl in subst (λ (z : Option CodeId). HoldsAt L (arm_place m z)) (sym a.is) (lifts q a.arm m a.over h)

    done_branch : (k a : NameId) (arms arms' : List (NameId × CodeId)) → ((l : NameId) (q : CodeId) → arm_at arms l ≡ Some q → ArmOver arms' l q) → (x : Act) → Had x (Branch k a arms) → Done x (Branch k a arms')
    done_branch k a arms arms' f (Joins d0 t0 s0) h = absurd h.0
    done_branch k a arms arms' f (Puts s0 a0 d0 (OfValue g0 y0)) h = absurd h.0
    done_branch k a arms arms' f (Puts s0 a0 d0 (OfLabel z0)) h = absurd h.0
    done_branch k a arms arms' f (Puts s0 a0 d0 (OfPart g0 y0)) h = absurd h.0
    done_branch k a arms arms' f (Gets s0 d0 b10 (Into y0)) h = absurd h.0
    done_branch k a arms arms' f (Gets s0 d0 b10 (Label z0)) h = (h.0, in_arm arms' z0 (arm_at arms z0) (f z0) h.1)
    done_branch k a arms arms' f (Gets s0 d0 b10 (Part g0 y0)) h = absurd h.0
    done_branch k a arms arms' f (Does (Sets y0 g0)) h = absurd h.0
    done_branch k a arms arms' f (Does (Shows g0)) h = absurd h.0
    done_branch k a arms arms' f (Does (Asks y0 g0 z0 t0)) h = absurd h.0

    act_step : (a : Act) (n n' : CodeNode) → NodeOver n n' → Had a n → Done a n'
    act_step y (Join c r k next) n' o w =
        let i = inv_join n' (same o) in
        let o' : NodeOver (Join c r k next) (Join c r k i.next) = subst (NodeOver (Join c r k next)) i.is o in
        subst (λ (z : CodeNode). Done y z) (sym i.is) (done_join c r k next i.next (next_over o'.above o'.inside o'.distinct) y w)
    act_step y (Send k b x next) n' o w =
        let i = inv_send n' (same o) in
        let o' : NodeOver (Send k b x next) (Send k b i.e i.next) = subst (NodeOver (Send k b x next)) i.is o in
        subst (λ (z : CodeNode). Done y z) (sym i.is) (done_send k b x i.e next i.next i.term (next_over o'.above o'.inside o'.distinct) y w)
    act_step y (Recv k a x next) n' o w =
        let i = inv_recv n' (same o) in
        let o' : NodeOver (Recv k a x next) (Recv k a x i.next) = subst (NodeOver (Recv k a x next)) i.is o in
        subst (λ (z : CodeNode). Done y z) (sym i.is) (done_recv k a x next i.next (next_over o'.above o'.inside o'.distinct) y w)
    act_step y (Pick k b l next) n' o w =
        let i = inv_pick n' (same o) in
        let o' : NodeOver (Pick k b l next) (Pick k b l i.next) = subst (NodeOver (Pick k b l next)) i.is o in
        subst (λ (z : CodeNode). Done y z) (sym i.is) (done_pick k b l next i.next (next_over o'.above o'.inside o'.distinct) y w)
    act_step y (Throw k b h next) n' o w =
        let i = inv_throw n' (same o) in
        let o' : NodeOver (Throw k b h next) (Throw k b h i.next) = subst (NodeOver (Throw k b h next)) i.is o in
        subst (λ (z : CodeNode). Done y z) (sym i.is) (done_throw k b h next i.next (next_over o'.above o'.inside o'.distinct) y w)
    act_step y (Catch k a h next) n' o w =
        let i = inv_catch n' (same o) in
        let o' : NodeOver (Catch k a h next) (Catch k a h i.next) = subst (NodeOver (Catch k a h next)) i.is o in
        subst (λ (z : CodeNode). Done y z) (sym i.is) (done_catch k a h next i.next (next_over o'.above o'.inside o'.distinct) y w)
    act_step y (Set x v next) n' o w =
        let i = inv_set n' (same o) in
        let o' : NodeOver (Set x v next) (Set x i.e i.next) = subst (NodeOver (Set x v next)) i.is o in
        subst (λ (z : CodeNode). Done y z) (sym i.is) (done_set x v i.e next i.next i.term (next_over o'.above o'.inside o'.distinct) y w)
    act_step y (Show v next) n' o w =
        let i = inv_show n' (same o) in
        let o' : NodeOver (Show v next) (Show i.e i.next) = subst (NodeOver (Show v next)) i.is o in
        subst (λ (z : CodeNode). Done y z) (sym i.is) (done_show v i.e next i.next i.term (next_over o'.above o'.inside o'.distinct) y w)
    act_step y (Host x f u v next) n' o w =
        let i = inv_host n' (same o) in
        let o' : NodeOver (Host x f u v next) (Host x f i.e i.g i.next) = subst (NodeOver (Host x f u v next)) i.is o in
        subst (λ (z : CodeNode). Done y z) (sym i.is) (done_host x f u v i.e i.g next i.next i.term i.term2 (next_over o'.above o'.inside o'.distinct) y w)
    act_step y (Branch k a arms) n' o w =
        let i = inv_branch n' (same o) in
        let o' : NodeOver (Branch k a arms) (Branch k a i.arms) = subst (NodeOver (Branch k a arms)) i.is o in
        subst (λ (z : CodeNode). Done y z) (sym i.is) (done_branch k a arms i.arms (λ l q h. find_arm i.arms l q o'.inside o'.distinct (arm_above arms (arms_in ts' i.arms) l q (arms_above o'.above) h)) y w)
    act_step y (If v f g) n' o w = absurd w.0
    act_step y (Call f p ss) n' o w = absurd w.0
    act_step y End n' o w = absurd w.0

  -- ---- conditionals and ends
  branch_over : {v v' : Expr} {f g f' g' : CodeId} → NodeOver (If v f g) (If v' f' g') → IsCovered e e' f f' × IsCovered e e' g g'
  branch_over {f' = f'} {g' = g'} o = (
    record { inside = All-head (λ c. c.0 < length e'.code.nodes) f' (g' ∷ []) o.inside; above = first_above o.above; distinct = o.distinct.0 },
    record { inside = All-head (λ c. c.0 < length e'.code.nodes) g' [] (All-tail (λ c. c.0 < length e'.code.nodes) f' (g' ∷ []) o.inside); above = second_above o.above; distinct = o.distinct.1 },
  )

  test_step : (K K' L L' : At) → Lifts K K' → Lifts L L' → (m : SessionMap) (x : Term) (n n' : CodeNode) → NodeOver n n' → BothHold K L m x (fork_of n) → BothHold K' L' m x (fork_of n')
  test_step K K' L L' j k m x (If v f g) n' o w =
      let i = inv_if n' (same o) in
      let o' : NodeOver (If v f g) (If i.e i.one i.other) = subst (NodeOver (If v f g)) i.is o in
      let b = branch_over o' in
      subst (λ (z : CodeNode). BothHold K' L' m x (fork_of z)) (sym i.is) (i.term ∙ w.0, j f i.one m b.0 w.1, k g i.other m b.1 w.2)
  test_step K K' L L' j k m x (Join c0 r0 k0 next0) n' o w = absurd w
  test_step K K' L L' j k m x (Send k0 b0 x0 next0) n' o w = absurd w
  test_step K K' L L' j k m x (Recv k0 a0 x0 next0) n' o w = absurd w
  test_step K K' L L' j k m x (Pick k0 b0 l0 next0) n' o w = absurd w
  test_step K K' L L' j k m x (Branch k0 a0 arms0) n' o w = absurd w
  test_step K K' L L' j k m x (Throw k0 b0 h0 next0) n' o w = absurd w
  test_step K K' L L' j k m x (Catch k0 a0 h0 next0) n' o w = absurd w
  test_step K K' L L' j k m x (Set x0 v0 next0) n' o w = absurd w
  test_step K K' L L' j k m x (Show v0 next0) n' o w = absurd w
  test_step K K' L L' j k m x (Host x0 f0 u0 v0 next0) n' o w = absurd w
  test_step K K' L L' j k m x (Call f0 p0 ss0) n' o w = absurd w
  test_step K K' L L' j k m x End n' o w = absurd w

  end_step : (n n' : CodeNode) → NodeOver n n' → n ≡ End → n' ≡ End
  end_step n n' o h = let i = inv_end n' (same o ∙ ap head_of h) in i.is

  -- ---- places
  unit_lift : (R S : At) (P Q : CodeNode → Type 0) → Lifts R S → (f p : NameId) (ss : List NameId) (m : SessionMap) (o : Option ProcedureCode) → procedure_of e.procedures f p ≡ o
      → HoldsOf R P (body_standing o ss m) → HoldsOf S Q (body_standing (procedure_of e'.procedures f p) ss m)
  unit_lift R S P Q j f p ss m None g h = absurd h
  unit_lift R S P Q j f p ss m (Some x) g h =
      let u : IsUnitCovered e e' f p x = units f p x g in
      subst (λ (z : Option ProcedureCode). HoldsOf S Q (body_standing z ss m)) (sym u.found)
      (subst (λ (z : List NameId). S u.unit.body (passed z ss m)) (sym u.sessions) (j x.body u.unit.body (passed x.sessions ss m) u.body h))

  stands_lift : (R S : At) (P Q : CodeNode → Type 0) → Lifts R S → ((n n' : CodeNode) → NodeOver n n' → P n → Q n') → (m : SessionMap) (n n' : CodeNode) → NodeOver n n' → HoldsOf R P (standing e (Some n) m) → HoldsOf S Q (standing e' (Some n') m)
  stands_lift R S P Q j st m (Join c r k next) n' o w =
      let i = inv_join n' (same o) in
      subst (λ (z : CodeNode). HoldsOf S Q (standing e' (Some z) m)) (sym i.is) (st (Join c r k next) (Join c r k i.next) (subst (NodeOver (Join c r k next)) i.is o) w)
  stands_lift R S P Q j st m (Send k b x next) n' o w =
      let i = inv_send n' (same o) in
      subst (λ (z : CodeNode). HoldsOf S Q (standing e' (Some z) m)) (sym i.is) (st (Send k b x next) (Send k b i.e i.next) (subst (NodeOver (Send k b x next)) i.is o) w)
  stands_lift R S P Q j st m (Recv k a x next) n' o w =
      let i = inv_recv n' (same o) in
      subst (λ (z : CodeNode). HoldsOf S Q (standing e' (Some z) m)) (sym i.is) (st (Recv k a x next) (Recv k a x i.next) (subst (NodeOver (Recv k a x next)) i.is o) w)
  stands_lift R S P Q j st m (Pick k b l next) n' o w =
      let i = inv_pick n' (same o) in
      subst (λ (z : CodeNode). HoldsOf S Q (standing e' (Some z) m)) (sym i.is) (st (Pick k b l next) (Pick k b l i.next) (subst (NodeOver (Pick k b l next)) i.is o) w)
  stands_lift R S P Q j st m (Branch k a arms) n' o w =
      let i = inv_branch n' (same o) in
      subst (λ (z : CodeNode). HoldsOf S Q (standing e' (Some z) m)) (sym i.is) (st (Branch k a arms) (Branch k a i.arms) (subst (NodeOver (Branch k a arms)) i.is o) w)
  stands_lift R S P Q j st m (Throw k b h next) n' o w =
      let i = inv_throw n' (same o) in
      subst (λ (z : CodeNode). HoldsOf S Q (standing e' (Some z) m)) (sym i.is) (st (Throw k b h next) (Throw k b h i.next) (subst (NodeOver (Throw k b h next)) i.is o) w)
  stands_lift R S P Q j st m (Catch k a h next) n' o w =
      let i = inv_catch n' (same o) in
      subst (λ (z : CodeNode). HoldsOf S Q (standing e' (Some z) m)) (sym i.is) (st (Catch k a h next) (Catch k a h i.next) (subst (NodeOver (Catch k a h next)) i.is o) w)
  stands_lift R S P Q j st m (Set x v next) n' o w =
      let i = inv_set n' (same o) in
      subst (λ (z : CodeNode). HoldsOf S Q (standing e' (Some z) m)) (sym i.is) (st (Set x v next) (Set x i.e i.next) (subst (NodeOver (Set x v next)) i.is o) w)
  stands_lift R S P Q j st m (Show v next) n' o w =
      let i = inv_show n' (same o) in
      subst (λ (z : CodeNode). HoldsOf S Q (standing e' (Some z) m)) (sym i.is) (st (Show v next) (Show i.e i.next) (subst (NodeOver (Show v next)) i.is o) w)
  stands_lift R S P Q j st m (Host x f u v next) n' o w =
      let i = inv_host n' (same o) in
      subst (λ (z : CodeNode). HoldsOf S Q (standing e' (Some z) m)) (sym i.is) (st (Host x f u v next) (Host x f i.e i.g i.next) (subst (NodeOver (Host x f u v next)) i.is o) w)
  stands_lift R S P Q j st m (If v f g) n' o w =
      let i = inv_if n' (same o) in
      subst (λ (z : CodeNode). HoldsOf S Q (standing e' (Some z) m)) (sym i.is) (st (If v f g) (If i.e i.one i.other) (subst (NodeOver (If v f g)) i.is o) w)
  stands_lift R S P Q j st m (Call f p ss) n' o w =
      let i = inv_call n' (same o) in
      subst (λ (z : CodeNode). HoldsOf S Q (standing e' (Some z) m)) (sym i.is) (unit_lift R S P Q j f p ss m (procedure_of e.procedures f p) refl w)
  stands_lift R S P Q j st m End n' o w =
      let i = inv_end n' (same o) in
      subst (λ (z : CodeNode). HoldsOf S Q (standing e' (Some z) m)) (sym i.is) (st End End (subst (NodeOver End) i.is o) w)

  through_lift : (R S : At) (P Q : CodeNode → Type 0) → Lifts R S → ((n n' : CodeNode) → NodeOver n n' → P n → Q n') → (q q' : CodeId) (m : SessionMap) → IsCovered e e' q q' → HoldsOf R P (standing e (node_at e q) m) → HoldsOf S Q (standing e' (node_at e' q') m)
  through_lift R S P Q j st q q' m o w = go (node_at e q) (node_at e' q') refl refl w
    where
      go : (a : Option CodeNode) (b : Option CodeNode) → node_at e q ≡ a → node_at e' q' ≡ b → HoldsOf R P (standing e a m) → HoldsOf S Q (standing e' b m)
      go None b f g h = absurd h
      go (Some n) None f g h = absurd (nothing_there e'.code.nodes q'.0 o.inside g)
      go (Some n) (Some n') f g h =
          let at : code_at e.code.nodes q ≡ node_tree ts n = code_at-node e.code.nodes q n e.code.closed f in
          let at' : code_at e'.code.nodes q' ≡ node_tree ts' n' = code_at-node e'.code.nodes q' n' e'.code.closed g in
          let closed : All (λ c. c.0 < q'.0) (children_of n') = e'.code.closed q'.0 n' g in
          let over : NodeOver n n' = record {
            above = subst (λ (z : CodeTree). IsAbove (node_tree ts' n') z) at (subst (λ (z : CodeTree). IsAbove z (code_at e.code.nodes q)) at' o.above);
            inside = λ k d l. let c = closed k d l in let i = o.inside in omega arith;
            distinct = subst HasDistinctLabels at' o.distinct;
          } in stands_lift R S P Q j st m n n' over h

  -- ---- following
  act_lift : (R S K L : At) → Lifts R S → Lifts K L → (a : Option Act) → Lifts (follows_act e a R K) (follows_act e' a S L)
  act_lift R S K L i j None q q' m o h = j q q' m o h
  act_lift R S K L i j (Some a) q q' m o h = through_lift R S _ _ i (λ n n' w g. act_step K L j m a n n' w g) q q' m o h

  test_lift : (x : Term) (R S K K' L L' : At) → Lifts R S → Lifts K K' → Lifts L L' → (b : Bool) → Lifts (follows_test e b x R K L) (follows_test e' b x S K' L')
  test_lift x R S K K' L L' i j k false q q' m o h = (j q q' m o h.0, k q q' m o h.1)
  test_lift x R S K K' L L' i j k true q q' m o h = through_lift R S _ _ i (λ n n' w g. test_step K K' L L' j k m x n n' w g) q q' m o h

  end_lift : (R S : At) → Lifts R S → Lifts (follows_end e R) (follows_end e' S)
  end_lift R S i q q' m o h = through_lift R S _ _ i end_step q q' m o h

  call_lift : (R S : Choreography → At) → ((c : Choreography) → Lifts (R c) (S c)) → (b : Bool) (o : Option Choreography) → Lifts (follows_call e b o R) (follows_call e' b o S)
  call_lift R S i false o q q' m w h = end_lift (R Ends) (S Ends) (i Ends) q q' m w h
  call_lift R S i true None q q' m w h = h
  call_lift R S i true (Some c) q q' m w h = i c q q' m w h

  module _ (procs : List Procedure) (p : Ref) where
    over_lift : (R S : Choreography → At) → ((c : Choreography) → Lifts (R c) (S c)) → (c : Choreography) → Lifts (follows_over e procs p R c) (follows_over e' procs p S c)
    over_lift R S i (Then n rest) = act_lift _ _ _ _ (i (Then n rest)) (over_lift R S i rest) (act_of n p)
    over_lift R S i (Either r x c d) = test_lift x _ _ _ _ _ _ (i (Either r x c d)) (over_lift R S i c) (over_lift R S i d) (ref_eq p r)
    over_lift R S i (Calls f k ps ss) = call_lift R S i (among p ps) (body_of (procedure_named procs f) k ps ss)
    over_lift R S i Ends = end_lift (R Ends) (S Ends) (i Ends)

    pub follows_lift : (n : ℕ) (c : Choreography) → Lifts (Follows e procs n p c) (Follows e' procs n p c)
    follows_lift zero c = λ q q' m o h. tt
    follows_lift (suc n) c = over_lift (Follows e procs n p) (Follows e' procs n p) (follows_lift n) c
