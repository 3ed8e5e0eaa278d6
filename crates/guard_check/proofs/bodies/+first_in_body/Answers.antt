use Rattle.std.proofs.Common.{◌≡◌, false, None, ◌<◌, ◌∷◌, [], refl, sym, ap, ◌∙◌, subst, arith}
use Rattle.std.specs.Prelude.{Contains, option_copied}
use Rattle.std.specs.List.{list_any}
use Rattle.chor_tree.specs.Source.{body_of}
use Rattle.chor_tree.specs.Forms.{head_of}
use Rattle.chor_tree.specs.Names.{is_among}
use Rattle.chor_base.specs.Faults.{IsFirst}
use Rattle.chor_base.proofs.Members.{at_head, at_tail}
use Rattle.chor_tree.proofs.Nodes.{child_below}
use Rattle.typing_rules.specs.Guarded.{named_by, passed_by}
use Rattle.guard_check.specs.InBodies.{IsUnguardedIn}
use Rattle.guard_check.proofs.Walks.{AreUnnamed, after_none, after_one, after_two, passes_first, node_then, walk_ends}
use Rattle.guard_check.proofs.bodies.+first_in_body.Goals as goal

pub returns-then-passes : goal.returns-then-passes
returns-then-passes t c =
    let f = c.args.file.now in
    let n = c.in-Some.node.now in
    passes_first f (IsUnguardedIn c.args.processes (body_of f c.args.id)) c.loop-node.unnamed c.loop-node.at n (sym c.in-Some.ensures)
    (ap (λ l. list_any (is_among l) (passed_by (head_of n.form))) (sym c.as_slice.ensures) ∙ sym c.passes.ensures ∙ c.if-passes.true) c.loop-node.invariant.rest

pub returns-in-Nothing : goal.returns-in-Nothing
returns-in-Nothing t c =
    let f = c.args.file.now in
    let n = c.in-Some.node.now in
    let none : list_any (is_among c.loop-node.unnamed) (passed_by (head_of n.form)) ≡ false = ap (λ l. list_any (is_among l) (passed_by (head_of n.form))) (sym c.as_slice.ensures) ∙ sym c.passes.ensures ∙ c.if-passes.false in
    let are = subst (λ l. AreUnnamed l (named_by (head_of n.form)) c.in_ok-unnamed.unnamed) c.as_slice-in-Some.ensures c.in_ok-unnamed.ensures in
    node_then f (IsUnguardedIn c.args.processes (body_of f c.args.id)) c.loop-node.unnamed c.in_ok-unnamed.unnamed c.loop-node.at n [] (sym c.in-Some.ensures) none are c.in-Nothing.ensures c.loop-node.invariant.rest None (after_none f c.in_ok-unnamed.unnamed)

pub loop-node-smaller : goal.loop-node-smaller
loop-node-smaller t c =
    let f = c.args.file.now in
    let next = c.in-One.next in
    child_below f.tree.nodes c.loop-node.at.0 c.in-Some.node.now next f.tree.closed (sym c.in-Some.ensures) (subst (λ l. Contains l next) c.in-One.ensures (at_head next [] next refl))

pub loop-node-preserved : goal.loop-node-preserved
loop-node-preserved t c =
    let f = c.args.file.now in
    let n = c.in-Some.node.now in
    let none : list_any (is_among c.loop-node.unnamed) (passed_by (head_of n.form)) ≡ false = ap (λ l. list_any (is_among l) (passed_by (head_of n.form))) (sym c.as_slice.ensures) ∙ sym c.passes.ensures ∙ c.if-passes.false in
    let are = subst (λ l. AreUnnamed l (named_by (head_of n.form)) c.in_ok-unnamed.unnamed) c.as_slice-in-Some.ensures c.in_ok-unnamed.ensures in
    let next = c.in-One.next in
    let lt : next.0 < c.loop-node.at.0 = child_below f.tree.nodes c.loop-node.at.0 n next f.tree.closed (sym c.in-Some.ensures) (subst (λ l. Contains l next) c.in-One.ensures (at_head next [] next refl)) in
    let le = c.loop-node.invariant.below in
    record {
      rest = λ o h. node_then f (IsUnguardedIn c.args.processes (body_of f c.args.id)) c.loop-node.unnamed c.in_ok-unnamed.unnamed c.loop-node.at n (next ∷ []) (sym c.in-Some.ensures) none are c.in-One.ensures c.loop-node.invariant.rest o (after_one f c.in_ok-unnamed.unnamed next o h);
      below = omega arith;
    }

pub first_in_body-requires : goal.first_in_body-requires
first_in_body-requires t c =
    let f = c.args.file.now in
    let one = c.in-Either.one in
    let other = c.in-Either.other in
    let lt : one.0 < c.loop-node.at.0 = child_below f.tree.nodes c.loop-node.at.0 c.in-Some.node.now one f.tree.closed (sym c.in-Some.ensures) (subst (λ l. Contains l one) c.in-Either.ensures (at_head one (other ∷ []) one refl)) in
    (omega (arith, lt, c.loop-node.invariant.below, c.decreases), tt)

pub first_in_body-requires-in-Either : goal.first_in_body-requires-in-Either
first_in_body-requires-in-Either t c =
    let f = c.args.file.now in
    let one = c.in-Either.one in
    let other = c.in-Either.other in
    let lt : other.0 < c.loop-node.at.0 = child_below f.tree.nodes c.loop-node.at.0 c.in-Some.node.now other f.tree.closed (sym c.in-Some.ensures) (subst (λ l. Contains l other) c.in-Either.ensures (at_tail one (other ∷ []) other (at_head other [] other refl))) in
    (omega (arith, lt, c.loop-node.invariant.below, c.decreases), tt)

pub returns-in-Either : goal.returns-in-Either
returns-in-Either t c =
    let f = c.args.file.now in
    let n = c.in-Some.node.now in
    let none : list_any (is_among c.loop-node.unnamed) (passed_by (head_of n.form)) ≡ false = ap (λ l. list_any (is_among l) (passed_by (head_of n.form))) (sym c.as_slice.ensures) ∙ sym c.passes.ensures ∙ c.if-passes.false in
    let are = subst (λ l. AreUnnamed l (named_by (head_of n.form)) c.in_ok-unnamed.unnamed) c.as_slice-in-Some.ensures c.in_ok-unnamed.ensures in
    let one = c.in-Either.one in
    let other = c.in-Either.other in
    let here : IsFirst (IsUnguardedIn c.in_ok-unnamed.unnamed (body_of f one)) c.in_ok-here-in-Either.here = subst (λ ps. IsFirst (IsUnguardedIn ps (body_of f one)) c.in_ok-here-in-Either.here) c.in_ok-same-in-Either.ensures c.in_ok-here-in-Either.ensures in
    let both = after_two f c.in_ok-unnamed.unnamed one other _ _ here c.in_ok-there-in-Either.ensures in
    let all = node_then f (IsUnguardedIn c.args.processes (body_of f c.args.id)) c.loop-node.unnamed c.in_ok-unnamed.unnamed c.loop-node.at n (one ∷ other ∷ []) (sym c.in-Some.ensures) none are c.in-Either.ensures c.loop-node.invariant.rest _ both in
    subst (λ p. IsFirst (IsUnguardedIn c.args.processes (body_of f c.args.id)) p) (sym c.earlier.ensures) all

pub returns : goal.returns
returns t c =
    let f = c.args.file.now in
    walk_ends f (IsUnguardedIn c.args.processes (body_of f c.args.id)) c.loop-node.unnamed c.loop-node.at (sym (ap option_copied c.in_default.is) ∙ c.node_at.ensures) c.loop-node.invariant.rest
