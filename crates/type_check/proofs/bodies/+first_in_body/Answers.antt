use Rattle.std.proofs.Common.{◌<◌, ◌∷◌, [], refl, sym, ◌∙◌, subst, arith}
use Rattle.std.specs.Prelude.{Contains}
use Rattle.chor_base.specs.Faults.{IsFirst}
use Rattle.chor_base.proofs.Members.{at_head, at_tail}
use Rattle.chor_tree.specs.Children.{children_of}
use Rattle.chor_tree.proofs.Nodes.{child_below}
use Rattle.typing_steps.specs.Known.{environment_of}
use Rattle.type_check.proofs.Names.{is_fresh, resolved_next}
use Rattle.type_check.proofs.Turns.{none_is, turn_ends, turn_goes_on, turn_branches}
use Rattle.type_check.proofs.Walks.{IsFaultAt, walk_stops, walk_passes}
use Rattle.type_check.proofs.bodies.+first_in_body.Goals as goal

pub judge-requires : goal.judge-requires
judge-requires t c = is_fresh c.args.file.now (environment_of c.body.known) c.body.at c.node_at-node.result.now c.body.invariant.resolved c.node_at-node.ensures

pub returns-then-is_some : goal.returns-then-is_some
returns-then-is_some t c =
    let f = c.args.file.now in
    let W = IsFaultAt f (environment_of c.args.known) c.args.id in
    let some = sym c.is_some.ensures ∙ c.if-is_some.true in
    subst (λ o. IsFirst W o) (sym c.earlier.ensures)
    (walk_stops f W c.body.first (environment_of c.body.known) c.body.at c.node_at-node.result.now c.node_at-node.ensures c.body.invariant.rest c.in_ok-found.found c.in_ok-found.ensures.fault some)

pub returns-in-Nothing : goal.returns-in-Nothing
returns-in-Nothing t c =
    let f = c.args.file.now in
    let n = c.node_at-node.result.now in
    let W = IsFaultAt f (environment_of c.args.known) c.args.id in
    let now = environment_of c.judge.new.known in
    let none = sym c.is_some.ensures ∙ c.if-is_some.false in
    let then = c.in_ok-found.ensures.known (none_is c.in_ok-found.found none) in
    let rest = walk_passes f W c.body.first (environment_of c.body.known) c.body.at n c.node_at-node.ensures c.body.invariant.rest c.in_ok-found.found now c.in_ok-found.ensures.fault none then in
    turn_ends (IsFaultAt f now) W c.body.first (children_of n.form) rest c.in-Nothing.ensures

pub body-smaller-in-One : goal.body-smaller-in-One
body-smaller-in-One t c =
    let f = c.args.file.now in
    let next = c.in-One.next in
    child_below f.tree.nodes c.body.at.0 c.node_at-node.result.now next f.tree.closed c.node_at-node.ensures (subst (λ l. Contains l next) c.in-One.ensures (at_head next [] next refl))

pub body-preserved-in-One : goal.body-preserved-in-One
body-preserved-in-One t c =
    let f = c.args.file.now in
    let next = c.in-One.next in
    let n = c.node_at-node.result.now in
    let W = IsFaultAt f (environment_of c.args.known) c.args.id in
    let now = environment_of c.judge.new.known in
    let none = sym c.is_some.ensures ∙ c.if-is_some.false in
    let then = c.in_ok-found.ensures.known (none_is c.in_ok-found.found none) in
    let rest = walk_passes f W c.body.first (environment_of c.body.known) c.body.at n c.node_at-node.ensures c.body.invariant.rest c.in_ok-found.found now c.in_ok-found.ensures.fault none then in
    let m : Contains _ next = subst (λ l. Contains l next) c.in-One.ensures (at_head next [] next refl) in
    let lt : next.0 < c.body.at.0 = child_below f.tree.nodes c.body.at.0 n next f.tree.closed c.node_at-node.ensures m in
    let le = c.body.invariant.below in
    record {
      rest = turn_goes_on (IsFaultAt f now) W c.body.first (children_of n.form) rest next c.in-One.ensures;
      resolved = resolved_next f (environment_of c.body.known) now c.body.at next n c.body.invariant.resolved c.node_at-node.ensures then m;
      below = omega (arith, lt, le);
    }

pub first_in_body-requires : goal.first_in_body-requires
first_in_body-requires t c =
    let f = c.args.file.now in
    let one = c.in-Either.one in
    let other = c.in-Either.other in
    let n = c.node_at-node.result.now in
    let none = sym c.is_some.ensures ∙ c.if-is_some.false in
    let then = c.in_ok-found.ensures.known (none_is c.in_ok-found.found none) in
    let m : Contains _ one = subst (λ l. Contains l one) c.in-Either.ensures (at_head one (other ∷ []) one refl) in
    let lt : one.0 < c.body.at.0 = child_below f.tree.nodes c.body.at.0 n one f.tree.closed c.node_at-node.ensures m in
    let le = c.body.invariant.below in (
      omega (arith, lt, le, c.decreases),
      resolved_next f (environment_of c.body.known) (environment_of c.in_ok-copy-in-Either.copy) c.body.at one n c.body.invariant.resolved c.node_at-node.ensures (c.in_ok-copy-in-Either.ensures ∙ then) m,
    )

pub body-smaller : goal.body-smaller
body-smaller t c =
    let f = c.args.file.now in
    let one = c.in-Either.one in
    let other = c.in-Either.other in
    child_below f.tree.nodes c.body.at.0 c.node_at-node.result.now other f.tree.closed c.node_at-node.ensures (subst (λ l. Contains l other) c.in-Either.ensures (at_tail one (other ∷ []) other (at_head other [] other refl)))

pub body-preserved : goal.body-preserved
body-preserved t c =
    let f = c.args.file.now in
    let one = c.in-Either.one in
    let other = c.in-Either.other in
    let n = c.node_at-node.result.now in
    let W = IsFaultAt f (environment_of c.args.known) c.args.id in
    let now = environment_of c.judge.new.known in
    let none = sym c.is_some.ensures ∙ c.if-is_some.false in
    let then = c.in_ok-found.ensures.known (none_is c.in_ok-found.found none) in
    let rest = walk_passes f W c.body.first (environment_of c.body.known) c.body.at n c.node_at-node.ensures c.body.invariant.rest c.in_ok-found.found now c.in_ok-found.ensures.fault none then in
    let m : Contains _ other = subst (λ l. Contains l other) c.in-Either.ensures (at_tail one (other ∷ []) other (at_head other [] other refl)) in
    let lt : other.0 < c.body.at.0 = child_below f.tree.nodes c.body.at.0 n other f.tree.closed c.node_at-node.ensures m in
    let le = c.body.invariant.below in
    let here = subst (λ e. IsFirst (IsFaultAt f e one) c.in_ok-here-in-Either.here) c.in_ok-copy-in-Either.ensures c.in_ok-here-in-Either.ensures in
    record {
      rest = turn_branches (IsFaultAt f now) W c.body.first (children_of n.form) rest one other c.in_ok-here-in-Either.here c.earlier-first.result c.in-Either.ensures here c.earlier-first.ensures;
      resolved = resolved_next f (environment_of c.body.known) now c.body.at other n c.body.invariant.resolved c.node_at-node.ensures then m;
      below = omega (arith, lt, le);
    }
