use Rattle.std.proofs.Common.{◌<◌, ◌∷◌, [], refl, sym, ap, ◌∙◌, subst, arith}
use Rattle.std.specs.Prelude.{Contains, option_copied}
use Rattle.chor_base.proofs.Members.{at_head, at_tail}
use Rattle.chor_base.specs.Faults.{earlier, IsFirst}
use Rattle.chor_tree.specs.Source.{body_of}
use Rattle.chor_tree.proofs.Nodes.{child_below}
use Rattle.linear_check.specs.Tracks.{Tracks, IsUnorderedOfAny}
use Rattle.linear_check.proofs.Faults.{seek_begins, seeks_on, seek_tail, seek_branches, seek_ends}
use Rattle.linear_check.proofs.group.Group.+first_from.Goals as goal

pub returns-in-Nothing : goal.returns-in-Nothing
returns-in-Nothing t c = λ m tracks.
    let f = c.args.self.now.file.now in
    let cs = c.args.self.now.channels.names.now in
    let n = c.in-Some.node.now in
    seek_tail f cs c.args.heard c.loop-node.heard m c.args.id c.loop-node.at n c.loop-node.first c.first_with-first.result _ c.misses-misses.result
    (sym c.in-Some.ensures) c.in-Nothing.ensures refl c.first_with-first.ensures c.misses-misses.ensures (c.loop-node.invariant.on m tracks)

pub loop-node-smaller : goal.loop-node-smaller
loop-node-smaller t c =
    let f = c.args.self.now.file.now in
    let next = c.in-One.next in
    child_below f.tree.nodes c.loop-node.at.0 c.in-Some.node.now next f.tree.closed (sym c.in-Some.ensures) (subst (λ l. Contains l next) c.in-One.ensures (at_head next [] next refl))

pub loop-node-preserved : goal.loop-node-preserved
loop-node-preserved t c =
    let f = c.args.self.now.file.now in
    let cs = c.args.self.now.channels.names.now in
    let n = c.in-Some.node.now in
    let next = c.in-One.next in
    let lt : next.0 < c.loop-node.at.0 = child_below f.tree.nodes c.loop-node.at.0 n next f.tree.closed (sym c.in-Some.ensures) (subst (λ l. Contains l next) c.in-One.ensures (at_head next [] next refl)) in
    let le = c.loop-node.invariant.below in
    record {
      on = λ m tracks. seeks_on f cs c.args.heard c.loop-node.heard c.after.new.self m c.args.id c.loop-node.at next n c.loop-node.first c.first_with-first.result _ c.misses-misses.result
          (sym c.in-Some.ensures) c.in-One.ensures refl c.first_with-first.ensures c.misses-misses.ensures c.in_ok-after-in-One.ensures (c.loop-node.invariant.on m tracks);
      below = omega arith;
    }

pub first_from-requires : goal.first_from-requires
first_from-requires t c =
    let f = c.args.self.now.file.now in
    let one = c.in-Either.one in
    let other = c.in-Either.other in
    let lt : one.0 < c.loop-node.at.0 = child_below f.tree.nodes c.loop-node.at.0 c.in-Some.node.now one f.tree.closed (sym c.in-Some.ensures) (subst (λ l. Contains l one) c.in-Either.ensures (at_head one (other ∷ []) one refl)) in
    (omega (arith, lt, c.loop-node.invariant.below, c.decreases), tt)

pub first_from-requires-in-Either : goal.first_from-requires-in-Either
first_from-requires-in-Either t c =
    let f = c.args.self.now.file.now in
    let one = c.in-Either.one in
    let other = c.in-Either.other in
    let lt : other.0 < c.loop-node.at.0 = child_below f.tree.nodes c.loop-node.at.0 c.in-Some.node.now other f.tree.closed (sym c.in-Some.ensures) (subst (λ l. Contains l other) c.in-Either.ensures (at_tail one (other ∷ []) other (at_head other [] other refl))) in
    (omega (arith, lt, c.loop-node.invariant.below, c.decreases), tt)

pub returns-in-Either : goal.returns-in-Either
returns-in-Either t c = λ m tracks.
    let f = c.args.self.now.file.now in
    let cs = c.args.self.now.channels.names.now in
    let n = c.in-Some.node.now in
    let g = c.loop-node.invariant.on m tracks in
    let copied : Tracks cs c.in_ok-same-in-Either.same g.members = (λ k lt x. g.tracks k lt x ∙ sym (c.in_ok-same-in-Either.ensures k x)) in
    let all = seek_branches f cs c.args.heard c.loop-node.heard m c.args.id c.loop-node.at c.in-Either.one c.in-Either.other n c.loop-node.first c.first_with-first.result _ c.misses-misses.result _ _
    (sym c.in-Some.ensures) c.in-Either.ensures refl c.first_with-first.ensures c.misses-misses.ensures g (c.in_ok-here-in-Either.ensures g.members copied) (c.in_ok-there-in-Either.ensures g.members g.tracks) in
    subst (λ p. IsFirst (IsUnorderedOfAny cs m (body_of f c.args.id)) p) (ap (λ p. earlier c.first_with-first.result p) (sym c.earlier-branches.ensures) ∙ sym c.earlier.ensures) all

pub loop-node-init : goal.loop-node-init
loop-node-init t c = record {
  on = λ m tracks. seek_begins c.args.self.now.file.now c.args.self.now.channels.names.now c.args.heard m c.args.id tracks;
  below = omega arith;
}

pub returns : goal.returns
returns t c = λ m tracks.
    seek_ends c.args.self.now.file.now c.args.self.now.channels.names.now c.args.heard c.loop-node.heard m c.args.id c.loop-node.at c.loop-node.first
    (sym (ap option_copied c.in_default.is) ∙ c.node_at.ensures) (c.loop-node.invariant.on m tracks)
