use Rattle.std.proofs.Common.{◌≡◌, true, false, ◌<◌, ◌∷◌, [], refl, sym, ap, ◌∙◌, subst, arith}
use Rattle.std.specs.Prelude.{Contains, option_copied}
use Rattle.std.proofs.lemmas.Result.{IfOk-weaker, on_ok_weaker}
use Rattle.chor_tree.specs.Source.{body_of}
use Rattle.linear_check.specs.Tracks.{Tracks}
use Rattle.linear_check.specs.Takes.{TakesAway}
use Rattle.chor_base.proofs.Members.{at_head, at_tail}
use Rattle.chor_tree.proofs.Nodes.{child_below}
use Rattle.linear_check.specs.Weights.{form_weight, weight_of, IsNoHeavier}
use Rattle.linear_check.proofs.PassedOn.{neither}
use Rattle.linear_check.proofs.Weights.{falls_twice, no_heavier_twice, no_heavier_same, no_more, falls, ok_both}
use Rattle.linear_check.proofs.WalksOn.{begins, goes_on, tail_away, past_away, branches_away}
use Rattle.linear_check.proofs.group.Group.+take_from.Goals as goal

pub take_at-requires : goal.take_at-requires
take_at-requires t c = sym c.in-Nothing.ensures

pub returns-in-Nothing-clause-taken : goal.returns-in-Nothing-clause-taken
returns-in-Nothing-clause-taken t c =
    let f = c.args.self.now.file.now in
    let cs = c.args.self.now.channels.names.now in
    let n = c.in-Some.node.now in
    let new = c.take_at.new.sets in
    on_ok_weaker c.take_at.result
    (λ taken m tracks. let g = c.loop-node.invariant.on m tracks in
    subst (λ s. TakesAway cs m (body_of f c.args.id) s new) c.loop-node.invariant.same
    (g.rest c.loop-node.sets new (tail_away f cs c.loop-node.heard g.members c.loop-node.sets new c.loop-node.at n c.args.self.now.channels.few (sym c.in-Some.ensures) g.tracks c.in-Nothing.ensures taken)))
    c.take_at.ensures.taken

pub returns-in-Nothing-clause-same : goal.returns-in-Nothing-clause-same
returns-in-Nothing-clause-same t c =
    let new = c.take_at.new.sets in
    IfOk-weaker c.take_at.result (λ b. b ≡ false → new ≡ c.loop-node.sets) (λ b. b ≡ false → new ≡ c.args.sets.now) (λ b h e. h e ∙ c.loop-node.invariant.same) c.take_at.ensures.same

pub loop-node-smaller : goal.loop-node-smaller
loop-node-smaller t c =
    let f = c.args.self.now.file.now in
    let next = c.in-One.next in
    child_below f.tree.nodes c.loop-node.at.0 c.in-Some.node.now next f.tree.closed (sym c.in-Some.ensures) (subst (λ l. Contains l next) c.in-One.ensures (at_head next [] next refl))

pub loop-node-preserved : goal.loop-node-preserved
loop-node-preserved t c =
    let f = c.args.self.now.file.now in
    let cs = c.args.self.now.channels.names.now in
    let n = c.in-Some.node.now in
    let next = c.in-One.next in
    let lt : next.0 < c.loop-node.at.0 = child_below f.tree.nodes c.loop-node.at.0 n next f.tree.closed (sym c.in-Some.ensures) (subst (λ l. Contains l next) c.in-One.ensures (at_head next [] next refl)) in
    let le = c.loop-node.invariant.below in
    record {
      on = λ m tracks. goes_on f cs c.args.heard c.loop-node.heard c.after.new.self m c.args.id c.loop-node.at next n (sym c.in-Some.ensures) c.in-One.ensures c.in_ok-after-in-One.ensures (c.loop-node.invariant.on m tracks);
      same = c.loop-node.invariant.same;
      below = omega arith;
    }

pub take_from-requires : goal.take_from-requires
take_from-requires t c =
    let f = c.args.self.now.file.now in
    let one = c.in-Either.one in
    let other = c.in-Either.other in
    let lt : one.0 < c.loop-node.at.0 = child_below f.tree.nodes c.loop-node.at.0 c.in-Some.node.now one f.tree.closed (sym c.in-Some.ensures) (subst (λ l. Contains l one) c.in-Either.ensures (at_head one (other ∷ []) one refl)) in
    (omega (arith, lt, c.loop-node.invariant.below, c.decreases), tt)

pub take_from-requires-in-Either : goal.take_from-requires-in-Either
take_from-requires-in-Either t c =
    let f = c.args.self.now.file.now in
    let one = c.in-Either.one in
    let other = c.in-Either.other in
    let lt : other.0 < c.loop-node.at.0 = child_below f.tree.nodes c.loop-node.at.0 c.in-Some.node.now other f.tree.closed (sym c.in-Some.ensures) (subst (λ l. Contains l other) c.in-Either.ensures (at_tail one (other ∷ []) other (at_head other [] other refl))) in
    (omega (arith, lt, c.loop-node.invariant.below, c.decreases), tt)

pub returns-in-Either-clause-taken : goal.returns-in-Either-clause-taken
returns-in-Either-clause-taken t c = λ m tracks.
    let f = c.args.self.now.file.now in
    let cs = c.args.self.now.channels.names.now in
    let n = c.in-Some.node.now in
    let g = c.loop-node.invariant.on m tracks in
    let middle = c.take_from.new.sets in
    let new = c.take_from-in-Either.new.sets in
    let copied : Tracks cs c.in_ok-same-in-Either.same g.members = (λ k lt x. g.tracks k lt x ∙ sym (c.in_ok-same-in-Either.ensures k x)) in
    subst (λ s. TakesAway cs m (body_of f c.args.id) s new) c.loop-node.invariant.same
    (g.rest c.loop-node.sets new
    (branches_away f cs g.members c.loop-node.sets middle new c.loop-node.at c.in-Either.one c.in-Either.other n (sym c.in-Some.ensures) c.in-Either.ensures
    (c.in_ok-first-in-Either.ensures.taken g.members copied) (c.in_ok-second-in-Either.ensures.taken g.members g.tracks)))

pub returns-in-Either-clause-same : goal.returns-in-Either-clause-same
returns-in-Either-clause-same t c = λ e.
    let both = neither c.in_ok-first-in-Either.first c.in_ok-second-in-Either.second e in
    c.in_ok-second-in-Either.ensures.same both.1 ∙ c.in_ok-first-in-Either.ensures.same both.0 ∙ c.loop-node.invariant.same

pub loop-node-init : goal.loop-node-init
loop-node-init t c = record {
  on = λ m tracks. begins c.args.self.now.file.now c.args.self.now.channels.names.now c.args.heard m c.args.id tracks;
  same = refl;
  below = omega arith;
}

pub returns-clause-taken : goal.returns-clause-taken
returns-clause-taken t c = λ m tracks.
    let f = c.args.self.now.file.now in
    let cs = c.args.self.now.channels.names.now in
    let g = c.loop-node.invariant.on m tracks in
    subst (λ s. TakesAway cs m (body_of f c.args.id) s c.loop-node.sets) c.loop-node.invariant.same
    (g.rest c.loop-node.sets c.loop-node.sets (past_away f cs g.members c.loop-node.sets c.loop-node.at (sym (ap option_copied c.in_default.is) ∙ c.node_at.ensures)))

pub returns-clause-same : goal.returns-clause-same
returns-clause-same t c = λ e. c.loop-node.invariant.same

pub returns-in-Nothing-clause-lighter : goal.returns-in-Nothing-clause-lighter
returns-in-Nothing-clause-lighter t c =
    let new = c.take_at.new.sets in
    on_ok_weaker c.take_at.result (λ h. subst (λ s. IsNoHeavier new s) c.loop-node.invariant.same h) c.take_at.ensures.lighter

pub returns-in-Nothing-clause-falls : goal.returns-in-Nothing-clause-falls
returns-in-Nothing-clause-falls t c =
    let nodes = c.args.self.now.file.now.tree.nodes in
    let new = c.take_at.new.sets in
    let old = c.loop-node.sets in
    let n = c.in-Some.node.now in
    ok_both c.take_at.result (λ b. b ≡ true → form_weight new n.form < form_weight old n.form) (λ b. b ≡ true → weight_of new nodes < weight_of c.args.sets.now nodes) (IsNoHeavier new old)
    (λ b less h e. subst (λ s. weight_of new nodes < weight_of s nodes) c.loop-node.invariant.same (falls old new h nodes c.loop-node.at.0 n (sym c.in-Some.ensures) (less e)))
    c.take_at.ensures.falls c.take_at.ensures.lighter

pub returns-in-Either-clause-lighter : goal.returns-in-Either-clause-lighter
returns-in-Either-clause-lighter t c =
    let middle = c.take_from.new.sets in
    let first = subst (λ s. IsNoHeavier middle s) c.loop-node.invariant.same c.in_ok-first-in-Either.ensures.lighter in
    no_heavier_twice c.args.sets.now middle c.take_from-in-Either.new.sets first c.in_ok-second-in-Either.ensures.lighter

pub returns-in-Either-clause-falls : goal.returns-in-Either-clause-falls
returns-in-Either-clause-falls t c =
    let nodes = c.args.self.now.file.now.tree.nodes in
    let old = c.args.sets.now in
    let middle = c.take_from.new.sets in
    let new = c.take_from-in-Either.new.sets in
    let first : IsNoHeavier middle old = subst (λ s. IsNoHeavier middle s) c.loop-node.invariant.same c.in_ok-first-in-Either.ensures.lighter in
    falls_twice c.in_ok-first-in-Either.first c.in_ok-second-in-Either.second (weight_of old nodes) (weight_of middle nodes) (weight_of new nodes)
    (λ e. subst (λ s. weight_of middle nodes < weight_of s nodes) c.loop-node.invariant.same (c.in_ok-first-in-Either.ensures.falls e))
    c.in_ok-second-in-Either.ensures.falls (no_more old middle first nodes) (no_more middle new c.in_ok-second-in-Either.ensures.lighter nodes)

pub returns-clause-lighter : goal.returns-clause-lighter
returns-clause-lighter t c = no_heavier_same c.args.sets.now c.loop-node.sets c.loop-node.invariant.same
