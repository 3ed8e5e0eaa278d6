use Rattle.std.proofs.Common.{refl, ◌≡◌}
use Rattle.state_sets.specs.declared.act.Act.{Act}
use Rattle.state_sets.specs.Moves.{action_of}
use Rattle.state_sets.proofs.Lists.{in_of_at, none_at, none_whole}
use Rattle.state_sets.proofs.graph.knows.Goals as goal
use Rattle.std.proofs.lemmas.Option.{slice_get-get_or}

pub returns-then-same_act : goal.returns-then-same_act
returns-then-same_act c = (λ t. (_, in_of_at _ c.args.acts.now c.loop-known.known-index (slice_get-get_or c.args.acts.now c.loop-known.known-index _ c.loop-known-test.true), c.same_act.ensures.0 c.if-same_act.true), λ h. refl)

pub loop-known-preserved : goal.loop-known-preserved
loop-known-preserved c = none_at (λ (b : Act). action_of b ≡ action_of c.args.act.now) c.args.acts.now c.loop-known.known-index _ c.loop-known-test.true c.loop-known.invariant (λ e. absurd (let t = c.same_act.ensures.1 e in let f = c.if-same_act.false in cc))

pub returns : goal.returns
returns c = (λ t. absurd (cc), λ h. absurd (none_whole (λ (b : Act). action_of b ≡ action_of c.args.act.now) c.args.acts.now c.loop-known.known-index c.loop-known-test.false c.loop-known.invariant h.0 h.1 h.2))
