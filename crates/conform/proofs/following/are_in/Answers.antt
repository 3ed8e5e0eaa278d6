use Rattle.conform.proofs.Parts.{parts_differ}
use Rattle.conform.proofs.following.are_in.Goals as goal

pub returns-then-ne : goal.returns-then-ne
returns-then-ne c = parts_differ c.args.parts.now c.args.roles.now c.loop-place.place _ _ c.ne.result c.if-parts-roles.false c.loop-place-test.true c.ne.ensures c.if-ne.true
