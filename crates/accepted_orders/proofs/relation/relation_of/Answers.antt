use Rattle.accepted_orders.specs.Relations.{same, before, after, beside}
use Rattle.accepted_orders.proofs.relation.relation_of.Goals as goal

pub returns-then-first-second : goal.returns-then-first-second
returns-then-first-second c = λ h capacity are. same c.if-first-second.true

pub returns-then-branch : goal.returns-then-branch
returns-then-branch c = λ h capacity are. before ((c.in_ok-before.ensures.happens h capacity are).0 c.if-branch.true)

pub returns-then-branch-2 : goal.returns-then-branch-2
returns-then-branch-2 c = λ h capacity are. after ((c.in_ok-before-2.ensures.happens h capacity are).0 c.if-branch-2.true)

pub returns : goal.returns
returns c = λ h capacity are. beside c.if-first-second.false
    (λ one. (let told = (c.in_ok-before.ensures.happens h capacity are).1 one in let not = c.if-branch.false in cc))
    (λ other. (let told = (c.in_ok-before-2.ensures.happens h capacity are).1 other in let not = c.if-branch-2.false in cc))
