use Rattle.std.proofs.Common.{false, arith}
use Rattle.causal_order.proofs.Reaching.{no_ancestor, is_ancestor, decides_before, decides_shared}
use Rattle.causal_order.proofs.orders.Order.before.Goals as goal

pub returns-then-first-second-clause-reached : goal.returns-then-first-second-clause-reached
returns-then-first-second-clause-reached c = no_ancestor c.args.self.now.causes c.args.self.now.earlier c.args.first c.args.second c.if-first-second.true

pub returns-then-first-second-clause-happens : goal.returns-then-first-second-clause-happens
returns-then-first-second-clause-happens c = decides_before c.args.self.now.causes c.args.first c.args.second false (no_ancestor c.args.self.now.causes c.args.self.now.earlier c.args.first c.args.second c.if-first-second.true)

pub returns-then-first-second-clause-shared : goal.returns-then-first-second-clause-shared
returns-then-first-second-clause-shared c = decides_shared c.args.self.now.causes c.args.first c.args.second false c.requires.second (no_ancestor c.args.self.now.causes c.args.self.now.earlier c.args.first c.args.second c.if-first-second.true)

pub returns-clause-reached : goal.returns-clause-reached
returns-clause-reached c =
    is_ancestor c.args.self.now.causes c.args.first c.args.second c.if-first-second.false c.in_ok-marks.marks.items c.index.result.now (let a = c.in_ok-marks.marks.ok in let b = c.in_ok-marks.ensures.len in let d = c.requires.first in omega arith) c.index.ensures (c.in_ok-marks.ensures.marked c.args.first c.requires.first)

pub returns-clause-happens : goal.returns-clause-happens
returns-clause-happens c = decides_before c.args.self.now.causes c.args.first c.args.second c.index.result.now
    (is_ancestor c.args.self.now.causes c.args.first c.args.second c.if-first-second.false c.in_ok-marks.marks.items c.index.result.now (let a = c.in_ok-marks.marks.ok in let b = c.in_ok-marks.ensures.len in let d = c.requires.first in omega arith) c.index.ensures (c.in_ok-marks.ensures.marked c.args.first c.requires.first))

pub returns-clause-shared : goal.returns-clause-shared
returns-clause-shared c = decides_shared c.args.self.now.causes c.args.first c.args.second c.index.result.now c.requires.second
    (is_ancestor c.args.self.now.causes c.args.first c.args.second c.if-first-second.false c.in_ok-marks.marks.items c.index.result.now (let a = c.in_ok-marks.marks.ok in let b = c.in_ok-marks.ensures.len in let d = c.requires.first in omega arith) c.index.ensures (c.in_ok-marks.ensures.marked c.args.first c.requires.first))
