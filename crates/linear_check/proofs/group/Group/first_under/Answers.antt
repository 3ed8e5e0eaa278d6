use Rattle.std.proofs.Common.{sym, arith}
use Rattle.well_formed.specs.Linear.{everyone}
use Rattle.linear_check.specs.Greatest.{members_in}
use Rattle.linear_check.proofs.Settled.{first_begins, first_turn, first_end}
use Rattle.linear_check.proofs.group.Group.first_under.Goals as goal

pub loop-procedure-init : goal.loop-procedure-init
loop-procedure-init c = λ o h.
    first_begins c.args.self.now.file.now c.args.self.now.channels.names.now c.args.sets.now c.in_ok-first.first o
    (c.in_ok-first.ensures (λ n. everyone) (λ n lt x. sym (c.everyone-everyone.ensures n x (let few = c.args.self.now.channels.few in omega arith)))) h

pub loop-procedure-preserved : goal.loop-procedure-preserved
loop-procedure-preserved c =
    let sets = c.args.sets.now in
    first_turn c.args.self.now.file.now c.args.self.now.channels.names.now sets c.loop-procedure.first c.in_ok-found.found c.earlier-first.result _ c.loop-procedure.procedure-index c.procedure-item.result
    c.as_slice-procedure-items.ensures c.loop-procedure-test.true c.procedure-item.is
    (c.in_ok-found.ensures (members_in sets c.procedure-item.result) (λ n lt x. c.in_ok-heard.ensures n (let few = c.args.self.now.channels.few in omega arith) x)) c.earlier-first.ensures c.loop-procedure.invariant

pub returns : goal.returns
returns c =
    first_end c.args.self.now.file.now c.args.self.now.channels.names.now c.args.sets.now c.loop-procedure.first _ c.loop-procedure.procedure-index
    c.as_slice-procedure-items.ensures c.loop-procedure-test.false c.loop-procedure.invariant
