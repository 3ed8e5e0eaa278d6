use Rattle.std.proofs.Common.{arith}
use Rattle.std.proofs.lemmas.Result.{on_ok_weaker}
use Rattle.linear_check.specs.Greatest.{members_in}
use Rattle.linear_check.proofs.group.Group.take_in_procedure.Goals as goal

pub returns-clause-taken : goal.returns-clause-taken
returns-clause-taken c =
    on_ok_weaker c.take_from.result
    (λ h. h (members_in c.args.sets.now c.args.procedure.now) (λ n lt x. c.in_ok-heard.ensures n (let few = c.args.self.now.channels.few in omega arith) x))
    c.take_from.ensures.taken
