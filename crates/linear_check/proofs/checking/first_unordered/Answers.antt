use Rattle.std.proofs.Common.{ap, ◌∙◌}
use Rattle.std.proofs.lemmas.Result.{IfOk-weaker}
use Rattle.chor_base.specs.Faults.{IsFirst}
use Rattle.linearity.specs.OrderFaults.{IsOrderFault}
use Rattle.linear_check.specs.Greatest.{IsOrderFaultOf}
use Rattle.linear_check.specs.Several.{several}
use Rattle.linear_check.proofs.Groups.{file_first, file_judged}
use Rattle.linear_check.proofs.checking.first_unordered.Goals as goal

pub returns-clause-first : goal.returns-clause-first
returns-clause-first c =
    let f = c.args.file.now in
    let cs = c.as_slice-2.result.now in
    let are = c.as_slice-2.ensures ∙ c.in_ok-channels.ensures ∙ ap several c.as_slice.ensures in
    IfOk-weaker c.first_in_groups.result (IsFirst (IsOrderFaultOf f cs)) (IsFirst (IsOrderFault f)) (λ o. file_first f cs o are) c.first_in_groups.ensures.first

pub returns-clause-linear : goal.returns-clause-linear
returns-clause-linear c =
    file_judged c.args.file.now c.as_slice-2.result.now c.first_in_groups.result (c.as_slice-2.ensures ∙ c.in_ok-channels.ensures ∙ ap several c.as_slice.ensures) c.first_in_groups.ensures.first c.first_in_groups.ensures.greatest
