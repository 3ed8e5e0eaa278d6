use Rattle.std.proofs.Common.{subst}
use Rattle.std.specs.Prelude.{IfOk}
use Rattle.std.proofs.lemmas.Result.{IfOk-weaker}
use Rattle.chor_base.specs.Faults.{IsFirst}
use Rattle.linear_check.specs.Greatest.{IsOrderFaultOf, IsUnorderedUnder, HaveGreatest}
use Rattle.linear_check.proofs.Groups.{group_first, group_greatest, on_ok_always}
use Rattle.linear_check.proofs.checking.first_in_group.Goals as goal

pub returns-clause-first : goal.returns-clause-first
returns-clause-first c =
    let f = c.args.file.now in
    let cs = c.new.result.names.now in
    let sets = c.in_ok-sets.sets in
    subst (λ l. IfOk c.first_under.result (IsFirst (IsOrderFaultOf f l))) c.new.ensures
    (IfOk-weaker c.first_under.result (IsFirst (IsUnorderedUnder f cs sets)) (IsFirst (IsOrderFaultOf f cs)) (λ o. group_first f cs sets o c.in_ok-sets.ensures) c.first_under.ensures)

pub returns-clause-greatest : goal.returns-clause-greatest
returns-clause-greatest c =
    let f = c.args.file.now in
    on_ok_always c.first_under.result (HaveGreatest f c.args.channels.now) (subst (HaveGreatest f) c.new.ensures (group_greatest f _ c.in_ok-sets.sets c.in_ok-sets.ensures))
