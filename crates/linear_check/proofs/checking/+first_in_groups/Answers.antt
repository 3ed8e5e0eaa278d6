use Rattle.std.proofs.Common.{sym, subst}
use Rattle.chor_base.specs.Faults.{IsFirst}
use Rattle.linear_check.specs.Greatest.{IsOrderFaultOf}
use Rattle.linear_check.proofs.Groups.{groups_first, groups_greatest}
use Rattle.linear_check.proofs.checking.+first_in_groups.Goals as goal

pub returns-clause-first : goal.returns-clause-first
returns-clause-first t c =
    let f = c.args.file.now in
    let cs = c.args.channels.now in
    subst (λ o. IsFirst (IsOrderFaultOf f cs) o) (sym c.earlier.ensures)
    (groups_first f cs _ _ c.in_ok-here.here c.in_ok-there.there (sym c.split_at.ensures.by_index.0) c.in_ok-here.ensures.first c.in_ok-there.ensures.first)

pub returns-clause-greatest : goal.returns-clause-greatest
returns-clause-greatest t c = groups_greatest c.args.file.now c.args.channels.now _ _ (sym c.split_at.ensures.by_index.0) c.in_ok-here.ensures.greatest c.in_ok-there.ensures.greatest
