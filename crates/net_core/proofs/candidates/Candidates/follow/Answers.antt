use Rattle.std.proofs.Common.{subst, sym, ◌∙◌, ℕ, List, ◌<◌, Option, length}
use Rattle.waiting_processes.specs.Taken.{IsIn}
use Rattle.net_core.specs.Candidates.{HasGrownTo, Enters, Renews, TakesTouched}
use Rattle.net_core.proofs.Taken.{given_back}
use Rattle.net_core.proofs.Becoming.{renewed_on, lists_all}
use Rattle.std.proofs.lemmas.Result.{IfOk-from_err}
use Rattle.net_core.proofs.candidates.Candidates.follow.Goals as goal

pub enter_all-requires-clause-there : goal.enter_all-requires-clause-there
enter_all-requires-clause-there c q i =
    subst (λ (k : ℕ). q < k) c.count-2.ensures.count (c.in_ok-pids.ensures.below q (subst (λ (l : List ℕ). IsIn l q) c.as_slice.ensures.value i))

pub renew_entered-requires-clause-there : goal.renew_entered-requires-clause-there
renew_entered-requires-clause-there c q i =
    subst (λ (k : ℕ). q < k) c.count-2.ensures.count (c.in_ok-pids.ensures.below q (subst (λ (l : List ℕ). IsIn l q) c.as_slice-2.ensures.value i))

pub renew_entered-requires-clause-lists : goal.renew_entered-requires-clause-lists
renew_entered-requires-clause-lists c =
    let v = c.args.network.now in
    let e = v.endpoints in
    let cap = v.capacity in
    let m = v.state in
    let old = c.args.self.now in
    let ps = c.in_ok-pids.pids.items in
    let joins = c.in_ok-joins.joins in
    let grows = subst (λ (k : ℕ). HasGrownTo k old c.grow.new.self) c.count.ensures.count c.in_ok-grow.ensures in
    let takes = subst (λ (o : Option ℕ). TakesTouched o c.args.past (length m.machines) c.grow.new.self ps c.take_touched.new.self) c.capacity.ensures
    (subst (λ (k : ℕ). TakesTouched c.capacity.result c.args.past k c.grow.new.self ps c.take_touched.new.self) c.count-2.ensures.count c.in_ok-pids.ensures) in
    let enters = subst (λ (l : List ℕ). Enters e cap m c.take_touched.new.self l joins c.enter_all.new.self) c.as_slice.ensures.value c.in_ok-joins.ensures in
    lists_all e cap m c.args.past old c.grow.new.self c.take_touched.new.self c.enter_all.new.self ps c.requires grows takes joins enters

pub renew_entered-requires-clause-settled : goal.renew_entered-requires-clause-settled
renew_entered-requires-clause-settled c f q i = c.in_ok-joins.ensures.settled f q (subst (λ (l : List ℕ). IsIn l q) (c.as_slice-2.ensures.value ∙ sym c.as_slice.ensures.value) i)

pub returns : goal.returns
returns c =
    let v = c.args.network.now in
    let e = v.endpoints in
    let cap = v.capacity in
    let m = v.state in
    let old = c.args.self.now in
    let ps = c.in_ok-pids.pids.items in
    let done = c.joined_by-done.result in
    let joins = c.in_ok-joins.joins in
    let entered = c.enter_all.new.self in
    let grows = subst (λ (k : ℕ). HasGrownTo k old c.grow.new.self) c.count.ensures.count c.in_ok-grow.ensures in
    let takes = subst (λ (o : Option ℕ). TakesTouched o c.args.past (length m.machines) c.grow.new.self ps c.take_touched.new.self) c.capacity.ensures
    (subst (λ (k : ℕ). TakesTouched c.capacity.result c.args.past k c.grow.new.self ps c.take_touched.new.self) c.count-2.ensures.count c.in_ok-pids.ensures) in
    let enters = subst (λ (l : List ℕ). Enters e cap m c.take_touched.new.self l joins entered) c.as_slice.ensures.value c.in_ok-joins.ensures in
    let renewed = c.renew_entered.new.self in
    let renews = subst (λ (l : List ℕ). Renews e cap m done entered.listed l renewed.listed) c.as_slice-2.ensures.value c.renew_entered.ensures.renews in
    given_back e cap m renewed.listed renewed.unended renewed.waiting c.give_back.new.self c.give_back.ensures
    (renewed_on e cap m c.args.past old c.grow.new.self c.take_touched.new.self entered ps c.requires grows takes joins enters done c.joined_by-done.ensures renewed c.renew_entered.ensures.unended c.renew_entered.ensures.waiting renews)

pub returns-in_err-grow : goal.returns-in_err-grow
returns-in_err-grow c = IfOk-from_err c.from_residual.result _ c.from_residual.ensures.0

pub returns-in_err-pids : goal.returns-in_err-pids
returns-in_err-pids c = IfOk-from_err c.from_residual-in_err-pids.result _ c.from_residual-in_err-pids.ensures.0

pub returns-in_err-joins : goal.returns-in_err-joins
returns-in_err-joins c = IfOk-from_err c.from_residual-in_err-joins.result _ c.from_residual-in_err-joins.ensures.0
