use Rattle.std.proofs.Common.{◌∙◌, ◌≤◌, sym, get_or, length, arith, below_more}
use Rattle.std.proofs.lemmas.Option.{slice_get-get_or}
use Rattle.net_core.proofs.Joining.{joined_here, joined_nowhere}
use Rattle.net_core.proofs.network.Network.is_joined_among.Goals as goal

pub joins-requires : goal.joins-requires
joins-requires c = let i = c.loop-pid.pid-index in c.requires.there (get_or c.args.joiners.now i 0) (i, slice_get-get_or c.args.joiners.now i 0 c.loop-pid-test.true)

pub loop-pid-preserved : goal.loop-pid-preserved
loop-pid-preserved c = below_more _ _ c.loop-pid.invariant (sym c.joins.ensures ∙ c.if-joins.false)

pub returns-then-joins : goal.returns-then-joins
returns-then-joins c =
    let v = c.args.self.now in
    let i = c.loop-pid.pid-index in
    sym (joined_here v.endpoints v.capacity v.state c.args.channel c.args.role (get_or c.args.joiners.now i 0) (c.requires.there (get_or c.args.joiners.now i 0) (i, slice_get-get_or c.args.joiners.now i 0 c.loop-pid-test.true)) (sym c.joins.ensures ∙ c.if-joins.true))

pub returns : goal.returns
returns c =
    let v = c.args.self.now in
    let past : length c.args.joiners.now ≤ c.loop-pid.pid-index = c.loop-pid-test.false in
    sym (joined_nowhere v.endpoints v.capacity v.state c.args.channel c.args.role c.args.joiners.now c.requires.all (λ k lt. c.loop-pid.invariant k (omega arith)))
