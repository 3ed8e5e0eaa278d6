use Rattle.std.proofs.Common.{◌+◌, ◌∙◌, sym, ap}
use Rattle.chor_host.specs.Tables.{functions_of}
use Rattle.chor_host.specs.Functions.{hosts_in}
use Rattle.turn_lock.specs.Seats.{view, turn_origin}
use Rattle.crew.specs.declared.share.Share.{Share}
use Rattle.crew.specs.Turns.{StaysAhead}
use Rattle.workers.proofs.Following.{worked, on_ok}
use Rattle.workers.proofs.worker.work.Goals as goal

pub take_turn-next-requires-clause-at_work : goal.take_turn-next-requires-clause-at_work
take_turn-next-requires-clause-at_work g c =
    let e = c.args.endpoints.now in
    let functions = functions_of c.args.hosts.now in
    let o = g.T.Shared.about (turn_origin g.T.Told.origin c.args.turn.now) in
    let w = c.loop-turns.invariant.at_work in
    let done = c.work_alone-worked.ensures in
    let crew = c.work_alone-worked.new.self in
    let stays = on_ok c.work_alone-worked.result (StaysAhead e (hosts_in e.names functions) c.loop-turns.desk.crew crew) (sym c.is_err.ensures.value ∙ c.if-is_err.false) done.stays in
    record {
      worker = ap (λ (h : Share). h.worker + 1) done.share ∙ w.worker;
      follows = worked o e functions (view c.loop-turns.desk.seat).seen c.loop-turns.desk.crew crew c.requires.suits done.share done.seen stays w.follows;
      own = w.own;
    }

pub returns-then-not-rest-clause-goes_on : goal.returns-then-not-rest-clause-goes_on
returns-then-not-rest-clause-goes_on g c h =
    let e = c.args.endpoints.now in
    let functions = functions_of c.args.hosts.now in
    let o = g.T.Shared.about (turn_origin g.T.Told.origin c.args.turn.now) in
    let w = c.loop-turns.invariant.at_work in
    let done = c.work_alone-worked.ensures in
    let crew = c.work_alone-worked.new.self in
    let stays = on_ok c.work_alone-worked.result (StaysAhead e (hosts_in e.names functions) c.loop-turns.desk.crew crew) (sym c.is_err.ensures.value ∙ c.if-is_err.false) done.stays in
    record {
      worker = ap (λ (h : Share). h.worker + 1) done.share ∙ w.worker;
      follows = worked o e functions (view c.loop-turns.desk.seat).seen c.loop-turns.desk.crew crew c.requires.suits done.share done.seen stays w.follows;
      own = w.own;
    }
