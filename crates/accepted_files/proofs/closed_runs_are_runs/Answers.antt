use Rattle.std.proofs.Common.{◌≡◌, length, None}
use Rattle.endpoint_code.specs.Scheduled.{Closes, ended, limit, stuck, Ended, Limit, Stuck, Close, first_waiting}
use Rattle.endpoint_code.proofs.Fifo.{network_fifo}
use Rattle.typed_sources.specs.Lists.{lists_of}
use Rattle.accepted_files.proofs.AboveProjection.{sets_above, is_realized, is_active}
use Rattle.accepted_files.proofs.Ended.{ended_run, not_over}
use Rattle.accepted_files.specs.Closing.{ClosesWell}
use Rattle.accepted_files.proofs.Happens.{ended_none}
use Rattle.accepted_files.proofs.Closed.{nobody_waits, ended_over}
use Rattle.accepted_files.proofs.closed_runs_are_runs.Goals as goal

pub returns : goal.returns
returns c f words checked e is hosts answered cap room steps h last close leads closes = record {
  above = is;
  last = last;
  run = leads;
  closes = go close closes;
  fifo = network_fifo e hosts cap h last leads;
  conform = c.checked_runs.ensures.conform f words checked e is hosts cap h last leads;
  end = λ i. c.checked_runs.ensures.end f words checked e is hosts cap h last leads (ended_over e cap steps (length h) last close closes i);
}
  where
    go : (k : Close) → Closes e cap steps last (length h) k → ClosesWell f e hosts cap steps h last k
    go Ended (ended over) = (
      ended_run f e (sets_above f words checked e is) (lists_of f) (is_realized f words checked e is) hosts cap h last (is_active f words checked e is) leads over,
      c.checked_never_stuck.ensures f words checked e is hosts answered cap room h last leads (c.nothing_happens.ensures e hosts cap last (ended_none e cap last last.machines over)),
    )
    go Limit (limit going count) = (
      c.checked_runs.ensures.to f words checked e is hosts cap h last leads,
      count,
      going,
      not_over f e (sets_above f words checked e is) (lists_of f) (is_realized f words checked e is) hosts cap h last leads going,
    )
    go (Stuck p why) (stuck few none waits) =
        let over = (c.checked_never_stuck.ensures f words checked e is hosts answered cap room h last leads (c.nothing_happens.ensures e hosts cap last none)).0 in
        let nobody : first_waiting e cap last ≡ None = nobody_waits e cap last 0 last.machines over in
        absurd cc
