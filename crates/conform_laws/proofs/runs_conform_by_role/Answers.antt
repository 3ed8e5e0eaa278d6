use Rattle.conform_laws.proofs.Conforming.{run_conforms}
use Rattle.conform_laws.proofs.Ends.{run_ends}
use Rattle.conform_laws.proofs.runs_conform_by_role.Goals as goal

pub returns-clause-conform : goal.returns-clause-conform
returns-clause-conform c f words checked e projects hosts capacity h run =
    run_conforms f words checked e projects (c.projection_is_above.ensures f e projects) c.checked_runs.ensures.to c.checked_runs.ensures.back c.checked_runs.ensures.conform hosts capacity h run

pub returns-clause-end : goal.returns-clause-end
returns-clause-end c f words checked fine hosts capacity h run = run_ends f fine h (c.runs_conform.ensures.end f words checked.accepted hosts capacity h run)
