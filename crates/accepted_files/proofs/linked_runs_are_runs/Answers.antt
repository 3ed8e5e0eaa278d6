use Rattle.accepted_files.specs.AboveProjection.{IsAboveProjection}
use Rattle.accepted_files.proofs.linked_runs_are_runs.Goals as goal

pub returns : goal.returns
returns c f words checked e is g r linked fine differ = (here, λ hosts cap h. (λ w. c.checked_runs.ensures.to f words checked r here hosts cap h w.0 w.1, λ run. c.checked_runs.ensures.back f words checked r here hosts cap h run))
  where
    here : IsAboveProjection f r
    here = c.above_stays_above.ensures f e r is (c.linked_is_above.ensures e g r linked fine differ)
