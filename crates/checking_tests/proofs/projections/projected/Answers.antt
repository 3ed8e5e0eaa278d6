use Rattle.checking_tests.proofs.projections.projected.Goals as goal

pub project-requires : goal.project-requires
project-requires g c = record { hosts = _; names = c.in_ok-resolve.ensures.ok }

pub project_all-requires-after_bounds : goal.project_all-requires-after_bounds
project_all-requires-after_bounds g c κs within = record { hosts = _; names = c.in_ok-resolve.ensures.ok }

pub project_beside-requires-after_bounds : goal.project_beside-requires-after_bounds
project_beside-requires-after_bounds g c κs within = record { hosts = _; names = c.in_ok-resolve.ensures.ok }
