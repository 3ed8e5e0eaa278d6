use Rattle.accepted_files.proofs.following.projection_runs.Goals as goal

pub returns-clause-to : goal.returns-clause-to
returns-clause-to c e f sets lists is hosts cap h last run = c.runs_agree.ensures.to e f sets lists (c.projection_realizes.ensures e f sets lists is) hosts cap h last run

pub returns-clause-back : goal.returns-clause-back
returns-clause-back c e f sets lists is hosts cap h run = c.runs_agree.ensures.back e f sets lists (c.projection_realizes.ensures e f sets lists is) hosts cap h run
