use Rattle.correspondence.proofs.FromSources.{all_bodies}
use Rattle.correspondence.proofs.Ended.{terminated_ended, terminated_empty, ended_terminated}
use Rattle.correspondence.proofs.laws.end_together.Goals as goal

pub returns-clause-to : goal.returns-clause-to
returns-clause-to c0 e procs sets lists sound no_call c n co active over = ended_terminated e procs sets lists (all_bodies e procs sets lists sound) no_call c n co over active

pub returns-clause-back : goal.returns-clause-back
returns-clause-back c0 e procs sets lists sound no_call c n co t =
    (terminated_ended e procs sets lists (all_bodies e procs sets lists sound) no_call c n co t, terminated_empty e procs sets lists (all_bodies e procs sets lists sound) no_call c n co t)
