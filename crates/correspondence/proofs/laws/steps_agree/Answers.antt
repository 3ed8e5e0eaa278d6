use Rattle.correspondence.proofs.Runs.{steps_too}
use Rattle.correspondence.proofs.BothWays.{steps_back}
use Rattle.correspondence.proofs.FromSources.{all_bodies, bodies_renamed}
use Rattle.correspondence.proofs.laws.steps_agree.Goals as goal

pub returns-clause-to : goal.returns-clause-to
returns-clause-to c0 e procs sets lists hosts sound cap c n m x co s =
    let d = steps_too e procs sets lists hosts (all_bodies e procs sets lists sound) (bodies_renamed e.channels procs sound.sources sound.fit) cap c n m x co s in
    (d.next, d.steps, d.corresponds)

pub returns-clause-back : goal.returns-clause-back
returns-clause-back c0 e procs sets lists hosts sound no_call cap c d n x co s room =
    let b = steps_back e procs sets lists hosts (all_bodies e procs sets lists sound) (bodies_renamed e.channels procs sound.sources sound.fit) no_call cap c d n x co s room in
    (b.after, b.steps, b.corresponds)
