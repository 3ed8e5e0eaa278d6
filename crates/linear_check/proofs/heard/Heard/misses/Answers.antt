use Rattle.linear_check.proofs.Tracking.{start_misses}
use Rattle.linear_check.proofs.heard.Heard.misses.Goals as goal

pub returns-in-Start : goal.returns-in-Start
returns-in-Start c = λ m tracks.
    start_misses c.args.channels.now.names.now c.args.self.now m tracks c.args.form.now c.in-Start.channel c.in-Start.session c.in-Start.active c.in-Start.serve c.as_slice.result.now c.in-Start.next _
    c.in-Start.is c.as_slice.ensures c.misses_start.ensures
