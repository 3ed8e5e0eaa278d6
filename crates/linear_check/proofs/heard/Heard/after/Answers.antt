use Rattle.std.proofs.lemmas.Result.{on_ok_weaker}
use Rattle.linear_check.proofs.Tracking.{start_after}
use Rattle.linear_check.proofs.heard.Heard.after.Goals as goal

pub returns-in-Start : goal.returns-in-Start
returns-in-Start c =
    on_ok_weaker c.after_start.result
    (λ h m tracks. start_after c.args.channels.now.names.now c.args.self.now m tracks c.after_start.new.self c.args.form.now c.in-Start.channel c.in-Start.session c.in-Start.active c.in-Start.serve _ _ c.in-Start.next
    c.in-Start.is c.as_slice-active.ensures c.as_slice-serve.ensures (h m tracks))
    c.after_start.ensures
