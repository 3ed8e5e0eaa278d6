use Rattle.chor_cmd.proofs.Exits.{stop_written}
use Rattle.chor_cmd.proofs.finishing.tell_stop.Goals as goal

pub returns-in-Ok : goal.returns-in-Ok
returns-in-Ok g c =
    stop_written c.args.stop.now c.in-Ok.ending c.as_slice.result.now c.as_slice.ensures.value c.in-Ok.ensures _ _ _ c.write.ensures
