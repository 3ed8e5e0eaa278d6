use Rattle.chor_io.proofs.Writes.{wrote_more}
use Rattle.chor_io.proofs.real.write_all.Goals as goal

pub loop-rest-preserved : goal.loop-rest-preserved
loop-rest-preserved g c = wrote_more _ _ _ _ _ _ _ c.loop-rest.invariant.1 c.in-Ok.ensures.bound c.loop-rest.invariant.2 c.in-Ok.ensures.bytes
