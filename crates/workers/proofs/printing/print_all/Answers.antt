use Rattle.std.proofs.Common.{◌∙◌, arith}
use Rattle.chor_stream.specs.declared.drain.Drained.TheVariants.{Dry, Failed, Memory}
use Rattle.workers.proofs.Printed.{prints_on}
use Rattle.workers.proofs.printing.print_all.Goals as goal

pub returns-in-Failed-clause-prints : goal.returns-in-Failed-clause-prints
returns-in-Failed-clause-prints g c = prints_on _ _ c.loop.printer _ _ _ _ Failed c.loop.invariant.prints c.loop.invariant.rises c.in-Failed.ensures.drains

pub returns-in-Memory-clause-prints : goal.returns-in-Memory-clause-prints
returns-in-Memory-clause-prints g c = prints_on _ _ c.loop.printer _ _ _ _ Memory c.loop.invariant.prints c.loop.invariant.rises c.in-Memory.ensures.drains

pub returns-then-is_over-clause-prints : goal.returns-then-is_over-clause-prints
returns-then-is_over-clause-prints g c = prints_on _ _ c.loop.printer _ _ _ _ Dry c.loop.invariant.prints c.loop.invariant.rises c.in-Dry.ensures.drains

pub loop-preserved : goal.loop-preserved
loop-preserved g c = record {
  ring = c.in-Dry.ensures.ring.0 ∙ c.loop.invariant.ring;
  prints = prints_on _ _ c.loop.printer _ _ _ _ Dry c.loop.invariant.prints c.loop.invariant.rises c.in-Dry.ensures.drains;
  rises = omega (arith, c.loop.invariant.rises, c.in-Dry.ensures.rises);
}
