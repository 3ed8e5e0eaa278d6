use Rattle.chor_gen.specs.Making.{Made}
use Rattle.chor_gen.proofs.file.make_procedures.Given as goal

abbrev pub invariant-loop-done : goal.invariant-loop-done
invariant-loop-done l = Made l.words.names l.count l.tree.nodes l.procs l.done
