use Rattle.chor_tree.specs.Names.{first_named}
use Rattle.typing_steps.proofs.Searches.{at_end, found, passed}
use Rattle.typing_steps.proofs.declared.procedure_of.Goals as goal

pub returns-then-eq : goal.returns-then-eq
returns-then-eq c = found (λ x. x.name) c.as_slice-procedure-items.result.now c.args.file.now.procs c.args.name c.loop-procedure.procedure-index _ c.procedure-item.result c.eq.ensures c.as_slice-procedure-items.ensures c.loop-procedure-test.true c.procedure-item.is c.loop-procedure.invariant c.if-eq.true

pub loop-procedure-preserved : goal.loop-procedure-preserved
loop-procedure-preserved c = passed (λ x. x.name) c.as_slice-procedure-items.result.now c.args.file.now.procs c.args.name c.loop-procedure.procedure-index _ c.procedure-item.result c.eq.ensures c.as_slice-procedure-items.ensures c.loop-procedure-test.true c.procedure-item.is c.loop-procedure.invariant c.if-eq.false

pub returns : goal.returns
returns c = at_end (λ l. first_named (λ x. x.name) l c.args.name) c.as_slice-procedure-items.result.now c.args.file.now.procs c.loop-procedure.procedure-index _ c.as_slice-procedure-items.ensures c.loop-procedure-test.false c.loop-procedure.invariant
