use Rattle.chor_gen.proofs.Procedures.{made_none, made_more}
use Rattle.chor_gen.proofs.file.make_procedures.Goals as goal

pub loop-done-init : goal.loop-done-init
loop-done-init c = made_none c.new-tree.ensures c.new-procs.ensures

pub loop-done-preserved : goal.loop-done-preserved
loop-done-preserved c = made_more c.args.words.now.some c.loop-done.invariant c.in_ok-procedure.ensures c.in_ok-push.ensures.ok
