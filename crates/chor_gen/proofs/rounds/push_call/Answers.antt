use Rattle.std.proofs.Common.{refl}
use Rattle.std.proofs.lemmas.Result.{IfOk-weaker}
use Rattle.chor_tree.specs.Source.{Calls}
use Rattle.chor_gen.specs.Words.{beginning}
use Rattle.chor_gen.proofs.Nodes.{adds_tail}
use Rattle.chor_gen.proofs.Heads.{called}
use Rattle.chor_gen.proofs.rounds.push_call.Goals as goal

pub returns : goal.returns
returns c =
    IfOk-weaker c.push.result _ _ (λ id h. adds_tail _ refl (λ i. Calls beginning (c.in_ok-procedure.ensures.named i) (c.in_ok-p_and_q.ensures.are i) (c.new.ensures i)) (called c.args.words.now.names c.in_ok-procedure.field-0 c.in_ok-p_and_q.field-0 c.new.result c.in_ok-procedure.ensures.there c.in_ok-p_and_q.ensures.there c.new.ensures) h.1 h.0) c.push.ensures
