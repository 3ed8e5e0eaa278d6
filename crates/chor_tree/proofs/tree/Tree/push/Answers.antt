use Rattle.chor_base.proofs.Tables.{closed_after}
use Rattle.chor_tree.specs.Children.{children_of}
use Rattle.chor_tree.proofs.tree.Tree.push.Goals as goal

pub invariant_of-self : goal.invariant_of-self
invariant_of-self c = record { closed = closed_after (λ id. id.0) (λ n. children_of n.form) c.args.self.now.nodes c.push.new.self c.args.node c.push.result c.push.ensures.ok c.push.ensures.err c.args.self.now.closed c.requires }
