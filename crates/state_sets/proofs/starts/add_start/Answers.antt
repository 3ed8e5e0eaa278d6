use Rattle.std.proofs.Common.{refl}
use Rattle.state_sets.proofs.Allowed.{start_more, start_added}
use Rattle.state_sets.proofs.starts.add_start.Goals as goal

pub returns-clause-more : goal.returns-clause-more
returns-clause-more c = start_more c.args.starts.now.items _ c.args.state c.args.number c.index_mut-list.result.now c.push.new.self c.requires c.index_mut-list.ensures.value c.in_ok-push.ensures.items refl

pub returns-clause-added : goal.returns-clause-added
returns-clause-added c = start_added c.args.starts.now.items _ c.args.state c.args.number c.index_mut-list.result.now c.push.new.self c.requires c.in_ok-push.ensures.items refl
