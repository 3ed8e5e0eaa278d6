use Rattle.std.proofs.Common.{◌++◌}
use Rattle.chor_tree.specs.Names.{unknown_process, unknown_session}
use Rattle.chor_base.proofs.Faults.{first_of_two}
use Rattle.name_resolution.proofs.scope.Bound.first_in_message.Goals as goal

pub returns : goal.returns
returns c =
    let s = c.args.self.now in
    let from = unknown_process s c.args.from.now.process in
    let to = unknown_process s c.args.to.now.process in
    first_of_two (from ++ to) (unknown_session s c.args.session.now) _ _ _ c.earlier-2.ensures (first_of_two from to _ _ _ c.earlier.ensures c.unknown_process.ensures c.unknown_process-2.ensures) c.unknown_session.ensures
