use Rattle.std.proofs.Common.{List, refl, subst}
use Rattle.endpoint_code.specs.declared.code.CodeNode.{CodeNode}
use Rattle.endpoint_link.specs.declared.renumbering.Renumbering.{Renumbering}
use Rattle.endpoint_link.specs.Renumbered.{AreNodesJoined}
use Rattle.endpoint_link.specs.declared.joined.Joined.{Joined}
use Rattle.endpoint_link.proofs.Programs.{programs_joined}
use Rattle.endpoint_link.proofs.joined.join.Goals as goal

pub returns : goal.returns
returns c =
    let e = c.args.base.now in
    let own : Renumbering = record { names = c.new.result; texts = c.new-2.result; first = 0 } in
    let nodes = c.add_nodes.new.code.nodes in
    let whole : Joined = record { names = c.in_ok-names.names.names; texts = c.in_ok-texts.texts.texts; code = c.add_nodes-2.new.code; numbers = record { names = c.in_ok-names.names.numbers; texts = c.in_ok-texts.texts.numbers; first = c.count.result } } in
    programs_joined e c.args.given.now whole own nodes (c.new.ensures, c.new-2.ensures, refl) c.in_ok-names.ensures c.in_ok-texts.ensures
    (subst (λ (old : List CodeNode). AreNodesJoined own e.code.nodes old nodes) c.new-code.ensures c.in_ok-add_nodes.ensures) c.in_ok-add_nodes-2.ensures c.count.ensures
