use Rattle.std.proofs.Common.{◌≡◌, true, take}
use Rattle.std.specs.Prelude.{All}
use Rattle.endpoint_code.specs.Kept.{has_name, has_text, node_there}
use Rattle.file_codes.proofs.numbered.are_there.Given as goal

abbrev pub invariant-loop-node : goal.invariant-loop-node
invariant-loop-node l = All (λ o. node_there (has_name l.names) (has_text l.texts) o ≡ true) (take l.node-index l.nodes)
