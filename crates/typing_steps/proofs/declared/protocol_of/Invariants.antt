use Rattle.std.proofs.Common.{◌≡◌, drop}
use Rattle.chor_tree.specs.Names.{first_named}
use Rattle.typing_steps.proofs.declared.protocol_of.Given as goal

abbrev pub invariant-loop-protocol : goal.invariant-loop-protocol
invariant-loop-protocol l = first_named (λ x. x.name) (drop l.protocol-index l.file.protocols) l.name ≡ first_named (λ x. x.name) l.file.protocols l.name
