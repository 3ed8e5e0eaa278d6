use Rattle.std.proofs.Common.{◌≡◌, drop}
use Rattle.chor_tree.specs.Names.{first_named}
use Rattle.typing_steps.proofs.declared.channel_of.Given as goal

abbrev pub invariant-loop-channel : goal.invariant-loop-channel
invariant-loop-channel l = first_named (λ x. x.name) (drop l.channel-index l.file.services) l.name ≡ first_named (λ x. x.name) l.file.services l.name
