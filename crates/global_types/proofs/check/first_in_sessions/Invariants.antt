use Rattle.std.proofs.Common.{◌≡◌, drop}
use Rattle.std.specs.List.{flat_map}
use Rattle.chor_tree.specs.Names.{protocol_named}
use Rattle.global_types.specs.Faults.{unknown_state_in}
use Rattle.chor_base.specs.Faults.{earlier, first_of_all}
use Rattle.global_types.proofs.check.first_in_sessions.Given as goal

abbrev pub invariant-loop-session : goal.invariant-loop-session
invariant-loop-session l = earlier l.first (first_of_all (flat_map (λ k. unknown_state_in (protocol_named l.protocols k.protocol.name) k.state) (drop l.session-index l.sessions))) ≡ first_of_all (flat_map (λ k. unknown_state_in (protocol_named l.protocols k.protocol.name) k.state) l.sessions)
