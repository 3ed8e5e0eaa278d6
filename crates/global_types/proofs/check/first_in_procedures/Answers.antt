use Rattle.std.proofs.Common.{ap, ◌∙◌}
use Rattle.std.specs.List.{flat_map}
use Rattle.chor_tree.specs.Names.{protocol_named}
use Rattle.global_types.specs.Faults.{procedure_faults, unknown_state_in}
use Rattle.chor_base.specs.Faults.{first_of_all}
use Rattle.chor_base.proofs.Faults.{turn_item}
use Rattle.global_types.proofs.check.first_in_procedures.Goals as goal

pub loop-procedure-preserved : goal.loop-procedure-preserved
loop-procedure-preserved c = turn_item (procedure_faults c.args.protocols.now) _ _ _ c.args.procs.now c.loop-procedure.procedure-index c.procedure-item.result _ c.loop-procedure-test.true c.procedure-item.is (c.first_in_sessions.ensures ∙ ap (λ ss. first_of_all (flat_map (λ k. unknown_state_in (protocol_named c.args.protocols.now k.protocol.name) k.state) ss)) c.as_slice.ensures) c.earlier-first.ensures c.loop-procedure.invariant
