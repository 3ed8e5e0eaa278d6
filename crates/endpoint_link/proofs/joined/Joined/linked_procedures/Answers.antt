use Rattle.std.proofs.Common.{refl, subst}
use Rattle.endpoint_code.specs.declared.endpoints.Procedure.{Procedure}
use Rattle.endpoint_link.specs.InTables.{IsProcedureLinkedIn}
use Rattle.endpoint_link.proofs.Bodies.{zip_more}
use Rattle.endpoint_link.proofs.joined.Joined.linked_procedures.Goals as goal

pub loop-unit-preserved : goal.loop-unit-preserved
loop-unit-preserved c =
    let u = c.unit-item.result in
    let made : Procedure = record { name = u.name; param = u.param; sessions = c.in_ok-copy.field-0; body = c.in_ok-procedure_body.field-0 } in
    zip_more (IsProcedureLinkedIn c.args.self.now c.args.given.now) c.args.base.now c.loop-unit.list c.push.new.self c.loop-unit.unit-index u made c.loop-unit-test.true c.loop-unit.invariant c.in_ok-push.ensures.ok
    (subst (λ u. IsProcedureLinkedIn c.args.self.now c.args.given.now u made) c.unit-item.is (record { name = refl; param = refl; sessions = c.in_ok-copy.ensures; body = c.in_ok-procedure_body.ensures }))
