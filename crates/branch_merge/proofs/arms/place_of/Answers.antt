use Rattle.std.proofs.Common.{◌≡◌, ◌==◌, ◌∙◌, false, sym}
use Rattle.std.proofs.lemmas.List.Elements.{All-more}
use Rattle.chor_base.specs.declared.names.NameId.{NameId}
use Rattle.endpoint_code.specs.declared.code.CodeId.{CodeId}
use Rattle.branch_merge.proofs.ArmTables.{absent_everywhere, place_found, all_taken}
use Rattle.branch_merge.proofs.arms.place_of.Goals as goal

pub returns-then-eq-clause-found : goal.returns-then-eq-clause-found
returns-then-eq-clause-found c = place_found c.args.arms.now c.args.label c.loop-place.place c.loop-place-test.true (sym c.eq.ensures ∙ c.if-eq.true)

pub loop-place-preserved : goal.loop-place-preserved
loop-place-preserved c =
    All-more (λ (arm : NameId × CodeId). (arm.0.0 == c.args.label.0) ≡ false) c.args.arms.now c.loop-place.place (record { 0 = 0 }, record { 0 = 0 }) c.loop-place-test.true c.loop-place.invariant (sym c.eq.ensures ∙ c.if-eq.false)

pub returns-clause-absent : goal.returns-clause-absent
returns-clause-absent c = absent_everywhere c.args.label c.args.arms.now (all_taken (λ (arm : NameId × CodeId). (arm.0.0 == c.args.label.0) ≡ false) c.args.arms.now c.loop-place.place c.loop-place-test.false c.loop-place.invariant)
