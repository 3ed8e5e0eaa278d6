use Rattle.std.proofs.Common.{◌≤◌, length, refl, sym, ◌∙◌, subst, arith}
use Rattle.endpoint_link.specs.InTables.{ReplacesProcedureIn}
use Rattle.endpoint_link.specs.InTables.{taken, kept}
use Rattle.endpoint_link.specs.Renumbered.{renumbered_name}
use Rattle.endpoint_link.specs.Indexes.{name_of_procedure, renumbered_unit}
use Rattle.endpoint_link.proofs.Indexes.{none_whole, same_two}
use Rattle.endpoint_link.proofs.Bodies.{none_more, none_there}
use Rattle.endpoint_link.proofs.joined.Joined.procedure_body.Goals as goal

pub returns-then-is_procedure : goal.returns-then-is_procedure
returns-then-is_procedure c =
    let i = c.loop-other.other-index in
    taken c.other-item.result (c.part-part.ensures.inside c.other-item.result (i, c.loop-other-test.true, sym c.other-item.is)) (c.is_procedure.ensures.0 c.if-is_procedure.true) c.in_ok-body.ensures

pub loop-other-preserved : goal.loop-other-preserved
loop-other-preserved c =
    let i = c.loop-other.other-index in
    none_more (λ x. ReplacesProcedureIn c.args.self.now x c.args.unit.now) c.part-part.result.now i c.other-item.result c.loop-other-test.true c.loop-other.invariant
    (λ named. let t = c.is_procedure.ensures.1 (subst (λ x. ReplacesProcedureIn c.args.self.now x c.args.unit.now) (sym c.other-item.is) named) in let f = c.if-is_procedure.false in absurd cc)

pub returns : goal.returns
returns c =
    let i = c.loop-other.other-index in
    let j = c.args.self.now in
    let part = c.part-part.result.now in
    let l : length part ≤ i = omega (arith, c.loop-other-test.false) in
    kept (none_whole (λ x. renumbered_unit j.numbers (name_of_procedure x)) c.args.index.now.names c.unit_name.result c.args.given.now part c.requires c.part-part.ensures (λ x. ReplacesProcedureIn j x c.args.unit.now)
    (λ u r. same_two (renumbered_name j.numbers u.name) c.args.unit.now.name (renumbered_name j.numbers u.param) c.args.unit.now.param r.0 r.1 ∙ sym c.unit_name.ensures)
    (none_there (λ x. ReplacesProcedureIn j x c.args.unit.now) part i l c.loop-other.invariant)) refl
