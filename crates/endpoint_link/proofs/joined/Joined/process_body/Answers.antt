use Rattle.std.proofs.Common.{◌≤◌, length, refl, sym, ◌∙◌, arith}
use Rattle.std.proofs.lemmas.List.Elements.{Contains-get_or}
use Rattle.endpoint_link.specs.InTables.{ReplacesProcessIn}
use Rattle.endpoint_link.specs.InTables.{taken, kept}
use Rattle.endpoint_link.specs.Renumbered.{renumbered_name}
use Rattle.endpoint_link.specs.Indexes.{name_of_process, renumbered_unit}
use Rattle.endpoint_link.proofs.Indexes.{none_whole, same_one}
use Rattle.endpoint_link.proofs.Bodies.{none_more, none_there}
use Rattle.endpoint_link.proofs.joined.Joined.process_body.Goals as goal

pub returns-then-is_process : goal.returns-then-is_process
returns-then-is_process c =
    let i = c.loop-other.other-index in
    taken _ (c.part-part.ensures.inside _ (Contains-get_or c.part-part.result.now i _ c.loop-other-test.true)) (c.is_process.ensures.0 c.if-is_process.true) c.in_ok-body.ensures

pub loop-other-preserved : goal.loop-other-preserved
loop-other-preserved c =
    let i = c.loop-other.other-index in
    none_more (λ x. ReplacesProcessIn c.args.self.now x c.args.unit) c.part-part.result.now i _ c.loop-other-test.true c.loop-other.invariant (λ named. let t = c.is_process.ensures.1 named in let f = c.if-is_process.false in absurd cc)

pub returns : goal.returns
returns c =
    let i = c.loop-other.other-index in
    let j = c.args.self.now in
    let part = c.part-part.result.now in
    let l : length part ≤ i = omega (arith, c.loop-other-test.false) in
    kept (none_whole (λ x. renumbered_unit j.numbers (name_of_process x)) c.args.index.now.names c.unit_name.result c.args.given.now part c.requires c.part-part.ensures (λ x. ReplacesProcessIn j x c.args.unit)
    (λ u r. same_one (renumbered_name j.numbers u.name) c.args.unit.name r ∙ sym c.unit_name.ensures)
    (none_there (λ x. ReplacesProcessIn j x c.args.unit) part i l c.loop-other.invariant)) refl
